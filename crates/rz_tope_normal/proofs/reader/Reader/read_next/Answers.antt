use Rattle.std.proofs.Common.{◌≡◌, refl, sym, ap, subst, ◌∙◌}
use Rattle.rz_rules.specs.declared.kinds.Sort.{Sort}
use Rattle.rz_rules.specs.declared.kinds.Sort.TheVariants as sort
use Rattle.rz_rules.specs.Tree.{Tree, sort_of, tree_of}
use Rattle.rz_pool.proofs.Nodes.{tree_of_place}
use Rattle.rz_tope_normal.specs.declared.reader.Reader.{Reader}
use Rattle.rz_tope_normal.specs.Read.{SaysTope}
use Rattle.rz_tope_normal.specs.Reader.{IsDoneAs}
use Rattle.rz_tope_normal.proofs.Readers.{kept_trans, noted_here, noted_kept, noted_reader, point_knows, reader_kept, reader_parts, reader_with}
use Rattle.rz_tope_normal.proofs.Staying.{live_stays, tree_stays}
use Rattle.rz_tope_normal.proofs.reader.Reader.read_next.Goals as goal

pub learn-requires-clause-kids : goal.learn-requires-clause-kids
learn-requires-clause-kids c =
    let ns = c.args.pool.now.nodes in
    point_knows ns c.args.self.now c.args.id (c.len.ensures.pool.forms c.args.id) (tree_of_place ns c.len.ensures.pool.forms c.args.id)
    (sym c.sort_at.ensures ∙ c.in-Point.is) c.requires.kids

pub returns-in_ok-learn-in-Point-clause-done : goal.returns-in_ok-learn-in-Point-clause-done
returns-in_ok-learn-in-Point-clause-done c =
    let old = c.args.pool.now.nodes in
    let new = c.learn.new.pool.nodes in
    let more : Reader = record { norms = c.learn.new.self; parts = c.args.self.now.parts; topes = c.args.self.now.topes } in
    let same : sort_of (tree_of new c.args.id) ≡ sort.Point =
    ap sort_of (tree_stays old new c.in_ok-learn-in-Point.ensures.later.grows c.args.id c.requires.id) ∙ sym c.sort_at.ensures ∙ c.in-Point.is in
    subst (λ (s : Sort). IsDoneAs more c.args.id s) (sym same) c.in_ok-learn-in-Point.ensures.known

pub returns-in_ok-learn-in-Point-clause-reader : goal.returns-in_ok-learn-in-Point-clause-reader
returns-in_ok-learn-in-Point-clause-reader c =
    let old = c.args.pool.now.nodes in
    let new = c.learn.new.pool.nodes in
    let made = c.in_ok-learn-in-Point.ensures in
    let context = tree_of old c.args.setting.now.context in
    reader_with old c.args.proof.now new c.learn.new.proof made.later context c.args.list.now c.args.setting.now c.requires.setting c.args.self.now
    c.requires.reader
    (record { norms = c.learn.new.self; parts = c.args.self.now.parts; topes = c.args.self.now.topes }) made.kept made.norms
    (reader_parts old c.args.proof.now new c.learn.new.proof made.later context c.args.list.now c.args.setting.now c.requires.setting c.args.self.now
    c.requires.reader)
    (λ number tope s. s) (λ id. refl)

pub returns-in_ok-learn-in-Point-clause-kept : goal.returns-in_ok-learn-in-Point-clause-kept
returns-in_ok-learn-in-Point-clause-kept c =
    let old = c.args.pool.now.nodes in
    let new = c.learn.new.pool.nodes in
    let made = c.in_ok-learn-in-Point.ensures in
    let context = tree_of old c.args.setting.now.context in
    reader_kept old c.args.proof.now new c.learn.new.proof made.later context c.args.list.now c.args.setting.now c.requires.setting c.args.self.now
    c.requires.reader
    (record { norms = c.learn.new.self; parts = c.args.self.now.parts; topes = c.args.self.now.topes }) made.kept made.norms
    (reader_parts old c.args.proof.now new c.learn.new.proof made.later context c.args.list.now c.args.setting.now c.requires.setting c.args.self.now
    c.requires.reader)
    (λ number tope s. s) (λ id. refl)

pub returns-in_ok-insert-in-Tope-clause-done : goal.returns-in_ok-insert-in-Tope-clause-done
returns-in_ok-insert-in-Tope-clause-done c =
    let old = c.args.pool.now.nodes in
    let new = c.part.new.pool.nodes in
    let made = c.in_ok-number-in-Tope.ensures in
    let more : Reader = record { norms = c.part.new.self.norms; parts = c.part.new.self.parts; topes = c.insert.new.self } in
    let same : sort_of (tree_of new c.args.id) ≡ sort.Tope =
    ap sort_of (tree_stays old new made.later.grows c.args.id c.requires.id) ∙ sym c.sort_at.ensures ∙ c.in-Tope.is in
    subst (λ (s : Sort). IsDoneAs more c.args.id s) (sym same)
    (noted_here new (tree_of old c.args.setting.now.context) c.args.list.now c.args.setting.now c.part.new.proof c.part.new.self more made.reader refl
    refl
    c.args.id c.in_ok-number-in-Tope.number c.in_ok-insert-in-Tope.ensures.updates.0)

pub returns-in_ok-insert-in-Tope-clause-reader : goal.returns-in_ok-insert-in-Tope-clause-reader
returns-in_ok-insert-in-Tope-clause-reader c =
    let old = c.args.pool.now.nodes in
    let new = c.part.new.pool.nodes in
    let made = c.in_ok-number-in-Tope.ensures in
    let more : Reader = record { norms = c.part.new.self.norms; parts = c.part.new.self.parts; topes = c.insert.new.self } in
    noted_reader new (tree_of old c.args.setting.now.context) c.args.list.now c.args.setting.now c.part.new.proof c.part.new.self more made.reader
    refl refl
    c.args.id c.in_ok-number-in-Tope.number c.in_ok-insert-in-Tope.ensures.updates.0 (live_stays old new made.later.grows c.args.id c.requires.id)
    (subst (λ (t : Tree). SaysTope new c.part.new.self.parts.items c.in_ok-number-in-Tope.number t)
    (sym (tree_stays old new made.later.grows c.args.id c.requires.id)) made.says)

pub returns-in_ok-insert-in-Tope-clause-kept : goal.returns-in_ok-insert-in-Tope-clause-kept
returns-in_ok-insert-in-Tope-clause-kept c =
    let old = c.args.pool.now.nodes in
    let new = c.part.new.pool.nodes in
    let made = c.in_ok-number-in-Tope.ensures in
    let more : Reader = record { norms = c.part.new.self.norms; parts = c.part.new.self.parts; topes = c.insert.new.self } in
    kept_trans old new new made.later.grows c.args.self.now c.part.new.self more made.kept
    (noted_kept new (tree_of old c.args.setting.now.context) c.args.list.now c.args.setting.now c.part.new.proof c.part.new.self more made.reader refl
    refl
    c.args.id c.in_ok-number-in-Tope.number c.in_ok-insert-in-Tope.ensures.updates.0)
