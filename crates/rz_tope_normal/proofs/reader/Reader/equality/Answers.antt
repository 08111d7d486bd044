use Rattle.std.proofs.Common.{◌≡◌, refl, sym, subst}
use Rattle.std.proofs.lemmas.Option.{slice_get_within}
use Rattle.rz_rules.specs.Tree.{Tree, tree_of}
use Rattle.rz_rules.specs.Tope.{equal_points}
use Rattle.rz_tope_normal.specs.Equation.{AreSplits}
use Rattle.rz_tope_normal.specs.Norm.{AreNorms, IsSetting}
use Rattle.rz_tope_normal.specs.Read.{ArePartsOf, SaysTope}
use Rattle.rz_tope_normal.proofs.Norming.{setting_stays}
use Rattle.rz_tope_normal.proofs.Readers.{reader_kept, reader_parts, reader_with}
use Rattle.rz_tope_normal.proofs.Staying.{tree_stays}
use Rattle.rz_tope_normal.proofs.reader.Reader.equality.Goals as goal
use Rattle.rz_tope_normal.proofs.reader.Reader.equality.Goals.{In_ok-splits, In_ok-number}

pub split_all-requires-clause-setting : goal.split_all-requires-clause-setting
split_all-requires-clause-setting c = (tree_of c.args.pool.now.nodes c.args.setting.now.context, c.args.list.now, c.requires.setting)

pub split_all-requires-clause-equation : goal.split_all-requires-clause-equation
split_all-requires-clause-equation c = (c.args.list.now, c.requires.equation)

here : (c : In_ok-splits) → tree_of c.split_all.new.pool.nodes c.args.setting.now.context ≡ tree_of c.args.pool.now.nodes c.args.setting.now.context
here c = tree_stays c.args.pool.now.nodes c.split_all.new.pool.nodes c.in_ok-splits.ensures.later.grows c.args.setting.now.context
    c.requires.setting.live

pub join-requires-clause-setting : goal.join-requires-clause-setting
join-requires-clause-setting c =
    subst (λ (t : Tree). IsSetting c.split_all.new.pool.nodes t c.args.list.now c.args.setting.now)
    (sym (here (goal.at.join-requires-clause-setting c).In_ok-splits))
    (setting_stays c.args.pool.now.nodes c.split_all.new.pool.nodes c.in_ok-splits.ensures.later.grows
    (tree_of c.args.pool.now.nodes c.args.setting.now.context) c.args.list.now
    c.args.setting.now c.requires.setting)

pub join-requires-clause-norms : goal.join-requires-clause-norms
join-requires-clause-norms c =
    subst (λ (t : Tree). AreNorms c.split_all.new.pool.nodes t c.args.setting.now.entries.items c.split_all.new.proof c.split_all.new.norms)
    (sym (here (goal.at.join-requires-clause-norms c).In_ok-splits)) c.in_ok-splits.ensures.norms

pub join-requires-clause-splits : goal.join-requires-clause-splits
join-requires-clause-splits c =
    subst (λ (t : Tree). AreSplits c.split_all.new.pool.nodes t c.args.list.now c.split_all.new.norms c.in_ok-splits.splits)
    (sym (here (goal.at.join-requires-clause-splits c).In_ok-splits)) (c.in_ok-splits.ensures.splits c.args.list.now c.requires.equation)

pub join-requires-clause-some : goal.join-requires-clause-some
join-requires-clause-some c = slice_get_within c.in_ok-splits.splits.all.items 0 c.args.of c.in_ok-splits.ensures.first

grown : (c : In_ok-splits) → ArePartsOf c.split_all.new.pool.nodes (tree_of c.args.pool.now.nodes c.args.setting.now.context) c.args.list.now
    c.args.setting.now.places
    c.split_all.new.proof c.args.self.now.parts.items
grown c =
    reader_parts c.args.pool.now.nodes c.args.proof.now c.split_all.new.pool.nodes c.split_all.new.proof c.in_ok-splits.ensures.later
    (tree_of c.args.pool.now.nodes c.args.setting.now.context) c.args.list.now c.args.setting.now c.requires.setting c.args.self.now c.requires.reader

pub join-requires-clause-parts : goal.join-requires-clause-parts
join-requires-clause-parts c =
    let g = (goal.at.join-requires-clause-parts c).In_ok-splits in
    subst (λ (t : Tree). ArePartsOf c.split_all.new.pool.nodes t c.args.list.now c.args.setting.now.places c.split_all.new.proof
    c.args.self.now.parts.items)
    (sym (here g)) (grown g)

pub returns-clause-says : goal.returns-clause-says
returns-clause-says c =
    let old = c.args.pool.now.nodes in
    let new = c.split_all.new.pool.nodes in
    let grows = c.in_ok-splits.ensures.later.grows in
    let points = c.requires.equation.points in
    subst (λ (t : Tree). SaysTope new c.join.new.parts.items c.in_ok-number.number t)
    (λ i. equal_points (tree_stays old new grows c.args.of.0 points.cube_live i) (tree_stays old new grows c.args.of.1 points.first_live i)
    (tree_stays old new grows c.args.of.2 points.second_live i))
    (c.in_ok-number.ensures.says c.args.of c.in_ok-splits.ensures.first)

parts : (c : In_ok-number) → ArePartsOf c.split_all.new.pool.nodes (tree_of c.args.pool.now.nodes c.args.setting.now.context) c.args.list.now
    c.args.setting.now.places
    c.split_all.new.proof c.join.new.parts.items
parts c =
    subst (λ (t : Tree). ArePartsOf c.split_all.new.pool.nodes t c.args.list.now c.args.setting.now.places c.split_all.new.proof
    c.join.new.parts.items)
    (here (goal.at.In_ok-number c).In_ok-splits) c.in_ok-number.ensures.parts

pub returns-clause-reader : goal.returns-clause-reader
returns-clause-reader c =
    let g = (goal.at.returns-clause-reader c).In_ok-number in
    let made = c.in_ok-splits.ensures in
    reader_with c.args.pool.now.nodes c.args.proof.now c.split_all.new.pool.nodes c.split_all.new.proof made.later
    (tree_of c.args.pool.now.nodes c.args.setting.now.context) c.args.list.now c.args.setting.now c.requires.setting c.args.self.now c.requires.reader
    (record { norms = c.split_all.new.norms; parts = c.join.new.parts; topes = c.args.self.now.topes }) made.kept made.norms (parts g)
    c.in_ok-number.ensures.kept (λ id. refl)

pub returns-clause-kept : goal.returns-clause-kept
returns-clause-kept c =
    let g = (goal.at.returns-clause-kept c).In_ok-number in
    let made = c.in_ok-splits.ensures in
    reader_kept c.args.pool.now.nodes c.args.proof.now c.split_all.new.pool.nodes c.split_all.new.proof made.later
    (tree_of c.args.pool.now.nodes c.args.setting.now.context) c.args.list.now c.args.setting.now c.requires.setting c.args.self.now c.requires.reader
    (record { norms = c.split_all.new.norms; parts = c.join.new.parts; topes = c.args.self.now.topes }) made.kept made.norms (parts g)
    c.in_ok-number.ensures.kept (λ id. refl)
