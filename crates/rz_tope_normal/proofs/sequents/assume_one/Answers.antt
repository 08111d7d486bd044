use Rattle.std.proofs.Common.{◌≡◌, ◌<◌, [], length, refl, sym, subst}
use Rattle.std.proofs.lemmas.List.Elements.{All-nil, All-cons}
use Rattle.rz_rules.specs.Tree.{Tree, tree_of}
use Rattle.rz_rules.specs.Cube.{binders_of}
use Rattle.rz_rules.specs.Tope.{IsTopeOver}
use Rattle.rz_tope_proof.specs.Proving.{IsGiven, Proves}
use Rattle.rz_tope_normal.proofs.Norming.{norms_later, setting_stays}
use Rattle.rz_tope_normal.proofs.Opening.{over_sort}
use Rattle.rz_tope_normal.proofs.Readers.{reader_parts, reader_with}
use Rattle.rz_tope_normal.proofs.Staying.{Later-extends, Later-trans, live_stays, tree_stays}
use Rattle.rz_tope_normal.proofs.sequents.assume_one.Goals as goal
use Rattle.rz_tope_normal.proofs.sequents.assume_one.Goals.{In_ok-part}

pub read-requires-clause-sort : goal.read-requires-clause-sort
read-requires-clause-sort c =
    over_sort (binders_of (tree_of c.args.pool.now.nodes c.args.setting.now.context)) (tree_of c.args.pool.now.nodes c.args.given.tope)
    c.requires.given.fine.over

here : (c : In_ok-part) → tree_of c.read.new.pool.nodes c.args.setting.now.context ≡ tree_of c.args.pool.now.nodes c.args.setting.now.context
here c = tree_stays c.args.pool.now.nodes c.read.new.pool.nodes c.in_ok-part.ensures.later.grows c.args.setting.now.context c.requires.setting.live

tope : (c : In_ok-part) → tree_of c.read.new.pool.nodes c.args.given.tope ≡ tree_of c.args.pool.now.nodes c.args.given.tope
tope c = tree_stays c.args.pool.now.nodes c.read.new.pool.nodes c.in_ok-part.ensures.later.grows c.args.given.tope c.requires.given.given.live

pub hypothesis-requires-clause-claim : goal.hypothesis-requires-clause-claim
hypothesis-requires-clause-claim c =
    let g = (goal.at.hypothesis-requires-clause-claim c).In_ok-part in
    let new = c.read.new.pool.nodes in
    record {
      live = All-cons (λ id. id < length new) c.args.given.tope [] (live_stays c.args.pool.now.nodes new c.in_ok-part.ensures.later.grows
          c.args.given.tope c.requires.given.given.live)
          (All-nil (λ id. id < length new));
      over = subst (λ (t : Tree). IsTopeOver (binders_of t) (tree_of new c.args.given.tope)) (sym (here g))
          (subst (IsTopeOver (binders_of (tree_of c.args.pool.now.nodes c.args.setting.now.context))) (sym (tope g)) c.requires.given.fine.over);
    }

pub hypothesis-requires-clause-given : goal.hypothesis-requires-clause-given
hypothesis-requires-clause-given c =
    let g = (goal.at.hypothesis-requires-clause-given c).In_ok-part in
    subst (λ (t : Tree). IsGiven t c.args.given.number (tree_of c.read.new.pool.nodes c.args.given.tope)) (sym (here g))
    (subst (IsGiven (tree_of c.args.pool.now.nodes c.args.setting.now.context) c.args.given.number) (sym (tope g)) c.requires.given.given.given)

pub returns-clause-assumed : goal.returns-clause-assumed
returns-clause-assumed c =
    let g = (goal.at.returns-clause-assumed c).In_ok-part in
    let new = c.read.new.pool.nodes in
    record {
      says = c.in_ok-part.ensures.says;
      proves = subst (λ (t : Tree). Proves new t c.hypothesis.new.proof [] c.in_ok-step.step (tree_of c.args.pool.now.nodes c.args.given.tope))
          (here g)
          (subst (λ (t : Tree). Proves new (tree_of new c.args.setting.now.context) c.hypothesis.new.proof [] c.in_ok-step.step t) (tope g)
          c.in_ok-step.ensures.proves);
    }

pub returns-clause-reader : goal.returns-clause-reader
returns-clause-reader c =
    let old = c.args.pool.now.nodes in
    let new = c.read.new.pool.nodes in
    let made = c.in_ok-part.ensures in
    let context = tree_of old c.args.setting.now.context in
    let set = setting_stays old new made.later.grows context c.args.list.now c.args.setting.now c.requires.setting in
    let more = Later-extends new c.read.new.proof c.hypothesis.new.proof c.in_ok-step.ensures.extends in
    reader_with new c.read.new.proof new c.hypothesis.new.proof more context c.args.list.now c.args.setting.now set c.read.new.self made.reader
    c.read.new.self (λ q k. k)
    (norms_later new c.read.new.proof new c.hypothesis.new.proof more context c.args.setting.now.entries.items c.read.new.self.norms set.cubes
    made.reader.norms)
    (reader_parts new c.read.new.proof new c.hypothesis.new.proof more context c.args.list.now c.args.setting.now set c.read.new.self made.reader)
    (λ number t s. s) (λ id. refl)

pub returns-clause-later : goal.returns-clause-later
returns-clause-later c =
    let new = c.read.new.pool.nodes in
    Later-trans c.args.pool.now.nodes new new c.args.proof.now c.read.new.proof c.hypothesis.new.proof c.in_ok-part.ensures.later
    (Later-extends new c.read.new.proof c.hypothesis.new.proof c.in_ok-step.ensures.extends)
