use Rattle.std.proofs.Common.{◌≡◌, List, sym, ap, subst, ◌∙◌}
use Rattle.rz_rules.specs.declared.coordinates.Coord.{Coord}
use Rattle.rz_rules.specs.Tree.{Tree, sort_of, tree_of}
use Rattle.rz_rules.specs.Cube.{binders_of, cubes_of}
use Rattle.rz_pool.proofs.WellFormed.{tree_of-is}
use Rattle.rz_tope_normal.specs.declared.hypotheses.Hypothesis.{Hypothesis}
use Rattle.rz_tope_normal.specs.declared.sequents.Sequent.{Sequent}
use Rattle.rz_tope_normal.specs.Norm.{AreCubeTrees, IsSetting}
use Rattle.rz_tope_normal.specs.Placed.{AreCoordinates}
use Rattle.rz_tope_normal.specs.Read.{IsFine, SaysTope}
use Rattle.rz_tope_normal.specs.Reader.{IsReader}
use Rattle.rz_tope_normal.specs.Sequent.{AreAssumed, AreReadableEntries}
use Rattle.rz_tope_normal.proofs.NormalPoints.{occurring_are}
use Rattle.rz_tope_normal.proofs.Norming.{setting_of, setting_stays}
use Rattle.rz_tope_normal.proofs.Opening.{asked_fine, cubes_trees, given_parts, has_values, over_sort, readable_entries}
use Rattle.rz_tope_normal.proofs.Siding.{places_over}
use Rattle.rz_tope_normal.proofs.Staying.{Later-grows, Later-trans, live_stays, tree_stays}
use Rattle.rz_tope_normal.proofs.sequents.read.Goals as goal
use Rattle.rz_tope_normal.proofs.sequents.read.Goals.{After-len, In_ok-start, In_ok-goal, In_ok-given}

trees : (c : After-len) → AreCubeTrees (cubes_of (tree_of c.args.pool.now.nodes c.args.context))
trees c =
    let context = tree_of c.args.pool.now.nodes c.args.context in
    cubes_trees (sort_of context) context (tree_of-is c.args.pool.now.nodes c.len.ensures.pool.forms c.args.context c.requires.context)

pub prepare-requires-clause-coordinates : goal.prepare-requires-clause-coordinates
prepare-requires-clause-coordinates c =
    let ns = c.args.pool.now.nodes in
    let context = tree_of ns c.args.context in
    subst (AreCoordinates (binders_of context)) (sym c.requires.list)
    (occurring_are context (tree_of ns c.args.tope) c.requires.sequent.topes c.requires.sequent.over
    (trees (goal.at.prepare-requires-clause-coordinates c).After-len))

-- the context, after the beginning
here : (c : In_ok-start) → tree_of c.prepare.new.pool.nodes c.in_ok-start.start.setting.context ≡ tree_of c.args.pool.now.nodes c.args.context
here c = c.in_ok-start.ensures.start.setting.context_is

pub read-requires-clause-setting : goal.read-requires-clause-setting
read-requires-clause-setting c =
    setting_of c.prepare.new.pool.nodes (tree_of c.args.pool.now.nodes c.args.context) c.args.list.now c.in_ok-start.start.setting
    c.in_ok-start.ensures.start.setting

pub read-requires-clause-reader : goal.read-requires-clause-reader
read-requires-clause-reader c =
    subst (λ (t : Tree). IsReader c.prepare.new.pool.nodes t c.args.list.now c.in_ok-start.start.setting c.args.proof.now c.in_ok-start.start.reader)
    (sym (here (goal.at.read-requires-clause-reader c).In_ok-start)) (c.in_ok-start.ensures.start.reader c.args.proof.now)

pub read-requires-clause-tope : goal.read-requires-clause-tope
read-requires-clause-tope c = live_stays c.args.pool.now.nodes c.prepare.new.pool.nodes c.in_ok-start.ensures.grows c.args.tope c.requires.tope

same_tope : (c : In_ok-start) → tree_of c.prepare.new.pool.nodes c.args.tope ≡ tree_of c.args.pool.now.nodes c.args.tope
same_tope c = tree_stays c.args.pool.now.nodes c.prepare.new.pool.nodes c.in_ok-start.ensures.grows c.args.tope c.requires.tope

pub read-requires-clause-sort : goal.read-requires-clause-sort
read-requires-clause-sort c =
    ap sort_of (same_tope (goal.at.read-requires-clause-sort c).In_ok-start)
    ∙ over_sort (binders_of (tree_of c.args.pool.now.nodes c.args.context)) (tree_of c.args.pool.now.nodes c.args.tope) c.requires.sequent.over

pub read-requires-clause-fine : goal.read-requires-clause-fine
read-requires-clause-fine c =
    let g = (goal.at.read-requires-clause-fine c).In_ok-start in
    let context = tree_of c.args.pool.now.nodes c.args.context in
    let tope = tree_of c.args.pool.now.nodes c.args.tope in
    let now = c.prepare.new.pool.nodes in
    subst (λ (t : Tree). IsFine (binders_of t) c.args.list.now (tree_of now c.args.tope)) (sym (here g))
    (subst (λ (t : Tree). IsFine (binders_of context) c.args.list.now t) (sym (same_tope g))
    (subst (λ (xs : List Coord). IsFine (binders_of context) xs tope) (sym c.requires.list) (asked_fine context tope c.requires.sequent.over)))

-- the setting and the context, after the tope
later_setting : (c : In_ok-goal) → IsSetting c.read.new.pool.nodes (tree_of c.args.pool.now.nodes c.args.context) c.args.list.now
    c.in_ok-start.start.setting
later_setting c =
    setting_stays c.prepare.new.pool.nodes c.read.new.pool.nodes c.in_ok-goal.ensures.later.grows (tree_of c.args.pool.now.nodes c.args.context)
    c.args.list.now
    c.in_ok-start.start.setting c.in_ok-start.ensures.start.setting

pub assume-requires-clause-setting : goal.assume-requires-clause-setting
assume-requires-clause-setting c =
    setting_of c.read.new.pool.nodes (tree_of c.args.pool.now.nodes c.args.context) c.args.list.now c.in_ok-start.start.setting
    (later_setting (goal.at.assume-requires-clause-setting c).In_ok-goal)

pub assume-requires-clause-reader : goal.assume-requires-clause-reader
assume-requires-clause-reader c =
    let g = goal.at.assume-requires-clause-reader c in
    subst (λ (t : Tree). IsReader c.read.new.pool.nodes t c.args.list.now c.in_ok-start.start.setting c.read.new.proof c.read.new.self)
    (here g.In_ok-start ∙ sym (later_setting g.In_ok-goal).context_is) c.in_ok-goal.ensures.reader

pub assume-requires-clause-given : goal.assume-requires-clause-given
assume-requires-clause-given c =
    let g = goal.at.assume-requires-clause-given c in
    let context = tree_of c.args.pool.now.nodes c.args.context in
    let now = c.read.new.pool.nodes in
    subst (λ (hs : List Hypothesis). AreReadableEntries now (tree_of now c.in_ok-start.start.setting.context) c.args.list.now hs)
    (sym c.deref.ensures.value)
    (subst (λ (t : Tree). AreReadableEntries now t c.args.list.now c.in_ok-start.start.given.items) (sym (later_setting g.In_ok-goal).context_is)
    (readable_entries c.prepare.new.pool.nodes now c.in_ok-goal.ensures.later.grows context (tree_of c.args.pool.now.nodes c.args.tope)
    c.args.list.now c.requires.list
    c.requires.sequent.topes (trees g.After-len) c.in_ok-start.start.given.items c.in_ok-start.ensures.start.given))

-- what was read, after all
reader : (c : In_ok-given) → IsReader c.assume.new.pool.nodes (tree_of c.args.pool.now.nodes c.args.context) c.args.list.now
    c.in_ok-start.start.setting c.assume.new.proof
    c.assume.new.reader
reader c =
    subst (λ (t : Tree). IsReader c.assume.new.pool.nodes t c.args.list.now c.in_ok-start.start.setting c.assume.new.proof c.assume.new.reader)
    (later_setting (goal.at.In_ok-given c).In_ok-goal).context_is c.in_ok-given.ensures.reader

asked : (c : In_ok-given) → SaysTope c.assume.new.pool.nodes c.assume.new.reader.parts.items c.in_ok-goal.goal
    (tree_of c.args.pool.now.nodes c.args.tope)
asked c =
    subst (λ (t : Tree). SaysTope c.assume.new.pool.nodes c.assume.new.reader.parts.items c.in_ok-goal.goal t)
    (same_tope (goal.at.In_ok-given c).In_ok-start)
    (c.in_ok-given.ensures.kept.says c.in_ok-goal.goal (tree_of c.prepare.new.pool.nodes c.args.tope) c.in_ok-goal.ensures.says)

assumed : (c : In_ok-given) → AreAssumed c.read.new.pool.nodes c.assume.new.pool.nodes (tree_of c.args.pool.now.nodes c.args.context)
    c.assume.new.proof
    c.assume.new.reader.parts.items c.in_ok-start.start.given.items c.in_ok-given.given.items
assumed c =
    subst (λ (t : Tree). AreAssumed c.read.new.pool.nodes c.assume.new.pool.nodes t c.assume.new.proof c.assume.new.reader.parts.items
    c.in_ok-start.start.given.items
    c.in_ok-given.given.items) (later_setting (goal.at.In_ok-given c).In_ok-goal).context_is
    (subst (λ (hs : List Hypothesis). AreAssumed c.read.new.pool.nodes c.assume.new.pool.nodes
    (tree_of c.read.new.pool.nodes c.in_ok-start.start.setting.context) c.assume.new.proof
    c.assume.new.reader.parts.items hs c.in_ok-given.given.items) c.deref.ensures.value c.in_ok-given.ensures.assumed)

pub returns-clause-read : goal.returns-clause-read
returns-clause-read c =
    let g = goal.at.returns-clause-read c in
    let new = c.assume.new.pool.nodes in
    let context = tree_of c.args.pool.now.nodes c.args.context in
    let set = setting_stays c.read.new.pool.nodes new c.in_ok-given.ensures.later.grows context c.args.list.now c.in_ok-start.start.setting
    (later_setting g.In_ok-goal) in
    let are = (reader g.In_ok-given).parts in
    record {
      count = set.places.count;
      places = places_over new context c.in_ok-start.start.setting.places c.args.list.now set.places set.coordinates;
      parts = λ k part e. (are k part e).made;
      read = λ k part e. (are k part e).read;
      goal = asked g.In_ok-given;
      given = given_parts c.read.new.pool.nodes new context c.assume.new.proof c.assume.new.reader.parts.items c.in_ok-start.start.given.items
          c.in_ok-given.given.items
          (assumed g.In_ok-given);
    }

pub returns-clause-values : goal.returns-clause-values
returns-clause-values c =
    let g = goal.at.returns-clause-values c in
    let context = tree_of c.args.pool.now.nodes c.args.context in
    let sequent : Sequent = record {
      places = c.in_ok-start.start.setting.places;
      parts = c.assume.new.reader.parts;
      given = c.in_ok-given.given;
      goal = c.in_ok-goal.goal;
    } in
    has_values c.prepare.new.pool.nodes c.read.new.pool.nodes c.assume.new.pool.nodes c.in_ok-goal.ensures.later.grows context
    (tree_of c.args.pool.now.nodes c.args.tope)
    c.args.list.now c.in_ok-start.start.setting.places c.assume.new.proof c.in_ok-start.start.given.items c.in_ok-start.ensures.start.given
    c.in_ok-start.ensures.start.all
    sequent (reader g.In_ok-given).parts (asked g.In_ok-given) (assumed g.In_ok-given)

pub returns-clause-later : goal.returns-clause-later
returns-clause-later c =
    let one = c.prepare.new.pool.nodes in
    let two = c.read.new.pool.nodes in
    let three = c.assume.new.pool.nodes in
    Later-trans c.args.pool.now.nodes one three c.args.proof.now c.args.proof.now c.assume.new.proof
    (Later-grows c.args.pool.now.nodes one c.args.proof.now c.in_ok-start.ensures.grows)
    (Later-trans one two three c.args.proof.now c.read.new.proof c.assume.new.proof c.in_ok-goal.ensures.later c.in_ok-given.ensures.later)
