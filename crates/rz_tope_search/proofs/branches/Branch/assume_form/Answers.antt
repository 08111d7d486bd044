use Rattle.std.proofs.Common.{◌≡◌, ◌<◌, length, Some, refl, sym, subst, set, false, ◌∙◌, arith, rules}
use Rattle.rz_rules.specs.Tree.{tree_of}
use Rattle.rz_rules.specs.Cube.{product}
use Rattle.rz_tope_proof.specs.declared.parts.Form.{Form}
use Rattle.rz_tope_proof.specs.Part.{IsMadeOf}
use Rattle.rz_tope_proof.specs.Proving.{FirstPart, SecondPart, Lefts, Rights}
use Rattle.rz_tope_proof.specs.Reading.{HasForm, tope_at}
use Rattle.rz_rules.specs.Tope.{conjunction, equal_points, left, right}
use Rattle.rz_tope_proof.proofs.Proving.{Extends-both}
use Rattle.std.proofs.lemmas.Bool.{true≢false}
use Rattle.rz_tope_search.specs.Branch.{is_joint}
use Rattle.rz_tope_search.specs.Showing.{Shows}
use Rattle.rz_tope_search.proofs.Showing.{branch-later, read-at-part, shows-later, steps-later, steps-set}
use Rattle.rz_tope_search.proofs.branches.Branch.assume_form.Goals as goal

pub returns-in_ok-other-in-And-clause-proves : goal.returns-in_ok-other-in-And-clause-proves
returns-in_ok-other-in-And-clause-proves c at tope is has shows proves =
    branch-later at c.args.parts.now c.args.proof.now c.infer_one-in-And.new.proof
    (Extends-both c.args.proof.now c.infer_one.new.proof c.infer_one-in-And.new.proof c.in_ok-one-in-And.ensures.extends
    c.in_ok-other-in-And.ensures.extends)
    c.args.places.now c.args.self.now proves

pub returns-in_ok-other-in-And-clause-infers : goal.returns-in_ok-other-in-And-clause-infers
returns-in_ok-other-in-And-clause-infers c at tope is has shows steps =
    let places = c.args.places.now in
    let parts = c.args.parts.now in
    let p0 = c.args.proof.now in
    let p1 = c.infer_one.new.proof in
    let p2 = c.infer_one-in-And.new.proof in
    let to1 = c.in_ok-one-in-And.ensures.extends in
    let to2 = Extends-both p0 p1 p2 to1 c.in_ok-other-in-And.ensures.extends in
    let first = c.in-And.first in
    let second = c.in-And.second in
    let a = tope_at at.nodes parts first in
    let b = tope_at at.nodes parts second in
    let items = c.args.steps.now.items in
    let made = subst (IsMadeOf (length items) places.count) c.in-And.is c.requires.form in
    let first_there : first < length parts = omega (arith, made.0, c.requires.steps) in
    let second_there : second < length parts = omega (arith, made.1, c.requires.steps) in
    let form = subst (λ (f : Form). HasForm at.nodes at.context places p0 parts f tope) c.in-And.is has in
    let said = subst (Shows at p0 c.args.step) form shows in
    let one = c.in_ok-one-in-And.ensures.shows at (conjunction a b) a (read-at-part at p0 places parts is first first_there).claim refl FirstPart said in
    let other = c.in_ok-other-in-And.ensures.shows at (conjunction a b) b (read-at-part at p0 places parts is second second_there).claim refl SecondPart
    (shows-later at p0 p1 to1 c.args.step (conjunction a b) said) in
    steps-set at p2 parts (set items first (Some c.in_ok-one-in-And.one)) second c.in_ok-other-in-And.other
    (steps-set at p2 parts items first c.in_ok-one-in-And.one (steps-later at parts p0 p2 to2 items steps)
    (shows-later at p1 p2 c.in_ok-other-in-And.ensures.extends c.in_ok-one-in-And.one a one)) other

pub returns-in_ok-other-in-EqualPairs-clause-proves : goal.returns-in_ok-other-in-EqualPairs-clause-proves
returns-in_ok-other-in-EqualPairs-clause-proves c at tope is has shows proves =
    branch-later at c.args.parts.now c.args.proof.now c.infer_one-in-EqualPairs-2.new.proof
    (Extends-both c.args.proof.now c.infer_one-in-EqualPairs.new.proof c.infer_one-in-EqualPairs-2.new.proof
    c.in_ok-one-in-EqualPairs.ensures.extends c.in_ok-other-in-EqualPairs.ensures.extends)
    c.args.places.now c.args.self.now proves

pub returns-in_ok-other-in-EqualPairs-clause-infers : goal.returns-in_ok-other-in-EqualPairs-clause-infers
returns-in_ok-other-in-EqualPairs-clause-infers c at tope is has shows steps =
    let nodes = at.nodes in
    let places = c.args.places.now in
    let parts = c.args.parts.now in
    let p0 = c.args.proof.now in
    let p1 = c.infer_one-in-EqualPairs.new.proof in
    let p2 = c.infer_one-in-EqualPairs-2.new.proof in
    let to1 = c.in_ok-one-in-EqualPairs.ensures.extends in
    let to2 = Extends-both p0 p1 p2 to1 c.in_ok-other-in-EqualPairs.ensures.extends in
    let first = c.in-EqualPairs.left in
    let second = c.in-EqualPairs.right in
    let of = c.in-EqualPairs.of in
    let items = c.args.steps.now.items in
    let made = subst (IsMadeOf (length items) places.count) c.in-EqualPairs.is c.requires.form in
    let first_there : first < length parts = omega (arith, made.0, c.requires.steps) in
    let second_there : second < length parts = omega (arith, made.1, c.requires.steps) in
    let form = subst (λ (f : Form). HasForm at.nodes at.context places p0 parts f tope) c.in-EqualPairs.is has in
    let s = tree_of nodes of.1 in
    let t = tree_of nodes of.2 in
    let whole = equal_points (product form.one_cube form.other_cube) s t in
    let said = subst (Shows at p0 c.args.step) (form.says ∙ (λ i. equal_points (form.cube i) s t)) shows in
    let one = subst (Shows at p1 c.in_ok-one-in-EqualPairs.one) (sym form.first)
    (c.in_ok-one-in-EqualPairs.ensures.shows at whole (equal_points form.one_cube (left s) (left t))
    (read-at-part at p0 places parts is first first_there).claim form.first Lefts said) in
    let other = subst (Shows at p2 c.in_ok-other-in-EqualPairs.other) (sym form.second)
    (c.in_ok-other-in-EqualPairs.ensures.shows at whole (equal_points form.other_cube (right s) (right t))
    (read-at-part at p0 places parts is second second_there).claim form.second Rights
    (shows-later at p0 p1 to1 c.args.step whole said)) in
    steps-set at p2 parts (set items first (Some c.in_ok-one-in-EqualPairs.one)) second c.in_ok-other-in-EqualPairs.other
    (steps-set at p2 parts items first c.in_ok-one-in-EqualPairs.one (steps-later at parts p0 p2 to2 items steps)
    (shows-later at p1 p2 c.in_ok-other-in-EqualPairs.ensures.extends c.in_ok-one-in-EqualPairs.one (tope_at nodes parts first) one)) other

pub returns-in_ok-assume_atom-in_default : goal.returns-in_ok-assume_atom-in_default
returns-in_ok-assume_atom-in_default c =
    let new = c.in_ok-assume_atom-in_default.ensures in
    let atom : is_joint c.args.form ≡ false = search rules in
    record {
      branch = new.branch;
      refines = new.refines;
      done = record { kids = λ h. absurd (true≢false (sym h ∙ atom)); others = λ h le value model. new.holds le value model };
      all = refl;
      kept = λ k h. h;
      others = λ before k made le. refl;
      extends = new.extends;
      proves = λ at tope is has shows proves. new.proves at tope is.places_are has shows proves;
      infers = λ at tope is has shows steps.
          steps-later at c.args.parts.now c.args.proof.now c.assume_atom.new.proof new.extends c.args.steps.now.items steps;
    }
