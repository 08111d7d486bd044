use Rattle.std.proofs.Common.{◌≡◌, ℕ, List, [], ◌∷◌, ◌++◌, length, get_or, Some, refl, sym, ap, subst, ◌∙◌, arith}
use Rattle.std.specs.Prelude.{slice_get}
use Rattle.std.proofs.lemmas.Option.{slice_get-get_or}
use Rattle.rz_rules.specs.declared.kinds.Sort.TheVariants.{Cube}
use Rattle.rz_rules.specs.Tree.{tree_of}
use Rattle.rz_rules.specs.Cube.{cubes_of}
use Rattle.rz_metatheory.proofs.Values.{cube_of_is}
use Rattle.rz_pool.proofs.Nodes.{slice_get-append}
use Rattle.rz_tope_normal.specs.declared.splits.Shape.{Shape}
use Rattle.rz_tope_normal.specs.declared.splits.Split.TheVariants as split
use Rattle.rz_tope_normal.specs.Equation.{IsEquation, IsShaped}
use Rattle.rz_tope_normal.proofs.Entering.{sort_is}
use Rattle.rz_tope_normal.proofs.Norming.{setting_of}
use Rattle.rz_tope_normal.proofs.Splitting.{split_halved, split_leaf}
use Rattle.rz_tope_normal.proofs.splits.Splits.split_next.Goals as goal
use Rattle.rz_tope_normal.proofs.splits.Splits.split_next.Goals.{After-index-of}

at : (c : After-index-of) → slice_get c.args.self.now.all.items (length c.args.self.now.done.items) ≡ Some c.index-of.result.now
at c =
    let place : c.len.result ≡ length c.args.self.now.done.items = omega (arith, c.len.ensures, c.args.self.now.done.ok) in
    let of = c.index-of.result.now in
    slice_get-get_or c.args.self.now.all.items (length c.args.self.now.done.items) of c.requires.next
    ∙ ap Some (ap (λ (m : ℕ). get_or c.args.self.now.all.items m of) (sym place) ∙ sym c.index-of.ensures)

fine : (c : After-index-of) → IsEquation c.args.pool.now.nodes (tree_of c.args.pool.now.nodes c.args.setting.now.context) c.requires.splits.0
    c.args.norms.now c.index-of.result.now
fine c = c.requires.splits.1.fine (length c.args.self.now.done.items) c.index-of.result.now (at c)

pub shape_of-requires-clause-live : goal.shape_of-requires-clause-live
shape_of-requires-clause-live c = (fine (goal.at.shape_of-requires-clause-live c).After-index-of).points.cube_live

pub shape_of-requires-clause-cube : goal.shape_of-requires-clause-cube
shape_of-requires-clause-cube c =
    let ns = c.args.pool.now.nodes in
    let of = c.index-of.result.now in
    let set = setting_of ns c.requires.setting.0 c.requires.setting.1 c.args.setting.now c.requires.setting.2 in
    sort_is Cube (tree_of ns of.0) (cube_of_is (cubes_of (tree_of ns c.args.setting.now.context)) set.trees (tree_of ns of.1) (tree_of ns of.0)
    (fine (goal.at.shape_of-requires-clause-cube c).After-index-of).points.first)

pub halve-requires-clause-first : goal.halve-requires-clause-first
halve-requires-clause-first c =
    let is = fine (goal.at.halve-requires-clause-first c).After-index-of in
    (is.points.first_live, is.first_known)

pub halve-requires-clause-second : goal.halve-requires-clause-second
halve-requires-clause-second c =
    let is = fine (goal.at.halve-requires-clause-second c).After-index-of in
    (is.points.second_live, is.second_known)

pub returns-in_ok-push-in-Same-clause-splits : goal.returns-in_ok-push-in-Same-clause-splits
returns-in_ok-push-in-Same-clause-splits c list are =
    let ns = c.args.pool.now.nodes in
    split_leaf ns (tree_of ns c.args.setting.now.context) list c.args.norms.now c.args.self.now
    (record { all = c.args.self.now.all; done = c.push.new.self }) are
    c.index-of.result.now split.Same (at (goal.at.returns-in_ok-push-in-Same-clause-splits c).After-index-of)
    (subst (λ (s : Shape). IsShaped ns c.index-of.result.now s) c.in-Same.is c.shape_of.ensures) refl c.in_ok-push-in-Same.ensures.items

pub returns-in_ok-push-in-OnePoint-clause-splits : goal.returns-in_ok-push-in-OnePoint-clause-splits
returns-in_ok-push-in-OnePoint-clause-splits c list are =
    let ns = c.args.pool.now.nodes in
    split_leaf ns (tree_of ns c.args.setting.now.context) list c.args.norms.now c.args.self.now
    (record { all = c.args.self.now.all; done = c.push-in-OnePoint.new.self }) are
    c.index-of.result.now split.OnePoint (at (goal.at.returns-in_ok-push-in-OnePoint-clause-splits c).After-index-of)
    (subst (λ (s : Shape). IsShaped ns c.index-of.result.now s) c.in-OnePoint.is c.shape_of.ensures) refl c.in_ok-push-in-OnePoint.ensures.items

pub returns-in_ok-push-in-Interval-clause-splits : goal.returns-in_ok-push-in-Interval-clause-splits
returns-in_ok-push-in-Interval-clause-splits c list are =
    let ns = c.args.pool.now.nodes in
    split_leaf ns (tree_of ns c.args.setting.now.context) list c.args.norms.now c.args.self.now
    (record { all = c.args.self.now.all; done = c.push-in-Interval.new.self }) are
    c.index-of.result.now split.Interval (at (goal.at.returns-in_ok-push-in-Interval-clause-splits c).After-index-of)
    (subst (λ (s : Shape). IsShaped ns c.index-of.result.now s) c.in-Interval.is c.shape_of.ensures) refl c.in_ok-push-in-Interval.ensures.items

pub returns-in_ok-push-in-Product-3-clause-splits : goal.returns-in_ok-push-in-Product-3-clause-splits
returns-in_ok-push-in-Product-3-clause-splits c list are =
    let ns = c.args.pool.now.nodes in
    let made = c.in_ok-halves-in-Product.ensures in
    let halves = c.in_ok-halves-in-Product.halves in
    let count : c.len-at.result ≡ length c.args.self.now.all.items = omega (arith, c.len-at.ensures, c.args.self.now.all.ok) in
    split_halved ns c.halve.new.pool.nodes made.later.grows c.args.norms.now c.halve.new.norms made.kept (tree_of ns c.args.setting.now.context) list
    c.args.self.now (record { all = c.push-in-Product-2.new.self; done = c.push-in-Product-3.new.self }) are c.index-of.result.now
    (at (goal.at.returns-in_ok-push-in-Product-3-clause-splits c).After-index-of) c.requires.next halves made.halves
    (c.in_ok-push-in-Product-2.ensures.items ∙ ap (λ (xs : List (ℕ × ℕ × ℕ)). xs ++ halves.right ∷ []) c.in_ok-push-in-Product.ensures.items)
    (c.in_ok-push-in-Product-3.ensures.items ∙ ap (λ (n : ℕ). c.args.self.now.done.items ++ split.Halved n halves.pairs ∷ []) count)

pub returns-in_ok-push-in-Product-3-clause-first : goal.returns-in_ok-push-in-Product-3-clause-first
returns-in_ok-push-in-Product-3-clause-first c of e =
    let halves = c.in_ok-halves-in-Product.halves in
    let all = c.args.self.now.all.items in
    ap (λ (xs : List (ℕ × ℕ × ℕ)). slice_get xs 0)
    (c.in_ok-push-in-Product-2.ensures.items ∙ ap (λ (xs : List (ℕ × ℕ × ℕ)). xs ++ halves.right ∷ []) c.in_ok-push-in-Product.ensures.items)
    ∙ slice_get-append (all ++ halves.left ∷ []) (halves.right ∷ []) 0 of (slice_get-append all (halves.left ∷ []) 0 of e)
