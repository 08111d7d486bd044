use Rattle.std.proofs.Common.{◌≡◌, ◌<◌, [], ◌∷◌, length, refl, sym, ap, ◌∙◌, subst, arith}
use Rattle.std.proofs.lemmas.List.Elements.{All-head, All-tail}
use Rattle.rz_rules.specs.declared.kinds.Kind.TheVariants as kind
use Rattle.rz_rules.specs.declared.kinds.Sort.TheVariants as sort
use Rattle.rz_rules.specs.Tree.{sort_of, tree_of}
use Rattle.rz_rules.specs.Cube.{binders_of, cube_two}
use Rattle.rz_pool.proofs.Nodes.{KeepsTrees-Grows, length-Grows}
use Rattle.rz_tope_proof.specs.Claim.{IsClaim, tope_of}
use Rattle.rz_rules.specs.Tope.{at_most, disjunction}
use Rattle.rz_solver.proofs.Forming.{cube_sort, point_sort, three_formed, three_sorts, two_formed, two_sorts}
use Rattle.rz_solver.proofs.topes.tope.Goals as goal

pub make-requires-in-AtMost : goal.make-requires-in-AtMost
make-requires-in-AtMost c =
    let nodes = c.args.pool.now.nodes in
    let s = c.in-AtMost.first in
    let u = c.in-AtMost.second in
    let is = subst (IsClaim c.args.pool.now.nodes c.requires.0) c.in-AtMost.is c.requires.2 in
    let binders = binders_of c.requires.0 in
    two_formed nodes kind.AtMost refl s u
    (All-head (λ id. id < length nodes) s (u ∷ []) is.live) (All-head (λ id. id < length nodes) u [] (All-tail (λ id. id < length nodes) s (u ∷ []) is.live))
    (two_sorts (sort_of (tree_of nodes s)) (sort_of (tree_of nodes u)) sort.Point sort.Point
    (point_sort binders (tree_of nodes s) cube_two is.over.0) (point_sort binders (tree_of nodes u) cube_two is.over.1))

pub make-requires-in-Either : goal.make-requires-in-Either
make-requires-in-Either c =
    let nodes = c.args.pool.now.nodes in
    let s = c.in-Either.first in
    let u = c.in-Either.second in
    let is = subst (IsClaim c.args.pool.now.nodes c.requires.0) c.in-Either.is c.requires.2 in
    let binders = binders_of c.requires.0 in
    two_formed nodes kind.AtMost refl s u
    (All-head (λ id. id < length nodes) s (u ∷ []) is.live) (All-head (λ id. id < length nodes) u [] (All-tail (λ id. id < length nodes) s (u ∷ []) is.live))
    (two_sorts (sort_of (tree_of nodes s)) (sort_of (tree_of nodes u)) sort.Point sort.Point
    (point_sort binders (tree_of nodes s) cube_two is.over.0.0) (point_sort binders (tree_of nodes u) cube_two is.over.0.1))

pub make-requires-in-Either-2 : goal.make-requires-in-Either-2
make-requires-in-Either-2 c =
    let old = c.args.pool.now.nodes in
    let new = c.make-in-Either.new.pool.nodes in
    let s = c.in-Either.first in
    let u = c.in-Either.second in
    let is = subst (IsClaim c.args.pool.now.nodes c.requires.0) c.in-Either.is c.requires.2 in
    let binders = binders_of c.requires.0 in
    let s_live = All-head (λ id. id < length old) s (u ∷ []) is.live in
    let u_live = All-head (λ id. id < length old) u [] (All-tail (λ id. id < length old) s (u ∷ []) is.live) in
    let grown = length-Grows old new c.make-in-Either.ensures.grows in
    let s_is = KeepsTrees-Grows old new c.make-in-Either.ensures.grows s s_live in
    let u_is = KeepsTrees-Grows old new c.make-in-Either.ensures.grows u u_live in
    two_formed new kind.AtMost refl u s (omega (u_live, grown, arith)) (omega (s_live, grown, arith))
    (two_sorts (sort_of (tree_of new u)) (sort_of (tree_of new s)) sort.Point sort.Point
    (ap sort_of u_is ∙ point_sort binders (tree_of old u) cube_two is.over.0.1) (ap sort_of s_is ∙ point_sort binders (tree_of old s) cube_two is.over.0.0))

pub make-requires-in-Either-3 : goal.make-requires-in-Either-3
make-requires-in-Either-3 c =
    let middle = c.make-in-Either.new.pool.nodes in
    let new = c.make-in-Either-2.new.pool.nodes in
    let up = c.in_ok-up-in-Either.up in
    let down = c.in_ok-down-in-Either.down in
    let up_live = c.in_ok-up-in-Either.ensures.live in
    let grown = length-Grows middle new c.make-in-Either-2.ensures.grows in
    let up_is = KeepsTrees-Grows middle new c.make-in-Either-2.ensures.grows up up_live ∙ c.in_ok-up-in-Either.ensures.tree in
    two_formed new kind.Disjunction refl up down (omega (up_live, grown, arith)) c.in_ok-down-in-Either.ensures.live
    (two_sorts (sort_of (tree_of new up)) (sort_of (tree_of new down)) sort.Tope sort.Tope
    (ap sort_of up_is) (ap sort_of c.in_ok-down-in-Either.ensures.tree))

pub make-requires-in-Equal : goal.make-requires-in-Equal
make-requires-in-Equal c =
    let nodes = c.args.pool.now.nodes in
    let cube = c.in-Equal.cube in
    let s = c.in-Equal.first in
    let u = c.in-Equal.second in
    let is = subst (IsClaim c.args.pool.now.nodes c.requires.0) c.in-Equal.is c.requires.2 in
    let binders = binders_of c.requires.0 in
    let rest = All-tail (λ id. id < length nodes) cube (s ∷ u ∷ []) is.live in
    three_formed nodes kind.EqualPoints refl cube s u (All-head (λ id. id < length nodes) cube (s ∷ u ∷ []) is.live)
    (All-head (λ id. id < length nodes) s (u ∷ []) rest) (All-head (λ id. id < length nodes) u [] (All-tail (λ id. id < length nodes) s (u ∷ []) rest))
    (three_sorts (sort_of (tree_of nodes cube)) (sort_of (tree_of nodes s)) (sort_of (tree_of nodes u)) sort.Cube sort.Point sort.Point
    (cube_sort c.requires.0 (tree_of nodes s) (tree_of nodes cube) c.requires.1 is.over.0)
    (point_sort binders (tree_of nodes s) (tree_of nodes cube) is.over.0) (point_sort binders (tree_of nodes u) (tree_of nodes cube) is.over.1))

pub returns-in_ok-either-in-Either-clause-tree : goal.returns-in_ok-either-in-Either-clause-tree
returns-in_ok-either-in-Either-clause-tree c =
    let old = c.args.pool.now.nodes in
    let middle = c.make-in-Either.new.pool.nodes in
    let late = c.make-in-Either-2.new.pool.nodes in
    let s = c.in-Either.first in
    let u = c.in-Either.second in
    let is = subst (IsClaim c.args.pool.now.nodes c.requires.0) c.in-Either.is c.requires.2 in
    let up = c.in_ok-up-in-Either.up in
    let down = c.in_ok-down-in-Either.down in
    let s_live = All-head (λ id. id < length old) s (u ∷ []) is.live in
    let u_live = All-head (λ id. id < length old) u [] (All-tail (λ id. id < length old) s (u ∷ []) is.live) in
    let s_is = KeepsTrees-Grows old middle c.make-in-Either.ensures.grows s s_live in
    let u_is = KeepsTrees-Grows old middle c.make-in-Either.ensures.grows u u_live in
    let up_is = KeepsTrees-Grows middle late c.make-in-Either-2.ensures.grows up c.in_ok-up-in-Either.ensures.live ∙ c.in_ok-up-in-Either.ensures.tree in
    let down_is : tree_of late down ≡ at_most (tree_of old u) (tree_of old s) =
    c.in_ok-down-in-Either.ensures.tree ∙ (λ i. at_most (u_is i) (s_is i)) in
    let whole : disjunction (tree_of late up) (tree_of late down) ≡ disjunction (at_most (tree_of old s) (tree_of old u)) (at_most (tree_of old u) (tree_of old s)) =
    λ i. disjunction (up_is i) (down_is i) in
    (c.in_ok-either-in-Either.ensures.tree ∙ whole) ∙ ap (tope_of old) (sym c.in-Either.is)
