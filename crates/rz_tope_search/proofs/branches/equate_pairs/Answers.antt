use Rattle.std.proofs.Common.{◌≡◌, Option, Some, sym, ap, subst, ◌∙◌}
use Rattle.std.specs.Prelude.{option_and_then}
use Rattle.rz_rules.specs.Tree.{Tree, tree_of}
use Rattle.rz_rules.specs.Cube.{Binders, binders_of, product, left_part, right_part}
use Rattle.rz_rules.specs.Tope.{IsPointOf, IsTopeOver, equal_points, left, right, pair}
use Rattle.rz_tope_proof.specs.Proving.{Pairs, PairOfParts, Symmetric, Transitive}
use Rattle.rz_tope_proof.proofs.Proving.{Extends-both}
use Rattle.rz_tope_search.specs.Showing.{Shows}
use Rattle.rz_tope_search.proofs.Showing.{claim-equal, shows-later}
use Rattle.rz_tope_search.proofs.branches.equate_pairs.Goals as goal

-- the pair of a point's parts is a point of the same product
pair-of : (binders : Binders) (cube one other s : Tree) → cube ≡ product one other → IsPointOf binders cube s
    → IsPointOf binders cube (pair (left s) (right s))
pair-of binders cube one other s is point =
    let paired = λ (o : Option Tree). option_and_then (λ (l : Tree). option_and_then (λ (r : Tree). Some (product l r)) (option_and_then right_part o))
    (option_and_then left_part o) in
    ap paired (point ∙ ap (λ (t : Tree). Some t) is) ∙ ap (λ (t : Tree). Some t) (sym is)

pub returns-clause-shows : goal.returns-clause-shows
returns-clause-shows c at parts one other tope is over first second =
    let nodes = at.nodes in
    let binders = binders_of at.context in
    let of = c.args.of in
    let pairs = c.args.pairs in
    let cube = tree_of nodes of.0 in
    let s = tree_of nodes of.1 in
    let t = tree_of nodes of.2 in
    let a = is.one_cube in
    let b = is.other_cube in
    let p = pair (left s) (right s) in
    let q = pair (left t) (right t) in
    let points = subst (IsTopeOver binders) is.says over in
    let p_point = subst (IsPointOf binders cube) (sym is.left_pair) (pair-of binders cube a b s is.cube points.0) in
    let q_point = subst (IsPointOf binders cube) (sym is.right_pair) (pair-of binders cube a b t is.cube points.1) in
    let p0 = c.args.proof.now in
    let p1 = c.infer_two.new.proof in
    let p2 = c.infer_axiom.new.proof in
    let p3 = c.infer_axiom-2.new.proof in
    let p4 = c.infer_one.new.proof in
    let p5 = c.infer_two-2.new.proof in
    let from2 = Extends-both p2 p3 p4 c.in_ok-back.ensures.extends c.in_ok-end.ensures.extends in
    let from1 = Extends-both p1 p2 p4 c.in_ok-start.ensures.extends from2 in
    let whole = product a b in
    let middle = c.in_ok-middle.ensures.shows at (equal_points a (left s) (left t)) (equal_points b (right s) (right t)) (equal_points whole p q)
    (claim-equal nodes at.context of.0 pairs.0 pairs.1 is.cube_live is.left_live is.right_live p_point q_point)
    (λ i. equal_points (is.cube i) (is.left_pair i) (is.right_pair i)) Pairs
    (subst (Shows at p0 c.args.left) is.first first) (subst (Shows at p0 c.args.right) is.second second) in
    let start = c.in_ok-start.ensures.shows at (equal_points whole s p)
    (claim-equal nodes at.context of.0 of.1 pairs.0 is.cube_live is.one_live is.left_live points.0 p_point)
    (λ i. equal_points (is.cube i) s (is.left_pair i)) PairOfParts in
    let back = c.in_ok-back.ensures.shows at (equal_points whole t q)
    (claim-equal nodes at.context of.0 of.2 pairs.1 is.cube_live is.other_live is.right_live points.1 q_point)
    (λ i. equal_points (is.cube i) t (is.right_pair i)) PairOfParts in
    let end = c.in_ok-end.ensures.shows at (equal_points whole t q) (equal_points whole q t)
    (claim-equal nodes at.context of.0 pairs.1 of.2 is.cube_live is.right_live is.other_live q_point points.1)
    (λ i. equal_points (is.cube i) (is.right_pair i) t) Symmetric back in
    let front = c.in_ok-front.ensures.shows at (equal_points whole s p) (equal_points whole p q) (equal_points whole s q)
    (claim-equal nodes at.context of.0 of.1 pairs.1 is.cube_live is.one_live is.right_live points.0 q_point)
    (λ i. equal_points (is.cube i) s (is.right_pair i)) Transitive
    (shows-later at p2 p4 from2 c.in_ok-start.start (equal_points whole s p) start)
    (shows-later at p1 p4 from1 c.in_ok-middle.middle (equal_points whole p q) middle) in
    let last = c.in_ok-last.ensures.shows at (equal_points whole s q) (equal_points whole q t) (equal_points whole s t)
    (claim-equal nodes at.context of.0 of.1 of.2 is.cube_live is.one_live is.other_live points.0 points.1)
    (λ i. equal_points (is.cube i) s t) Transitive front
    (shows-later at p4 p5 c.in_ok-front.ensures.extends c.in_ok-end.end (equal_points whole q t) end) in
    subst (Shows at c.infer_two-3.new.proof c.in_ok-last.last) ((λ i. equal_points (sym is.cube i) s t) ∙ sym is.says)
    last
