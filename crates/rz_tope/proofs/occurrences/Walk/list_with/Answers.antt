use Rattle.std.proofs.Common.{◌≡◌, ℕ, ◌+◌, ◌≤◌, ◌^◌, List, ◌++◌, length, drop, map, All, sym, ap, subst, ◌∙◌, arith, length-drop}
use Rattle.std.proofs.lemmas.List.{length-map}
use Rattle.rz_rules.specs.declared.coordinates.Coord.{Coord}
use Rattle.rz_rules.specs.Tree.{tree_of}
use Rattle.rz_rules.specs.Validity.{compared}
use Rattle.rz_cube.specs.Point.{binders_at}
use Rattle.rz_tope.specs.Occurrence.{occurrences, added, raised_by, IsNamedBelow}
use Rattle.rz_tope.proofs.Adding.{added_occurrences}
use Rattle.rz_tope.proofs.Naming.{list_below, occurrences-raised}
use Rattle.rz_tope.proofs.occurrences.Walk.list_with.Goals as goal

pub all_raised-requires : goal.all_raised-requires
all_raised-requires c =
    let ns = c.args.pool.now.nodes in
    let behind = c.args.self.now.behind in
    let rest : length c.rest.result.now ≡ length (drop behind c.args.entries.now) = ap length c.rest.ensures.rest in
    let few : length (map (tree_of ns) c.rest.result.now) + behind ≤ 2 ^ 64 =
    omega (arith, length-map c.rest.result.now (tree_of ns), rest, length-drop behind c.args.entries.now, c.rest.ensures.few, c.requires.behind) in
    subst (λ (list : List Coord). All (λ coordinate. IsNamedBelow (2 ^ 64) (raised_by behind coordinate)) list) (sym (c.as_slice.ensures ∙ c.in_ok-list.ensures.list))
    (list_below (binders_at ns c.rest.result.now) (tree_of ns c.args.tope) behind (2 ^ 64) few)

pub returns-clause-list : goal.returns-clause-list
returns-clause-list c =
    let ns = c.args.pool.now.nodes in
    let named = raised_by c.args.self.now.behind in
    let tree = tree_of ns c.args.tope in
    let here = compared (binders_at ns c.rest.result.now) tree in
    let list = c.in_ok-list-2.ensures ∙ ap (map named) (c.as_slice.ensures ∙ c.in_ok-list.ensures.list) ∙ sym (occurrences-raised c.args.self.now.behind here) in
    c.in_ok-add.ensures ∙ (λ i. added (list i) (c.as_slice-2.ensures i)) ∙ added_occurrences (map named here) c.args.self.now.list
    ∙ ap (λ (entries : List ℕ). occurrences (map named (compared (binders_at ns entries) tree) ++ c.args.self.now.list)) c.rest.ensures.rest
