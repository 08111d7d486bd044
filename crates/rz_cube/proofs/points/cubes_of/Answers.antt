use Rattle.std.proofs.Common.{ℕ, List, ◌∷◌, [], ◌++◌, map, append_assoc, sym, ap, subst, ◌∙◌}
use Rattle.std.proofs.lemmas.List.{map-append}
use Rattle.std.proofs.lemmas.List.Elements.{All-push}
use Rattle.rz_rules.specs.Tree.{Tree, tree_of}
use Rattle.rz_rules.specs.Context.{with_entry}
use Rattle.rz_rules.specs.Cube.{cubes_of}
use Rattle.rz_pool.specs.declared.entries.Entry.{Entry}
use Rattle.rz_pool.specs.Cubes.{AreCubes, IsCubeAt}
use Rattle.rz_pool.specs.Entry.{IsEntryAt, entry_over}
use Rattle.rz_cube.proofs.points.cubes_of.Goals as goal

pub loop-last-preserved-in_ok-push : goal.loop-last-preserved-in_ok-push
loop-last-preserved-in_ok-push c =
    let ns = c.args.pool.now.nodes in
    let last = c.in-Some.ensures.last in
    let before = tree_of ns c.in-Some.last.before in
    let cube = c.in-Cube.cube in
    let old = c.loop-last.cubes.items in
    let here = subst (λ (e : Entry). IsEntryAt ns e) c.in-Cube.is last.entry in
    let parts = ap cubes_of last.tree ∙ ap (λ (e : Entry). cubes_of (with_entry before (entry_over ns e))) c.in-Cube.is in
    let are = c.in_ok-push.ensures.items in
    record {
      there = last.before.0;
      live = subst (λ (items : List ℕ). AreCubes ns items) (sym are) (All-push (IsCubeAt ns) old cube c.loop-last.invariant.live here);
      cubes = ap (λ (items : List ℕ). map (tree_of ns) items ++ cubes_of before) are
          ∙ ap (λ (ts : List Tree). ts ++ cubes_of before) (map-append (tree_of ns) old (cube ∷ []))
          ∙ append_assoc (map (tree_of ns) old) (tree_of ns cube ∷ []) (cubes_of before)
          ∙ ap (λ (ts : List Tree). map (tree_of ns) old ++ ts) (sym parts)
          ∙ c.loop-last.invariant.cubes;
    }
