-- What is known stays while the pool grows.
use Rattle.std.proofs.Common.{◌≡◌, ℕ, suc, ◌<◌, true, List, [], ◌∷◌, length, map, refl, All, Option, Some, None, sym, ap, subst, ◌∙◌, arith}
use Rattle.std.specs.Prelude.{slice_get, ◌↔◌}
use Rattle.rz_rules.specs.declared.nodes.Node.{Node}
use Rattle.rz_rules.specs.Tree.{Tree, sort_of, tree_of}
use Rattle.rz_rules.specs.Cube.{Binders, binders_of, cubes_of}
use Rattle.rz_rules.specs.Tope.{cube_of, IsTopeOver}
use Rattle.rz_pool.specs.Pool.{Grows}
use Rattle.rz_pool.proofs.Nodes.{slice_get-front, length-Grows, KeepsTrees-Grows}
use Rattle.std.proofs.lemmas.Option.{slice_get_within}
use Rattle.rz_context.specs.declared.knowledge.Knowledge.{Knowledge}
use Rattle.rz_context.specs.declared.knowledge.Cached.{Cached}
use Rattle.rz_context.specs.declared.knowledge.View.{View}
use Rattle.rz_context.specs.declared.summaries.Summary.{Summary}
use Rattle.rz_pool.specs.Cubes.{IsCubeAt, IsCubeId}
use Rattle.rz_context.specs.Knowledge.{IsKnown, IsCachedOf, IsViewed, CachesKids}
use Rattle.rz_context.specs.Summary.{AreSummaries, IsSummary, IsStart, measured}

module _ (ns ms : List Node) (grows : Grows ns ms) where
  pub same_tree : (id : ℕ) → id < length ns → tree_of ms id ≡ tree_of ns id
  same_tree id lt = KeepsTrees-Grows ns ms grows id lt

  pub same_trees : (ids : List ℕ) → All (λ id. id < length ns) ids → map (tree_of ms) ids ≡ map (tree_of ns) ids
  same_trees [] low = refl
  same_trees (id ∷ ids) low =
      let first : tree_of ms id ≡ tree_of ns id = same_tree id (low 0 0 (omega arith)) in
      let rest : map (tree_of ms) ids ≡ map (tree_of ns) ids = same_trees ids (λ k d lt. low (suc k) d (omega arith)) in
      cc

  pub IsCubeAt-Grows : (id : ℕ) → IsCubeAt ns id → IsCubeAt ms id
  IsCubeAt-Grows id cube = (omega (arith, cube.0, length-Grows ns ms grows), ap sort_of (same_tree id cube.0) ∙ cube.1)

  pub IsCubeId-Grows : (cube : Option Tree) (cached : Option ℕ) → IsCubeId ns cube cached → IsCubeId ms cube cached
  IsCubeId-Grows cube None h = record { there = tt; is = h.is }
  IsCubeId-Grows cube (Some id) h = record { there = IsCubeAt-Grows id h.there; is = h.is ∙ ap (λ t. Some t) (sym (same_tree id h.there.0)) }

  -- an old id has its old node
  pub old_node : (id : ℕ) (node : Node) → id < length ns → slice_get ms id ≡ Some node → slice_get ns id ≡ Some node
  old_node id node lt at = slice_get-front ns grows.added id node lt (sym (ap (λ (ns : List Node). slice_get ns id) grows.is) ∙ at)

  pub CachesKids-Grows : (known : Knowledge) (context id : ℕ) → id < length ns → CachesKids ns known context id → CachesKids ms known context id
  CachesKids-Grows known context id lt cached node at = cached node (old_node id node lt at)

  pub IsCachedOf-Grows : (binders : Binders) (id : ℕ) (cached : Cached) → IsCachedOf ns binders id cached → IsCachedOf ms binders id cached
  IsCachedOf-Grows binders id cached is =
      let one : tree_of ms id ≡ tree_of ns id = same_tree id is.live in
      record {
        live = omega (arith, is.live, length-Grows ns ms grows);
        point = subst (λ (t : Tree). IsCubeId ms (cube_of binders t) cached.cube) (sym one) (IsCubeId-Grows (cube_of binders (tree_of ns id)) cached.cube is.point);
        tope = subst (λ (t : Tree). (cached.is_over ≡ true) ↔ IsTopeOver binders t) (sym one) is.tope;
      }

  IsViewed-Grows : (view : View) (cached : Cached) → IsViewed ns view cached → IsViewed ms view cached
  IsViewed-Grows view cached is = record {
    there = omega (arith, is.there, length-Grows ns ms grows);
    is = subst (λ (t : Tree). IsCachedOf ms (binders_of t) view.node cached) (sym (same_tree view.context is.there))
        (IsCachedOf-Grows (binders_of (tree_of ns view.context)) view.node cached is.is);
  }

  IsSummary-Grows : (id : ℕ) (summary : Summary) → id < length ns → summary.further_out < length ns → summary.scope < length ns → IsSummary ns id summary → IsSummary ms id summary
  IsSummary-Grows id summary lt low scope is = record {
    measures = λ by. is.measures by ∙ ap (measured by) (sym (same_tree id lt));
    cubes = ap cubes_of (same_tree summary.scope scope) ∙ (is.cubes ∙ ap cubes_of (sym (same_tree id lt)));
    start = subst (λ (t : Tree). IsStart t (tree_of ms id)) (sym (same_tree summary.further_out low))
        (subst (λ (t : Tree). IsStart (tree_of ns summary.further_out) t) (sym (same_tree id lt)) is.start);
  }

  AreSummaries-Grows : (summaries : List Summary) → AreSummaries ns summaries → AreSummaries ms summaries
  AreSummaries-Grows summaries are = record {
    few = omega (arith, are.few, length-Grows ns ms grows);
    low = are.low;
    each = λ id summary at.
        let within = slice_get_within summaries id summary at in
        let low = are.low id summary at in
        IsSummary-Grows id summary (omega (arith, within, are.few)) (omega (arith, within, low.0, are.few)) (omega (arith, within, low.1, are.few)) (are.each id summary at);
  }

  pub IsKnown-Grows : (known : Knowledge) → IsKnown ns known → IsKnown ms known
  IsKnown-Grows known is = record {
    summaries = AreSummaries-Grows known.summaries.summaries.items is.summaries;
    views = λ view cached e. IsViewed-Grows view cached (is.views view cached e);
  }
