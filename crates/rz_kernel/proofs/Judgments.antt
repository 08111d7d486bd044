-- A step of the file over the ids of its nodes in the pool.
use Rattle.std.proofs.Common.{◌≡◌, ℕ, ◌<◌, List, length, get_or, map, All, sym, ap, subst, ◌∙◌}
use Rattle.std.proofs.lemmas.List.{length-map}
use Rattle.rz_rules.specs.declared.judgments.Judgment.{Judgment}
use Rattle.rz_rules.specs.declared.judgments.Line.{Line}
use Rattle.rz_rules.specs.Tree.{sort_of, tree_at, tree_of, trees_in}
use Rattle.rz_rules.specs.Judgment.{kind_of, ids_of, context_of, parts_of, sorts_of}
use Rattle.rz_rules.specs.File.{StepFits, step_over}
use Rattle.rz_kernel_rows.specs.Line.{IsJudgmentOver, step_of}
use Rattle.rz_kernel.specs.declared.state.KernelState.{KernelState}
use Rattle.rz_kernel.specs.State.{file_state, IsKernelState}
use Rattle.rz_kernel.proofs.Adding.{placed_trees, places_low}

module _ (state : KernelState) (is : IsKernelState state) (line : Line) (fits : StepFits (file_state state) line) where
  pub ids_there : All (λ id. id < length state.places.items) (ids_of line.says)
  ids_there = subst (λ (k : ℕ). All (λ id. id < k) (ids_of line.says)) (length-map state.places.items (tree_of state.pool.nodes)) fits.ids

  module _ (placed : Judgment) (kind : kind_of placed ≡ kind_of line.says) (ids : ids_of placed ≡ map (λ id. get_or state.places.items id 0) (ids_of line.says)) where
    trees : map (tree_of state.pool.nodes) (ids_of placed) ≡ map (tree_at (file_state state).trees) (ids_of line.says)
    trees = ap (map (tree_of state.pool.nodes)) ids ∙ sym (placed_trees (trees_in state.pool.nodes) state.places.items (ids_of line.says) ids_there)

    pub placed_over : IsJudgmentOver state.pool.nodes placed
    placed_over = record {
      live = subst (λ (ids : List ℕ). All (λ id. id < length state.pool.nodes) ids) (sym ids)
          (places_low state.places.items (ids_of line.says) (length state.pool.nodes) is.places ids_there);
      sorts = ap (map sort_of) trees ∙ fits.sorts ∙ ap sorts_of (sym kind);
    }

    pub placed_step : step_of state.pool.nodes (record { row = line.row; number = line.number; says = placed; from = line.from }) ≡ step_over (file_state state).trees line
    placed_step =
        let all = trees in
        let context : tree_of state.pool.nodes (context_of placed) ≡ tree_at (file_state state).trees (context_of line.says) = cc in
        let parts : map (tree_of state.pool.nodes) (parts_of placed) ≡ map (tree_at (file_state state).trees) (parts_of line.says) = cc in
        λ i. record { row = line.row; number = line.number; says = record { kind = kind i; context = context i; parts = parts i }; from = line.from }
