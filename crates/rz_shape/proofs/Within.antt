-- A point that is read, and the cube that is wanted of it.
use Rattle.std.proofs.Common.{◌≡◌, ℕ, ◌<◌, Bool, true, false, List, sym, ap, length, ◌∙◌}
use Rattle.std.specs.Prelude.{Ok, if◌then◌else◌}
use Rattle.rz_rules.specs.declared.nodes.Node.{Node}
use Rattle.rz_rules.specs.declared.verdicts.Refusal.TheVariants.{BadPoint}
use Rattle.rz_rules.specs.Tree.{tree_of}
use Rattle.rz_pool.specs.Pool.{Grows}
use Rattle.rz_pool.proofs.Nodes.{KeepsTrees-Grows}
use Rattle.rz_rules.specs.Same.{same_tree}
use Rattle.rz_syntax.specs.declared.forms.Raw.{Raw}
use Rattle.rz_syntax.specs.declared.forms.Form.{Form}
use Rattle.rz_shape.specs.declared.steps.Outcome.{Outcome}
use Rattle.rz_shape.specs.Answer.{IsRead}
use Rattle.rz_shape.specs.Reading.{Bindings, PlacedPoint, Reading, and_then, of_cube, point_of_cube, point_reading, refusal}
use Rattle.rz_shape.specs.Walk.{IsOutcome}

module _ (ns ms : List Node) (grows : Grows ns ms) (bound : Bindings) (forms : List Form) (depth : ℕ) (raw : Raw) (cube : ℕ) (there : cube < length ns)
    (outcome : Outcome) (read : IsOutcome ms (point_reading bound forms depth raw) outcome) where
  tested : (same : Bool) → same_tree (tree_of ms outcome.cube) (tree_of ms cube) ≡ same
      → point_of_cube bound forms depth (tree_of ns cube) raw ≡ (if same then Ok (tree_of ms outcome.node) else refusal BadPoint raw)
  tested same test =
      let kept = KeepsTrees-Grows ns ms grows cube there in
      ap (λ (reading : Reading PlacedPoint). and_then reading (of_cube raw (tree_of ns cube))) read.is
      ∙ ap (λ (same : Bool). if same then Ok (tree_of ms outcome.node) else refusal BadPoint raw) (sym (ap (same_tree (tree_of ms outcome.cube)) kept) ∙ test)

  pub is_within : same_tree (tree_of ms outcome.cube) (tree_of ms cube) ≡ true → IsRead ms (point_of_cube bound forms depth (tree_of ns cube) raw) outcome.node
  is_within test = record { live = read.there.node; is = tested true test }

  pub is_elsewhere : same_tree (tree_of ms outcome.cube) (tree_of ms cube) ≡ false → point_of_cube bound forms depth (tree_of ns cube) raw ≡ refusal BadPoint raw
  is_elsewhere test = tested false test
