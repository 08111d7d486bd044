-- The lines of a sound log are a derivation.
use Rattle.std.proofs.Common.{◌≡◌, ℕ, List, [], ◌∷◌, ◌++◌, Some, length, map, slice_get, refl, sym, ap, subst, ◌∙◌, append_assoc}
use Rattle.std.proofs.Math.Seq.{take-append_seam}
use Rattle.rz_rules.specs.declared.nodes.Node.{Node}
use Rattle.rz_rules.specs.declared.judgments.Line.{Line}
use Rattle.rz_rules.specs.Judgment.{Statement}
use Rattle.rz_rules.specs.Derivation.{Follows, Step}
use Rattle.rz_metatheory.specs.Derivation.{Derives, FollowAfter}
use Rattle.rz_metatheory.specs.Good.{IsGoodStatement}
use Rattle.rz_metatheory.proofs.Derived.{derived_good}
use Rattle.rz_log.specs.declared.world.World.{World}
use Rattle.rz_log.specs.Log.{IsSoundLog, statements_of, step_of}
use Rattle.rz_log.specs.World.{IsSound, Says}
use Rattle.rz_log.proofs.Worlds.{statements_append}

at_seam : {X : Type 0} (xs : List X) (x : X) (ys : List X) → slice_get (xs ++ x ∷ ys) (length xs) ≡ Some x
at_seam [] x ys = refl
at_seam (first ∷ xs) x ys = at_seam xs x ys

follow_after : (nodes : List Node) (front lines : List Line) → IsSoundLog nodes (front ++ lines) → FollowAfter (statements_of nodes front) (map (step_of nodes) lines)
follow_after nodes front [] sound = tt
follow_after nodes front (line ∷ lines) sound = (
  subst (λ (before : List Line). Follows (statements_of nodes before) (step_of nodes line)) (take-append_seam front (line ∷ lines))
      (sound.follow (length front) line (at_seam front line lines)),
  subst (λ (earlier : List Statement). FollowAfter earlier (map (step_of nodes) lines)) (statements_append nodes front (line ∷ []))
      (follow_after nodes (front ++ line ∷ []) lines (subst (IsSoundLog nodes) (sym (append_assoc front (line ∷ []) lines)) sound)),
)

says_of_steps : (nodes : List Node) (lines : List Line) → map (λ (step : Step). step.says) (map (step_of nodes) lines) ≡ statements_of nodes lines
says_of_steps nodes [] = refl
says_of_steps nodes (line ∷ lines) = ap (λ (others : List Statement). (step_of nodes line).says ∷ others) (says_of_steps nodes lines)

pub derives_at : (w : World) (step : ℕ) (says : Statement) → IsSound w → Says w step says → Derives says
derives_at w step says sound there = (
  map (step_of w.pool.nodes) w.log,
  follow_after w.pool.nodes [] w.log sound.log,
  step,
  ap (λ (ss : List Statement). slice_get ss step) (says_of_steps w.pool.nodes w.log) ∙ there,
)

pub good_at : (w : World) (step : ℕ) (says : Statement) → IsSound w → Says w step says → IsGoodStatement says
good_at w step says sound there = derived_good says (derives_at w step says sound there)
