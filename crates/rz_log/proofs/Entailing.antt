-- The three answers on a tope, and what they say.
use Rattle.std.proofs.Common.{◌≡◌, ℕ, ◌<◌, ◌≤◌, true≢false, length, sym, ◌∙◌}
use Rattle.rz_rules.specs.Structural.{holds}
use Rattle.rz_rules.specs.Tree.{Tree}
use Rattle.rz_rules.specs.Validity.{IsValid, RankList, occurring, Refutes, coordinates_limit}
use Rattle.rz_rules.proofs.Entailment.{entailment_valid, entailment_invalid, entailment_over}
use Rattle.rz_log.specs.declared.entail.Entailed.TheVariants.{Yes, No, Silent}
use Rattle.rz_log.specs.declared.world.World.{World}
use Rattle.rz_log.specs.Entail.{IsEntailed}
use Rattle.rz_log.specs.World.{Says}

module _ (w : World) (context tope : Tree) where
  abbrev count : ℕ
  count = length (occurring context tope)

  -- a tope that ranks refute isn't valid
  refuted_invalid : (ranks : RankList) → Refutes context tope ranks → IsValid context tope → ⊥
  refuted_invalid ranks refutes valid = true≢false (sym (valid ranks refutes.ranks_are refutes.context_is_true) ∙ refutes.tope_is_false)

  pub yes_is : (step : ℕ) → count ≤ coordinates_limit → IsValid context tope → Says w step (holds context tope) → IsEntailed w context tope (Yes step)
  yes_is step few valid says = ((entailment_valid context tope).1 (few, valid), says)

  pub no_is : (ranks : RankList) → count ≤ coordinates_limit → Refutes context tope ranks → IsEntailed w context tope (No ranks)
  no_is ranks few refutes = ((entailment_invalid context tope).1 (few, refuted_invalid ranks refutes), refutes)

  pub silent_is : (number : ℕ) → coordinates_limit < number → number ≡ count → IsEntailed w context tope (Silent number)
  silent_is number many same = (entailment_over context tope number).1 (many, same)

  pub of_yes : (step : ℕ) → IsEntailed w context tope (Yes step) → (count ≤ coordinates_limit) × IsValid context tope
  of_yes step is = (entailment_valid context tope).0 is.0

  pub of_no : (ranks : RankList) → IsEntailed w context tope (No ranks) → count ≤ coordinates_limit
  of_no ranks is = ((entailment_invalid context tope).0 is.0).0

  pub of_silent : (number : ℕ) → IsEntailed w context tope (Silent number) → (coordinates_limit < number) × (number ≡ count)
  of_silent number is = (entailment_over context tope number).0 is
