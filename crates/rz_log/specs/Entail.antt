-- What is answered of a tope in a context.
use Rattle.std.specs.Prelude.{◌≡◌}
use Rattle.rz_rules.specs.Tree.{Tree}
use Rattle.rz_rules.specs.Structural.{holds}
use Rattle.rz_rules.specs.Validity.{Entailment, Valid, Invalid, Refutes, entailment}
use Rattle.rz_log.specs.declared.entail.Entailed.{Entailed}
use Rattle.rz_log.specs.declared.entail.Entailed.TheVariants.{Yes, No, Silent}
use Rattle.rz_log.specs.declared.world.World.{World}
use Rattle.rz_log.specs.World.{Says}

-- the right answer: the tope is valid, and a step says that it holds; or it is invalid, and ranks refute it; or so many
-- coordinates occur, which are too many
abbrev pub IsEntailed : World → Tree → Tree → Entailed → Type 0
IsEntailed w context tope (Yes step) = (entailment context tope ≡ Valid) × Says w step (holds context tope)
IsEntailed w context tope (No ranks) = (entailment context tope ≡ Invalid) × Refutes context tope ranks
IsEntailed w context tope (Silent count) = entailment context tope ≡ Entailment.Over count
