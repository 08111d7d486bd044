-- What is found of a tope over a context.
use Rattle.std.specs.Prelude.{List, []}
use Rattle.rz_rules.specs.declared.nodes.Node.{Node}
use Rattle.rz_rules.specs.Tree.{Tree}
use Rattle.rz_tope_proof.specs.Proving.{Proves}
use Rattle.rz_rules.specs.Validity.{Refutes}
use Rattle.rz_solver.specs.declared.solver.Answer.{Answer}
use Rattle.rz_solver.specs.declared.solver.Answer.TheVariants.{Proved, Refuted}

-- it is proved, or ranks refute it
abbrev pub IsAnswer : List Node → Tree → Tree → Answer → Type 0
IsAnswer nodes context tope (Proved proof step) = Proves nodes context proof [] step tope
IsAnswer nodes context tope (Refuted ranks) = Refutes context tope ranks
