-- What is answered of a question.
use Rattle.std.proofs.Common.{ℕ, subst}
use Rattle.rz_rules.specs.Structural.{formed}
use Rattle.rz_rules.specs.Tree.{Tree}
use Rattle.rz_log.specs.declared.entail.Entailed.{Entailed}
use Rattle.rz_log.specs.declared.world.World.{World}
use Rattle.rz_log.specs.Entail.{IsEntailed}
use Rattle.rz_log.specs.World.{Says, context_at}
use Rattle.rz_log.proofs.Saying.{context_is}

-- what is answered in the context of a step
pub entailed_in : (old new : World) (at : ℕ) (context tope : Tree) (entailed : Entailed) → Says old at (formed context)
    → IsEntailed new (context_at old at) tope entailed → IsEntailed new context tope entailed
entailed_in old new at context tope entailed says is =
    subst (λ (t : Tree). IsEntailed new t tope entailed) (context_is old at context says) is
