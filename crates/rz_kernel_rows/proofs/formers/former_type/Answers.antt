use Rattle.rz_kernel_rows.proofs.Owning.{former_type_is}
use Rattle.rz_kernel_rows.proofs.formers.former_type.Goals as goal

pub returns-in-Some-clause-typed : goal.returns-in-Some-clause-typed
returns-in-Some-clause-typed c =
    former_type_is c.args.pool.now.nodes c.read_typing.new.pool.nodes c.args.context c.args.term c.in-Some.typing (rw c.in-Some.is at c.in_ok-typing.ensures.typed)

pub returns-in-None-clause-typed : goal.returns-in-None-clause-typed
returns-in-None-clause-typed c type is h = (rw c.in-None.is at c.in_ok-typing.ensures.none) type h.0 h.1
