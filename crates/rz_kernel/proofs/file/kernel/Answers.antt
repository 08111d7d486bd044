use Rattle.std.proofs.Common.{arith}
use Rattle.rz_kernel.specs.declared.answer.KernelAnswer.TheVariants.{Malformed}
use Rattle.rz_kernel.proofs.Runs.{only_answer}
use Rattle.rz_kernel.proofs.file.kernel.Goals as goal

pub returns-in-Ok-clause-only : goal.returns-in-Ok-clause-only
returns-in-Ok-clause-only c other says = only_answer c.args.bytes.now c.in-Ok.answer other (omega arith) c.in-Ok.ensures.answer says

pub returns-in-Err-Malformed-clause-only : goal.returns-in-Err-Malformed-clause-only
returns-in-Err-Malformed-clause-only c other says =
    only_answer c.args.bytes.now (Malformed c.in-Err-Malformed.line) other (omega arith) (rw c.in-Err-Malformed.field-0-is at c.in-Err-Malformed.ensures.fault) says
