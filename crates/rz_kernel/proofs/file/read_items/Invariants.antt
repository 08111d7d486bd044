use Rattle.rz_drv.specs.Reading.{left}
use Rattle.rz_kernel.specs.State.{file_state, IsKernelState}
use Rattle.rz_kernel.specs.Run.{HasTaken}
use Rattle.rz_kernel.proofs.file.read_items.Given as goal

-- the state is what the items that were read give
abbrev pub invariant-loop-state : goal.invariant-loop-state
invariant-loop-state l = record {
  taken : HasTaken l.bytes l.reader (file_state l.state);
  over : IsKernelState l.state;
}

abbrev pub decreases-loop-state : goal.decreases-loop-state
decreases-loop-state l = left l.reader
