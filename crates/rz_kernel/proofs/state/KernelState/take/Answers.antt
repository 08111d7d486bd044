use Rattle.rz_kernel.proofs.state.KernelState.take.Goals as goal

pub returns-in-Step-clause-follows : goal.returns-in-Step-clause-follows
returns-in-Step-clause-follows c = rw c.in-Step.is c.take_step.ensures.follows
