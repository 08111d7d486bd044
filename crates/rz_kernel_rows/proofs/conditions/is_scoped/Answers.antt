use Rattle.rz_kernel_rows.proofs.MetConditions.{holds_scoped}
use Rattle.rz_kernel_rows.proofs.conditions.is_scoped.Goals as goal

pub returns-in-Holds-clause-scoped : goal.returns-in-Holds-clause-scoped
returns-in-Holds-clause-scoped c = holds_scoped c.args.pool.now.nodes c.is_over.result c.args.says c.in-Holds.c c.in-Holds.phi c.in-Holds.is c.is_over.ensures.over
