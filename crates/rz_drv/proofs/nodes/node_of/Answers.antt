use Rattle.rz_drv.proofs.Grammar.{no_node}
use Rattle.rz_drv.proofs.nodes.node_of.Goals as goal

pub returns-in-None-clause-none : goal.returns-in-None-clause-none
returns-in-None-clause-none c = no_node _ c.in-Some.parts (rw c.in-Some.is at c.in_ok-parts.ensures.found) c.in-None.ensures.none
