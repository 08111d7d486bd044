use Rattle.std.proofs.Common.{arith}
use Rattle.rz_drv.proofs.Sorts.{node_fits, fitting_node}
use Rattle.rz_drv.proofs.outlines.Outline.takes_node.Goals as goal

pub returns : goal.returns
returns c = λ known is. (
  λ yes. node_fits known c.args.self.now c.args.node.now c.as_slice.result.now c.form.result.kids.now is c.as_slice.ensures.value c.form.ensures.kids c.requires
      (omega (arith, c.if-self-gt0.false)) c.if-self.false (c.have_slots.ensures.0 yes),
  λ fits. c.have_slots.ensures.1 (fitting_node known c.args.self.now c.args.node.now c.as_slice.result.now c.form.result.kids.now is c.as_slice.ensures.value c.form.ensures.kids fits),
)
