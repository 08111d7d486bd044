use Rattle.std.proofs.Common.{arith}
use Rattle.rz_syntax.proofs.Linking.{count-of}
use Rattle.rz_syntax.proofs.lists.Lists.len.Goals as goal

pub returns : goal.returns
returns g c = omega (arith, count-of c.self.inside.cells.items c.args.self.now c.self.view_is, c.self.inside.cells.ok.0, c.len.ensures)
