use Rattle.std.proofs.Common.{arith, ap, ◌∙◌}
use Rattle.rz_syntax.specs.Lists.{list_at}
use Rattle.rz_syntax.proofs.Linking.{count-of, empty-of, first-of}
use Rattle.rz_syntax.proofs.lists.Lists.first.Goals as goal

pub returns-then-list-eq-EMPTY-clause-none : goal.returns-then-list-eq-EMPTY-clause-none
returns-then-list-eq-EMPTY-clause-none g c = ap (list_at c.args.self.now) c.if-list-eq-EMPTY.true ∙ empty-of c.self.inside.cells.items c.args.self.now c.self.view_is

pub index-cell-requires : goal.index-cell-requires
index-cell-requires g c = omega (arith, count-of c.self.inside.cells.items c.args.self.now c.self.view_is, c.self.inside.cells.ok.0)

pub returns-clause-some : goal.returns-clause-some
returns-clause-some g c = (first-of c.self.inside.cells.items c.args.self.now c.args.list c.index-cell.result.now c.self.view_is c.self.invariant (omega arith) c.requires c.index-cell.ensures).0

pub returns-clause-before : goal.returns-clause-before
returns-clause-before g c = (first-of c.self.inside.cells.items c.args.self.now c.args.list c.index-cell.result.now c.self.view_is c.self.invariant (omega arith) c.requires c.index-cell.ensures).1
