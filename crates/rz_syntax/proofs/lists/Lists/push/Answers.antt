use Rattle.std.proofs.Common.{arith, [], ◌∷◌}
use Rattle.rz_syntax.proofs.Linking.{count-of, linked-push, grown-push}
use Rattle.rz_syntax.proofs.lists.Lists.push.Goals as goal

pub invariant_of-self-2 : goal.invariant_of-self-2
invariant_of-self-2 g c = rw c.in_ok-push.ensures.items (linked-push 1 c.self.inside.cells.items (c.args.first, c.args.others) c.self.invariant (omega (arith, count-of c.self.inside.cells.items c.args.self.now c.self.view_is, c.requires)))

pub returns-clause-number : goal.returns-clause-number
returns-clause-number g c = omega (arith, c.len.ensures, c.in_ok-push.ensures.len, count-of c.self.inside.cells.items c.args.self.now c.self.view_is, c.self.inside.cells.ok.0)

pub returns-clause-added : goal.returns-clause-added
returns-clause-added g c = rw (c.in_ok-push.ensures.items, ← c.self.view_is) (grown-push ([] ∷ []) c.self.inside.cells.items (c.args.first, c.args.others))
