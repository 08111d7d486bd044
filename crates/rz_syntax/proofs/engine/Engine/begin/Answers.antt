use Rattle.rz_syntax.proofs.Weaving.{ways-start}
use Rattle.rz_syntax.proofs.engine.Engine.begin.Goals as goal

pub returns-clause-live : goal.returns-clause-live
returns-clause-live c = ways-start _ _ _ _ _ c.args.rule c.in_ok-symbols.symbols c.requires.symbols c.requires.steps c.requires.live c.in_ok-symbols.ensures.added c.in_ok-symbols.ensures.number c.in_ok-push.ensures.items
