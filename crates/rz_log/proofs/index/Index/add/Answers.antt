use Rattle.std.proofs.Common.{sym, ◌∙◌}
use Rattle.rz_log.proofs.Firsts.{index_stays}
use Rattle.rz_log.proofs.index.Index.add.Goals as goal

pub returns-in-Some-clause-ok : goal.returns-in-Some-clause-ok
returns-in-Some-clause-ok c said is last = index_stays said c.args.says c.args.self.now c.in-Some.field-0 (sym c.find.ensures ∙ c.in-Some.is) is
