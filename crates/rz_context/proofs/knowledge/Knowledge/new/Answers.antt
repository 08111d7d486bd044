use Rattle.std.proofs.Common.{sym, ap, ◌∙◌}
use Rattle.std.specs.Map.{lookup}
use Rattle.rz_context.specs.contracts.knowledge.ViewPartialEq.TheImpl.{eq-value}
use Rattle.rz_context.proofs.knowledge.Knowledge.new.Goals as goal

pub returns : goal.returns
returns c nodes = record {
  summaries = c.new.ensures nodes;
  views = λ view cached e. let wrong = sym (ap (lookup (eq-value.it view)) c.with_hasher.ensures.empty) ∙ e in absurd cc;
}
