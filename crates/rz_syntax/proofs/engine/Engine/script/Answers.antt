use Rattle.std.proofs.Common.{ap, ◌∙◌, reverse}
use Rattle.rz_syntax.proofs.engine.Engine.script.Goals as goal

pub returns : goal.returns
returns c = c.in_ok-script.ensures ∙ c.as_slice.ensures.value ∙ c.reverse.ensures.items ∙ ap reverse c.in_ok-steps.ensures
