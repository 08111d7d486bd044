use Rattle.std.proofs.Common.{Some, None, sym, ap, ◌≡◌, ◌∙◌}
use Rattle.rz_log.proofs.Firsts.{index_front}
use Rattle.rz_log.proofs.index.Index.remove.Goals as goal

pub returns-else-first-step : goal.returns-else-first-step
returns-else-first-step c said is last =
    index_front said c.args.says c.args.self.now
    (λ there. c.if-first-step.false
    (let same : Some c.in-Some.first ≡ Some c.args.step = sym c.in-Some.is ∙ (c.find.ensures ∙ (there ∙ sym (ap Some last))) in cc))
    is

pub returns-in-None : goal.returns-in-None
returns-in-None c said is last =
    index_front said c.args.says c.args.self.now
    (λ there. let wrong : None ≡ Some c.args.step = sym c.in-None.is ∙ (c.find.ensures ∙ (there ∙ sym (ap Some last))) in absurd cc)
    is
