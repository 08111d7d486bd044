use Rattle.std.proofs.Common.{List, All, sym, subst, ◌∙◌}
use Rattle.std.proofs.lemmas.List.Elements.{All-map}
use Rattle.rz_rules.specs.declared.judgments.Judgment.{Judgment}
use Rattle.rz_kernel_rows.specs.Line.{IsJudgmentOver}
use Rattle.rz_kernel_rows.proofs.lines.follows.Goals as goal

pub follows_with-answer-requires-clause-said : goal.follows_with-answer-requires-clause-said
follows_with-answer-requires-clause-said c =
    let Over = IsJudgmentOver c.args.pool.now.nodes in
    subst (λ (judgments : List Judgment). All Over judgments) (sym (c.deref.ensures.value ∙ c.in_ok-said.ensures))
    (All-map Over (λ line. line.says) c.args.lines.now c.requires.lines)
