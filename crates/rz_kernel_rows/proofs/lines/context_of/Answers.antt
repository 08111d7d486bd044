use Rattle.std.proofs.Common.{[], List, All, Some, get_or, map, sym, subst}
use Rattle.std.proofs.lemmas.List.Elements.{All-head}
use Rattle.rz_rules.specs.declared.judgments.Judgment.{Judgment}
use Rattle.rz_rules.specs.declared.judgments.Judgment.TheVariants.{Formed}
use Rattle.rz_rules.specs.Tree.{trees_in}
use Rattle.rz_rules.specs.Judgment.{context_of, statement}
use Rattle.rz_rules.specs.Structural.{IsContextOf}
use Rattle.rz_kernel_rows.specs.Line.{IsJudgmentOver}
use Rattle.rz_kernel_rows.specs.Move.{IsConclusion}
use Rattle.rz_kernel_rows.proofs.Concluding.{context_conclusion}
use Rattle.rz_kernel_rows.proofs.Judged.{formed_over}
use Rattle.rz_kernel_rows.proofs.Lists.{one_item}
use Rattle.rz_kernel_rows.proofs.lines.context_of.Goals as goal

pub returns-in-len1 : goal.returns-in-len1
returns-in-len1 c nodes over =
    let premises = one_item c.args.premises.now (Formed 0) c.in-len1.len_at_least c.in-len1.len_below in
    let premise = get_or c.args.premises.now 0 (Formed 0) in
    let first = All-head (IsJudgmentOver nodes) premise [] (subst (All (IsJudgmentOver nodes)) premises over) in
    rw c.context.ensures
    (subst (λ (js : List Judgment). IsConclusion nodes (IsContextOf (map (statement (trees_in nodes)) js)) (Some (Formed (context_of premise)))) (sym premises)
    (context_conclusion nodes premise first (formed_over nodes premise first)))
