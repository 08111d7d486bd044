use Rattle.std.proofs.Common.{List, All, sym, subst, ◌∙◌}
use Rattle.std.proofs.lemmas.List.Elements.{All-push}
use Rattle.rz_rules.specs.declared.judgments.Judgment.{Judgment}
use Rattle.rz_kernel_rows.specs.Line.{IsJudgmentOver}
use Rattle.rz_kernel_rows.proofs.lines.is_spelled_by_row.Goals as goal

pub is_instance-requires : goal.is_instance-requires
is_instance-requires c =
    let P : Judgment → Type 0 = IsJudgmentOver c.args.pool.now.nodes in
    record {
      judgments = subst (λ (js : List Judgment). All P js) (sym (c.deref.ensures.value ∙ c.in_ok-push.ensures.items)) (All-push P c.args.premises.items c.args.line.now.says c.requires.premises c.requires.line);
      known = c.requires.known;
    }
