use Rattle.std.proofs.Common.{ℕ, ◌<◌, List, length, All, sym, subst}
use Rattle.std.proofs.lemmas.List.Elements.{All-nil}
use Rattle.rz_rules.specs.declared.judgments.Judgment.{Judgment}
use Rattle.rz_kernel_rows.specs.Line.{IsJudgmentOver}
use Rattle.rz_kernel.proofs.state.KernelState.new.Goals as goal

pub returns-clause-state : goal.returns-clause-state
returns-clause-state c =
    let nodes = c.keyed-pool.result.nodes in
    record {
      places = subst (λ (places : List ℕ). All (λ place. place < length nodes) places) (sym c.new-2.ensures.items) (All-nil (λ (place : ℕ). place < length nodes));
      said = subst (λ (judgments : List Judgment). All (IsJudgmentOver nodes) judgments) (sym c.new-3.ensures.items) (All-nil (IsJudgmentOver nodes));
      known = c.new.ensures nodes;
    }
