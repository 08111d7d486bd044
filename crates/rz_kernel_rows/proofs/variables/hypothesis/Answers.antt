use Rattle.std.proofs.Common.{List, map, sym, subst}
use Rattle.std.specs.Prelude.{IfOk}
use Rattle.rz_rules.specs.declared.judgments.Judgment.{Judgment}
use Rattle.rz_rules.specs.Tree.{trees_in}
use Rattle.rz_rules.specs.Judgment.{statement}
use Rattle.rz_rules.specs.Structural.{IsHypothesis}
use Rattle.rz_kernel_rows.specs.Move.{IsConclusion}
use Rattle.rz_kernel_rows.proofs.Lists.{one_item}
use Rattle.rz_kernel_rows.proofs.variables.hypothesis.Goals as goal

pub returns-in-len1-clause-concludes : goal.returns-in-len1-clause-concludes
returns-in-len1-clause-concludes c =
    let ns = c.args.pool.now.nodes in
    subst (λ (js : List Judgment). IfOk c.hypothesis_by.result (IsConclusion c.hypothesis_by.new.pool.nodes (IsHypothesis c.args.number (map (statement (trees_in ns)) js))))
    (sym (one_item c.args.premises.now _ c.in-len1.len_at_least c.in-len1.len_below)) c.hypothesis_by.ensures.concludes
