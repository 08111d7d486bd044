use Rattle.std.proofs.Common.{List, map, sym, subst}
use Rattle.std.specs.Prelude.{IfOk}
use Rattle.rz_rules.specs.declared.judgments.Judgment.{Judgment}
use Rattle.rz_rules.specs.Tree.{trees_in}
use Rattle.rz_rules.specs.Judgment.{statement}
use Rattle.rz_rules.specs.Structural.{IsWeakening}
use Rattle.rz_kernel_rows.specs.Move.{IsConclusion}
use Rattle.rz_kernel_rows.proofs.Lists.{two_items}
use Rattle.rz_kernel_rows.proofs.moves.weaken.Goals as goal

pub returns-in-len2-clause-concludes : goal.returns-in-len2-clause-concludes
returns-in-len2-clause-concludes c =
    let ns = c.args.pool.now.nodes in
    subst (λ (js : List Judgment). IfOk c.weaken_by.result (IsConclusion c.weaken_by.new.pool.nodes (IsWeakening c.args.number (map (statement (trees_in ns)) js))))
    (sym (two_items c.args.premises.now _ c.in-len2.len_at_least c.in-len2.len_below)) c.weaken_by.ensures.concludes
