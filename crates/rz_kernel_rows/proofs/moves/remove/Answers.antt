use Rattle.std.proofs.Common.{List, map, sym, subst}
use Rattle.std.specs.Prelude.{IfOk}
use Rattle.rz_rules.specs.declared.judgments.Judgment.{Judgment}
use Rattle.rz_rules.specs.Tree.{trees_in}
use Rattle.rz_rules.specs.Judgment.{statement}
use Rattle.rz_rules.specs.Structural.{ConcludesBy}
use Rattle.rz_kernel_rows.specs.Move.{IsConclusion}
use Rattle.rz_kernel_rows.proofs.Lists.{two_items}
use Rattle.rz_kernel_rows.proofs.moves.remove.Goals as goal

pub returns-in-len2-clause-concludes : goal.returns-in-len2-clause-concludes
returns-in-len2-clause-concludes c =
    let ns = c.args.pool.now.nodes in
    subst (λ (js : List Judgment). IfOk c.remove_from.result (IsConclusion c.remove_from.new.pool.nodes (ConcludesBy c.args.scheme c.args.number (map (statement (trees_in ns)) js))))
    (sym (two_items c.args.premises.now _ c.in-len2.len_at_least c.in-len2.len_below)) c.remove_from.ensures.concludes
