use Rattle.std.proofs.Common.{sym, subst}
use Rattle.std.specs.Prelude.{IfOk}
use Rattle.rz_rules.specs.Tree.{Tree, tree_of}
use Rattle.rz_rules.specs.Structural.{IsVariable}
use Rattle.rz_kernel_rows.specs.Move.{IsTypeFor}
use Rattle.rz_kernel_rows.proofs.Giving.{variable_tree}
use Rattle.rz_kernel_rows.proofs.variables.variable_type.Goals as goal

pub returns-in-TermVariable-clause-typed : goal.returns-in-TermVariable-clause-typed
returns-in-TermVariable-clause-typed c =
    let ns = c.args.pool.now.nodes in
    let n = c.node-node.result.now in
    let term = variable_tree ns c.args.term n c.node-node.ensures.tree c.node-node.ensures.form c.in-TermVariable.is in
    subst (λ (t : Tree). IfOk c.type_at.result (IsTypeFor c.type_at.new.pool.nodes (IsVariable (tree_of ns c.args.context) t))) (sym term) c.type_at.ensures.typed
