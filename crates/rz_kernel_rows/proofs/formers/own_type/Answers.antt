use Rattle.std.proofs.Common.{ap, sym, ◌∙◌}
use Rattle.rz_rules.specs.Tree.{kind_at, tree_of}
use Rattle.rz_context.specs.Knowledge.{IsKnown}
use Rattle.rz_kernel_rows.proofs.Concluding.{anyway}
use Rattle.rz_kernel_rows.proofs.Owning.{own_former, own_variable, types_alike}
use Rattle.rz_kernel_rows.proofs.formers.own_type.Goals as goal

pub returns-in-TermVariable-clause-typed : goal.returns-in-TermVariable-clause-typed
returns-in-TermVariable-clause-typed c =
    let ns = c.args.pool.now.nodes in
    types_alike c.variable_type.result c.variable_type.new.pool.nodes _ _
    (own_variable (tree_of ns c.args.context) (tree_of ns c.args.term) (ap kind_at c.node.ensures.tree ∙ c.in-TermVariable.is)) c.variable_type.ensures.typed

pub returns-in_default : goal.returns-in_default
returns-in_default c =
    let ns = c.args.pool.now.nodes in
    record {
      typed = types_alike c.former_type.result c.former_type.new.pool.nodes _ _
          (own_former (tree_of ns c.args.context) (tree_of ns c.args.term) (λ kind. c.in_default.not-TermVariable (sym (ap kind_at c.node.ensures.tree) ∙ kind))) c.former_type.ensures.typed;
      known = anyway c.former_type.result (IsKnown ns c.args.known.now) c.requires.known;
      grows = c.former_type.ensures.grows;
      pool = c.former_type.ensures.pool;
    }
