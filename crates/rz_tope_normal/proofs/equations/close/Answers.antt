use Rattle.std.proofs.Common.{◌≡◌, ℕ, [], None, subst}
use Rattle.rz_rules.specs.declared.rows.Row.TheVariants as row
use Rattle.rz_rules.specs.Tree.{tree_of}
use Rattle.rz_tope_proof.specs.Proving.{Infers, Reflexive}
use Rattle.rz_rules.specs.Tope.{equal_points}
use Rattle.rz_tope_normal.proofs.Staying.{equal_is}
use Rattle.rz_tope_normal.proofs.equations.close.Goals as goal

pub by_axiom-requires-clause-infers : goal.by_axiom-requires-clause-infers
by_axiom-requires-clause-infers c =
    let ns = c.args.pool.now.nodes in
    let same : c.args.of.1 ≡ c.args.of.2 =
    equal_is ns (tree_of ns c.args.context) c.args.proof.now (tree_of ns c.args.of.0) c.args.of.1 c.args.of.2 c.args.equation None c.in-None.is
    c.requires.equal in
    subst (λ (u : ℕ). Infers row.EqualReflexive [] (equal_points (tree_of ns c.args.of.0) (tree_of ns c.args.of.1) (tree_of ns u))) same Reflexive
