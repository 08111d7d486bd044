use Rattle.std.proofs.Common.{refl}
use Rattle.rz_rules.specs.Tree.{tree_of}
use Rattle.rz_tope_proof.specs.declared.proof.Reason.TheVariants as reason
use Rattle.rz_tope_normal.proofs.Inferring.{extends, hypothesis_proves}
use Rattle.rz_tope_normal.proofs.steps.hypothesis.Goals as goal

pub returns-clause-proves : goal.returns-clause-proves
returns-clause-proves c =
    hypothesis_proves c.args._pool.now.nodes (tree_of c.args._pool.now.nodes c.args._context) c.args.proof.now c.infer.new.self c.args.claim
    c.requires.claim (reason.Hypothesis c.args.number)
    c.in_ok-step.ensures.added c.in_ok-step.step c.in_ok-step.ensures.number c.args.number refl c.requires.given

pub returns-clause-extends : goal.returns-clause-extends
returns-clause-extends c =
    extends c.args._pool.now.nodes (tree_of c.args._pool.now.nodes c.args._context) c.args.proof.now c.infer.new.self c.args.claim c.requires.claim
    (reason.Hypothesis c.args.number)
    c.in_ok-step.ensures.added c.in_ok-step.step c.in_ok-step.ensures.number
