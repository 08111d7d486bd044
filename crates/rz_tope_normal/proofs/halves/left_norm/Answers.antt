use Rattle.rz_rules.specs.Tree.{tree_of}
use Rattle.rz_tope_normal.proofs.Halving.{claim_of, left_of_cube, left_carried, left_taken, left_infers, left_through}
use Rattle.rz_tope_normal.proofs.Staying.{Later-extends, equal_later}
use Rattle.rz_tope_normal.proofs.halves.left_norm.Goals as goal

pub carry-requires-clause-of : goal.carry-requires-clause-of
carry-requires-clause-of c = left_of_cube c.args.pool.now.nodes (tree_of c.args.pool.now.nodes c.args.context) c.args.proof.now c.args.half
    c.requires.half

pub carry-requires-clause-carried : goal.carry-requires-clause-carried
carry-requires-clause-carried c =
    left_carried c.args.pool.now.nodes (tree_of c.args.pool.now.nodes c.args.context) c.args.proof.now c.args.half c.requires.half c.len.ensures.pool

pub by_axiom-requires-clause-claim : goal.by_axiom-requires-clause-claim
by_axiom-requires-clause-claim c =
    let ns = c.args.pool.now.nodes in
    claim_of ns (tree_of ns c.args.context) (c.args.half.cube, c.args.half.middle, c.in-Some.form)
    (left_taken ns (tree_of ns c.args.context) c.args.proof.now c.args.half c.requires.half c.in-Some.form c.in-Some.field-0-1
    c.in-Some.ensures.parts)

pub by_axiom-requires-clause-infers : goal.by_axiom-requires-clause-infers
by_axiom-requires-clause-infers c =
    let ns = c.args.pool.now.nodes in
    left_infers ns (tree_of ns c.args.context) c.args.proof.now c.args.half c.requires.half c.in-Some.form c.in-Some.field-0-1 c.in-Some.ensures.parts

pub chain-requires-clause-of : goal.chain-requires-clause-of
chain-requires-clause-of c =
    let ns = c.args.pool.now.nodes in
    left_through ns (tree_of ns c.args.context) c.args.proof.now c.args.half c.requires.half c.in-Some.form c.in-Some.field-0-1
    c.in-Some.ensures.parts

pub chain-requires-clause-first : goal.chain-requires-clause-first
chain-requires-clause-first c =
    let ns = c.args.pool.now.nodes in
    equal_later ns c.carry.new.proof ns c.by_axiom.new.proof (Later-extends ns c.carry.new.proof c.by_axiom.new.proof
    c.in_ok-taken-in-Some.ensures.extends)
    (tree_of ns c.args.context) (tree_of ns c.args.half.cube) c.args.half.point c.args.half.middle c.in_ok-moved.moved c.requires.half.point_live
    c.requires.half.middle_live
    c.in_ok-moved.ensures.equal
