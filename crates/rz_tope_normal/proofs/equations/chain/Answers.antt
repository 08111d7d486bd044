use Rattle.std.proofs.Common.{Some}
use Rattle.rz_rules.specs.Tree.{tree_of}
use Rattle.rz_tope_proof.specs.Proving.{Transitive}
use Rattle.rz_rules.specs.Tope.{equal_points}
use Rattle.rz_tope_normal.proofs.Staying.{equal_is}
use Rattle.rz_tope_normal.proofs.equations.chain.Goals as goal

pub by_two-requires-clause-infers : goal.by_two-requires-clause-infers
by_two-requires-clause-infers c =
    let ns = c.args.pool.now.nodes in
    let context = tree_of ns c.args.context in
    let cube = tree_of ns c.args.of.0 in
    record {
      said = equal_points cube (tree_of ns c.args.of.1) (tree_of ns c.args.between);
      other = equal_points cube (tree_of ns c.args.between) (tree_of ns c.args.of.2);
      first_proved = equal_is ns context c.args.proof.now cube c.args.of.1 c.args.between c.args.first (Some c.in-Some.one) c.in-Some.is
          c.requires.first;
      second_proved = equal_is ns context c.args.proof.now cube c.args.between c.args.of.2 c.args.second (Some c.in-Some-second.other)
          c.in-Some-second.is c.requires.second;
      infers = Transitive;
    }
