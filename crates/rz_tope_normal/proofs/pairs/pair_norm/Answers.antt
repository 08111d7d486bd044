use Rattle.std.proofs.Common.{[], ◌∷◌, sym, subst}
use Rattle.rz_rules.specs.declared.rows.Row.TheVariants as row
use Rattle.rz_rules.specs.Tree.{Tree, tree_of}
use Rattle.rz_tope_proof.specs.Proving.{Infers, Pairs}
use Rattle.rz_rules.specs.Tope.{equal_points}
use Rattle.rz_tope_proof.proofs.Proving.{extended_proof}
use Rattle.rz_tope_normal.proofs.Staying.{Later-extends, equal_later}
use Rattle.rz_tope_normal.proofs.pairs.pair_norm.Goals as goal

pub close-requires-2-clause-equal : goal.close-requires-2-clause-equal
close-requires-2-clause-equal c =
    let ns = c.args.pool.now.nodes in
    let pair = c.args.pair in
    equal_later ns c.args.proof.now ns c.close.new.proof (Later-extends ns c.args.proof.now c.close.new.proof c.in_ok-first.ensures.extends)
    (tree_of ns c.args.context) (tree_of ns pair.cubes.1) pair.points.1 pair.norms.1.form pair.norms.1.equation
    c.requires.pair.second.first_live c.requires.pair.second.second_live c.requires.pair.second_norm.equation

pub by_two-requires-clause-infers : goal.by_two-requires-clause-infers
by_two-requires-clause-infers c =
    let ns = c.args.pool.now.nodes in
    let pair = c.args.pair in
    let is = c.requires.pair in
    let one = equal_points (tree_of ns pair.cubes.0) (tree_of ns pair.points.0) (tree_of ns pair.norms.0.form) in
    let other = equal_points (tree_of ns pair.cubes.1) (tree_of ns pair.points.1) (tree_of ns pair.norms.1.form) in
    record {
      said = one;
      other = other;
      first_proved = extended_proof ns (tree_of ns c.args.context) c.close.new.proof c.close-2.new.proof c.in_ok-second.ensures.extends
          c.in_ok-first.ensures.proves;
      second_proved = c.in_ok-second.ensures.proves;
      infers = subst (λ (tope : Tree). Infers row.EqualPair (one ∷ other ∷ []) tope)
          (λ i. equal_points (sym is.cube i) (sym is.point i) (sym is.form i)) Pairs;
    }
