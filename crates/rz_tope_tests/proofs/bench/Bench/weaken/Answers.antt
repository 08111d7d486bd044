use Rattle.std.proofs.Common.{◌++◌, ◌∷◌, [], List, length, ap, ◌∙◌, append_assoc, arith}
use Rattle.std.specs.List.{slice_index_or}
use Rattle.std.proofs.lemmas.List.{length-append}
use Rattle.rz_rules.specs.Judgment.{Statement}
use Rattle.rz_tope_tests.specs.Bench.{moved, said}
use Rattle.rz_tope_tests.proofs.Picking.{can_move_on}
use Rattle.rz_tope_tests.proofs.bench.Bench.weaken.Goals as goal

pub weaken_step-requires-clause-can : goal.weaken_step-requires-clause-can
weaken_step-requires-clause-can c =
    let kept = c.loop-row.invariant in
    let row = slice_index_or c.args.rows.now c.loop-row.row-index (0, 0, 0) in
    can_move_on (said c.args.self.now) (said c.loop-row.self) kept.more kept.said_is row.0 row.1 row.2 (c.requires.can c.loop-row.row-index (0, 0, 0) c.loop-row-test.true)

pub loop-row-preserved : goal.loop-row-preserved
loop-row-preserved c =
    let kept = c.loop-row.invariant in
    let row = slice_index_or c.args.rows.now c.loop-row.row-index (0, 0, 0) in
    let can = can_move_on (said c.args.self.now) (said c.loop-row.self) kept.more kept.said_is row.0 row.1 row.2
    (c.requires.can c.loop-row.row-index (0, 0, 0) c.loop-row-test.true) in
    let says = moved (said c.loop-row.self) row.0 row.1 row.2 can in
    let now = c.in_ok-weaken_step.ensures.said can in
    record {
      bench = c.in_ok-weaken_step.ensures.bench;
      trees_are = c.in_ok-weaken_step.ensures.trees ∙ kept.trees_are;
      more = kept.more ++ says ∷ [];
      said_is = now ∙ ap (λ (s : List Statement). s ++ says ∷ []) kept.said_is ∙ append_assoc (said c.args.self.now) kept.more (says ∷ []);
      count = omega (arith, ap length now, length-append (said c.loop-row.self) (says ∷ []), kept.count);
    }
