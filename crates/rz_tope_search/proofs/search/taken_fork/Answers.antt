use Rattle.rz_tope_search.proofs.Values.{or_left, or_right}
use Rattle.rz_tope_search.proofs.search.taken_fork.Goals as goal

pub returns-clause-is : goal.returns-clause-is
returns-clause-is c =
    let sides = c.take-waiting.result.sides in
    record {
      branch = c.take-waiting.ensures.branch;
      left = c.take-waiting.ensures.sides.0;
      right = c.take-waiting.ensures.sides.1;
      left_refines = λ le value model h. c.take-waiting.ensures.refines le value model (or_left (value sides.0) (value sides.1) h);
      right_refines = λ le value model h. c.take-waiting.ensures.refines le value model (or_right (value sides.0) (value sides.1) h);
    }
