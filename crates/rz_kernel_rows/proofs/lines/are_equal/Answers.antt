use Rattle.std.proofs.lemmas.Slice.Eq.{slice_eq-Decides}
use Rattle.rz_kernel_rows.proofs.EqualJudgments.{judgments_Decides}
use Rattle.rz_kernel_rows.proofs.lines.are_equal.Goals as goal

pub returns : goal.returns
returns c = slice_eq-Decides judgments_Decides c.args.these.now c.args.those.now c.eq.result c.eq.ensures
