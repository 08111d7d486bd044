use Rattle.rz_export.proofs.OnePart.{one_part}
use Rattle.rz_export.proofs.laws.one_part.Goals as goal

pub returns : goal.returns
returns c = one_part
