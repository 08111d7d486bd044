use Rattle.rz_print.proofs.Back.{file_readable}
use Rattle.rz_print.proofs.laws.parsed_forms_are_readable.Goals as goal

pub returns : goal.returns
returns c = file_readable
