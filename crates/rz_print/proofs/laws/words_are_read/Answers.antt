use Rattle.rz_print.proofs.Marking.{form_is_read}
use Rattle.rz_print.proofs.laws.words_are_read.Goals as goal

pub returns : goal.returns
returns c = form_is_read
