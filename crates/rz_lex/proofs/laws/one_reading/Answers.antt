use Rattle.rz_lex.proofs.Reading.{lexed_once}
use Rattle.rz_lex.proofs.laws.one_reading.Goals as goal

pub returns : goal.returns
returns c = lexed_once
