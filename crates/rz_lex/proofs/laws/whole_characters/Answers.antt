use Rattle.rz_lex.proofs.Cuts.{tokens_are_whole}
use Rattle.rz_lex.proofs.laws.whole_characters.Goals as goal

pub returns : goal.returns
returns c = tokens_are_whole
