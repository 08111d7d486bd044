use Rattle.rz_lex.proofs.Reading.{lexed_stops, bad_once}
use Rattle.rz_lex.proofs.laws.one_ending.Goals as goal

pub returns-clause-apart : goal.returns-clause-apart
returns-clause-apart c text tokens line column lexed bad = lexed_stops text tokens bad.place lexed bad.stops

pub returns-clause-one : goal.returns-clause-one
returns-clause-one c = bad_once
