use Rattle.rz_reduction.proofs.Turns.{remainder_none, pieces_turn, outcome-append}
use Rattle.rz_reduction.proofs.laws.pieces.Goals as goal

pub returns-clause-begin : goal.returns-clause-begin
returns-clause-begin c = remainder_none

pub returns-clause-go_on : goal.returns-clause-go_on
returns-clause-go_on c = pieces_turn

pub returns-clause-append : goal.returns-clause-append
returns-clause-append c = outcome-append
