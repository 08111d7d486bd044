use Rattle.rz_reduction.proofs.Place.{redex_at_place, step_at_place, elimination_does_not_meet, redex_at_meeting}
use Rattle.rz_reduction.proofs.laws.place.Goals as goal

pub returns-clause-redexes : goal.returns-clause-redexes
returns-clause-redexes c = redex_at_place

pub returns-clause-steps : goal.returns-clause-steps
returns-clause-steps c = step_at_place

pub returns-clause-elimination : goal.returns-clause-elimination
returns-clause-elimination c = elimination_does_not_meet

pub returns-clause-meets : goal.returns-clause-meets
returns-clause-meets c = redex_at_meeting
