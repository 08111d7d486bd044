use Rattle.rz_pool.proofs.kept.Kept.find.Goals as goal

pub returns-in-Some-clause-kept : goal.returns-in-Some-clause-kept
returns-in-Some-clause-kept c = rw c.in-Some.is c.find_in.ensures.kept
