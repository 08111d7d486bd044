use Rattle.rz_tope_query.proofs.Once.{says_once}
use Rattle.rz_tope_query.proofs.laws.one_sequent.Goals as goal

pub returns : goal.returns
returns c = says_once c.one_sequent.ensures.sequents
