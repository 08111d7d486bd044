use Rattle.rz_tope_proof.specs.Reading.{tope_at}
use Rattle.rz_tope_search.specs.Showing.{Shows}
use Rattle.rz_tope_search.proofs.Showing.{some-at}
use Rattle.rz_tope_search.proofs.branches.derive_pairs.Goals as goal

pub returns-clause-shows : goal.returns-clause-shows
returns-clause-shows c at parts left right tope is over first second =
    c.in_ok-step.ensures.shows at parts left right tope is over
    (some-at (λ s. Shows at c.args.proof.now s (tope_at at.nodes parts left)) c.args.first c.in-Some.one c.in-Some.is first)
    (some-at (λ s. Shows at c.args.proof.now s (tope_at at.nodes parts right)) c.args.second c.in-Some-second.other c.in-Some-second.is second)
