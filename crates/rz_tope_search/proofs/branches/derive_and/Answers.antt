use Rattle.std.proofs.Common.{sym, subst}
use Rattle.rz_tope_proof.specs.Proving.{Both}
use Rattle.rz_rules.specs.Tope.{conjunction}
use Rattle.rz_tope_search.specs.Showing.{Shows}
use Rattle.rz_tope_search.proofs.Showing.{some-at}
use Rattle.rz_tope_search.proofs.branches.derive_and.Goals as goal

pub returns-clause-shows : goal.returns-clause-shows
returns-clause-shows c at p q is_claim says first second =
    subst (Shows at c.infer_two.new.proof c.in_ok-step.step) (sym says)
    (c.in_ok-step.ensures.shows at p q (conjunction p q) is_claim says Both
    (some-at (λ s. Shows at c.args.proof.now s p) c.args.first c.in-Some.one c.in-Some.is first)
    (some-at (λ s. Shows at c.args.proof.now s q) c.args.second c.in-Some-second.other c.in-Some-second.is second))
