use Rattle.std.proofs.Common.{sym, subst}
use Rattle.rz_tope_proof.specs.Proving.{FirstSide, SecondSide}
use Rattle.rz_rules.specs.Tope.{disjunction}
use Rattle.rz_tope_search.specs.Showing.{Shows}
use Rattle.rz_tope_search.proofs.Showing.{some-at}
use Rattle.rz_tope_search.proofs.branches.derive_or.Goals as goal

pub returns-in-Some-clause-shows : goal.returns-in-Some-clause-shows
returns-in-Some-clause-shows c at p q is_claim says first second =
    subst (Shows at c.infer_one.new.proof c.in_ok-step.step) (sym says)
    (c.in_ok-step.ensures.shows at p (disjunction p q) is_claim says FirstSide
    (some-at (λ s. Shows at c.args.proof.now s p) c.args.first c.in-Some.one c.in-Some.is first))

pub returns-clause-shows : goal.returns-clause-shows
returns-clause-shows c at p q is_claim says first second =
    subst (Shows at c.infer_one-2.new.proof c.in_ok-step-2.step) (sym says)
    (c.in_ok-step-2.ensures.shows at q (disjunction p q) is_claim says SecondSide
    (some-at (λ s. Shows at c.args.proof.now s q) c.args.second c.in-Some-second.other c.in-Some-second.is second))
