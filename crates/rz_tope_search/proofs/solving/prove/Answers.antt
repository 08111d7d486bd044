use Rattle.std.proofs.Common.{◌≡◌, ℕ, ◌<◌, List, length, Bool, true, false, Option, None, refl, sym, ap, ◌∙◌, subst, arith}
use Rattle.std.specs.Prelude.{is_some}
use Rattle.rz_tope_search.specs.Asked.{is_marked}
use Rattle.rz_tope_search.specs.Conjunct.{IsConjunct}
use Rattle.rz_tope_search.specs.Search.{IsRefuted}
use Rattle.rz_tope_search.proofs.Lists.{read-at}
use Rattle.rz_tope_search.proofs.Conjoining.{refutes-whole}
use Rattle.rz_tope_proof.proofs.Proving.{Extends-both, Extends-same}
use Rattle.rz_tope_search.specs.Branch.{has_step}
use Rattle.rz_tope_search.specs.Showing.{ProvesSteps}
use Rattle.rz_tope_search.specs.Solving.{ProvesConjunct}
use Rattle.rz_tope_search.proofs.Leaves.{has-next}
use Rattle.rz_tope_search.proofs.Showing.{branch-later, reading-later, steps-later, steps-none, steps-push}
use Rattle.rz_tope_search.proofs.solving.prove.Goals as goal

pub returns-in-Refuted-clause-found : goal.returns-in-Refuted-clause-found
returns-in-Refuted-clause-found c =
    let count = c.args.places.now.count in
    let parts = c.args.parts.now in
    let part = c.loop-part.part in
    let marks = c.in_ok-marks.marks.items in
    let asked = c.index-in-loop-part.result.now in
    let found : (asked ≡ true) × IsRefuted count parts c.args.root.now part c.in-Refuted.table =
    subst (IsConjunct count parts c.args.root.now part asked) c.in-Refuted.is c.in_ok-step.ensures.conjunct in
    let within : part < length marks = omega (arith, c.loop-part-test.true, c.len-part-end.ensures) in
    let marked : is_marked marks part ≡ true = read-at marks part asked false within c.index-in-loop-part.ensures ∙ found.0 in
    refutes-whole count parts c.args.root.now c.args.goal part c.in-Refuted.table (c.in_ok-marks.ensures.follow part marked) found.1

pub loop-part-init : goal.loop-part-init
loop-part-init c = record {
  all = ap length c.new-steps.ensures.items;
  inferred = λ k lt a. absurd (omega (arith, lt));
  extends = Extends-same c.args.proof.now;
  proves = λ at is root. subst (ProvesSteps at c.args.proof.now c.args.parts.now) (sym c.new-steps.ensures.items)
      (steps-none at c.args.proof.now c.args.parts.now 0);
}

pub loop-part-preserved : goal.loop-part-preserved
loop-part-preserved c =
    let count = c.args.places.now.count in
    let places = c.args.places.now in
    let parts = c.args.parts.now in
    let part = c.loop-part.part in
    let marks = c.in_ok-marks.marks.items in
    let steps = c.loop-part.steps.items in
    let old = c.loop-part.invariant in
    let asked = c.index-in-loop-part.result.now in
    let found = c.in_ok-step.ensures in
    let conjunct : asked ≡ true → is_some c.in-Step.step ≡ true =
    subst (IsConjunct count parts c.args.root.now part asked) c.in-Step.is found.conjunct in
    let within : part < length marks = omega (arith, c.loop-part-test.true, c.len-part-end.ensures) in
    let marked = read-at marks part asked false within c.index-in-loop-part.ensures in
    let some : Bool = true in
    record {
      all = omega (arith, c.in_ok-push-in-Step.ensures.len, old.all);
      inferred = λ k lt a. subst (λ (s : List (Option ℕ)). has_step s k ≡ true) (sym c.in_ok-push-in-Step.ensures.items)
          (has-next steps c.in-Step.step part (is_marked marks) (λ _. some) old.all (λ j less b _. old.inferred j less b)
          (λ b _. conjunct (sym marked ∙ b)) k lt a refl);
      extends = Extends-both c.args.proof.now c.loop-part.proof c.prove_conjunct.new.proof old.extends found.extends;
      proves = λ at is root.
          let p0 = c.args.proof.now in
          let p1 = c.loop-part.proof in
          let p2 = c.prove_conjunct.new.proof in
          let known = old.proves at is root in
          let shown = found.proves at (reading-later at parts p0 p1 old.extends places is)
          (branch-later at parts p0 p1 old.extends places c.args.root.now root)
          (subst (ProvesSteps at p1 parts) (sym c.deref.ensures.value) known) in
          subst (ProvesSteps at p2 parts) (sym c.in_ok-push-in-Step.ensures.items)
          (steps-push at p2 parts steps c.in-Step.step part old.all (steps-later at parts p1 p2 found.extends steps known)
          (subst (ProvesConjunct at p2 parts part) c.in-Step.is shown));
    }

pub returns-clause-proves : goal.returns-clause-proves
returns-clause-proves c at is root =
    let steps = c.loop-part.steps.items in
    let there : c.args.goal < length steps =
    omega (arith, c.loop-part.invariant.all, c.loop-part-test.false, c.len-part-end.ensures, c.in_ok-marks.ensures.all) in
    c.loop-part.invariant.proves at is root c.args.goal c.in-Some.step
    (read-at steps c.args.goal c.index-2.result.now None there c.index-2.ensures ∙ c.in-Some.is)
