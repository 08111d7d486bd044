use Rattle.std.proofs.Common.{◌≡◌, ℕ, ◌+◌, ◌-◌, ◌<◌, ◌≤◌, length, get_or, set, replicate, Option, Some, None, inl, inr, sym, ap, subst, ◌∙◌, arith, length-set}
use Rattle.std.specs.Prelude.{is_some}
use Rattle.std.proofs.lemmas.Bool.{true≢false}
use Rattle.rz_tope_proof.specs.Part.{part_at, IsMadeOf}
use Rattle.rz_tope_search.specs.Branch.{IsDone, has_step}
use Rattle.rz_tope_proof.proofs.Proving.{Extends-same, Extends-both}
use Rattle.rz_tope_search.proofs.Assuming.{IsDone-later, IsMadeOf-later, made-at, done-true, here_or_later}
use Rattle.std.proofs.lemmas.List.{get_or-set_same, get_or_past, length-replicate}
use Rattle.rz_tope_proof.specs.Reading.{tope_at}
use Rattle.rz_tope_search.specs.Showing.{ProvesSteps}
use Rattle.rz_tope_search.proofs.Lists.{read-at}
use Rattle.rz_tope_search.proofs.Showing.{reading-later, read-at-part, steps-set, steps-none}
use Rattle.rz_tope_search.proofs.branches.Branch.assume.Goals as goal

pub assume_form-requires-clause-form : goal.assume_form-requires-clause-form
assume_form-requires-clause-form c =
    IsMadeOf-later (c.loop-next.next - 1) (length c.loop-next.steps.items) c.args.places.now.count _
    (omega (arith, c.loop-next.invariant.within, c.loop-next.invariant.all))
    (made-at c.args.places.now.count c.args.parts.now c.requires.parts (c.loop-next.next - 1)
    (omega (arith, c.loop-next.invariant.within, c.loop-next-test.true, c.requires.part)))

pub returns-clause-holds : goal.returns-clause-holds
returns-clause-holds c le value model =
    done-true c.args.places.now.count c.args.parts.now c.requires.parts c.loop-next.self c.loop-next.steps.items
    (λ k h. c.loop-next.invariant.done k (omega arith) h) le value model c.args.part c.requires.part c.loop-next.invariant.itself

pub loop-next-preserved : goal.loop-next-preserved
loop-next-preserved c =
    let old = c.loop-next.invariant in
    let steps = c.loop-next.steps.items in
    let n = c.loop-next.next - 1 in
    let none : Option ℕ = None in
    let empty : none ≡ get_or steps n none = subst (λ (r : Option ℕ). r ≡ get_or steps n r) c.in_default.is c.index.ensures in
    record {
      within = omega (arith, old.within);
      all = old.all;
      itself = old.itself;
      branch = old.branch;
      refines = old.refines;
      done = λ k le h. elim (here_or_later c.loop-next.next k c.loop-next-test.true le) [
        | inl here ↦ absurd (true≢false (sym h ∙ ap (λ m. has_step steps m) here ∙ ap (λ (o : Option ℕ). is_some o) (sym empty)))
        | inr later ↦ old.done k later h
      ];
      extends = old.extends;
      proves = old.proves;
      infers = old.infers;
    }

pub loop-next-preserved-in-Continue-branch-2 : goal.loop-next-preserved-in-Continue-branch-2
loop-next-preserved-in-Continue-branch-2 c =
    let old = c.loop-next.invariant in
    let new = c.in_ok-assume_form.ensures in
    let count = c.args.places.now.count in
    let parts = c.args.parts.now in
    let n = c.loop-next.next - 1 in
    let there : n < length parts = omega (arith, old.within, c.loop-next-test.true, c.requires.part) in
    let made : IsMadeOf n count (part_at parts n).form = made-at count parts c.requires.parts n there in
    let within : n < length c.loop-next.steps.items = omega (arith, old.within, old.all, c.loop-next-test.true) in
    let found : get_or c.loop-next.steps.items n None ≡ Some c.in-Some.known =
    read-at c.loop-next.steps.items n c.index.result.now None within c.index.ensures ∙ c.in-Some.is in
    record {
      within = omega (arith, old.within);
      all = new.all ∙ old.all;
      itself = new.kept c.args.part old.itself;
      branch = new.branch;
      refines = λ le value model. old.refines le value (new.refines le value model);
      done = λ k le h. elim (here_or_later c.loop-next.next k c.loop-next-test.true le) [
        | inl here ↦ subst (λ m. IsDone count parts c.assume_form.new.self c.assume_form.new.steps.items (part_at parts m).form) (sym here) new.done
        | inr later ↦ IsDone-later count parts c.loop-next.self c.assume_form.new.self c.loop-next.steps.items c.assume_form.new.steps.items
            (part_at parts k).form new.kept new.refines (old.done k later (sym (new.others n k made le) ∙ h))
      ];
      extends = Extends-both c.args.proof.now c.loop-next.proof c.assume_form.new.proof old.extends new.extends;
      proves = λ at is shows proves.
          let now = reading-later at parts c.args.proof.now c.loop-next.proof old.extends c.args.places.now is in
          new.proves at (tope_at at.nodes parts n) now (read-at-part at c.loop-next.proof c.args.places.now parts now n there).form
          (old.infers at is shows n c.in-Some.known found) (old.proves at is shows proves);
      infers = λ at is shows.
          let now = reading-later at parts c.args.proof.now c.loop-next.proof old.extends c.args.places.now is in
          new.infers at (tope_at at.nodes parts n) now (read-at-part at c.loop-next.proof c.args.places.now parts now n there).form
          (old.infers at is shows n c.in-Some.known found) (old.infers at is shows);
    }

pub loop-next-init : goal.loop-next-init
loop-next-init c =
    let part = c.args.part in
    let items = c.in_ok-steps.steps.items in
    let are : items ≡ replicate (part + 1) None = c.in_ok-steps.ensures in
    let some : Option ℕ = Some c.args.step in
    let none : Option ℕ = None in
    let long : length items ≡ part + 1 = ap length are ∙ length-replicate (part + 1) none in
    let all : length (set items part some) ≡ part + 1 = length-set items part some ∙ long in
    let past : (k : ℕ) → part + 1 ≤ k → get_or (set items part some) k none ≡ none =
    λ k le. get_or_past (set items part some) k none (omega (arith, all, le)) in
    record {
      within = omega arith;
      all = all;
      itself = ap (λ (o : Option ℕ). is_some o) (get_or-set_same items part some none (omega (arith, long)));
      branch = c.requires.branch;
      refines = λ le value model. model;
      done = λ k le h. absurd (true≢false (sym h ∙ ap (λ (o : Option ℕ). is_some o) (past k le)));
      extends = Extends-same c.args.proof.now;
      proves = λ at is shows proves. proves;
      infers = λ at is shows. steps-set at c.args.proof.now c.args.parts.now items part c.args.step
          (subst (ProvesSteps at c.args.proof.now c.args.parts.now) (sym are) (steps-none at c.args.proof.now c.args.parts.now (part + 1))) shows;
    }
