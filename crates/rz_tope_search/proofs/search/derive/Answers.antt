use Rattle.std.proofs.Common.{◌≡◌, ℕ, ◌<◌, List, true, false, Option, Some, None, length, sym, ap, subst, ◌∙◌, arith}
use Rattle.std.specs.Prelude.{is_some, slice_get}
use Rattle.std.proofs.lemmas.Option.{slice_get-get_or}
use Rattle.rz_tope_search.specs.Asked.{is_marked}
use Rattle.rz_tope_search.specs.Branch.{has_step}
use Rattle.rz_tope_proof.specs.Part.{value_over, part_at}
use Rattle.rz_tope_search.specs.Status.{holds_in}
use Rattle.rz_tope_search.specs.Table.{order_of}
use Rattle.rz_tope_search.proofs.RankOrders.{and_true}
use Rattle.rz_tope_search.proofs.Lists.{read-at}
use Rattle.rz_tope_search.proofs.Leaves.{has-next, asked-value}
use Rattle.rz_tope_proof.proofs.Proving.{Extends-same, Extends-both}
use Rattle.rz_tope_search.specs.Showing.{ProvesSteps}
use Rattle.rz_tope_search.proofs.Showing.{read-at-part, reading-later, steps-later, steps-none, steps-push, table-later}
use Rattle.rz_tope_search.proofs.search.derive.Goals as goal

pub loop-part-preserved : goal.loop-part-preserved
loop-part-preserved c =
    let old = c.loop-part.invariant in
    let parts = c.args.parts.now in
    let i = c.loop-part.part in
    let le = order_of c.args.table.now in
    let asked = c.in_ok-asked.asked.items in
    let steps = c.loop-part.steps.items in
    let holds = holds_in c.args.list.now in
    let within : i < length asked = omega (arith, c.loop-part-test.true, c.len-part-end.ensures) in
    let there : i < length parts = omega (arith, within, c.in_ok-asked.ensures.all, c.requires.goal) in
    let at : slice_get parts i ≡ Some (part_at parts i) = slice_get-get_or parts i _ there in
    let form = (part_at parts i).form in
    let here : is_marked asked i ≡ true → holds i ≡ true → is_some c.in_ok-step.step ≡ true =
    λ a h.
    let mark : c.index.result.now ≡ true = sym (read-at asked i c.index.result.now false within c.index.ensures) ∙ a in
    let value : value_over le (has_step steps) form ≡ true =
    asked-value c.args.places.now.count i le holds (is_marked asked) (has_step steps) form (c.requires.parts i (part_at parts i) at)
    (c.in_ok-asked.ensures.asked i a) old.inferred (sym (c.requires.list.values i (part_at parts i) at) ∙ h) in
    c.in_ok-step.ensures.there
    ∙ and_true c.index.result.now (value_over le (has_step c.deref.result.now) form) mark
    (ap (λ (s : List (Option ℕ)). value_over le (has_step s) form) c.deref.ensures.value ∙ value) in
    record {
      all = omega (arith, c.in_ok-push.ensures.len, old.all);
      inferred = λ k lt a h. subst (λ (s : List (Option ℕ)). has_step s k ≡ true) (sym c.in_ok-push.ensures.items)
          (has-next steps c.in_ok-step.step i (is_marked asked) holds old.all old.inferred here k lt a h);
      extends = Extends-both c.args.proof.now c.loop-part.proof c.derive_asked.new.proof old.extends c.in_ok-step.ensures.extends;
      proves = λ at is table.
          let places = c.args.places.now in
          let p0 = c.args.proof.now in
          let p1 = c.loop-part.proof in
          let p2 = c.derive_asked.new.proof in
          let now = reading-later at parts p0 p1 old.extends places is in
          let known = old.proves at is table in
          let inferred = c.in_ok-step.ensures.shows at parts is.places_are (read-at-part at p1 places parts now i there)
          (table-later at places p0 p1 old.extends c.args.table.now table)
          (subst (ProvesSteps at p1 parts) (sym c.deref.ensures.value) known) in
          subst (ProvesSteps at p2 parts) (sym c.in_ok-push.ensures.items)
          (steps-push at p2 parts steps c.in_ok-step.step i old.all (steps-later at parts p1 p2 c.in_ok-step.ensures.extends steps known) inferred);
    }

pub loop-part-init : goal.loop-part-init
loop-part-init c = record {
  all = ap length c.new-steps.ensures.items;
  inferred = λ k lt a h. absurd (omega (arith, lt));
  extends = Extends-same c.args.proof.now;
  proves = λ at is table. subst (ProvesSteps at c.args.proof.now c.args.parts.now) (sym c.new-steps.ensures.items)
      (steps-none at c.args.proof.now c.args.parts.now 0);
}

pub returns-clause-shows : goal.returns-clause-shows
returns-clause-shows c at is table =
    let steps = c.loop-part.steps.items in
    let there : c.args.goal < length steps =
    omega (arith, c.loop-part.invariant.all, c.loop-part-test.false, c.len-part-end.ensures, c.in_ok-asked.ensures.all) in
    c.loop-part.invariant.proves at is table c.args.goal c.in-Some.step
    (read-at steps c.args.goal c.index-2.result.now None there c.index-2.ensures ∙ c.in-Some.is)
