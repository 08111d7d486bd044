use Rattle.std.proofs.Common.{◌≡◌, ℕ, ◌++◌, ◌∷◌, [], List, ◌+◌, ◌<◌, get_or, Some, sym, subst, arith}
use Rattle.std.specs.Prelude.{slice_get}
use Rattle.std.proofs.lemmas.Option.{get_or_from_slice_get}
use Rattle.rz_tope_proof.specs.declared.parts.Part.{Part}
use Rattle.rz_tope_search.specs.declared.statuses.Status.{Status}
use Rattle.rz_tope_proof.specs.Part.{value_over, decided_over}
use Rattle.rz_tope_search.specs.Status.{holds_in, decided_in}
use Rattle.rz_tope_search.specs.Table.{order_of}
use Rattle.rz_tope_search.proofs.PartStatuses.{holds-next, decided-next, statuses-all}
use Rattle.rz_tope_search.proofs.statuses.statuses.Goals as goal

pub loop-part-preserved : goal.loop-part-preserved
loop-part-preserved c =
    let le = order_of c.args.table.now in
    let parts = c.args.parts.now in
    let list = c.loop-part.list.items in
    let status = c.status_of-status.result in
    let i = c.loop-part.part-index in
    let old = c.loop-part.invariant in
    let more : list ++ status ∷ [] ≡ c.push.new.self.items = sym c.in_ok-push.ensures.items in
    record {
      all = omega (arith, c.in_ok-push.ensures.len, old.all);
      values = subst (λ (l : List Status). (k : ℕ) (part : Part) → k < i + 1 → slice_get parts k ≡ Some part → holds_in l k ≡ value_over le (holds_in l) part.form) more
          (holds-next c.args.places.now.count le parts c.requires list status i old.all old.values
          (λ part at. let read : (d : Part) → get_or parts i d ≡ part = λ d. get_or_from_slice_get parts i part d at in
          simp (read, c.deref.ensures.value) at c.status_of-status.ensures.holds));
      decided = subst (λ (l : List Status). (k : ℕ) (part : Part) → k < i + 1 → slice_get parts k ≡ Some part → decided_in l k ≡ decided_over le (decided_in l) part.form) more
          (decided-next c.args.places.now.count le parts c.requires list status i old.all old.decided
          (λ part at. let read : (d : Part) → get_or parts i d ≡ part = λ d. get_or_from_slice_get parts i part d at in
          simp (read, c.deref.ensures.value) at c.status_of-status.ensures.decided));
    }

pub returns : goal.returns
returns c =
    statuses-all (order_of c.args.table.now) c.args.parts.now c.loop-part.list.items c.loop-part.part-index c.loop-part.invariant.all
    (omega (arith, c.loop-part-test.false, c.loop-part.auto.part-index-end)) c.loop-part.invariant.values c.loop-part.invariant.decided
