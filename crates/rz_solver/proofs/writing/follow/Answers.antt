use Rattle.std.proofs.Common.{◌≡◌, ℕ, List, [], ◌∷◌, ◌++◌, length, sym, ap, ◌∙◌, subst}
use Rattle.rz_solver.specs.declared.writing.Place.{Place}
use Rattle.rz_solver.specs.declared.writing.Task.{Task}
use Rattle.rz_solver.specs.Writing.{IsOutcome, IsWriting}
use Rattle.rz_solver.proofs.Writes.{follow_same, follow_under}
use Rattle.rz_solver.proofs.writing.follow.Goals as goal

pub returns-in_ok-push-in-Needs-2 : goal.returns-in_ok-push-in-Needs-2
returns-in_ok-push-in-Needs-2 c here w writing is outcome =
    let places = c.args.places.now.items in
    let tasks = c.args.tasks.now.items in
    let task = c.args.task in
    let new : Task = record { place = task.place; inference = c.in-Needs.inference } in
    let proves = subst (IsOutcome here w is.place.assumed.items task.inference) c.in-Needs.is outcome in
    let items : c.push-in-Needs.new.self.items ≡ (tasks ++ task ∷ []) ++ new ∷ [] =
    c.in_ok-push-in-Needs-2.ensures.items ∙ ap (λ (l : List Task). l ++ new ∷ []) c.in_ok-push-in-Needs.ensures.items in
    subst (IsWriting here w places) (sym items) (follow_same here w places tasks task c.in-Needs.inference writing is proves)

pub returns-in_ok-push-in-NeedsUnder-3 : goal.returns-in_ok-push-in-NeedsUnder-3
returns-in_ok-push-in-NeedsUnder-3 c here w writing is outcome =
    let places = c.args.places.now.items in
    let tasks = c.args.tasks.now.items in
    let task = c.args.task in
    let inner = c.in-NeedsUnder.inner in
    let number : length c.as_slice-place.result.now ≡ length places = ap (λ (l : List Place). length l) c.as_slice-place.ensures.value in
    let new : ℕ → Task = λ n. record { place = n; inference = c.in-NeedsUnder.inference } in
    let so = subst (IsOutcome here w is.place.assumed.items task.inference) c.in-NeedsUnder.is outcome in
    let items : c.push-in-NeedsUnder-3.new.self.items ≡ (tasks ++ task ∷ []) ++ new (length places) ∷ [] =
    c.in_ok-push-in-NeedsUnder-3.ensures.items
    ∙ (λ i. c.in_ok-push-in-NeedsUnder-2.ensures.items i ++ new (number i) ∷ []) in
    subst (λ (l : List Place). IsWriting here w l c.push-in-NeedsUnder-3.new.self.items) (sym c.in_ok-push-in-NeedsUnder.ensures.items)
    (subst (IsWriting here w (places ++ inner ∷ [])) (sym items) (follow_under here w places tasks task inner c.in-NeedsUnder.inference writing is so.0 so.1))
