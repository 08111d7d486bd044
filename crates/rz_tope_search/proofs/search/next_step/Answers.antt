use Rattle.std.proofs.Common.{◌≡◌, ℕ, ◌<◌, List, Option, false, length, All, ap, subst, ◌∙◌, arith}
use Rattle.std.specs.Prelude.{IfNone}
use Rattle.rz_tope_search.specs.declared.statuses.Status.{Status}
use Rattle.rz_tope_search.specs.Status.{holds_in}
use Rattle.rz_tope_search.specs.Branch.{IsTrueWaiting}
use Rattle.rz_tope_search.specs.Table.{order_of}
use Rattle.rz_tope_search.proofs.Lists.{read-at}
use Rattle.rz_tope_search.proofs.Leaves.{leaf}
use Rattle.rz_tope_proof.specs.Reading.{tope_at}
use Rattle.rz_tope_search.specs.Showing.{Shows}
use Rattle.rz_tope_search.proofs.Showing.{read-at-part, reading-later, some-at, table-later}
use Rattle.rz_tope_search.proofs.search.next_step.Goals as goal

pub returns-then-index-2-clause-next : goal.returns-then-index-2-clause-next
returns-then-index-2-clause-next c =
    let list = c.in_ok-list.list.items in
    let goal_at = c.args.goal in
    let within : goal_at < length list = omega (arith, c.requires.goal, c.in_ok-list.ensures.all) in
    let default : Status = record { holds = false; decided = false } in
    let apart : order_of c.args.branch.now.table 1 0 ≡ false =
    subst (λ (o : Option ℕ). IfNone o (order_of c.args.branch.now.table 1 0 ≡ false)) c.in_default.is c.in_ok-step.ensures.apart in
    leaf c.args.places.now.count c.args.parts.now c.args.branch.now goal_at list (omega arith) c.requires.parts c.requires.branch
    c.in_ok-list.ensures apart
    (subst (λ (l : List Status). All (IsTrueWaiting (holds_in l)) c.args.branch.now.waiting.items) c.deref-2.ensures.value c.in_default-undecided.ensures.none)
    c.requires.goal
    (ap (λ (s : Status). s.decided) (read-at list goal_at c.index-2.result.now default within c.index-2.ensures) ∙ c.if-index-2.true)
    (ap (λ (s : Status). s.holds) (read-at list goal_at c.index.result.now default within c.index.ensures) ∙ c.if-index.false)

pub returns-in-Some-clause-proves : goal.returns-in-Some-clause-proves
returns-in-Some-clause-proves c at is proves =
    let parts = c.args.parts.now in
    some-at (λ s. Shows at c.infer_anything.new.proof s (tope_at at.nodes parts c.args.goal)) c.in_ok-step.field-0 c.in-Some.step c.in-Some.is
    (c.in_ok-step.ensures.shows at is.places_are proves.table
    (read-at-part at c.args.proof.now c.args.places.now parts is c.args.goal c.requires.goal).claim)

pub returns-then-index-clause-proves : goal.returns-then-index-clause-proves
returns-then-index-clause-proves c at is proves =
    let old = c.args.proof.now in
    let new = c.infer_anything.new.proof in
    let extends = c.in_ok-step.ensures.extends in
    c.in_ok-step-2.ensures.shows at (reading-later at c.args.parts.now old new extends c.args.places.now is)
    (table-later at c.args.places.now old new extends c.args.branch.now.table proves.table)
