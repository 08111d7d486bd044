use Rattle.std.proofs.Common.{◌≡◌, List, get_or, ap, ◌∙◌, subst}
use Rattle.std.proofs.Common.{append-nil}
use Rattle.std.proofs.lemmas.Option.{get_or_from_slice_get}
use Rattle.rz_solver.specs.declared.writing.Place.{Place}
use Rattle.rz_solver.specs.declared.writing.Task.{Task}
use Rattle.rz_solver.specs.Writing.{IsJob, IsOutcome, IsWriting}
use Rattle.rz_solver.proofs.Writes.{before_last, job_of, last_task, root_task, writing_grown}
use Rattle.rz_solver.proofs.writing.go_on.Goals as goal

pub returns-in-Said-clause-writing : goal.returns-in-Said-clause-writing
returns-in-Said-clause-writing c here same writing proves =
    let items : c.args.tasks.now.items ≡ c.pop.new.self.items = c.in-None.ensures.items ∙ append-nil c.pop.new.self.items in
    subst (IsWriting here c.say.new.w c.args.places.now.items) items
    (writing_grown here c.args.w.now c.say.new.w c.args.places.now.items c.args.tasks.now.items writing c.say.ensures.grows)

pub returns-in_ok-follow-in_default : goal.returns-in_ok-follow-in_default
returns-in_ok-follow-in_default c = record {
  said = λ here same writing proves. tt;
  writing = λ here same writing proves.
      let w = c.args.w.now in
      let places = c.args.places.now.items in
      let tasks = c.args.tasks.now.items in
      let root : Task = record { place = 0; inference = c.args.goal } in
      let is = root_task here w places tasks c.args.goal writing proves in
      let job = job_of here w places tasks root writing is in
      let place : c.index-as_slice-0.result ≡ is.place =
      c.index-as_slice-0.is ∙ (ap (λ (l : List Place). get_or l 0 c.index-as_slice-0.result) c.as_slice.ensures.value
      ∙ get_or_from_slice_get places 0 is.place c.index-as_slice-0.result is.there) in
      let items : tasks ≡ c.pop.new.self.items = c.in-None.ensures.items ∙ append-nil c.pop.new.self.items in
      let later = subst (IsWriting here c.say.new.w places) items (writing_grown here w c.say.new.w places tasks writing c.say.ensures.grows) in
      let outcome : IsOutcome here c.say.new.w is.place.assumed.items c.args.goal c.in_ok-other-in-None.other =
      subst (λ (p : Place). IsJob here w p c.args.goal → IsOutcome here c.say.new.w p.assumed.items c.args.goal c.in_ok-other-in-None.other) place
      (c.in_ok-other-in-None.ensures.outcome here same) job in
      c.in_ok-follow-in_default.ensures here c.say.new.w later is outcome;
  grows = c.say.ensures.grows;
}

pub returns-in_ok-follow-in-Some-clause-writing : goal.returns-in_ok-follow-in-Some-clause-writing
returns-in_ok-follow-in-Some-clause-writing c here same writing proves =
    let w = c.args.w.now in
    let later = c.say-in-Some.new.w in
    let places = c.args.places.now.items in
    let rest = c.pop.new.self.items in
    let task = c.in-Some.task in
    let before = subst (IsWriting here w places) c.in-Some.ensures.items writing in
    let is = last_task here w places rest task before in
    let left = before_last here w places rest task before in
    let place : c.index-as_slice-task.result ≡ is.place =
    c.index-as_slice-task.is ∙ (ap (λ (l : List Place). get_or l task.place c.index-as_slice-task.result) c.as_slice-in-Some.ensures.value
    ∙ get_or_from_slice_get places task.place is.place c.index-as_slice-task.result is.there) in
    let outcome : IsOutcome here later is.place.assumed.items task.inference c.in_ok-outcome-in-Some.outcome =
    subst (λ (p : Place). IsJob here w p task.inference → IsOutcome here later p.assumed.items task.inference c.in_ok-outcome-in-Some.outcome) place
    (c.in_ok-outcome-in-Some.ensures.outcome here same) (job_of here w places rest task left is) in
    c.in_ok-follow-in-Some.ensures here later (writing_grown here w later places rest left c.say-in-Some.ensures.grows) is outcome
