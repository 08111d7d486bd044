use Rattle.std.proofs.Common.{◌≡◌, List, get_or, All, sym, subst, ◌∙◌}
use Rattle.std.proofs.lemmas.Option.{slice_get-get_or, get_or_from_slice_get}
use Rattle.rz_tope_search.specs.declared.branches.Waiting.{Waiting}
use Rattle.rz_tope_search.specs.Branch.{IsWaitingFor, IsTrueWaiting}
use Rattle.rz_tope_search.specs.Showing.{ProvesWaiting}
use Rattle.rz_tope_search.proofs.Lists.{All-remove, All-put_back}
use Rattle.rz_tope_search.proofs.branches.Branch.take.Goals as goal
use Rattle.rz_tope_search.proofs.branches.Branch.take.Goals.{After-remove}

taken : (c : After-remove) (d : Waiting) → c.remove.result ≡ get_or c.args.self.now.waiting.items c.args.place d
taken c d =
    let items = c.args.self.now.waiting.items in
    c.remove.ensures.value
    ∙ sym (get_or_from_slice_get items c.args.place (get_or items c.args.place c.remove.result) d (slice_get-get_or items c.args.place c.remove.result c.requires.place))

pub returns-clause-branch : goal.returns-clause-branch
returns-clause-branch c = record {
  order = c.requires.branch.order;
  waiting = subst (λ (ws : List Waiting). All (IsWaitingFor c.args.parts.now) ws) (sym c.remove.ensures.items)
      (All-remove (IsWaitingFor c.args.parts.now) c.args.self.now.waiting.items c.args.place c.requires.place c.requires.branch.waiting);
}

pub returns-clause-refines : goal.returns-clause-refines
returns-clause-refines c le value model one = record {
  order = model.order;
  apart = model.apart;
  values = model.values;
  within = model.within;
  waiting = All-put_back (IsTrueWaiting value) c.args.self.now.waiting.items c.args.place c.requires.place
      (subst (λ (ws : List Waiting). All (IsTrueWaiting value) ws) c.remove.ensures.items model.waiting)
      (λ d. subst (IsTrueWaiting value) (taken c d) one);
}

pub returns-clause-sides : goal.returns-clause-sides
returns-clause-sides c =
    subst (IsWaitingFor c.args.parts.now) (sym (taken c c.remove.result)) (c.requires.branch.waiting c.args.place c.remove.result c.requires.place)

pub returns-clause-shows : goal.returns-clause-shows
returns-clause-shows c at all proves =
    subst (ProvesWaiting at all c.args.parts.now) (sym (taken c c.remove.result)) (proves.waiting c.args.place c.remove.result c.requires.place)

pub returns-clause-proves : goal.returns-clause-proves
returns-clause-proves c at all proves = record {
  table = proves.table;
  waiting = subst (λ (ws : List Waiting). All (ProvesWaiting at all c.args.parts.now) ws) (sym c.remove.ensures.items)
      (All-remove (ProvesWaiting at all c.args.parts.now) c.args.self.now.waiting.items c.args.place c.requires.place proves.waiting);
}
