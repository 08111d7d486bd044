use Rattle.std.proofs.Common.{◌≡◌, ℕ, List, [], ◌∷◌, ◌++◌, length, All, refl, sym, subst, arith}
use Rattle.rz_tope_proof.specs.declared.parts.Part.{Part}
use Rattle.rz_tope_proof.specs.declared.places.Places.{Places}
use Rattle.rz_tope_proof.specs.declared.proof.Inference.{Inference}
use Rattle.rz_tope_proof.specs.Proving.{Extends}
use Rattle.rz_tope_proof.specs.Reading.{tope_at}
use Rattle.rz_tope_proof.proofs.Proving.{Extends-both}
use Rattle.rz_tope_search.specs.Searching.{case_tope, within, ProvesStage, ProvesSplit, ProvesSplits}
use Rattle.rz_tope_search.specs.Showing.{Setting, Shows, assuming}
use Rattle.rz_tope_search.proofs.Searching.{splits-front, splits-last, splits-later, within-push}
use Rattle.rz_tope_search.proofs.Showing.{read-at-part, reading-later}
use Rattle.rz_tope_search.specs.declared.search.Split.{Split}
use Rattle.rz_tope_search.specs.Search.{IsSplit, Leads}
use Rattle.rz_tope_search.proofs.Lists.{All-front, All-last}
use Rattle.rz_tope_search.proofs.search.resume.Goals as goal
use Rattle.rz_tope_search.proofs.search.resume.Goals.{in-Left+in_ok-needs-in-Left+else-needs, in-Right+in_ok-step-in-Right}

-- what is known once the last split is taken
popped : (at : Setting) (all : List Inference) (places : Places) (parts : List Part) (target step : ℕ) (whole splits : List Split) (last : Split)
    → whole ≡ splits ++ last ∷ [] → ProvesSplits at all places parts target whole → Shows (within at whole) all step (tope_at at.nodes parts target)
    → ProvesSplits at all places parts target splits
    × ProvesSplit (within at splits) all places parts target last
    × Shows (assuming last.leaf (within at splits)) all step (tope_at at.nodes parts target)
popped at all places parts target step whole splits last is before shows =
    let known = subst (λ (xs : List Split). ProvesSplits at all places parts target xs) is before in (
      splits-front all places parts target at splits last known,
      splits-last all places parts target at splits last known,
      subst (λ (s : Setting). Shows s all step (tope_at at.nodes parts target)) (within-push at splits last)
          (subst (λ (xs : List Split). Shows (within at xs) all step (tope_at at.nodes parts target)) is shows),
    )

closed-moved : (at : Setting) (p q : List Inference) (places : Places) (parts : List Part) (target : ℕ) (splits : List Split) (s t : ℕ) → p ≡ q → s ≡ t
    → ProvesSplits at q places parts target splits → Shows (within at splits) q t (tope_at at.nodes parts target)
    → ProvesSplits at p places parts target splits × Shows (within at splits) p s (tope_at at.nodes parts target)
closed-moved at p q places parts target splits s t e f before shows = (
  subst (λ (x : List Inference). ProvesSplits at x places parts target splits) (sym e) before,
  subst (λ (x : List Inference). Shows (within at splits) x s (tope_at at.nodes parts target)) (sym e)
      (subst (λ (n : ℕ). Shows (within at splits) q n (tope_at at.nodes parts target)) (sym f) shows),
)

none-left : (xs : List Split) → length xs ≡ 0 → xs ≡ []
none-left [] none = refl
none-left (x ∷ xs) none = absurd (omega (arith, none))

pub returns-then-needs-clause-splits : goal.returns-then-needs-clause-splits
returns-then-needs-clause-splits c =
    c.in_ok-right-in-Left.ensures.splits
    (All-front (IsSplit c.args.places.now.count c.args.parts.now) c.pop.new.self.items c.in-Some.split
    (subst (λ (ss : List Split). All (IsSplit c.args.places.now.count c.args.parts.now) ss) c.in-Some.ensures.items c.loop-split.invariant.splits))

pub returns-then-needs-clause-refines : goal.returns-then-needs-clause-refines
returns-then-needs-clause-refines c start leads =
    c.in_ok-right-in-Left.ensures.refines start
    (All-last (Leads c.args.places.now.count c.args.parts.now start) c.pop.new.self.items c.in-Some.split
    (subst (λ (ss : List Split). All (Leads c.args.places.now.count c.args.parts.now start) ss) c.in-Some.ensures.items (c.loop-split.invariant.leads start leads)))

pub returns-then-needs-clause-leads : goal.returns-then-needs-clause-leads
returns-then-needs-clause-leads c start leads =
    let all : All (Leads c.args.places.now.count c.args.parts.now start) (c.pop.new.self.items ++ c.in-Some.split ∷ []) =
    subst (λ (ss : List Split). All (Leads c.args.places.now.count c.args.parts.now start) ss) c.in-Some.ensures.items (c.loop-split.invariant.leads start leads) in
    c.in_ok-right-in-Left.ensures.leads start
    (All-last (Leads c.args.places.now.count c.args.parts.now start) c.pop.new.self.items c.in-Some.split all)
    (All-front (Leads c.args.places.now.count c.args.parts.now start) c.pop.new.self.items c.in-Some.split all)

pub loop-split-preserved : goal.loop-split-preserved
loop-split-preserved c = record {
  splits = All-front (IsSplit c.args.places.now.count c.args.parts.now) c.pop.new.self.items c.in-Some.split
      (subst (λ (ss : List Split). All (IsSplit c.args.places.now.count c.args.parts.now) ss) c.in-Some.ensures.items c.loop-split.invariant.splits);
  leads = λ start leads. All-front (Leads c.args.places.now.count c.args.parts.now start) c.pop.new.self.items c.in-Some.split
      (subst (λ (ss : List Split). All (Leads c.args.places.now.count c.args.parts.now start) ss) c.in-Some.ensures.items (c.loop-split.invariant.leads start leads));
  extends = elim c.match-split.branch [
    | in-Left+in_ok-needs-in-Left+else-needs w ↦
        subst (λ (x : List Inference). Extends c.args.proof.now x) (sym w.proof-is) c.loop-split.invariant.extends
    | in-Right+in_ok-step-in-Right w ↦
        subst (λ (x : List Inference). Extends c.args.proof.now x) (sym w.proof-is)
        (Extends-both c.args.proof.now c.loop-split.proof w.join.new.proof c.loop-split.invariant.extends w.in_ok-step-in-Right.ensures.extends)
  ];
  proves = λ at is before found.
      let places = c.args.places.now in
      let parts = c.args.parts.now in
      let target = c.args.goal in
      let now = c.loop-split.proof in
      let split = c.in-Some.split in
      let items = c.pop.new.self.items in
      let was = c.loop-split.invariant.proves at is before found in
      let known = popped at now places parts target c.loop-split.step c.loop-split.splits.items items split c.in-Some.ensures.items was.0 was.1 in
      let inner = within at items in
      elim c.match-split.branch [
        | in-Left+in_ok-needs-in-Left+else-needs w ↦
            closed-moved at c.match-split.proof now places parts target items c.match-split.step c.loop-split.step w.proof-is w.step-is known.0
            (w.in_ok-needs-in-Left.ensures.without w.if-needs.false at.nodes at.context inner.assumed (tope_at at.nodes parts target) known.2)
        | in-Right+in_ok-step-in-Right w ↦
            let new = w.join.new.proof in
            let extends = w.in_ok-step-in-Right.ensures.extends in
            let stage_is = subst (ProvesStage inner now places parts target split.fork split.leaf) w.in-Right.is known.1.stage in
            let reading = reading-later at parts c.args.proof.now now c.loop-split.invariant.extends places is in
            closed-moved at c.match-split.proof new places parts target items c.match-split.step w.in_ok-step-in-Right.step w.proof-is w.step-is
            (splits-later places parts target now new extends at items known.0)
            (w.in_ok-step-in-Right.ensures.shows inner (case_tope at.nodes places parts split.fork.left) (case_tope at.nodes places parts split.fork.right)
            (read-at-part at now places parts reading target c.requires.goal).claim known.1.cover stage_is.0 stage_is.2 stage_is.1 known.2)
      ];
}

pub returns-then-needs-clause-proves : goal.returns-then-needs-clause-proves
returns-then-needs-clause-proves c at is before found =
    let places = c.args.places.now in
    let parts = c.args.parts.now in
    let target = c.args.goal in
    let now = c.loop-split.proof in
    let split = c.in-Some.split in
    let items = c.pop.new.self.items in
    let was = c.loop-split.invariant.proves at is before found in
    let known = popped at now places parts target c.loop-split.step c.loop-split.splits.items items split c.in-Some.ensures.items was.0 was.1 in
    let stage_is = subst (ProvesStage (within at items) now places parts target split.fork split.leaf) c.in-Left.is known.1.stage in
    c.in_ok-right-in-Left.ensures.proves at target (reading-later at parts c.args.proof.now now c.loop-split.invariant.extends places is)
    known.0 known.1 stage_is known.2

pub returns-clause-proves : goal.returns-clause-proves
returns-clause-proves c at is before found =
    let parts = c.args.parts.now in
    let was = c.loop-split.invariant.proves at is before found in
    let none : length c.loop-split.splits.items ≡ 0 = omega (arith, c.in_default.ensures.cases.0, c.loop-split.splits.ok.0) in
    subst (λ (xs : List Split). Shows (within at xs) c.loop-split.proof c.loop-split.step (tope_at at.nodes parts c.args.goal))
    (none-left c.loop-split.splits.items none) was.1
