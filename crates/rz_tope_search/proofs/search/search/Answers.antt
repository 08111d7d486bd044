use Rattle.std.proofs.Common.{◌≡◌, ℕ, List, Vec, Global, sym, subst}
use Rattle.rz_tope_proof.specs.declared.parts.Part.{Part}
use Rattle.rz_tope_search.specs.declared.branches.Branch.{Branch}
use Rattle.rz_tope_search.specs.declared.search.Split.{Split}
use Rattle.rz_tope_search.specs.declared.search.Resumed.{Resumed}
use Rattle.rz_tope_search.specs.Search.{IsSearch, IsNext, IsRefuted, IsResumed, ResumedRefines}
use Rattle.rz_tope_proof.specs.declared.places.Places.{Places}
use Rattle.rz_tope_proof.specs.declared.proof.Inference.{Inference}
use Rattle.rz_tope_proof.specs.Proving.{Extends}
use Rattle.rz_tope_proof.proofs.Proving.{Extends-both}
use Rattle.rz_tope_search.specs.Searching.{within, ProvesNext, ProvesResumed, ProvesSearch}
use Rattle.rz_tope_search.specs.Showing.{Setting}
use Rattle.rz_tope_search.proofs.Searching.{reading-under, search-moved, splits-later}
use Rattle.rz_tope_search.proofs.Showing.{branch-later, reading-later}
use Rattle.rz_tope_search.proofs.search.search.Goals as goal
use Rattle.rz_tope_search.proofs.search.search.Goals.{in-Proved+in_ok-right-in-Proved+in-Branch, in-Taken+in_ok-branch-in-Taken, in-Compared+in_ok-fork-in-Compared+in_ok-branch-in-Compared}

pub returns-in-Refuted-clause-found : goal.returns-in-Refuted-clause-found
returns-in-Refuted-clause-found c =
    let count = c.args.places.now.count in
    let parts = c.args.parts.now in
    let found : IsRefuted count parts c.loop.branch c.args.goal c.loop.branch.table =
    subst (IsNext count parts c.loop.branch c.args.goal) c.in-Refuted.is c.in_ok-next_step.ensures.next in
    record {
      order = found.order;
      apart = found.apart;
      model = λ value values. c.loop.invariant.search.refines _ value (found.model value values);
      refutes = found.refutes;
    }

moved : (count : ℕ) (parts : List Part) (start b1 b2 : Branch) (s1 s2 : Vec Split Global) → b1 ≡ b2 → s1 ≡ s2
    → IsSearch count parts start b2 s2.items → IsSearch count parts start b1 s1.items
moved count parts start b1 b2 s1 s2 p q h =
    subst (λ (b : Branch). IsSearch count parts start b s1.items) (sym p) (subst (λ (s : Vec Split Global). IsSearch count parts start b2 s.items) (sym q) h)

-- what is proved, once what comes next was found
later : (at : Setting) (old new : List Inference) (places : Places) (parts : List Part) (target : ℕ) (splits : List Split) (branch : Branch) → Extends old new
    → ProvesSearch at old places parts target splits branch → ProvesSearch at new places parts target splits branch
later at old new places parts target splits branch extends proves = record {
  splits_are = splits-later places parts target old new extends at splits proves.splits_are;
  branch_is = branch-later (within at splits) parts old new extends places branch proves.branch_is;
}

pub loop-preserved : goal.loop-preserved
loop-preserved c =
    let count = c.args.places.now.count in
    let places = c.args.places.now in
    let parts = c.args.parts.now in
    let target = c.args.goal in
    let start : Branch = c.args.start.now in
    let old = c.loop.invariant.search in
    let p0 = c.args.proof.now in
    let p1 = c.loop.proof in
    let p2 = c.next_step.new.proof in
    let stepped = c.in_ok-next_step.ensures in
    let to2 = Extends-both p0 p1 p2 c.loop.invariant.extends stepped.extends in
    record {
      search = elim c.match-branch-3.branch [
        | in-Proved+in_ok-right-in-Proved+in-Branch w ↦
            let new = w.in_ok-right-in-Proved.ensures in
            moved count parts start c.match-branch-3.branch' w.in-Branch.right c.match-branch-3.splits w.resume.new.splits w.branch'-is w.splits-is (record {
              branch_is = subst (IsResumed count parts) w.in-Branch.is new.branch;
              refines = subst (λ (x : Resumed). ResumedRefines count parts x start) w.in-Branch.is (new.refines start old.leads);
              splits_are = new.splits;
              leads = new.leads start old.leads;
            })
        | in-Taken+in_ok-branch-in-Taken w ↦
            let new = w.in_ok-branch-in-Taken.ensures in
            let fork = w.taken_fork-fork.ensures.is in
            moved count parts start c.match-branch-3.branch' w.in_ok-branch-in-Taken.branch c.match-branch-3.splits w.begin_left.new.splits w.branch'-is w.splits-is (record {
              branch_is = new.branch;
              refines = λ le value model. let both = new.refines le value model in old.refines le value (fork.left_refines le value both.0 both.1);
              splits_are = new.splits old.splits_are;
              leads = new.leads start (λ le value model h. old.refines le value (fork.right_refines le value model h)) old.leads;
            })
        | in-Compared+in_ok-fork-in-Compared+in_ok-branch-in-Compared w ↦
            let new = w.in_ok-branch-in-Compared.ensures in
            moved count parts start c.match-branch-3.branch' w.in_ok-branch-in-Compared.branch c.match-branch-3.splits w.begin_left-in-Compared.new.splits w.branch'-is w.splits-is (record {
              branch_is = new.branch;
              refines = λ le value model. let both = new.refines le value model in old.refines le value both.0;
              splits_are = new.splits old.splits_are;
              leads = new.leads start (λ le value model h. old.refines le value model) old.leads;
            })
      ];
      extends = elim c.match-branch-3.branch [
        | in-Proved+in_ok-right-in-Proved+in-Branch w ↦
            subst (λ (x : List Inference). Extends p0 x) (sym w.proof-is) (Extends-both p0 p2 w.resume.new.proof to2 w.in_ok-right-in-Proved.ensures.extends)
        | in-Taken+in_ok-branch-in-Taken w ↦
            subst (λ (x : List Inference). Extends p0 x) (sym w.proof-is) (Extends-both p0 p2 w.begin_left.new.proof to2 w.in_ok-branch-in-Taken.ensures.extends)
        | in-Compared+in_ok-fork-in-Compared+in_ok-branch-in-Compared w ↦
            subst (λ (x : List Inference). Extends p0 x) (sym w.proof-is)
            (Extends-both p0 w.compared_fork.new.proof w.begin_left-in-Compared.new.proof
            (Extends-both p0 p2 w.compared_fork.new.proof to2 w.in_ok-fork-in-Compared.ensures.extends) w.in_ok-branch-in-Compared.ensures.extends)
      ];
      proves = λ at is begun.
          let was = c.loop.invariant.proves at is begun in
          let now = later at p1 p2 places parts target c.loop.splits.items c.loop.branch stepped.extends was in
          let inner = within at c.loop.splits.items in
          let reading1 = reading-later at parts p0 p1 c.loop.invariant.extends places is in
          let reading2 = reading-later at parts p0 p2 to2 places is in
          let said = stepped.proves inner (reading-under at p1 places parts reading1 inner.assumed) was.branch_is in
          elim c.match-branch-3.branch [
            | in-Proved+in_ok-right-in-Proved+in-Branch w ↦
                let shown = subst (ProvesNext inner p2 parts target) w.in-Proved.is said in
                search-moved at places parts target c.match-branch-3.proof w.resume.new.proof c.match-branch-3.branch' w.in-Branch.right
                c.match-branch-3.splits w.resume.new.splits w.proof-is w.branch'-is w.splits-is
                (subst (ProvesResumed at w.resume.new.proof places parts target w.resume.new.splits.items) w.in-Branch.is
                (w.in_ok-right-in-Proved.ensures.proves at reading2 now.splits_are shown))
            | in-Taken+in_ok-branch-in-Taken w ↦
                let taken = w.taken_fork-fork.ensures in
                search-moved at places parts target c.match-branch-3.proof w.begin_left.new.proof c.match-branch-3.branch' w.in_ok-branch-in-Taken.branch
                c.match-branch-3.splits w.begin_left.new.splits w.proof-is w.branch'-is w.splits-is
                (w.in_ok-branch-in-Taken.ensures.proves at target reading2
                (record { splits_are = now.splits_are; branch_is = taken.branch inner p2 now.branch_is }) (taken.fork inner p2 now.branch_is))
            | in-Compared+in_ok-fork-in-Compared+in_ok-branch-in-Compared w ↦
                let p3 = w.compared_fork.new.proof in
                let forked = w.in_ok-fork-in-Compared.ensures in
                search-moved at places parts target c.match-branch-3.proof w.begin_left-in-Compared.new.proof c.match-branch-3.branch'
                w.in_ok-branch-in-Compared.branch c.match-branch-3.splits w.begin_left-in-Compared.new.splits w.proof-is w.branch'-is w.splits-is
                (w.in_ok-branch-in-Compared.ensures.proves at target (reading-later at parts p2 p3 forked.extends places reading2)
                (later at p2 p3 places parts target c.loop.splits.items c.loop.branch forked.extends now)
                (forked.proves inner parts is.places_are))
          ];
    }

pub returns-in-Done-clause-proves : goal.returns-in-Done-clause-proves
returns-in-Done-clause-proves c at is begun =
    let places = c.args.places.now in
    let parts = c.args.parts.now in
    let target = c.args.goal in
    let p0 = c.args.proof.now in
    let p1 = c.loop.proof in
    let p2 = c.next_step.new.proof in
    let stepped = c.in_ok-next_step.ensures in
    let was = c.loop.invariant.proves at is begun in
    let now = later at p1 p2 places parts target c.loop.splits.items c.loop.branch stepped.extends was in
    let inner = within at c.loop.splits.items in
    let reading1 = reading-later at parts p0 p1 c.loop.invariant.extends places is in
    let said = stepped.proves inner (reading-under at p1 places parts reading1 inner.assumed) was.branch_is in
    let shown = subst (ProvesNext inner p2 parts target) c.in-Proved.is said in
    subst (ProvesResumed at c.resume.new.proof places parts target c.resume.new.splits.items) c.in-Done.is
    (c.in_ok-right-in-Proved.ensures.proves at (reading-later at parts p1 p2 stepped.extends places reading1) now.splits_are shown)
