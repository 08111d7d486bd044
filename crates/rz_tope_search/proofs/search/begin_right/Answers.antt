use Rattle.std.proofs.Common.{List, All, sym, subst}
use Rattle.std.proofs.lemmas.List.Elements.{All-push}
use Rattle.rz_tope_search.specs.declared.search.Split.{Split}
use Rattle.rz_tope_search.specs.Search.{IsSplit}
use Rattle.rz_tope_proof.specs.Reading.{tope_at}
use Rattle.rz_tope_search.specs.declared.search.Stage.TheVariants as stage
use Rattle.rz_tope_search.specs.Searching.{case_tope, within}
use Rattle.rz_tope_search.specs.Showing.{assuming}
use Rattle.rz_tope_search.proofs.Searching.{assumes-later, fork-later, reading-under, search-push, splits-later}
use Rattle.rz_tope_search.proofs.Showing.{branch-later, shows-later}
use Rattle.rz_tope_search.proofs.search.begin_right.Goals as goal

pub returns-clause-splits : goal.returns-clause-splits
returns-clause-splits c all =
    let P = IsSplit c.args.places.now.count c.args.parts.now in
    let last : Split = record {
      fork = c.args.split.fork;
      leaf = c.in_ok-leaf.leaf;
      branch = c.args.split.branch;
      stage = stage.Right c.args.split.leaf c.args.step;
    } in
    subst (λ (xs : List Split). All P xs) (sym c.in_ok-push.ensures.items)
    (All-push P c.args.splits.now.items last all (record { branch = c.requires.split.branch; right = c.requires.split.right }))

pub returns-clause-refines : goal.returns-clause-refines
returns-clause-refines c start leads le value model =
    let both = c.in_ok-leaf.ensures.refines le value model in
    leads le value both.0 both.1

pub returns-clause-proves : goal.returns-clause-proves
returns-clause-proves c at target is before split assumes shows =
    let places = c.args.places.now in
    let parts = c.args.parts.now in
    let old = c.args.proof.now in
    let p1 = c.branch_under.new.proof in
    let splits = c.args.splits.now.items in
    let inner = within at splits in
    let reading = reading-under at old places parts is inner.assumed in
    let new = c.in_ok-leaf.ensures in
    let fork = c.args.split.fork in
    let leaf = c.args.split.leaf in
    search-push p1 places parts target at splits c.push.new.self.items
    (record { fork = fork; leaf = c.in_ok-leaf.leaf; branch = c.args.split.branch; stage = stage.Right leaf c.args.step })
    c.in_ok-leaf.right c.in_ok-push.ensures.items
    (splits-later places parts target old p1 new.extends at splits before)
    (record {
      cover = fork-later places parts target old p1 new.extends inner fork split.cover;
      branch = branch-later inner parts old p1 new.extends places c.args.split.branch split.branch;
      stage = (
        assumes-later places parts target old p1 new.extends inner leaf (case_tope at.nodes places parts fork.left) assumes,
        shows-later (assuming leaf inner) old p1 new.extends c.args.step (tope_at at.nodes parts target) shows,
        new.assumes inner reading,
      );
    })
    (new.proves inner reading split.branch)
