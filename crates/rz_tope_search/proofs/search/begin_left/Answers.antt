use Rattle.rz_tope_search.specs.declared.search.Stage.TheVariants as stage
use Rattle.rz_tope_search.specs.Searching.{within}
use Rattle.rz_tope_search.proofs.Searching.{fork-later, reading-under, search-push, splits-later}
use Rattle.rz_tope_search.proofs.Showing.{branch-later}
use Rattle.rz_tope_search.proofs.search.begin_left.Goals as goal

pub returns-clause-proves : goal.returns-clause-proves
returns-clause-proves c at target is proves fork =
    let places = c.args.places.now in
    let parts = c.args.parts.now in
    let old = c.args.proof.now in
    let p1 = c.branch_under.new.proof in
    let splits = c.args.splits.now.items in
    let inner = within at splits in
    let reading = reading-under at old places parts is inner.assumed in
    let new = c.in_ok-leaf.ensures in
    search-push p1 places parts target at splits c.push.new.self.items
    (record { fork = c.args.fork; leaf = c.in_ok-leaf.leaf; branch = c.args.branch; stage = stage.Left })
    c.in_ok-leaf.left c.in_ok-push.ensures.items
    (splits-later places parts target old p1 new.extends at splits proves.splits_are)
    (record {
      cover = fork-later places parts target old p1 new.extends inner c.args.fork fork;
      branch = branch-later inner parts old p1 new.extends places c.args.branch proves.branch_is;
      stage = new.assumes inner reading;
    })
    (new.proves inner reading proves.branch_is)
