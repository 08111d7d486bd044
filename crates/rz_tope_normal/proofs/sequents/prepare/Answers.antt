use Rattle.std.proofs.Common.{ap, ◌∙◌}
use Rattle.rz_rules.specs.Tree.{sort_of, tree_of}
use Rattle.rz_rules.specs.Cube.{cubes_of}
use Rattle.rz_pool.specs.Pool.{Grows}
use Rattle.rz_pool.proofs.Nodes.{Grows-trans}
use Rattle.rz_pool.proofs.WellFormed.{tree_of-is}
use Rattle.rz_cube.proofs.CachedPoints.{AreCubes-Grows, same_entries}
use Rattle.rz_tope_normal.specs.declared.settings.Setting.{Setting}
use Rattle.rz_tope_normal.proofs.Norming.{places_stay}
use Rattle.rz_tope_normal.proofs.Opening.{cubes_trees}
use Rattle.rz_tope_normal.proofs.Passing.{given_stays, true_before}
use Rattle.rz_tope_normal.proofs.Staying.{live_stays, tree_stays}
use Rattle.rz_tope_normal.proofs.sequents.prepare.Goals as goal

pub cubes_of-requires : goal.cubes_of-requires
cubes_of-requires c = live_stays c.args.pool.now.nodes c.hypotheses.new.pool.nodes c.in_ok-given.ensures.grows c.args.context c.requires.context

pub returns-clause-start : goal.returns-clause-start
returns-clause-start c =
    let old = c.args.pool.now.nodes in
    let one = c.hypotheses.new.pool.nodes in
    let two = c.places.new.pool.nodes in
    let new = c.new.new.pool.nodes in
    let context = tree_of old c.args.context in
    let first = c.in_ok-given.ensures in
    let cubes = c.in_ok-entries.ensures in
    let made = c.in_ok-places.ensures in
    let late : Grows one new = Grows-trans one two new made.grows c.in_ok-reader.ensures.grows in
    let whole : Grows old new = Grows-trans old one new first.grows late in
    let same = tree_stays old one first.grows c.args.context c.requires.context in
    let setting : Setting = record { context = c.args.context; entries = c.in_ok-entries.entries; places = c.in_ok-places.places } in
    record {
      given = given_stays one new late context c.in_ok-given.given.items first.given;
      all = λ rank are. first.all rank (true_before one new late context rank c.in_ok-given.given.items first.given are);
      setting = record {
        live = live_stays old new whole c.args.context c.requires.context;
        context_is = tree_stays old new whole c.args.context c.requires.context;
        cubes = AreCubes-Grows one new late c.in_ok-entries.entries.items cubes.cubes;
        trees = cubes_trees (sort_of context) context (tree_of-is old c.len.ensures.pool.forms c.args.context c.requires.context);
        entries = same_entries one new late c.in_ok-entries.entries.items cubes.cubes ∙ cubes.trees ∙ ap cubes_of same;
        places = places_stay two new c.in_ok-reader.ensures.grows c.in_ok-places.places c.args.list.now made.places;
        coordinates = c.requires.coordinates;
      };
      reader = λ all. c.in_ok-reader.ensures.reader context c.args.list.now setting all;
    }
