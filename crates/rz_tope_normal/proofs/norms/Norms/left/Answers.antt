use Rattle.std.proofs.Common.{ℕ, List, [], map, Option, Some, None, sym, ap, subst, ◌∙◌}
use Rattle.rz_rules.specs.declared.kinds.Kind.TheVariants as kind
use Rattle.rz_rules.specs.Tree.{Tree, At, trees_of, tree_of}
use Rattle.rz_rules.specs.Cube.{binders_of}
use Rattle.rz_rules.specs.Tope.{cube_of}
use Rattle.rz_pool.specs.Cubes.{IsCubeId}
use Rattle.rz_tope_normal.specs.declared.halves.Half.{Half}
use Rattle.rz_tope_normal.specs.Norm.{IsLeftHalf, IsNorm, IsSetting}
use Rattle.rz_tope_normal.proofs.Staying.{tree_stays}
use Rattle.rz_tope_normal.proofs.Norming.{cached_as, no_cube, with_cube, left_half, setting_of}
use Rattle.rz_tope_normal.proofs.norms.Norms.left.Goals as goal
use Rattle.rz_tope_normal.proofs.norms.Norms.left.Goals.{After-cube, In-Some}

-- the setting, by the context's id
setting : (c : After-cube) → IsSetting c.args.pool.now.nodes (tree_of c.args.pool.now.nodes c.args.setting.now.context) c.requires.setting.1
    c.args.setting.now
setting c = setting_of c.args.pool.now.nodes c.requires.setting.0 c.requires.setting.1 c.args.setting.now c.requires.setting.2

-- the point's cube, where it has one
cached : (c : After-cube) → IsCubeId c.make_unnamed.new.self.nodes
    (cube_of (binders_of (tree_of c.args.pool.now.nodes c.args.setting.now.context)) (tree_of c.make_unnamed.new.self.nodes c.args.point)) c.cube.result
cached c =
    cached_as c.args.pool.now.nodes c.make_unnamed.new.self.nodes c.in_ok-middle.ensures.grows (tree_of c.args.pool.now.nodes c.args.setting.now.context)
    c.args.setting.now.entries.items c.args.proof.now c.args.self.now c.requires.norms (setting c).cubes (setting c).entries (setting c).trees
    c.args.point c.requires.cached c.cube.result c.cube.ensures

has : (c : In-Some) → IsCubeId c.make_unnamed.new.self.nodes
    (cube_of (binders_of (tree_of c.args.pool.now.nodes c.args.setting.now.context)) (tree_of c.make_unnamed.new.self.nodes c.args.point))
    (Some c.in-Some.cube)
has c =
    subst (λ (o : Option ℕ). IsCubeId c.make_unnamed.new.self.nodes
    (cube_of (binders_of (tree_of c.args.pool.now.nodes c.args.setting.now.context)) (tree_of c.make_unnamed.new.self.nodes c.args.point)) o)
    c.in-Some.is
    (cached (goal.at.In-Some c).After-cube)

pub left_norm-requires : goal.left_norm-requires
left_norm-requires c =
    let old = c.args.pool.now.nodes in
    let new = c.make_unnamed.new.self.nodes in
    let context = tree_of old c.args.setting.now.context in
    let set = setting (goal.at.left_norm-requires c).After-cube in
    let cube = has (goal.at.left_norm-requires c).In-Some in
    let grows = c.in_ok-middle.ensures.grows in
    let half : Half = record {
      cube = c.in-Some.cube;
      point = c.args.point;
      whole = c.args.whole;
      norm = c.norm-norm.result;
      middle =
          c.in_ok-middle.middle;
    } in
    let middle_is = c.in_ok-middle.ensures.tree ∙ ap (λ (ids : List ℕ). At kind.PointLeft 0 [] (trees_of (map (tree_of old) ids)))
    c.from_slice-kids.ensures in
    record {
      half = subst (λ (t : Tree). IsLeftHalf new t c.args.proof.now half) (sym (tree_stays old new grows c.args.setting.now.context set.live))
          (left_half old new grows context c.args.setting.now.entries.items c.args.proof.now c.args.self.now c.requires.norms set.cubes set.entries
          set.trees
          c.args.point c.in-Some.cube c.requires.there cube.there.0 cube.is c.args.whole c.in_ok-middle.middle c.norm-norm.result c.norm-norm.ensures
          c.in_ok-middle.ensures.within c.requires.point middle_is);
    }

pub returns-in-None-clause-norm : goal.returns-in-None-clause-norm
returns-in-None-clause-norm c =
    let old = c.args.pool.now.nodes in
    let new = c.make_unnamed.new.self.nodes in
    let set = setting (goal.at.returns-in-None-clause-norm c).After-cube in
    no_cube old new c.in_ok-middle.ensures.grows (tree_of old c.args.setting.now.context) c.args.setting.now.entries.items c.args.proof.now
    c.args.self.now c.requires.norms
    set.cubes set.entries set.trees c.args.point (record { form = c.in_ok-middle.middle; equation = None }) c.in_ok-middle.ensures.within
    (subst (λ (o : Option ℕ). IsCubeId new (cube_of (binders_of (tree_of old c.args.setting.now.context)) (tree_of new c.args.point)) o)
    c.in-None.is
    (cached (goal.at.returns-in-None-clause-norm c).After-cube)).is

pub returns-in_ok-norm-in-Some-clause-norm : goal.returns-in_ok-norm-in-Some-clause-norm
returns-in_ok-norm-in-Some-clause-norm c =
    let old = c.args.pool.now.nodes in
    let new = c.make_unnamed.new.self.nodes in
    let set = setting (goal.at.returns-in_ok-norm-in-Some-clause-norm c).After-cube in
    let norm = c.in_ok-norm-in-Some.norm in
    with_cube old new c.in_ok-middle.ensures.grows (tree_of old c.args.setting.now.context) c.args.setting.now.entries.items c.args.proof.now
    c.args.self.now c.requires.norms
    set.cubes set.entries set.trees c.left_norm.new.proof c.args.point norm (tree_of new c.in-Some.cube)
    (has (goal.at.returns-in_ok-norm-in-Some-clause-norm c).In-Some).is
    (subst (λ (t : Tree). IsNorm new t c.left_norm.new.proof c.args.point norm (tree_of new c.in-Some.cube))
    (tree_stays old new c.in_ok-middle.ensures.grows c.args.setting.now.context set.live) c.in_ok-norm-in-Some.ensures.norm)
