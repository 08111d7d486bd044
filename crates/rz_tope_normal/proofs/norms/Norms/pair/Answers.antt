use Rattle.std.proofs.Common.{◌≡◌, ℕ, List, [], map, Option, None, sym, ap, subst, ◌∙◌}
use Rattle.rz_rules.specs.declared.kinds.Kind.TheVariants as kind
use Rattle.rz_rules.specs.Tree.{Tree, At, trees_of, tree_of}
use Rattle.rz_rules.specs.Cube.{Binders, binders_of}
use Rattle.rz_rules.specs.Tope.{cube_of, pair}
use Rattle.rz_pool.specs.Cubes.{IsCubeId}
use Rattle.rz_tope_normal.specs.declared.pairs.PairOf.{PairOf}
use Rattle.rz_tope_normal.specs.Norm.{IsPairOf, IsNorm, IsNormWithin, IsSetting}
use Rattle.rz_tope_normal.proofs.Staying.{tree_stays}
use Rattle.rz_tope_normal.proofs.Norming.{cached_as, no_cube, with_cube, pair_of, pair_tree, no_first_cube, no_second_cube, cube_none, known_cached, setting_of}
use Rattle.rz_tope_normal.proofs.norms.Norms.pair.Goals as goal
use Rattle.rz_tope_normal.proofs.norms.Norms.pair.Goals.{In_ok-form, After-cube, After-cube-2, After-cube-3, In-Some, In-Some-cube, In-Some-cube-2}

setting : (c : In_ok-form) → IsSetting c.args.pool.now.nodes (tree_of c.args.pool.now.nodes c.args.setting.now.context) c.requires.setting.1
    c.args.setting.now
setting c = setting_of c.args.pool.now.nodes c.requires.setting.0 c.requires.setting.1 c.args.setting.now c.requires.setting.2

abbrev new_binders : In_ok-form → Binders
new_binders c = binders_of (tree_of c.args.pool.now.nodes c.args.setting.now.context)

cached : (c : After-cube) → IsCubeId c.make_unnamed.new.self.nodes (cube_of (new_binders (goal.at.After-cube c).In_ok-form)
    (tree_of c.make_unnamed.new.self.nodes c.args.point)) c.cube.result
cached c =
    let set = setting (goal.at.After-cube c).In_ok-form in
    cached_as c.args.pool.now.nodes c.make_unnamed.new.self.nodes c.in_ok-form.ensures.grows (tree_of c.args.pool.now.nodes c.args.setting.now.context)
    c.args.setting.now.entries.items c.args.proof.now c.args.self.now c.requires.norms set.cubes set.entries set.trees c.args.point c.requires.cached
    c.cube.result c.cube.ensures

cached_first : (c : After-cube-2) → IsCubeId c.make_unnamed.new.self.nodes (cube_of (new_binders (goal.at.After-cube-2 c).In_ok-form)
    (tree_of c.make_unnamed.new.self.nodes c.args.points.0)) c.cube-2.result
cached_first c =
    let set = setting (goal.at.After-cube-2 c).In_ok-form in
    let context = tree_of c.args.pool.now.nodes c.args.setting.now.context in
    cached_as c.args.pool.now.nodes c.make_unnamed.new.self.nodes c.in_ok-form.ensures.grows context
    c.args.setting.now.entries.items c.args.proof.now c.args.self.now c.requires.norms set.cubes set.entries set.trees c.args.points.0
    (known_cached c.args.pool.now.nodes context c.args.setting.now.entries.items c.args.proof.now c.args.self.now c.requires.norms c.args.points.0
    c.requires.first) c.cube-2.result c.cube-2.ensures

cached_second : (c : After-cube-3) → IsCubeId c.make_unnamed.new.self.nodes (cube_of (new_binders (goal.at.After-cube-3 c).In_ok-form)
    (tree_of c.make_unnamed.new.self.nodes c.args.points.1)) c.cube-3.result
cached_second c =
    let set = setting (goal.at.After-cube-3 c).In_ok-form in
    let context = tree_of c.args.pool.now.nodes c.args.setting.now.context in
    cached_as c.args.pool.now.nodes c.make_unnamed.new.self.nodes c.in_ok-form.ensures.grows context
    c.args.setting.now.entries.items c.args.proof.now c.args.self.now c.requires.norms set.cubes set.entries set.trees c.args.points.1
    (known_cached c.args.pool.now.nodes context c.args.setting.now.entries.items c.args.proof.now c.args.self.now c.requires.norms c.args.points.1
    c.requires.second) c.cube-3.result c.cube-3.ensures

abbrev Cached : (c : In_ok-form) → ℕ → Option ℕ → Type 0
Cached c id o = IsCubeId c.make_unnamed.new.self.nodes (cube_of (new_binders c) (tree_of c.make_unnamed.new.self.nodes id)) o

-- a pair without a cube
none : (c : In_ok-form) → cube_of (new_binders c) (tree_of c.make_unnamed.new.self.nodes c.args.point) ≡ None
    → IsNormWithin c.make_unnamed.new.self.nodes (tree_of c.args.pool.now.nodes c.args.setting.now.context) c.args.proof.now c.args.point
    (record { form = c.in_ok-form.form; equation = None })
none c e =
    let set = setting c in
    no_cube c.args.pool.now.nodes c.make_unnamed.new.self.nodes c.in_ok-form.ensures.grows (tree_of c.args.pool.now.nodes c.args.setting.now.context)
    c.args.setting.now.entries.items
    c.args.proof.now c.args.self.now c.requires.norms set.cubes set.entries set.trees c.args.point
    (record { form = c.in_ok-form.form; equation = None }) c.in_ok-form.ensures.within e

tree : (c : In_ok-form) → tree_of c.make_unnamed.new.self.nodes c.args.point ≡ pair (tree_of c.make_unnamed.new.self.nodes c.args.points.0)
    (tree_of c.make_unnamed.new.self.nodes c.args.points.1)
tree c =
    let old = c.args.pool.now.nodes in
    let context = tree_of old c.args.setting.now.context in
    let entries = c.args.setting.now.entries.items in
    pair_tree old c.make_unnamed.new.self.nodes c.in_ok-form.ensures.grows c.args.point c.args.points.0 c.args.points.1 c.requires.there
    (known_cached old context entries c.args.proof.now c.args.self.now c.requires.norms c.args.points.0 c.requires.first).2.live
    (known_cached old context entries c.args.proof.now c.args.self.now c.requires.norms c.args.points.1 c.requires.second).2.live c.requires.point

pub returns-in_default-clause-norm : goal.returns-in_default-clause-norm
returns-in_default-clause-norm c =
    none (goal.at.returns-in_default-clause-norm c).In_ok-form
    (cube_none c.make_unnamed.new.self.nodes (cube_of (new_binders (goal.at.returns-in_default-clause-norm c).In_ok-form)
    (tree_of c.make_unnamed.new.self.nodes c.args.point)) c.cube.result
    (cached (goal.at.returns-in_default-clause-norm c).After-cube) c.in_default.not-Some)

pub returns-in_default-cube-clause-norm : goal.returns-in_default-cube-clause-norm
returns-in_default-cube-clause-norm c =
    none (goal.at.returns-in_default-cube-clause-norm c).In_ok-form
    (no_first_cube (new_binders (goal.at.returns-in_default-cube-clause-norm c).In_ok-form) (tree_of c.make_unnamed.new.self.nodes c.args.point)
    (tree_of c.make_unnamed.new.self.nodes c.args.points.0) (tree_of c.make_unnamed.new.self.nodes c.args.points.1)
    (tree (goal.at.returns-in_default-cube-clause-norm c).In_ok-form)
    (cube_none c.make_unnamed.new.self.nodes (cube_of (new_binders (goal.at.returns-in_default-cube-clause-norm c).In_ok-form)
    (tree_of c.make_unnamed.new.self.nodes c.args.points.0)) c.cube-2.result
    (cached_first (goal.at.returns-in_default-cube-clause-norm c).After-cube-2) c.in_default-cube.not-Some))

pub returns-in_default-cube-2-clause-norm : goal.returns-in_default-cube-2-clause-norm
returns-in_default-cube-2-clause-norm c =
    none (goal.at.returns-in_default-cube-2-clause-norm c).In_ok-form
    (no_second_cube (new_binders (goal.at.returns-in_default-cube-2-clause-norm c).In_ok-form) (tree_of c.make_unnamed.new.self.nodes c.args.point)
    (tree_of c.make_unnamed.new.self.nodes c.args.points.0) (tree_of c.make_unnamed.new.self.nodes c.args.points.1)
    (tree (goal.at.returns-in_default-cube-2-clause-norm c).In_ok-form)
    (cube_none c.make_unnamed.new.self.nodes (cube_of (new_binders (goal.at.returns-in_default-cube-2-clause-norm c).In_ok-form)
    (tree_of c.make_unnamed.new.self.nodes c.args.points.1)) c.cube-3.result
    (cached_second (goal.at.returns-in_default-cube-2-clause-norm c).After-cube-3) c.in_default-cube-2.not-Some))

pub pair_norm-requires : goal.pair_norm-requires
pair_norm-requires c =
    let g = goal.at.pair_norm-requires c in
    let old = c.args.pool.now.nodes in
    let new = c.make_unnamed.new.self.nodes in
    let context = tree_of old c.args.setting.now.context in
    let set = setting g.In_ok-form in
    let whole = subst (Cached g.In_ok-form c.args.point) c.in-Some.is (cached g.After-cube) in
    let first = subst (Cached g.In_ok-form c.args.points.0) c.in-Some-cube.is (cached_first g.After-cube-2) in
    let second = subst (Cached g.In_ok-form c.args.points.1) c.in-Some-cube-2.is (cached_second g.After-cube-3) in
    let grows = c.in_ok-form.ensures.grows in
    let of : PairOf = record {
      cube = c.in-Some.cube;
      point = c.args.point;
      cubes = (c.in-Some-cube.left, c.in-Some-cube-2.right);
      points = c.args.points;
      norms = (c.norm.result, c.norm-2.result);
      form = c.in_ok-form.form;
    } in
    let form_is = c.in_ok-form.ensures.tree ∙ ap (λ (ids : List ℕ). At kind.PointPair 0 [] (trees_of (map (tree_of old) ids)))
    c.from_slice-kids.ensures in
    record {
      pair = subst (λ (t : Tree). IsPairOf new t c.args.proof.now of) (sym (tree_stays old new grows c.args.setting.now.context set.live))
          (pair_of old new grows context c.args.setting.now.entries.items c.args.proof.now c.args.self.now c.requires.norms set.cubes set.entries
          set.trees
          c.args.point c.in-Some.cube c.requires.there whole.there.0 whole.is c.args.points.0 c.args.points.1 c.norm.result c.norm-2.result
          c.in_ok-form.form
          c.norm.ensures c.norm-2.ensures c.in_ok-form.ensures.within c.requires.point form_is c.in-Some-cube.left c.in-Some-cube-2.right
          first.there.0 second.there.0 first.is second.is);
    }

pub returns-clause-norm : goal.returns-clause-norm
returns-clause-norm c =
    let g = goal.at.returns-clause-norm c in
    let old = c.args.pool.now.nodes in
    let new = c.make_unnamed.new.self.nodes in
    let set = setting g.In_ok-form in
    let whole = subst (Cached g.In_ok-form c.args.point) c.in-Some.is (cached g.After-cube) in
    let norm = c.in_ok-norm.norm in
    with_cube old new c.in_ok-form.ensures.grows (tree_of old c.args.setting.now.context) c.args.setting.now.entries.items c.args.proof.now
    c.args.self.now c.requires.norms
    set.cubes set.entries set.trees c.pair_norm.new.proof c.args.point norm (tree_of new c.in-Some.cube) whole.is
    (subst (λ (t : Tree). IsNorm new t c.pair_norm.new.proof c.args.point norm (tree_of new c.in-Some.cube))
    (tree_stays old new c.in_ok-form.ensures.grows c.args.setting.now.context set.live) c.in_ok-norm.ensures.norm)
