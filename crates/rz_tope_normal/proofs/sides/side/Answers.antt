use Rattle.std.proofs.Common.{ℕ, ◌<◌, [], sym, ap, subst, ◌∙◌}
use Rattle.std.proofs.lemmas.List.Elements.{All-head}
use Rattle.rz_rules.specs.Tree.{tree_of}
use Rattle.rz_rules.specs.Cube.{binders_of, cube_two}
use Rattle.rz_tope_proof.specs.Place.{point_at}
use Rattle.rz_cube.specs.Cached.{Caches}
use Rattle.rz_cube.proofs.CachedPoints.{is_cached}
use Rattle.rz_tope_normal.specs.Read.{AreAmong, IsSideAt}
use Rattle.rz_tope_normal.specs.Placed.{IsAmong}
use Rattle.rz_tope_normal.proofs.NormalPoints.{normal_point}
use Rattle.rz_tope_normal.proofs.Norming.{known_cached, cached_list}
use Rattle.rz_tope_normal.proofs.Siding.{place_there, placed_by, form_is}
use Rattle.rz_tope_normal.proofs.sides.side.Goals as goal
use Rattle.rz_tope_normal.proofs.sides.side.Goals.{After-norm-norm, After-place-place}

caches : (c : After-norm-norm) → Caches c.args.pool.now.nodes c.args.setting.now.entries.items c.args.norms.now.points c.args.point
caches c =
    known_cached c.args.pool.now.nodes (tree_of c.args.pool.now.nodes c.args.setting.now.context) c.args.setting.now.entries.items c.args.proof.now
    c.args.norms.now
    c.requires.norms c.args.point c.requires.known

pub place-place-requires-clause-cached : goal.place-place-requires-clause-cached
place-place-requires-clause-cached c =
    is_cached c.args.pool.now.nodes c.args.setting.now.entries.items c.args.norms.now.points c.args.point
    (caches (goal.at.place-place-requires-clause-cached c).After-norm-norm)

-- the point's coordinate, and that it stands at its place
at : (c : After-place-place) → IsSideAt c.args.pool.now.nodes (binders_of (tree_of c.args.pool.now.nodes c.args.setting.now.context)) c.args.list.now
    (record { point = c.args.point; place = c.place-place.result; equation = c.norm-norm.result.equation })
at c =
    let ns = c.args.pool.now.nodes in
    let context = tree_of ns c.args.setting.now.context in
    let known = normal_point (binders_of context) (tree_of ns c.args.point) c.requires.point in
    let cached = caches (goal.at.After-place-place c).After-norm-norm in
    record {
      coordinate = known.0;
      point = known.1;
      place = c.place-place.ensures cached.0 known.0 cached.1
          (cached_list ns c.args.setting.now.entries.items context c.args.norms.now.points c.requires.setting.entries c.args.point cached cached.0 cached.1 ∙
          known.1);
      among = All-head (IsAmong c.args.list.now) known.0 [] (subst (AreAmong c.args.list.now) known.1 c.requires.among);
    }

pub returns-clause-at : goal.returns-clause-at
returns-clause-at c = at (goal.at.returns-clause-at c).After-place-place

pub returns-clause-side : goal.returns-clause-side
returns-clause-side c =
    let ns = c.args.pool.now.nodes in
    let context = tree_of ns c.args.setting.now.context in
    let set = c.requires.setting in
    let places = c.args.setting.now.places in
    let here = at (goal.at.returns-clause-side c).After-place-place in
    let there = place_there ns places c.args.list.now set.places here.coordinate here.among in
    let normed = c.requires.norms.each c.args.point c.norm-norm.result c.norm-norm.ensures in
    let norm = normed.norm.is cube_two c.requires.point in
    record {
      place = subst (λ (p : ℕ). p < places.count) (sym here.place) there.0;
      point = record { live = normed.live; over = c.requires.point };
      equation = placed_by ns context places c.args.proof.now c.args.point c.norm-norm.result.form c.place-place.result c.norm-norm.result.equation
          (form_is ns context places c.args.list.now c.args.proof.now set.places c.len.ensures.pool c.args.point c.norm-norm.result norm
          c.requires.point here.coordinate here.point here.among
          ∙ ap (point_at places) (sym here.place)) norm.equation;
    }
