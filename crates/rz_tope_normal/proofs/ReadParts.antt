-- Parts that were read, while the pool and the proof grow, and one more.
use Rattle.std.proofs.Common.{◌≡◌, ℕ, ◌+◌, ◌<◌, List, [], ◌∷◌, ◌++◌, length, Option, Some, None, refl, sym, ap, subst, ◌∙◌, arith}
use Rattle.std.proofs.lemmas.List.{get_or_append_left, get_or_push, length-append, length_push}
use Rattle.std.proofs.lemmas.Option.{slice_get-get_or, slice_get_within}
use Rattle.rz_rules.specs.declared.coordinates.Coord.{Coord}
use Rattle.rz_rules.specs.declared.nodes.Node.{Node}
use Rattle.rz_rules.specs.Tree.{Tree}
use Rattle.rz_rules.specs.Cube.{binders_of, cube_two}
use Rattle.rz_rules.specs.Tope.{cube_of, at_most, conjunction, disjunction, equal_points, left, pair, right}
use Rattle.rz_rules.specs.Coordinate.{coordinates}
use Rattle.rz_tope_proof.specs.declared.proof.Inference.{Inference}
use Rattle.rz_tope_proof.specs.declared.places.Places.{Places}
use Rattle.rz_tope_proof.specs.declared.parts.Form.{Form}
use Rattle.rz_tope_proof.specs.declared.parts.Form.TheVariants as form
use Rattle.rz_tope_proof.specs.declared.parts.Part.{Part}
use Rattle.rz_tope_proof.specs.declared.parts.Side.{Side}
use Rattle.rz_tope_proof.specs.Claim.{tope_of}
use Rattle.rz_tope_proof.specs.Part.{IsMadeOf, part_at}
use Rattle.rz_tope_proof.specs.Place.{IsPlaces, point_at}
use Rattle.rz_tope_proof.specs.Proving.{Proves}
use Rattle.rz_tope_proof.specs.Reading.{HasForm, IsPlacedBy, IsSide, tope_at}
use Rattle.rz_tope_normal.specs.Later.{Later}
use Rattle.rz_tope_normal.specs.Read.{ArePartsOf, HasSides, IsPart, IsSideAt, SaysTope}
use Rattle.rz_tope_normal.proofs.Splitting.{push_cases}
use Rattle.rz_tope_normal.proofs.Staying.{claim_stays, live_stays, proves_later, tope_stays, tree_stays}

-- ---- growth

module _ (old : List Node) (before : List Inference) (new : List Node) (after : List Inference) (later : Later old before new after) (context : Tree)
    (places : Places) (there : IsPlaces old context places) (list : List Coord) where
  placed_later : (point place : ℕ) (equation : Option ℕ) → point < length old → place < places.count → IsPlacedBy old context places before point
      place equation
      → IsPlacedBy new context places after point place equation
  placed_later point place None lp lt e = e
  placed_later point place (Some step) lp lt e =
      let s = tree_stays old new later.grows point lp in
      let u = tree_stays old new later.grows (point_at places place) (there.points place lt).live in
      subst (λ (tope : Tree). Proves new context after [] step tope) (λ i. equal_points cube_two (sym s i) (sym u i))
      (proves_later old before new after later context e)

  side_later : (side : Side) → IsSide old context places before side → IsSide new context places after side
  side_later side is = record {
    place = is.place;
    point = record {
      live = live_stays old new later.grows side.point is.point.live;
      over = ap (cube_of (binders_of context)) (tree_stays old new later.grows side.point is.point.live) ∙ is.point.over;
    };
    equation = placed_later side.point side.place side.equation is.point.live is.place is.equation;
  }

  at_later : (side : Side) → IsSide old context places before side → IsSideAt old (binders_of context) list side → IsSideAt new (binders_of context)
      list side
  at_later side is at = record {
    coordinate = at.coordinate;
    point = ap (coordinates (binders_of context)) (tree_stays old new later.grows side.point is.point.live) ∙ at.point;
    place = at.place;
    among = at.among;
  }

  module _ (parts : List Part) (are : ArePartsOf old context list places before parts) where
    same_tope : (k : ℕ) → k < length parts → tope_at new parts k ≡ tope_at old parts k
    same_tope k lt =
        let part = part_at parts k in
        tope_stays old new later.grows part.claim (are k part (slice_get-get_or parts k _ lt)).read.claim.live

    form_later : (f : Form) (k : ℕ) (tope : Tree) → k < length parts → IsMadeOf k places.count f → HasForm old context places before parts f tope
        → HasForm new context places after parts f tope
    form_later form.Top k tope lt made has = has
    form_later form.Bottom k tope lt made has = has
    form_later (form.And p q) k tope lt made has =
        has ∙ (λ i. conjunction (sym (same_tope p (omega (arith, made.0))) i) (sym (same_tope q (omega (arith, made.1))) i))
    form_later (form.Or p q) k tope lt made has =
        has ∙ (λ i. disjunction (sym (same_tope p (omega (arith, made.0))) i) (sym (same_tope q (omega (arith, made.1))) i))
    form_later (form.AtMost s u) k tope lt made has = (
      side_later s has.0,
      side_later u has.1,
      has.2 ∙ (λ i. at_most (sym (tree_stays old new later.grows s.point has.0.point.live) i)
          (sym (tree_stays old new later.grows u.point has.1.point.live) i)),
    )
    form_later (form.Equal s u) k tope lt made has = (
      side_later s has.0,
      side_later u has.1,
      has.2 ∙ (λ i. equal_points cube_two (sym (tree_stays old new later.grows s.point has.0.point.live) i)
          (sym (tree_stays old new later.grows u.point has.1.point.live) i)),
    )
    form_later (form.EqualPairs of p q pairs) k tope lt made has =
        let c = tree_stays old new later.grows of.0 has.cube_live in
        let s = tree_stays old new later.grows of.1 has.one_live in
        let u = tree_stays old new later.grows of.2 has.other_live in
        record {
          one_cube = has.one_cube;
          other_cube = has.other_cube;
          cube = c ∙ has.cube;
          says = has.says ∙ (λ i. equal_points (sym c i) (sym s i) (sym u i));
          first = same_tope p (omega (arith, made.0)) ∙ has.first ∙ (λ i. equal_points has.one_cube (left (sym s i)) (left (sym u i)));
          second = same_tope q (omega (arith, made.1)) ∙ has.second ∙ (λ i. equal_points has.other_cube (right (sym s i)) (right (sym u i)));
          left_live = live_stays old new later.grows pairs.0 has.left_live;
          right_live = live_stays old new later.grows pairs.1 has.right_live;
          left_pair = tree_stays old new later.grows pairs.0 has.left_live ∙ has.left_pair ∙ (λ i. pair (left (sym s i)) (right (sym s i)));
          right_pair = tree_stays old new later.grows pairs.1 has.right_live ∙ has.right_pair ∙ (λ i. pair (left (sym u i)) (right (sym u i)));
          cube_live = live_stays old new later.grows of.0 has.cube_live;
          one_live = live_stays old new later.grows of.1 has.one_live;
          other_live = live_stays old new later.grows of.2 has.other_live;
        }
    form_later form.Same k tope lt made has = has
    form_later form.OnePoint k tope lt made has = has

    sides_later : (f : Form) (tope : Tree) → HasForm old context places before parts f tope → HasSides old (binders_of context) list f → HasSides new
        (binders_of context) list f
    sides_later (form.AtMost s u) tope has sides = (at_later s has.0 sides.0, at_later u has.1 sides.1)
    sides_later (form.Equal s u) tope has sides = (at_later s has.0 sides.0, at_later u has.1 sides.1)
    sides_later form.Top tope has sides = sides
    sides_later form.Bottom tope has sides = sides
    sides_later (form.And p q) tope has sides = sides
    sides_later (form.Or p q) tope has sides = sides
    sides_later (form.EqualPairs of p q pairs) tope has sides = sides
    sides_later form.Same tope has sides = sides
    sides_later form.OnePoint tope has sides = sides

    pub parts_later : ArePartsOf new context list places after parts
    parts_later k part e =
        let is = are k part e in
        let lt = slice_get_within parts k part e in
        let tope = tope_of old part.claim in
        record {
          made = is.made;
          read = record {
            claim = claim_stays old new later.grows context part.claim is.read.claim;
            form = subst (λ (t : Tree). HasForm new context places after parts part.form t)
                (sym (tope_stays old new later.grows part.claim is.read.claim.live))
                (form_later part.form k tope lt is.made is.read.form);
          };
          sides = sides_later part.form tope is.read.form is.sides;
        }

    pub says_later : (number : ℕ) (tope : Tree) → SaysTope old parts number tope → SaysTope new parts number tope
    says_later number tope says = record { within = says.within; says = same_tope number says.within ∙ says.says }

-- ---- one more

module _ (nodes : List Node) (parts more : List Part) where
  old_part : (k : ℕ) → k < length parts → tope_at nodes (parts ++ more) k ≡ tope_at nodes parts k
  old_part k lt = ap (λ (p : Part). tope_of nodes p.claim) (get_or_append_left parts more _ k lt)

  pub says_still : (number : ℕ) (tope : Tree) → SaysTope nodes parts number tope → SaysTope nodes (parts ++ more) number tope
  says_still number tope says = record {
    within = omega (arith, says.within, length-append parts more);
    says = old_part number says.within ∙ says.says;
  }

  form_still : (context : Tree) (places : Places) (all : List Inference) (f : Form) (k : ℕ) (tope : Tree) → IsMadeOf k places.count f → k < length
      parts + 1
      → HasForm nodes context places all parts f tope → HasForm nodes context places all (parts ++ more) f tope
  form_still context places all (form.And p q) k tope made lt has =
      has ∙ (λ i. conjunction (sym (old_part p (omega (arith, made.0))) i) (sym (old_part q (omega (arith, made.1))) i))
  form_still context places all (form.Or p q) k tope made lt has =
      has ∙ (λ i. disjunction (sym (old_part p (omega (arith, made.0))) i) (sym (old_part q (omega (arith, made.1))) i))
  form_still context places all (form.EqualPairs of p q pairs) k tope made lt has = record {
    one_cube = has.one_cube;
    other_cube = has.other_cube;
    cube = has.cube;
    says = has.says;
    first = old_part p (omega (arith, made.0)) ∙ has.first;
    second = old_part q (omega (arith, made.1)) ∙ has.second;
    left_live = has.left_live;
    right_live = has.right_live;
    left_pair = has.left_pair;
    right_pair = has.right_pair;
    cube_live = has.cube_live;
    one_live = has.one_live;
    other_live = has.other_live;
  }
  form_still context places all form.Top k tope made lt has = has
  form_still context places all form.Bottom k tope made lt has = has
  form_still context places all (form.AtMost s u) k tope made lt has = has
  form_still context places all (form.Equal s u) k tope made lt has = has
  form_still context places all form.Same k tope made lt has = has
  form_still context places all form.OnePoint k tope made lt has = has

  part_still : (context : Tree) (list : List Coord) (places : Places) (all : List Inference) (k : ℕ) (part : Part) → k < length parts + 1
      → IsPart nodes context list places all parts k part → IsPart nodes context list places all (parts ++ more) k part
  part_still context list places all k part lt is = record {
    made = is.made;
    read = record { claim = is.read.claim; form = form_still context places all part.form k (tope_of nodes part.claim) is.made lt is.read.form };
    sides = is.sides;
  }

pub parts_with : (nodes : List Node) (context : Tree) (list : List Coord) (places : Places) (all : List Inference) (parts : List Part) (part : Part)
    → ArePartsOf nodes context list places all parts → IsPart nodes context list places all parts (length parts) part
    → ArePartsOf nodes context list places all (parts ++ part ∷ [])
parts_with nodes context list places all parts part are is =
    push_cases (λ k p. IsPart nodes context list places all (parts ++ part ∷ []) k p) parts part
    (λ k p e. part_still nodes parts (part ∷ []) context list places all k p (omega (arith, slice_get_within parts k p e)) (are k p e))
    (part_still nodes parts (part ∷ []) context list places all (length parts) part (omega arith) is)

pub says_new : (nodes : List Node) (parts : List Part) (part : Part) → SaysTope nodes (parts ++ part ∷ []) (length parts) (tope_of nodes part.claim)
says_new nodes parts part = record {
  within = omega (arith, length_push parts part);
  says = ap (λ (p : Part). tope_of nodes p.claim) (get_or_push parts part _ (length parts) refl);
}
