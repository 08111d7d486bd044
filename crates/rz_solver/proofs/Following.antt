-- Lines that say that topes hold, and that contexts are formed, follow by their rows.
use Rattle.std.proofs.Common.{◌≡◌, ℕ, ◌≤◌, List, [], ◌∷◌, ◌++◌, Some, refl, ap}
use Rattle.std.specs.Prelude.{All, map, slice_get, ◌==◌, if◌then◌else◌}
use Rattle.std.proofs.lemmas.List.Elements.{All-nil, All-head, All-tail, All-from_recursion}
use Rattle.rz_rules.specs.declared.kinds.Kind.TheVariants as kind
use Rattle.rz_rules.specs.declared.kinds.Sort.{Sort}
use Rattle.rz_rules.specs.declared.kinds.Sort.TheVariants as sort
use Rattle.rz_rules.specs.declared.rows.Row.{Row}
use Rattle.rz_rules.specs.declared.rows.Row.TheVariants as row
use Rattle.rz_rules.specs.Tree.{Tree, Trees, Nil, And, AreTrees, IsTree, blank}
use Rattle.rz_rules.specs.Context.{OfCube, OfTope, with_entry}
use Rattle.rz_rules.specs.Cube.{binders_of, leaves, cube_one, cube_two, product}
use Rattle.rz_rules.specs.Derivation.{Applies, Follows, IsMet, IsSpelled}
use Rattle.rz_rules.specs.Judgment.{Statement}
use Rattle.rz_rules.specs.Row.{Assignment, HasLetter, letters_in, spelled}
use Rattle.rz_rules.specs.Structural.{formed, holds}
use Rattle.rz_rules.specs.Table.{rule_of}
use Rattle.rz_rules.specs.Tope.{IsTopeOver, at_most, conjunction, disjunction, equal_points, left, one_end, pair, right, zero_end}
use Rattle.rz_metatheory.proofs.Values.{former_label}
use Rattle.rz_tope_proof.specs.Proving.{Infers, TopHolds, FromBottom, Both, FirstPart, SecondPart, FirstSide, SecondSide, Reflexive, Symmetric, Transitive, LeftOfPair, RightOfPair, PairOfParts, OnlyPoint, Pairs, Lefts, Rights, OfEqual, Through, BothWays, Total, Least, Greatest, Apart}

-- the trees of kids
first_kid : (of : Sort) (sorts : List Sort) (t : Tree) (ts : Trees) → AreTrees (of ∷ sorts) (And t ts) → IsTree of t
first_kid of sorts t ts are = are.0

other_kids : (of : Sort) (sorts : List Sort) (t : Tree) (ts : Trees) → AreTrees (of ∷ sorts) (And t ts) → AreTrees sorts ts
other_kids of sorts t ts are = are.1

-- the parts of topes and points
module _ (p q : Tree) where
  pub both_topes : IsTree sort.Tope (conjunction p q) → IsTree sort.Tope p × IsTree sort.Tope q
  both_topes is = (
    first_kid sort.Tope (sort.Tope ∷ []) p (And q Nil) is.2,
    first_kid sort.Tope [] q Nil (other_kids sort.Tope (sort.Tope ∷ []) p (And q Nil) is.2),
  )

  pub either_tope : IsTree sort.Tope (disjunction p q) → IsTree sort.Tope p × IsTree sort.Tope q
  either_tope is = (
    first_kid sort.Tope (sort.Tope ∷ []) p (And q Nil) is.2,
    first_kid sort.Tope [] q Nil (other_kids sort.Tope (sort.Tope ∷ []) p (And q Nil) is.2),
  )

  pub compared : IsTree sort.Tope (at_most p q) → IsTree sort.Point p × IsTree sort.Point q
  compared is = (
    first_kid sort.Point (sort.Point ∷ []) p (And q Nil) is.2,
    first_kid sort.Point [] q Nil (other_kids sort.Point (sort.Point ∷ []) p (And q Nil) is.2),
  )

  pub factors : IsTree sort.Cube (product p q) → IsTree sort.Cube p × IsTree sort.Cube q
  factors is = (
    first_kid sort.Cube (sort.Cube ∷ []) p (And q Nil) is.2,
    first_kid sort.Cube [] q Nil (other_kids sort.Cube (sort.Cube ∷ []) p (And q Nil) is.2),
  )

  paired : IsTree sort.Point (pair p q) → IsTree sort.Point p × IsTree sort.Point q
  paired is = (
    first_kid sort.Point (sort.Point ∷ []) p (And q Nil) is.2,
    first_kid sort.Point [] q Nil (other_kids sort.Point (sort.Point ∷ []) p (And q Nil) is.2),
  )

projected_left : (s : Tree) → IsTree sort.Point (left s) → IsTree sort.Point s
projected_left s is = first_kid sort.Point [] s Nil is.2

projected_right : (s : Tree) → IsTree sort.Point (right s) → IsTree sort.Point s
projected_right s is = first_kid sort.Point [] s Nil is.2

module _ (cube s u : Tree) (is : IsTree sort.Tope (equal_points cube s u)) where
  others : AreTrees (sort.Point ∷ sort.Point ∷ []) (And s (And u Nil))
  others = other_kids sort.Cube (sort.Point ∷ sort.Point ∷ []) cube (And s (And u Nil)) is.2

  equated_cube : IsTree sort.Cube cube
  equated_cube = first_kid sort.Cube (sort.Point ∷ sort.Point ∷ []) cube (And s (And u Nil)) is.2

  equated_left : IsTree sort.Point s
  equated_left = first_kid sort.Point (sort.Point ∷ []) s (And u Nil) others

  equated_right : IsTree sort.Point u
  equated_right = first_kid sort.Point [] u Nil (other_kids sort.Point (sort.Point ∷ []) s (And u Nil) others)

-- the premises of a row on topes in a context: that it is formed, where there is no tope
abbrev pub premises_under : Tree → List Tree → List Statement
premises_under context [] = formed context ∷ []
premises_under context (p ∷ ps) = holds context p ∷ map (holds context) ps

-- trees for the letters of rows on topes: a context, two cubes, five points, and three topes
abbrev letters : Tree → Tree → Tree → Tree → Tree → Tree → Tree → Tree → Tree → Tree → Tree → Assignment
letters context i k s s1 t t1 w p q r = record {
  letters = λ n.
      if n == 0 then context else if n == 1 then i else if n == 2 then k else if n == 3 then s else if n == 4 then s1
      else if n == 5 then t else if n == 6 then t1 else if n == 7 then w else if n == 8 then p else if n == 10 then q else if n == 12 then r else blank;
  name = [];
}

module _ (context : Tree) (c : IsTree sort.Context context) where
  -- of topes
  abbrev topes : Tree → Tree → Tree → Assignment
  topes p q r = letters context blank blank blank blank blank blank blank p q r

  -- of cubes and points
  abbrev points : Tree → Tree → Tree → Tree → Tree → Tree → Tree → Assignment
  points i k s s1 t t1 w = letters context i k s s1 t t1 w blank blank blank

  no_conditions : (assignment : Assignment) → All (IsMet assignment) []
  no_conditions assignment = All-nil (IsMet assignment)

  spelling : (by : Row) (assignment : Assignment) {premises : List Statement} {conclusion : Statement}
      → All (HasLetter assignment) (letters_in (rule_of by).text) → (spelled (rule_of by).text assignment).statements ≡ premises ++ conclusion ∷ []
      → All (IsMet assignment) (rule_of by).conditions → IsSpelled (rule_of by) premises conclusion
  spelling by assignment fit spells met = record {
    assignment = assignment;
    instance = record { letters = fit; spells = spells };
    conditions = met;
  }

  pub infers_spelled : (by : Row) (ps : List Tree) (t : Tree) → Infers by ps t → All (IsTree sort.Tope) ps → IsTree sort.Tope t
      → IsSpelled (rule_of by) (premises_under context ps) (holds context t)
  infers_spelled by ps t TopHolds are is =
      spelling row.Top (topes blank blank blank) (All-from_recursion (HasLetter (topes blank blank blank)) (letters_in (rule_of row.Top).text) (c, (c, tt))) refl (no_conditions (topes blank blank blank))
  infers_spelled by ps t (FromBottom {p = p}) are is =
      let is_p = is in
      spelling row.Bottom (topes p blank blank) (All-from_recursion (HasLetter (topes p blank blank)) (letters_in (rule_of row.Bottom).text) (c, (c, (is_p, tt)))) refl (no_conditions (topes p blank blank))
  infers_spelled by ps t (Both {p = p} {q = q}) are is =
      let is_p = All-head (IsTree sort.Tope) p (q ∷ []) are in
      let is_q = All-head (IsTree sort.Tope) q [] (All-tail (IsTree sort.Tope) p (q ∷ []) are) in
      spelling row.And (topes p q blank) (All-from_recursion (HasLetter (topes p q blank)) (letters_in (rule_of row.And).text) (c, (is_p, (c, (is_q, (c, (is_p, (is_q, tt)))))))) refl (no_conditions (topes p q blank))
  infers_spelled by ps t (FirstPart {p = p} {q = q}) are is =
      let both = both_topes p q (All-head (IsTree sort.Tope) (conjunction p q) [] are) in
      let is_p = is in
      let is_q = both.1 in
      spelling row.AndLeft (topes p q blank) (All-from_recursion (HasLetter (topes p q blank)) (letters_in (rule_of row.AndLeft).text) (c, (is_p, (is_q, (c, (is_p, tt)))))) refl (no_conditions (topes p q blank))
  infers_spelled by ps t (SecondPart {p = p} {q = q}) are is =
      let both = both_topes p q (All-head (IsTree sort.Tope) (conjunction p q) [] are) in
      let is_p = both.0 in
      let is_q = is in
      spelling row.AndRight (topes p q blank) (All-from_recursion (HasLetter (topes p q blank)) (letters_in (rule_of row.AndRight).text) (c, (is_p, (is_q, (c, (is_q, tt)))))) refl (no_conditions (topes p q blank))
  infers_spelled by ps t (FirstSide {p = p} {q = q}) are is =
      let both = either_tope p q is in
      let is_p = both.0 in
      let is_q = both.1 in
      spelling row.OrLeft (topes p q blank) (All-from_recursion (HasLetter (topes p q blank)) (letters_in (rule_of row.OrLeft).text) (c, (is_p, (c, (is_p, (is_q, tt)))))) refl (no_conditions (topes p q blank))
  infers_spelled by ps t (SecondSide {p = p} {q = q}) are is =
      let both = either_tope p q is in
      let is_p = both.0 in
      let is_q = both.1 in
      spelling row.OrRight (topes p q blank) (All-from_recursion (HasLetter (topes p q blank)) (letters_in (rule_of row.OrRight).text) (c, (is_q, (c, (is_p, (is_q, tt)))))) refl (no_conditions (topes p q blank))
  infers_spelled by ps t (Reflexive {cube = cube} {s = s}) are is =
      let is_i = equated_cube cube s s is in
      let is_s = equated_left cube s s is in
      spelling row.EqualReflexive (points cube blank s blank blank blank blank) (All-from_recursion (HasLetter (points cube blank s blank blank blank blank)) (letters_in (rule_of row.EqualReflexive).text) (c, (c, (is_i, (is_s, (is_s, tt)))))) refl (no_conditions (points cube blank s blank blank blank blank))
  infers_spelled by ps t (Symmetric {cube = cube} {s = s} {u = u}) are is =
      let is_i = equated_cube cube u s is in
      let is_s = equated_right cube u s is in
      let is_t = equated_left cube u s is in
      spelling row.EqualSymmetric (points cube blank s blank u blank blank) (All-from_recursion (HasLetter (points cube blank s blank u blank blank)) (letters_in (rule_of row.EqualSymmetric).text) (c, (is_i, (is_s, (is_t, (c, (is_i, (is_t, (is_s, tt))))))))) refl (no_conditions (points cube blank s blank u blank blank))
  infers_spelled by ps t (Transitive {cube = cube} {s = s} {u = u} {w = w}) are is =
      let is_i = equated_cube cube s w is in
      let is_s = equated_left cube s w is in
      let is_t = equated_right cube s u (All-head (IsTree sort.Tope) (equal_points cube s u) (equal_points cube u w ∷ []) are) in
      let is_w = equated_right cube s w is in
      spelling row.EqualTransitive (points cube blank s blank u blank w) (All-from_recursion (HasLetter (points cube blank s blank u blank w)) (letters_in (rule_of row.EqualTransitive).text) (c, (is_i, (is_s, (is_t, (c, (is_i, (is_t, (is_w, (c, (is_i, (is_s, (is_w, tt))))))))))))) refl (no_conditions (points cube blank s blank u blank w))
  infers_spelled by ps t (LeftOfPair {cube = cube} {s = s} {u = u}) are is =
      let is_i = equated_cube cube (left (pair s u)) s is in
      let is_s = equated_right cube (left (pair s u)) s is in
      let is_t = (paired s u (projected_left (pair s u) (equated_left cube (left (pair s u)) s is))).1 in
      spelling row.EqualFirst (points cube blank s blank u blank blank) (All-from_recursion (HasLetter (points cube blank s blank u blank blank)) (letters_in (rule_of row.EqualFirst).text) (c, (c, (is_i, (is_s, (is_t, (is_s, tt))))))) refl (no_conditions (points cube blank s blank u blank blank))
  infers_spelled by ps t (RightOfPair {cube = cube} {s = s} {u = u}) are is =
      let is_k = equated_cube cube (right (pair s u)) u is in
      let is_t = equated_right cube (right (pair s u)) u is in
      let is_s = (paired s u (projected_right (pair s u) (equated_left cube (right (pair s u)) u is))).0 in
      spelling row.EqualSecond (points blank cube s blank u blank blank) (All-from_recursion (HasLetter (points blank cube s blank u blank blank)) (letters_in (rule_of row.EqualSecond).text) (c, (c, (is_k, (is_s, (is_t, (is_t, tt))))))) refl (no_conditions (points blank cube s blank u blank blank))
  infers_spelled by ps t (PairOfParts {one = one} {other = other} {s = s}) are is =
      let both = factors one other (equated_cube (product one other) s (pair (left s) (right s)) is) in
      let is_i = both.0 in
      let is_k = both.1 in
      let is_s = equated_left (product one other) s (pair (left s) (right s)) is in
      spelling row.EqualEta (points one other s blank blank blank blank) (All-from_recursion (HasLetter (points one other s blank blank blank blank)) (letters_in (rule_of row.EqualEta).text) (c, (c, (is_i, (is_k, (is_s, (is_s, (is_s, tt)))))))) refl (no_conditions (points one other s blank blank blank blank))
  infers_spelled by ps t (OnlyPoint {s = s} {u = u}) are is =
      let is_s = equated_left cube_one s u is in
      let is_t = equated_right cube_one s u is in
      spelling row.EqualOne (points blank blank s blank u blank blank) (All-from_recursion (HasLetter (points blank blank s blank u blank blank)) (letters_in (rule_of row.EqualOne).text) (c, (c, (is_s, (is_t, tt))))) refl (no_conditions (points blank blank s blank u blank blank))
  infers_spelled by ps t (Pairs {one = one} {other = other} {s = s} {t = v} {u = u} {w = w}) are is =
      let both = factors one other (equated_cube (product one other) (pair s u) (pair v w) is) in
      let first = paired s u (equated_left (product one other) (pair s u) (pair v w) is) in
      let second = paired v w (equated_right (product one other) (pair s u) (pair v w) is) in
      let is_i = both.0 in
      let is_k = both.1 in
      let is_s = first.0 in
      let is_t = first.1 in
      let is_s1 = second.0 in
      let is_t1 = second.1 in
      spelling row.EqualPair (points one other s v u w blank) (All-from_recursion (HasLetter (points one other s v u w blank)) (letters_in (rule_of row.EqualPair).text) (c, (is_i, (is_s, (is_s1, (c, (is_k, (is_t, (is_t1, (c, (is_i, (is_k, (is_s, (is_t, (is_s1, (is_t1, tt)))))))))))))))) refl (no_conditions (points one other s v u w blank))
  infers_spelled by ps t (Lefts {one = one} {other = other} {s = s} {u = u}) are is =
      let both = factors one other (equated_cube (product one other) s u (All-head (IsTree sort.Tope) (equal_points (product one other) s u) [] are)) in
      let is_i = both.0 in
      let is_k = both.1 in
      let is_s = equated_left (product one other) s u (All-head (IsTree sort.Tope) (equal_points (product one other) s u) [] are) in
      let is_t = equated_right (product one other) s u (All-head (IsTree sort.Tope) (equal_points (product one other) s u) [] are) in
      spelling row.EqualLeft (points one other s blank u blank blank) (All-from_recursion (HasLetter (points one other s blank u blank blank)) (letters_in (rule_of row.EqualLeft).text) (c, (is_i, (is_k, (is_s, (is_t, (c, (is_i, (is_s, (is_t, tt)))))))))) refl (no_conditions (points one other s blank u blank blank))
  infers_spelled by ps t (Rights {one = one} {other = other} {s = s} {u = u}) are is =
      let both = factors one other (equated_cube (product one other) s u (All-head (IsTree sort.Tope) (equal_points (product one other) s u) [] are)) in
      let is_i = both.0 in
      let is_k = both.1 in
      let is_s = equated_left (product one other) s u (All-head (IsTree sort.Tope) (equal_points (product one other) s u) [] are) in
      let is_t = equated_right (product one other) s u (All-head (IsTree sort.Tope) (equal_points (product one other) s u) [] are) in
      spelling row.EqualRight (points one other s blank u blank blank) (All-from_recursion (HasLetter (points one other s blank u blank blank)) (letters_in (rule_of row.EqualRight).text) (c, (is_i, (is_k, (is_s, (is_t, (c, (is_k, (is_s, (is_t, tt)))))))))) refl (no_conditions (points one other s blank u blank blank))
  infers_spelled by ps t (OfEqual {s = s} {u = u}) are is =
      let both = compared s u is in
      let is_s = both.0 in
      let is_t = both.1 in
      spelling row.AtMostEqual (points blank blank s blank u blank blank) (All-from_recursion (HasLetter (points blank blank s blank u blank blank)) (letters_in (rule_of row.AtMostEqual).text) (c, (is_s, (is_t, (c, (is_s, (is_t, tt))))))) refl (no_conditions (points blank blank s blank u blank blank))
  infers_spelled by ps t (Through {s = s} {u = u} {w = w}) are is =
      let both = compared s w is in
      let is_s = both.0 in
      let is_w = both.1 in
      let is_t = (compared s u (All-head (IsTree sort.Tope) (at_most s u) (at_most u w ∷ []) are)).1 in
      spelling row.AtMostTransitive (points blank blank s blank u blank w) (All-from_recursion (HasLetter (points blank blank s blank u blank w)) (letters_in (rule_of row.AtMostTransitive).text) (c, (is_s, (is_t, (c, (is_t, (is_w, (c, (is_s, (is_w, tt)))))))))) refl (no_conditions (points blank blank s blank u blank w))
  infers_spelled by ps t (BothWays {s = s} {u = u}) are is =
      let is_s = equated_left cube_two s u is in
      let is_t = equated_right cube_two s u is in
      spelling row.AtMostAntisymmetric (points blank blank s blank u blank blank) (All-from_recursion (HasLetter (points blank blank s blank u blank blank)) (letters_in (rule_of row.AtMostAntisymmetric).text) (c, (is_s, (is_t, (c, (is_t, (is_s, (c, (is_s, (is_t, tt)))))))))) refl (no_conditions (points blank blank s blank u blank blank))
  infers_spelled by ps t (Total {s = s} {u = u}) are is =
      let both = compared s u (either_tope (at_most s u) (at_most u s) is).0 in
      let is_s = both.0 in
      let is_t = both.1 in
      spelling row.AtMostTotal (points blank blank s blank u blank blank) (All-from_recursion (HasLetter (points blank blank s blank u blank blank)) (letters_in (rule_of row.AtMostTotal).text) (c, (c, (is_s, (is_t, (is_t, (is_s, tt))))))) refl (no_conditions (points blank blank s blank u blank blank))
  infers_spelled by ps t (Least {s = s}) are is =
      let is_s = (compared zero_end s is).1 in
      spelling row.ZeroAtMost (points blank blank s blank blank blank blank) (All-from_recursion (HasLetter (points blank blank s blank blank blank blank)) (letters_in (rule_of row.ZeroAtMost).text) (c, (c, (is_s, tt)))) refl (no_conditions (points blank blank s blank blank blank blank))
  infers_spelled by ps t (Greatest {s = s}) are is =
      let is_s = (compared s one_end is).0 in
      spelling row.AtMostOne (points blank blank s blank blank blank blank) (All-from_recursion (HasLetter (points blank blank s blank blank blank blank)) (letters_in (rule_of row.AtMostOne).text) (c, (c, (is_s, tt)))) refl (no_conditions (points blank blank s blank blank blank blank))
  infers_spelled by ps t Apart are is =
      spelling row.ZeroIsNotOne (points blank blank blank blank blank blank blank) (All-from_recursion (HasLetter (points blank blank blank blank blank blank blank)) (letters_in (rule_of row.ZeroIsNotOne).text) (c, (c, tt))) refl (no_conditions (points blank blank blank blank blank blank blank))

  -- the row on case distinctions
  pub cases_spelled : (p q r : Tree) → IsTree sort.Tope (disjunction p q) → IsTree sort.Tope r
      → IsSpelled (rule_of row.OrElimination)
      (holds context (disjunction p q) ∷ holds (with_entry context (OfTope p)) r ∷ holds (with_entry context (OfTope q)) r ∷ []) (holds context r)
  cases_spelled p q r is is_r =
      let both = either_tope p q is in
      spelling row.OrElimination (topes p q r) (All-from_recursion (HasLetter (topes p q r)) (letters_in (rule_of row.OrElimination).text) (c, (both.0, (both.1, (c, (both.0, (is_r, (c, (both.1, (is_r, (c, (is_r, tt)))))))))))) refl (no_conditions (topes p q r))

  -- the row that adds a tope to a context
  pub opened_spelled : (p : Tree) → IsTree sort.Tope p → IsTopeOver (binders_of context) p
      → IsSpelled (rule_of row.ContextTope) (formed context ∷ []) (formed (with_entry context (OfTope p)))
  opened_spelled p is over =
      spelling row.ContextTope (topes p blank blank) (All-from_recursion (HasLetter (topes p blank blank)) (letters_in (rule_of row.ContextTope).text) (c, (c, (is, tt)))) refl
      (All-from_recursion (IsMet (topes p blank blank)) (rule_of row.ContextTope).conditions (over, tt))

-- a line that says that a tope holds
pub holds_follows : (said : List Statement) (by : Row) (context t : Tree) (from : List ℕ) (premises : List Statement)
    → IsTree sort.Context context → IsTree sort.Tope t → IsTopeOver (binders_of context) t
    → map (slice_get said) from ≡ map (λ says. Some says) premises → Applies (rule_of by) 0 premises (holds context t)
    → Follows said (record { row = by; number = 0; says = holds context t; from = from })
holds_follows said by context t from premises c is over are applies = record {
  trees = record { context = c; parts = (is, tt) };
  scoped = All-from_recursion (IsTopeOver (binders_of context)) (t ∷ []) (over, tt);
  premises = premises;
  from = are;
  applies = applies;
}

-- a line that says that a context with a tope more is formed
pub opened_follows : (said : List Statement) (context t : Tree) (from : List ℕ)
    → IsTree sort.Context context → IsTree sort.Context (with_entry context (OfTope t)) → IsTree sort.Tope t → IsTopeOver (binders_of context) t
    → map (slice_get said) from ≡ Some (formed context) ∷ []
    → Follows said (record { row = row.ContextTope; number = 0; says = formed (with_entry context (OfTope t)); from = from })
opened_follows said context t from c opened is over are = record {
  trees = record { context = opened; parts = tt };
  scoped = tt;
  premises = formed context ∷ [];
  from = are;
  applies = (refl, opened_spelled context c t is over);
}

-- lines that say that the empty context is formed, and one with a cube more
abbrev cubes : Tree → Tree → Assignment
cubes context cube = letters context cube blank blank blank blank blank blank blank blank blank

pub empty_follows : (said : List Statement) (from : List ℕ) → from ≡ []
    → Follows said (record { row = row.ContextNil; number = 0; says = formed blank; from = from })
empty_follows said from is = record {
  trees = record { context = (refl, former_label kind.EmptyContext refl, tt); parts = tt };
  scoped = tt;
  premises = [];
  from = ap (map (slice_get said)) is;
  applies = (
    refl,
    record {
      assignment = cubes blank blank;
      instance = record { letters = All-from_recursion (HasLetter (cubes blank blank)) (letters_in (rule_of row.ContextNil).text) tt; spells = refl };
      conditions = All-nil (IsMet (cubes blank blank));
    },
  );
}

pub cube_follows : (said : List Statement) (context cube : Tree) (from : List ℕ)
    → IsTree sort.Context context → IsTree sort.Context (with_entry context (OfCube cube)) → IsTree sort.Cube cube → leaves cube ≤ 64
    → map (slice_get said) from ≡ Some (formed context) ∷ []
    → Follows said (record { row = row.ContextCube; number = 0; says = formed (with_entry context (OfCube cube)); from = from })
cube_follows said context cube from c opened is few are = record {
  trees = record { context = opened; parts = tt };
  scoped = tt;
  premises = formed context ∷ [];
  from = are;
  applies = (
    refl,
    record {
      assignment = cubes context cube;
      instance = record {
        letters = All-from_recursion (HasLetter (cubes context cube)) (letters_in (rule_of row.ContextCube).text) (c, (c, (is, tt)));
        spells = refl;
      };
      conditions = All-from_recursion (IsMet (cubes context cube)) (rule_of row.ContextCube).conditions (few, tt);
    },
  );
}

-- by a row on topes
pub infers_applies : (context : Tree) → IsTree sort.Context context → (by : Row) (ps : List Tree) (t : Tree) → Infers by ps t
    → All (IsTree sort.Tope) ps → IsTree sort.Tope t → Applies (rule_of by) 0 (premises_under context ps) (holds context t)
infers_applies context c by ps t infers are is = applied by ps t infers (infers_spelled context c by ps t infers are is) where
  applied : (by : Row) (ps : List Tree) (t : Tree) → Infers by ps t → {premises : List Statement} {conclusion : Statement}
      → IsSpelled (rule_of by) premises conclusion → Applies (rule_of by) 0 premises conclusion
  applied by ps t TopHolds spelled_so = (refl, spelled_so)
  applied by ps t FromBottom spelled_so = (refl, spelled_so)
  applied by ps t Both spelled_so = (refl, spelled_so)
  applied by ps t FirstPart spelled_so = (refl, spelled_so)
  applied by ps t SecondPart spelled_so = (refl, spelled_so)
  applied by ps t FirstSide spelled_so = (refl, spelled_so)
  applied by ps t SecondSide spelled_so = (refl, spelled_so)
  applied by ps t Reflexive spelled_so = (refl, spelled_so)
  applied by ps t Symmetric spelled_so = (refl, spelled_so)
  applied by ps t Transitive spelled_so = (refl, spelled_so)
  applied by ps t LeftOfPair spelled_so = (refl, spelled_so)
  applied by ps t RightOfPair spelled_so = (refl, spelled_so)
  applied by ps t PairOfParts spelled_so = (refl, spelled_so)
  applied by ps t OnlyPoint spelled_so = (refl, spelled_so)
  applied by ps t Pairs spelled_so = (refl, spelled_so)
  applied by ps t Lefts spelled_so = (refl, spelled_so)
  applied by ps t Rights spelled_so = (refl, spelled_so)
  applied by ps t OfEqual spelled_so = (refl, spelled_so)
  applied by ps t Through spelled_so = (refl, spelled_so)
  applied by ps t BothWays spelled_so = (refl, spelled_so)
  applied by ps t Total spelled_so = (refl, spelled_so)
  applied by ps t Least spelled_so = (refl, spelled_so)
  applied by ps t Greatest spelled_so = (refl, spelled_so)
  applied by ps t Apart spelled_so = (refl, spelled_so)
