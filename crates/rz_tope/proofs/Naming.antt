-- The variables of coordinates are of the context, and are renamed behind more entries.
use Rattle.std.proofs.Common.{◌≡◌, ℕ, ◌+◌, ◌<◌, ◌≤◌, ◌&&◌, Bool, true, false, cond, List, [], ◌∷◌, length, get_or, map, filter, All, Option, Some, None, nat_eq, refl, sym, ap, ◌∙◌, arith}
use Rattle.std.specs.Prelude.{not, slice_get}
use Rattle.std.specs.Cmp.{unsigned_Decides}
use Rattle.std.specs.Str.{bytes_eq}
use Rattle.std.proofs.lemmas.List.Elements.{All-append, All-take, All-drop, All-map, All-filter, All-cons, All-nil, All-head, All-tail}
use Rattle.rz_rules.specs.declared.kinds.Kind.TheVariants.{PointVariable, Zero, One, PointPair, PointLeft, PointRight, Conjunction, Disjunction, EqualPoints, AtMost}
use Rattle.rz_rules.specs.declared.coordinates.Coord.{Coord}
use Rattle.rz_rules.specs.declared.coordinates.Coord.TheVariants as coordinate
use Rattle.rz_rules.specs.Tree.{Tree, At, Nil, And}
use Rattle.rz_rules.specs.Cube.{Binders}
use Rattle.rz_rules.specs.Tope.{cube_of}
use Rattle.rz_rules.specs.Coordinate.{paths, left_width, coordinates_of_variable, coordinates, are_same, is_of_variable, raised}
use Rattle.rz_rules.specs.Validity.{compared, distinct}
use Rattle.rz_cube.proofs.ListPlaces.{slice_get_is}
use Rattle.rz_tope.specs.Occurrence.{occurrences, raised_by, IsNamedBelow}

-- ---- below the number of cubes

variable_below : (limit variable : ℕ) (cube : Option Tree) → ((c : Tree) → cube ≡ Some c → variable < limit) → All (IsNamedBelow limit) (coordinates_of_variable variable cube)
variable_below limit variable None h = All-nil (IsNamedBelow limit)
variable_below limit variable (Some cube) h = All-map (IsNamedBelow limit) (λ path. coordinate.Of variable path) (paths cube) (λ k d l. h cube refl)

coordinates_below : (binders : Binders) (point : Tree) → All (IsNamedBelow (length binders.cubes)) (coordinates binders point)
coordinates_below binders (At PointVariable index name Nil) =
    variable_below (length binders.cubes) index (slice_get binders.cubes index) (λ c e. (slice_get_is binders.cubes index c c e).0)
coordinates_below binders (At Zero number name Nil) = All-cons (IsNamedBelow (length binders.cubes)) coordinate.Zero [] tt (All-nil (IsNamedBelow (length binders.cubes)))
coordinates_below binders (At One number name Nil) = All-cons (IsNamedBelow (length binders.cubes)) coordinate.One [] tt (All-nil (IsNamedBelow (length binders.cubes)))
coordinates_below binders (At PointPair number name (And s (And u Nil))) =
    All-append (IsNamedBelow (length binders.cubes)) (coordinates binders s) (coordinates binders u) (coordinates_below binders s) (coordinates_below binders u)
coordinates_below binders (At PointLeft number name (And s Nil)) =
    All-take (IsNamedBelow (length binders.cubes)) (left_width (cube_of binders s)) (coordinates binders s) (coordinates_below binders s)
coordinates_below binders (At PointRight number name (And s Nil)) =
    All-drop (IsNamedBelow (length binders.cubes)) (left_width (cube_of binders s)) (coordinates binders s) (coordinates_below binders s)
coordinates_below binders other = All-nil (IsNamedBelow (length binders.cubes))

compared_below : (binders : Binders) (tope : Tree) → All (IsNamedBelow (length binders.cubes)) (compared binders tope)
compared_below binders (At Conjunction number name (And p (And q Nil))) =
    All-append (IsNamedBelow (length binders.cubes)) (compared binders p) (compared binders q) (compared_below binders p) (compared_below binders q)
compared_below binders (At Disjunction number name (And p (And q Nil))) =
    All-append (IsNamedBelow (length binders.cubes)) (compared binders p) (compared binders q) (compared_below binders p) (compared_below binders q)
compared_below binders (At EqualPoints number name (And cube (And s (And u Nil)))) =
    All-append (IsNamedBelow (length binders.cubes)) (coordinates binders s) (coordinates binders u) (coordinates_below binders s) (coordinates_below binders u)
compared_below binders (At AtMost number name (And s (And u Nil))) =
    All-append (IsNamedBelow (length binders.cubes)) (coordinates binders s) (coordinates binders u) (coordinates_below binders s) (coordinates_below binders u)
compared_below binders other = All-nil (IsNamedBelow (length binders.cubes))

distinct_below : (limit : ℕ) (list : List Coord) → All (IsNamedBelow limit) list → All (IsNamedBelow limit) (distinct list)
distinct_below limit [] h = All-nil (IsNamedBelow limit)
distinct_below limit (x ∷ xs) h =
    All-cons (IsNamedBelow limit) x (filter (λ other. not (are_same x other)) (distinct xs)) (All-head (IsNamedBelow limit) x xs h)
    (All-filter (λ other. not (are_same x other)) (IsNamedBelow limit) (distinct xs) (distinct_below limit xs (All-tail (IsNamedBelow limit) x xs h)))

raised_below : (limit by most : ℕ) (c : Coord) → IsNamedBelow limit c → limit + by ≤ most → IsNamedBelow most (raised_by by c)
raised_below limit by most (coordinate.Of variable path) h le = omega arith
raised_below limit by most coordinate.Zero h le = tt
raised_below limit by most coordinate.One h le = tt

pub list_below : (binders : Binders) (tope : Tree) (by most : ℕ) → length binders.cubes + by ≤ most
    → All (λ coordinate. IsNamedBelow most (raised_by by coordinate)) (occurrences (compared binders tope))
list_below binders tope by most le k d l =
    raised_below (length binders.cubes) by most (get_or (occurrences (compared binders tope)) k d)
    (distinct_below (length binders.cubes) (filter is_of_variable (compared binders tope))
    (All-filter is_of_variable (IsNamedBelow (length binders.cubes)) (compared binders tope) (compared_below binders tope)) k d l) le

-- ---- renaming

pub raised_none : (list : List Coord) → map (raised_by 0) list ≡ list
raised_none [] = refl
raised_none (coordinate.Of variable path ∷ list) =
    let same : variable + 0 ≡ variable = omega arith in
    λ i. coordinate.Of (same i) path ∷ raised_none list i
raised_none (coordinate.Zero ∷ list) = ap (λ xs. coordinate.Zero ∷ xs) (raised_none list)
raised_none (coordinate.One ∷ list) = ap (λ xs. coordinate.One ∷ xs) (raised_none list)

pub raised_more : (by : ℕ) (list : List Coord) → map (raised_by by) (map raised list) ≡ map (raised_by (by + 1)) list
raised_more by [] = refl
raised_more by (coordinate.Of variable path ∷ list) =
    let same : (variable + 1) + by ≡ variable + (by + 1) = omega arith in
    λ i. coordinate.Of (same i) path ∷ raised_more by list i
raised_more by (coordinate.Zero ∷ list) = ap (λ xs. coordinate.Zero ∷ xs) (raised_more by list)
raised_more by (coordinate.One ∷ list) = ap (λ xs. coordinate.One ∷ xs) (raised_more by list)

-- the test of two coordinates doesn't see it
same_number : (b c : Bool) → (b ≡ true → c ≡ true) → (c ≡ true → b ≡ true) → b ≡ c
same_number true c f g = sym (f refl)
same_number false true f g = g refl
same_number false false f g = refl

same-raised : (by : ℕ) (a b : Coord) → are_same (raised_by by a) (raised_by by b) ≡ are_same a b
same-raised by (coordinate.Of v p) (coordinate.Of w q) =
    let same = same_number (nat_eq (v + by) (w + by)) (nat_eq v w)
    (λ e. let is : v + by ≡ w + by = (unsigned_Decides (v + by) (w + by)).0 e in (unsigned_Decides v w).1 (omega arith))
    (λ e. let is : v ≡ w = (unsigned_Decides v w).0 e in (unsigned_Decides (v + by) (w + by)).1 (omega arith)) in
    ap (λ b. b && bytes_eq p q) same
same-raised by coordinate.Zero coordinate.Zero = refl
same-raised by coordinate.Zero coordinate.One = refl
same-raised by coordinate.Zero (coordinate.Of w q) = refl
same-raised by coordinate.One coordinate.Zero = refl
same-raised by coordinate.One coordinate.One = refl
same-raised by coordinate.One (coordinate.Of w q) = refl
same-raised by (coordinate.Of v p) coordinate.Zero = refl
same-raised by (coordinate.Of v p) coordinate.One = refl

filter-map : (p q : Coord → Bool) (f : Coord → Coord) → ((c : Coord) → p (f c) ≡ q c) → (list : List Coord) → filter p (map f list) ≡ map f (filter q list)
filter-map p q f h [] = refl
filter-map p q f h (x ∷ xs) =
    ap (λ b. cond b (f x ∷ filter p (map f xs)) (filter p (map f xs))) (h x) ∙ by (q x) (filter-map p q f h xs) where
      by : (b : Bool) → filter p (map f xs) ≡ map f (filter q xs) → cond b (f x ∷ filter p (map f xs)) (filter p (map f xs)) ≡ map f (cond b (x ∷ filter q xs) (filter q xs))
      by true e = ap (λ l. f x ∷ l) e
      by false e = e

distinct-raised : (by : ℕ) (list : List Coord) → distinct (map (raised_by by) list) ≡ map (raised_by by) (distinct list)
distinct-raised by [] = refl
distinct-raised by (x ∷ xs) =
    ap (λ l. raised_by by x ∷ filter (λ other. not (are_same (raised_by by x) other)) l) (distinct-raised by xs)
    ∙ ap (λ l. raised_by by x ∷ l) (filter-map (λ other. not (are_same (raised_by by x) other)) (λ other. not (are_same x other)) (raised_by by) (λ c. ap not (same-raised by x c)) (distinct xs))

variable-raised : (by : ℕ) (c : Coord) → is_of_variable (raised_by by c) ≡ is_of_variable c
variable-raised by (coordinate.Of variable path) = refl
variable-raised by coordinate.Zero = refl
variable-raised by coordinate.One = refl

pub occurrences-raised : (by : ℕ) (list : List Coord) → occurrences (map (raised_by by) list) ≡ map (raised_by by) (occurrences list)
occurrences-raised by list = ap distinct (filter-map is_of_variable is_of_variable (raised_by by) (variable-raised by) list) ∙ distinct-raised by (filter is_of_variable list)
