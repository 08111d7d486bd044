-- Normal points: their cubes, and what they are at each of their coordinates.
use Rattle.std.proofs.Common.{◌≡◌, ℕ, suc, ◌+◌, Bool, true, false, nat_eq, cond, List, [], ◌∷◌, ◌++◌, length, get_or, take, drop, map, Option, Some, refl, sym, ap, subst, ◌∙◌, add-one}
use Rattle.std.specs.Prelude.{option_and_then, slice_get}
use Rattle.std.proofs.Math.Seq.{take-append_seam, drop-append_seam}
use Rattle.std.proofs.lemmas.List.{length-append, map-append, take-append-drop}
use Rattle.std.proofs.lemmas.List.Elements.{All-nil, All-cons, All-append, All-map, All-filter, All-head, All-tail}
use Rattle.rz_rules.specs.declared.kinds.Sort.TheVariants as sort
use Rattle.rz_rules.specs.declared.kinds.Kind.TheVariants.{CubeTwo, Product, PointVariable, OnlyPoint, Zero, One, PointPair, PointLeft, PointRight, Conjunction, Disjunction, EqualPoints, AtMost, CubeEntry, TopeEntry, TermEntry}
use Rattle.rz_rules.specs.declared.coordinates.Coord.{Coord}
use Rattle.rz_rules.specs.declared.coordinates.Coord.TheVariants as coordinate
use Rattle.rz_rules.specs.declared.coordinates.TheConstants.{LEFT, RIGHT}
use Rattle.rz_rules.specs.Tree.{Tree, At, Nil, And, IsTree}
use Rattle.rz_rules.specs.Cube.{Binders, binders_of, cubes_of, cube_one, cube_two, product, left_part, right_part}
use Rattle.rz_rules.specs.Tope.{cube_of, IsTopeOver, left, right, pair, zero_end, one_end, point_variable}
use Rattle.rz_rules.specs.Coordinate.{paths, width, left_width, coordinates_of_variable, coordinates, is_of_variable, raised, half, part_at, point_of}
use Rattle.rz_rules.specs.Validity.{compared, compared_in, distinct, occurring}
use Rattle.rz_metatheory.specs.SmallOrders.{HasTopesOver}
use Rattle.rz_metatheory.proofs.Values.{then_some, same_in, left_part_is, right_part_is, AreCubes, cube_of_is}
use Rattle.rz_tope_normal.specs.Normal.{IsNoPair, left_of, right_of, normal}
use Rattle.rz_tope_normal.specs.Placed.{IsCoordinate, AreCoordinates}

-- ---- lists that are joined are cut where they were

pub take_front : {X : Type 0} (n : ℕ) (xs ys : List X) → length xs ≡ n → take n (xs ++ ys) ≡ xs
take_front n xs ys e = subst (λ m. take m (xs ++ ys) ≡ xs) e (take-append_seam xs ys)

pub drop_front : {X : Type 0} (n : ℕ) (xs ys : List X) → length xs ≡ n → drop n (xs ++ ys) ≡ ys
drop_front n xs ys e = subst (λ m. drop m (xs ++ ys) ≡ ys) e (drop-append_seam xs ys)

pub map_twice : {A B C : Type 0} (f : B → C) (g : A → B) (xs : List A) → map f (map g xs) ≡ map (λ x. f (g x)) xs
map_twice f g [] = refl
map_twice f g (x ∷ xs) = ap (λ ys. f (g x) ∷ ys) (map_twice f g xs)

-- ---- a normal point at its coordinates

-- where its cube is the directed interval, a normal point is that of its coordinate; where it is a product, so are its parts
abbrev pub Reads : Tree → Tree → List Coord → Type 0
Reads (At CubeTwo number name Nil) point list = (c : Coord) × (list ≡ c ∷ []) × (point ≡ point_of c)
Reads (At Product number name (And one (And other Nil))) point list =
    (length list ≡ width one + width other) × Reads one (left_of point) (take (width one) list)
    × Reads other (right_of point) (drop (width one) list)
Reads other point list = list ≡ []

pub reads_length : (cube point : Tree) (list : List Coord) → Reads cube point list → length list ≡ width cube
reads_length (At CubeTwo number name Nil) point list h = ap length h.1
reads_length (At Product number name (And one (And other Nil))) point list h = h.0
reads_length other point list h = ap length h

joined_reads : (number : ℕ) (name : List ℕ) (one other point : Tree) (xs ys : List Coord) → Reads one (left_of point) xs → Reads other
    (right_of point) ys
    → Reads (At Product number name (And one (And other Nil))) point (xs ++ ys)
joined_reads number name one other point xs ys f g =
    let long : length xs ≡ width one = reads_length one (left_of point) xs f in (
      length-append xs ys ∙ (λ i. long i + reads_length other (right_of point) ys g i),
      subst (Reads one (left_of point)) (sym (take_front (width one) xs ys long)) f,
      subst (Reads other (right_of point)) (sym (drop_front (width one) xs ys long)) g,
    )

variable_reads : (cube point : Tree) (named : List ℕ → Coord) → IsNoPair point → ((path : List ℕ) → point_of (named path) ≡ part_at point path)
    → Reads cube point (map named (paths cube))
variable_reads (At CubeTwo number name Nil) point named plain at = (named [], refl, sym (at []))
variable_reads (At Product number name (And one (And other Nil))) point named plain at =
    let first : Reads one (left point) (map (λ path. named (LEFT ∷ path)) (paths one)) =
    variable_reads one (left point) (λ path. named (LEFT ∷ path)) (record { left_is = refl; right_is = refl }) (λ path. at (LEFT ∷ path)) in
    let second : Reads other (right point) (map (λ path. named (RIGHT ∷ path)) (paths other)) =
    variable_reads other (right point) (λ path. named (RIGHT ∷ path)) (record { left_is = refl; right_is = refl }) (λ path. at (RIGHT ∷ path)) in
    let lists : map named (paths (At Product number name (And one (And other Nil))))
    ≡ map (λ path. named (LEFT ∷ path)) (paths one) ++ map (λ path. named (RIGHT ∷ path)) (paths other) =
    map-append named (map (λ path. LEFT ∷ path) (paths one)) (map (λ path. RIGHT ∷ path) (paths other))
    ∙ (λ i. map_twice named (λ path. LEFT ∷ path) (paths one) i ++ map_twice named (λ path. RIGHT ∷ path) (paths other) i) in
    subst (Reads (At Product number name (And one (And other Nil))) point) (sym lists)
    (joined_reads number name one other point _ _ (subst (λ t. Reads one t (map (λ path. named (LEFT ∷ path)) (paths one))) (sym plain.left_is) first)
    (subst (λ t. Reads other t (map (λ path. named (RIGHT ∷ path)) (paths other))) (sym plain.right_is) second))
variable_reads other point named plain at = refl

-- the normal form of a point is read so at the point's coordinates
pub normal_reads : (binders : Binders) (point cube : Tree) → cube_of binders point ≡ Some cube → Reads cube (normal point) (coordinates binders point)
normal_reads binders (At PointVariable index name Nil) cube e =
    subst (λ (o : Option Tree). Reads cube (point_variable index) (coordinates_of_variable index o)) (sym e)
    (variable_reads cube (point_variable index) (λ path. coordinate.Of index path) (record { left_is = refl; right_is = refl }) (λ path. refl))
normal_reads binders (At OnlyPoint number name Nil) cube e = subst (λ c. Reads c (At OnlyPoint 0 [] Nil) []) (same_in cube_one cube e) refl
normal_reads binders (At Zero number name Nil) cube e =
    subst (λ c. Reads c zero_end (coordinate.Zero ∷ [])) (same_in cube_two cube e) (coordinate.Zero, refl, refl)
normal_reads binders (At One number name Nil) cube e =
    subst (λ c. Reads c one_end (coordinate.One ∷ [])) (same_in cube_two cube e) (coordinate.One, refl, refl)
normal_reads binders (At PointPair number name (And s (And u Nil))) cube e =
    let first = then_some (λ l. option_and_then (λ r. Some (product l r)) (cube_of binders u)) (cube_of binders s) cube e in
    let second = then_some (λ r. Some (product first.0 r)) (cube_of binders u) cube first.2 in
    subst (λ c. Reads c (pair (normal s) (normal u)) (coordinates binders s ++ coordinates binders u))
    (same_in (product first.0 second.0) cube second.2)
    (joined_reads 0 [] first.0 second.0 (pair (normal s) (normal u)) (coordinates binders s) (coordinates binders u)
    (normal_reads binders s first.0 first.1) (normal_reads binders u second.0 second.1))
normal_reads binders (At PointLeft number name (And s Nil)) cube e =
    let whole = then_some left_part (cube_of binders s) cube e in
    let part = left_part_is whole.0 cube whole.2 in
    let is : cube_of binders s ≡ Some (At Product part.0 part.1 (And cube (And part.2 Nil))) = whole.1 ∙ ap Some part.3 in
    subst (λ (o : Option Tree). Reads cube (left_of (normal s)) (take (left_width o) (coordinates binders s))) (sym is)
    (normal_reads binders s (At Product part.0 part.1 (And cube (And part.2 Nil))) is).1
normal_reads binders (At PointRight number name (And s Nil)) cube e =
    let whole = then_some right_part (cube_of binders s) cube e in
    let part = right_part_is whole.0 cube whole.2 in
    let is : cube_of binders s ≡ Some (At Product part.0 part.1 (And part.2 (And cube Nil))) = whole.1 ∙ ap Some part.3 in
    subst (λ (o : Option Tree). Reads cube (right_of (normal s)) (drop (left_width o) (coordinates binders s))) (sym is)
    (normal_reads binders s (At Product part.0 part.1 (And part.2 (And cube Nil))) is).2
normal_reads binders other cube e = absurd cc

-- so the normal form of a point of the directed interval is the point of its coordinate
pub normal_point : (binders : Binders) (point : Tree) → cube_of binders point ≡ Some cube_two
    → (c : Coord) × (coordinates binders point ≡ c ∷ []) × (normal point ≡ point_of c)
normal_point binders point e = normal_reads binders point cube_two e

pub coordinates_many : (binders : Binders) (point cube : Tree) → cube_of binders point ≡ Some cube → length (coordinates binders point) ≡ width cube
coordinates_many binders point cube e = reads_length cube (normal point) (coordinates binders point) (normal_reads binders point cube e)

-- ---- the cube of a normal form

pub left_cube : (binders : Binders) (point whole part : Tree) → cube_of binders point ≡ Some whole → left_part whole ≡ Some part → cube_of binders
    (left_of point) ≡ Some part
left_cube binders (At PointPair number name (And s (And u Nil))) whole part e p =
    let first = then_some (λ l. option_and_then (λ r. Some (product l r)) (cube_of binders u)) (cube_of binders s) whole e in
    let second = then_some (λ r. Some (product first.0 r)) (cube_of binders u) whole first.2 in
    first.1 ∙ ap left_part (same_in (product first.0 second.0) whole second.2) ∙ p
left_cube binders other whole part e p = ap (option_and_then left_part) e ∙ p

pub right_cube : (binders : Binders) (point whole part : Tree) → cube_of binders point ≡ Some whole → right_part whole ≡ Some part → cube_of binders
    (right_of point) ≡ Some part
right_cube binders (At PointPair number name (And s (And u Nil))) whole part e p =
    let first = then_some (λ l. option_and_then (λ r. Some (product l r)) (cube_of binders u)) (cube_of binders s) whole e in
    let second = then_some (λ r. Some (product first.0 r)) (cube_of binders u) whole first.2 in
    second.1 ∙ ap right_part (same_in (product first.0 second.0) whole second.2) ∙ p
right_cube binders other whole part e p = ap (option_and_then right_part) e ∙ p

pub normal_cube : (binders : Binders) (point cube : Tree) → cube_of binders point ≡ Some cube → cube_of binders (normal point) ≡ Some cube
normal_cube binders (At PointVariable index name Nil) cube e = e
normal_cube binders (At OnlyPoint number name Nil) cube e = e
normal_cube binders (At Zero number name Nil) cube e = e
normal_cube binders (At One number name Nil) cube e = e
normal_cube binders (At PointPair number name (And s (And u Nil))) cube e =
    let first = then_some (λ l. option_and_then (λ r. Some (product l r)) (cube_of binders u)) (cube_of binders s) cube e in
    let second = then_some (λ r. Some (product first.0 r)) (cube_of binders u) cube first.2 in
    (λ i. option_and_then (λ l. option_and_then (λ r. Some (product l r)) (normal_cube binders u second.0 second.1 i))
    (normal_cube binders s first.0 first.1 i))
    ∙ second.2
normal_cube binders (At PointLeft number name (And s Nil)) cube e =
    let whole = then_some left_part (cube_of binders s) cube e in
    left_cube binders (normal s) whole.0 cube (normal_cube binders s whole.0 whole.1) whole.2
normal_cube binders (At PointRight number name (And s Nil)) cube e =
    let whole = then_some right_part (cube_of binders s) cube e in
    right_cube binders (normal s) whole.0 cube (normal_cube binders s whole.0 whole.1) whole.2
normal_cube binders other cube e = absurd cc

-- ---- cubes as they are written

pub two_is : (number : ℕ) (name : List ℕ) → IsTree sort.Cube (At CubeTwo number name Nil) → At CubeTwo number name Nil ≡ cube_two
two_is number name h = λ i. At CubeTwo (h.1.unnumbered refl i) (h.1.unnamed refl i) Nil

pub product_is : (number : ℕ) (name : List ℕ) (one other : Tree) → IsTree sort.Cube (At Product number name (And one (And other Nil)))
    → At Product number name (And one (And other Nil)) ≡ product one other
product_is number name one other h = λ i. At Product (h.1.unnumbered refl i) (h.1.unnamed refl i) (And one (And other Nil))

-- ---- coordinates are those of points of the directed interval

reads_coordinates : (binders : Binders) (cube point : Tree) (list : List Coord) → IsTree sort.Cube cube → cube_of binders point ≡ Some cube → Reads
    cube point list
    → AreCoordinates binders list
reads_coordinates binders (At CubeTwo number name Nil) point list tree e h =
    subst (AreCoordinates binders) (sym h.1) (All-cons (IsCoordinate binders) h.0 []
    (ap (cube_of binders) (sym h.2) ∙ e ∙ ap Some (two_is number name tree)) (All-nil (IsCoordinate binders)))
reads_coordinates binders (At Product number name (And one (And other Nil))) point list tree e h =
    subst (AreCoordinates binders) (take-append-drop (width one) list)
    (All-append (IsCoordinate binders) (take (width one) list) (drop (width one) list)
    (reads_coordinates binders one (left_of point) (take (width one) list) tree.2.0
    (left_cube binders point (At Product number name (And one (And other Nil))) one e refl) h.1)
    (reads_coordinates binders other (right_of point) (drop (width one) list) tree.2.1.0
    (right_cube binders point (At Product number name (And one (And other Nil))) other e refl) h.2))
reads_coordinates binders other point list tree e h = subst (AreCoordinates binders) (sym h) (All-nil (IsCoordinate binders))

module _ (cubes : List Tree) (are : AreCubes cubes) where
  abbrev here : Binders
  here = record { cubes = cubes }

  pub coordinates_are : (point cube : Tree) → cube_of here point ≡ Some cube → AreCoordinates here (coordinates here point)
  coordinates_are point cube e =
      reads_coordinates here cube (normal point) (coordinates here point) (cube_of_is cubes are point cube e) (normal_cube here point cube e)
      (normal_reads here point cube e)

  pub compared_are : (tope : Tree) → IsTopeOver here tope → AreCoordinates here (compared here tope)
  compared_are (At Conjunction number name (And p (And q Nil))) h =
      All-append (IsCoordinate here) (compared here p) (compared here q) (compared_are p h.0) (compared_are q h.1)
  compared_are (At Disjunction number name (And p (And q Nil))) h =
      All-append (IsCoordinate here) (compared here p) (compared here q) (compared_are p h.0) (compared_are q h.1)
  compared_are (At EqualPoints number name (And cube (And s (And u Nil)))) h =
      All-append (IsCoordinate here) (coordinates here s) (coordinates here u) (coordinates_are s cube h.0) (coordinates_are u cube h.1)
  compared_are (At AtMost number name (And s (And u Nil))) h =
      All-append (IsCoordinate here) (coordinates here s) (coordinates here u) (coordinates_are s cube_two h.0) (coordinates_are u cube_two h.1)
  compared_are other h = All-nil (IsCoordinate here)

-- further in

part_cube : (old new : Binders) (path : List ℕ) (t u : Tree) → cube_of new u ≡ cube_of old t → cube_of new (part_at u path) ≡ cube_of old
    (part_at t path)
part_cube old new [] t u e = e
part_cube old new (way ∷ path) t u e = part_cube old new path (half way t) (half way u) (by (nat_eq way LEFT)) where
  by : (b : Bool) → cube_of new (cond b (left u) (right u)) ≡ cube_of old (cond b (left t) (right t))
  by true = ap (option_and_then left_part) e
  by false = ap (option_and_then right_part) e

raised_is : (cube : Tree) (cubes : List Tree) (c : Coord) → IsCoordinate (record { cubes = cubes }) c → IsCoordinate (record { cubes = cube ∷ cubes })
    (raised c)
raised_is cube cubes coordinate.Zero h = h
raised_is cube cubes coordinate.One h = h
raised_is cube cubes (coordinate.Of index path) h =
    part_cube (record { cubes = cubes }) (record { cubes = cube ∷ cubes }) path (point_variable index) (point_variable (index + 1))
    (ap (slice_get (cube ∷ cubes)) (add-one index)) ∙ h

pub compared_in_are : (context : Tree) → HasTopesOver context → AreCubes (cubes_of context) → AreCoordinates (binders_of context)
    (compared_in context)
compared_in_are (At CubeEntry number name (And context (And cube Nil))) h are =
    All-map (IsCoordinate (record { cubes = cube ∷ cubes_of context })) raised (compared_in context)
    (λ k d l. raised_is cube (cubes_of context) (get_or (compared_in context) k d) (compared_in_are context h (λ index. are (suc index)) k d l))
compared_in_are (At TopeEntry number name (And context (And tope Nil))) h are =
    All-append (IsCoordinate (binders_of context)) (compared_in context) (compared (binders_of context) tope) (compared_in_are context h.0 are)
    (compared_are (cubes_of context) are tope h.1)
compared_in_are (At TermEntry number name (And context (And type Nil))) h are = compared_in_are context h are
compared_in_are other h are = All-nil (IsCoordinate (binders_of other))

distinct_are : (binders : Binders) (list : List Coord) → AreCoordinates binders list → AreCoordinates binders (distinct list)
distinct_are binders [] h = All-nil (IsCoordinate binders)
distinct_are binders (x ∷ xs) h =
    All-cons (IsCoordinate binders) x _ (All-head (IsCoordinate binders) x xs h)
    (All-filter _ (IsCoordinate binders) (distinct xs) (distinct_are binders xs (All-tail (IsCoordinate binders) x xs h)))

-- what occurs in a sequent are coordinates over its context
pub occurring_are : (context tope : Tree) → HasTopesOver context → IsTopeOver (binders_of context) tope → AreCubes (cubes_of context)
    → AreCoordinates (binders_of context) (occurring context tope)
occurring_are context tope h over are =
    distinct_are (binders_of context) _ (All-filter is_of_variable (IsCoordinate (binders_of context)) _
    (All-append (IsCoordinate (binders_of context)) (compared_in context) (compared (binders_of context) tope) (compared_in_are context h are)
    (compared_are (cubes_of context) are tope over)))
