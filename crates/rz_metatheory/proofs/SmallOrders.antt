-- Small orders: where numbers refute, some rank list does.
use Rattle.std.proofs.Common.{◌≡◌, ℕ, zero, suc, ◌+◌, ◌<◌, ◌≤◌, List, [], ◌∷◌, ◌++◌, length, take, drop, map, All, Option, Some, None, Bool, true, false, true≢false, inl, inr, get_or, ◌&&◌, cond, refl, sym, ap, ◌∙◌, subst, arith}
use Rattle.std.specs.Prelude.{slice_get, slice_index, unwrap_or, option_and_then, ◌==◌, ◌||◌, not, nat_le, nat_lt, nat_eq, filter, if◌then◌else◌}
use Rattle.std.specs.Map.{lookup}
use Rattle.std.specs.Str.{bytes_eq}
use Rattle.std.specs.Cmp.{first_so, second_so}
use Rattle.std.specs.Cmp.Lexicographic.{pointwise}
use Rattle.std.proofs.lemmas.Bool.Decides.{nat_tests}
use Rattle.std.proofs.lemmas.List.{length-take, length-drop, map-append, take-map, drop-map, take-append-drop}
use Rattle.std.proofs.lemmas.Slice.Eq.{bytes_eq-Decides}
use Rattle.rz_rules.specs.declared.kinds.Kind.TheVariants.{CubeTwo, Product, PointVariable, OnlyPoint, Zero, One, PointPair, PointLeft, PointRight, Top, Bottom, Conjunction, Disjunction, EqualPoints, AtMost, CubeEntry, TopeEntry, TermEntry}
use Rattle.rz_rules.specs.declared.coordinates.Coord.{Coord}
use Rattle.rz_rules.specs.declared.coordinates.Coord.TheVariants as coordinate
use Rattle.rz_rules.specs.declared.coordinates.TheConstants.{LEFT, RIGHT}
use Rattle.rz_rules.specs.Tree.{Tree, At, Nil, And}
use Rattle.rz_rules.specs.Cube.{Binders, cube_two, product, left_part, right_part, cubes_of, binders_of}
use Rattle.rz_rules.specs.Coordinate.{paths, width, left_width, coordinates_of_variable, coordinates, are_same, is_of_variable, raised}
use Rattle.rz_rules.specs.Tope.{cube_of, IsTopeOver}
use Rattle.rz_rules.specs.Validity.{RankList, rank_in, truth, are_true, compared, compared_in, distinct, occurring, IsRankList, IsValid}
use Rattle.rz_metatheory.specs.Place.{Entails, place_of, Valuation, FitsCubes, value, is_true, outside, allows_in}
use Rattle.rz_metatheory.specs.SmallOrders.{IsRefutedBy, IsRefutedByRanks, IsTrueInAllNumbers, HasTopesOver, IsSequent, IsRefutation}
use Rattle.rz_metatheory.proofs.Values.{then_some}
use Rattle.std.proofs.lemmas.Bool.{cases_lt}
use Rattle.std.proofs.lemmas.List.Elements.{All-head, All-map, All-take, All-drop}
use Rattle.rz_metatheory.proofs.Lists.{nothing_equal, either_true, left_true, right_true}

-- ---- a valuation gives a number to each coordinate

-- the number at the end of a way through a cube
abbrev at_path : Tree → List ℕ → List ℕ → ℕ
at_path (At CubeTwo number name Nil) numbers way = slice_index numbers 0
at_path (At Product number name (And left (And right Nil))) numbers [] = 0
at_path (At Product number name (And left (And right Nil))) numbers (turn ∷ way) =
    if turn == LEFT then at_path left (take (width left) numbers) way else at_path right (drop (width left) numbers) way
at_path other numbers way = 0

map_map : {X Y Z : Type 0} (f : Y → Z) (g : X → Y) (xs : List X) → map f (map g xs) ≡ map (λ x. f (g x)) xs
map_map f g [] = refl
map_map f g (x ∷ xs) = λ i. f (g x) ∷ map_map f g xs i

all_numbers : (cube : Tree) (numbers : List ℕ) → length numbers ≡ width cube → map (at_path cube numbers) (paths cube) ≡ numbers
all_numbers (At CubeTwo number name Nil) [] e = absurd (omega (arith, e))
all_numbers (At CubeTwo number name Nil) (n ∷ []) e = refl
all_numbers (At CubeTwo number name Nil) (n ∷ m ∷ numbers) e = absurd (omega (arith, e))
all_numbers (At Product number name (And left (And right Nil))) numbers e =
    let cube : Tree = At Product number name (And left (And right Nil)) in
    map-append (at_path cube numbers) (map (λ path. LEFT ∷ path) (paths left)) (map (λ path. RIGHT ∷ path) (paths right))
    ∙ (λ i. map_map (at_path cube numbers) (λ path. LEFT ∷ path) (paths left) i ++ map_map (at_path cube numbers) (λ path. RIGHT ∷ path) (paths right) i)
    ∙ (λ i. all_numbers left (take (width left) numbers) (omega (arith, e, length-take (width left) numbers)) i
    ++ all_numbers right (drop (width left) numbers) (omega (arith, e, length-drop (width left) numbers)) i)
    ∙ take-append-drop (width left) numbers
all_numbers other numbers e = nothing_equal [] numbers refl e

abbrev number_in : Option Tree → List ℕ → List ℕ → ℕ
number_in None numbers way = 0
number_in (Some cube) numbers way = at_path cube numbers way

abbrev pub numbered : Valuation → List Tree → Coord → ℕ
numbered valuation cubes coordinate.Zero = 0
numbered valuation cubes coordinate.One = valuation.last
numbered valuation cubes (coordinate.Of variable way) = number_in (slice_get cubes variable) (valuation.values variable) way

module _ (binders : Binders) (valuation : Valuation) (fits : FitsCubes binders.cubes valuation) where
  abbrev rank : Coord → ℕ
  rank = numbered valuation binders.cubes

  -- the numbers of a point are those of its coordinates
  numbers_of : (point cube : Tree) → cube_of binders point ≡ Some cube → value binders valuation point ≡ map rank (coordinates binders point)
  numbers_of (At PointVariable index name Nil) cube e =
      let fit = fits.each index cube e in
      let all : map (at_path cube (valuation.values index)) (paths cube) ≡ valuation.values index = all_numbers cube (valuation.values index) fit.long in
      let each : map (λ way. number_in (slice_get binders.cubes index) (valuation.values index) way) (paths cube) ≡ valuation.values index =
      (λ i. map (λ way. number_in (e i) (valuation.values index) way) (paths cube)) ∙ all in
      sym (ap (λ (o : Option Tree). map rank (coordinates_of_variable index o)) e ∙ map_map rank (λ way. coordinate.Of index way) (paths cube) ∙ each)
  numbers_of (At OnlyPoint number name Nil) cube e = refl
  numbers_of (At Zero number name Nil) cube e = refl
  numbers_of (At One number name Nil) cube e = refl
  numbers_of (At PointPair number name (And s (And u Nil))) cube e =
      let left = then_some (λ a. option_and_then (λ b. Some (product a b)) (cube_of binders u)) (cube_of binders s) cube e in
      let right = then_some (λ b. Some (product left.0 b)) (cube_of binders u) cube left.2 in
      (λ i. numbers_of s left.0 left.1 i ++ numbers_of u right.0 right.1 i) ∙ sym (map-append rank (coordinates binders s) (coordinates binders u))
  numbers_of (At PointLeft number name (And s Nil)) cube e =
      let whole = then_some left_part (cube_of binders s) cube e in
      ap (take (left_width (cube_of binders s))) (numbers_of s whole.0 whole.1) ∙ take-map rank (left_width (cube_of binders s)) (coordinates binders s)
  numbers_of (At PointRight number name (And s Nil)) cube e =
      let whole = then_some right_part (cube_of binders s) cube e in
      ap (drop (left_width (cube_of binders s))) (numbers_of s whole.0 whole.1) ∙ drop-map rank (left_width (cube_of binders s)) (coordinates binders s)
  numbers_of other cube e = absurd cc

  truth_numbered : (tope : Tree) → IsTopeOver binders tope → is_true binders valuation tope ≡ truth binders rank tope
  truth_numbered (At Top number name Nil) over = refl
  truth_numbered (At Bottom number name Nil) over = refl
  truth_numbered (At Conjunction number name (And p (And q Nil))) over = λ i. truth_numbered p over.0 i && truth_numbered q over.1 i
  truth_numbered (At Disjunction number name (And p (And q Nil))) over = λ i. truth_numbered p over.0 i || truth_numbered q over.1 i
  truth_numbered (At EqualPoints number name (And cube (And s (And u Nil)))) over =
      λ i. pointwise nat_eq (numbers_of s cube over.0 i) (numbers_of u cube over.1 i)
  truth_numbered (At AtMost number name (And s (And u Nil))) over =
      λ i. nat_le (slice_index (numbers_of s cube_two over.0 i) 0) (slice_index (numbers_of u cube_two over.1 i) 0)
  truth_numbered other over = absurd over

numbered_outside : (valuation : Valuation) (cube : Tree) (cubes : List Tree) (c : Coord) → numbered valuation (cube ∷ cubes) (raised c) ≡ numbered (outside valuation) cubes c
numbered_outside valuation cube cubes coordinate.Zero = refl
numbered_outside valuation cube cubes coordinate.One = refl
numbered_outside valuation cube cubes (coordinate.Of variable way) =
    let next : variable + 1 ≡ suc variable = omega arith in
    ap (λ n. number_in (slice_get (cube ∷ cubes) n) (valuation.values n) way) next

outside_fits : (cube : Tree) (cubes : List Tree) (valuation : Valuation) → FitsCubes (cube ∷ cubes) valuation → FitsCubes cubes (outside valuation)
outside_fits cube cubes valuation fits = record { ends_differ = fits.ends_differ; each = λ index. fits.each (suc index) }

allows_numbered : (context : Tree) → HasTopesOver context → (valuation : Valuation) → FitsCubes (cubes_of context) valuation
    → allows_in context valuation ≡ are_true (numbered valuation (cubes_of context)) context
allows_numbered (At CubeEntry number name (And context (And cube Nil))) over valuation fits =
    allows_numbered context over (outside valuation) (outside_fits cube (cubes_of context) valuation fits)
    ∙ sym (λ i. are_true (λ c. numbered_outside valuation cube (cubes_of context) c i) context)
allows_numbered (At TopeEntry number name (And context (And tope Nil))) over valuation fits =
    λ i. allows_numbered context over.0 valuation fits i && truth_numbered (binders_of context) valuation fits tope over.1 i
allows_numbered (At TermEntry number name (And context (And type Nil))) over valuation fits = allows_numbered context over valuation fits
allows_numbered other over valuation fits = refl

-- ---- truth depends on the order of what is compared alone

abbrev Each : (Coord → Type 0) → List Coord → Type 0
Each P [] = Unit {0}
Each P (c ∷ cs) = P c × Each P cs

each_left : (P : Coord → Type 0) (cs ds : List Coord) → Each P (cs ++ ds) → Each P cs
each_left P [] ds all = tt
each_left P (c ∷ cs) ds all = (all.0, each_left P cs ds all.1)

each_right : (P : Coord → Type 0) (cs ds : List Coord) → Each P (cs ++ ds) → Each P ds
each_right P [] ds all = all
each_right P (c ∷ cs) ds all = each_right P cs ds all.1

each_raised : (P : Coord → Type 0) (cs : List Coord) → Each P (map raised cs) → Each (λ c. P (raised c)) cs
each_raised P [] all = tt
each_raised P (c ∷ cs) all = (all.0, each_raised P cs all.1)

-- two ways to number coordinates give what is known of them one order, and the first end 0
record HasOrder (P : Coord → Type 0) (rank other : Coord → ℕ) : Type 0 where
  pub end : P coordinate.Zero
  pub zero_is : rank coordinate.Zero ≡ 0
  pub zero_other : other coordinate.Zero ≡ 0
  pub order : (c d : Coord) → P c → P d → nat_le (other c) (other d) ≡ nat_le (rank c) (rank d)

equal_by : (a b c d : ℕ) → nat_le c d ≡ nat_le a b → nat_le d c ≡ nat_le b a → nat_eq c d ≡ nat_eq a b
equal_by a b c d low high = grind (arith, nat_tests)

module _ (P : Coord → Type 0) (rank other : Coord → ℕ) (h : HasOrder P rank other) where
  equal_alike : (cs ds : List Coord) → Each P cs → Each P ds → pointwise nat_eq (map other cs) (map other ds) ≡ pointwise nat_eq (map rank cs) (map rank ds)
  equal_alike [] [] all more = refl
  equal_alike [] (d ∷ ds) all more = refl
  equal_alike (c ∷ cs) [] all more = refl
  equal_alike (c ∷ cs) (d ∷ ds) all more =
      λ i. equal_by (rank c) (rank d) (other c) (other d) (h.order c d all.0 more.0) (h.order d c more.0 all.0) i && equal_alike cs ds all.1 more.1 i

  first_alike : (cs ds : List Coord) → Each P cs → Each P ds
      → nat_le (slice_index (map other cs) 0) (slice_index (map other ds) 0) ≡ nat_le (slice_index (map rank cs) 0) (slice_index (map rank ds) 0)
  first_alike [] [] all more = refl
  first_alike [] (d ∷ ds) all more = (λ i. nat_le (sym h.zero_other i) (other d)) ∙ h.order coordinate.Zero d h.end more.0 ∙ (λ i. nat_le (h.zero_is i) (rank d))
  first_alike (c ∷ cs) [] all more = (λ i. nat_le (other c) (sym h.zero_other i)) ∙ h.order c coordinate.Zero all.0 h.end ∙ (λ i. nat_le (rank c) (h.zero_is i))
  first_alike (c ∷ cs) (d ∷ ds) all more = h.order c d all.0 more.0

  truth_alike : (binders : Binders) (tope : Tree) → Each P (compared binders tope) → truth binders other tope ≡ truth binders rank tope
  truth_alike binders (At Conjunction number name (And p (And q Nil))) all =
      λ i. truth_alike binders p (each_left P (compared binders p) (compared binders q) all) i && truth_alike binders q (each_right P (compared binders p) (compared binders q) all) i
  truth_alike binders (At Disjunction number name (And p (And q Nil))) all =
      λ i. truth_alike binders p (each_left P (compared binders p) (compared binders q) all) i || truth_alike binders q (each_right P (compared binders p) (compared binders q) all) i
  truth_alike binders (At EqualPoints number name (And cube (And s (And u Nil)))) all =
      equal_alike (coordinates binders s) (coordinates binders u) (each_left P (coordinates binders s) (coordinates binders u) all) (each_right P (coordinates binders s) (coordinates binders u) all)
  truth_alike binders (At AtMost number name (And s (And u Nil))) all =
      first_alike (coordinates binders s) (coordinates binders u) (each_left P (coordinates binders s) (coordinates binders u) all) (each_right P (coordinates binders s) (coordinates binders u) all)
  truth_alike binders (At Top number name Nil) all = refl
  truth_alike binders (At Top number name (And t ts)) all = refl
  truth_alike binders (At Bottom number name Nil) all = refl
  truth_alike binders (At Bottom number name (And t ts)) all = refl
  truth_alike binders tope all = refl

are_true_alike : (context : Tree) (P : Coord → Type 0) (rank other : Coord → ℕ) → HasOrder P rank other → Each P (compared_in context) → are_true other context ≡ are_true rank context
are_true_alike (At CubeEntry number name (And context (And cube Nil))) P rank other h all =
    are_true_alike context (λ c. P (raised c)) (λ c. rank (raised c)) (λ c. other (raised c))
    (record { end = h.end; zero_is = h.zero_is; zero_other = h.zero_other; order = λ c d. h.order (raised c) (raised d) }) (each_raised P (compared_in context) all)
are_true_alike (At TopeEntry number name (And context (And tope Nil))) P rank other h all =
    λ i. are_true_alike context P rank other h (each_left P (compared_in context) (compared (binders_of context) tope) all) i
    && truth_alike P rank other h (binders_of context) tope (each_right P (compared_in context) (compared (binders_of context) tope) all) i
are_true_alike (At TermEntry number name (And context (And type Nil))) P rank other h all = are_true_alike context P rank other h all
are_true_alike other_context P rank other h all = refl

-- ---- which coordinates occur

same_is : (c d : Coord) → are_same c d ≡ true → c ≡ d
same_is coordinate.Zero coordinate.Zero e = refl
same_is coordinate.One coordinate.One e = refl
same_is (coordinate.Of variable way) (coordinate.Of other path) e =
    let first : variable ≡ other = equal_is variable other (first_so (variable == other) (bytes_eq way path) e) in
    let second : way ≡ path = (bytes_eq-Decides way path).0 (second_so (variable == other) (bytes_eq way path) e) in
    λ i. coordinate.Of (first i) (second i) where
      equal_is : (m n : ℕ) → (m == n) ≡ true → m ≡ n
      equal_is m n e = grind (arith, nat_tests)
same_is c d e = absurd cc

is_same : (c : Coord) → are_same c c ≡ true
is_same coordinate.Zero = refl
is_same coordinate.One = refl
is_same (coordinate.Of variable way) = (λ i. self variable i && bytes_eq way way) ∙ (bytes_eq-Decides way way).1 refl where
  self : (n : ℕ) → (n == n) ≡ true
  self n = grind (arith, nat_tests)

abbrev is_in : Coord → List Coord → Bool
is_in c [] = false
is_in c (d ∷ ds) = are_same c d || is_in c ds

kept_first : (p : Coord → Bool) (c d : Coord) (ds : List Coord) (b : Bool) → p d ≡ b → p c ≡ true → (is_in c ds ≡ true → is_in c (filter p ds) ≡ true)
    → is_in c (d ∷ ds) ≡ true → is_in c (cond b (d ∷ filter p ds) (filter p ds)) ≡ true
kept_first p c d ds true e passes rest h =
    elim (either_true (are_same c d) (is_in c ds) h) [
      | inl here ↦ left_true (are_same c d) (is_in c (filter p ds)) here
      | inr there ↦ right_true (are_same c d) (is_in c (filter p ds)) (rest there)
    ]
kept_first p c d ds false e passes rest h =
    elim (either_true (are_same c d) (is_in c ds) h) [
      | inl here ↦ absurd (true≢false (sym passes ∙ ap p (same_is c d here) ∙ e))
      | inr there ↦ rest there
    ]

is_in-filter : (p : Coord → Bool) (c : Coord) (ds : List Coord) → p c ≡ true → is_in c ds ≡ true → is_in c (filter p ds) ≡ true
is_in-filter p c [] passes h = h
is_in-filter p c (d ∷ ds) passes h = kept_first p c d ds (p d) refl passes (is_in-filter p c ds passes) h

differs : (c d : Coord) (b : Bool) → are_same d c ≡ b → are_same c d ≡ false → not (are_same d c) ≡ true
differs c d true e apart = absurd (true≢false (sym (is_same c) ∙ ap (are_same c) (sym (same_is d c e)) ∙ apart))
differs c d false e apart = ap not e

is_in-distinct : (c : Coord) (ds : List Coord) → is_in c ds ≡ true → is_in c (distinct ds) ≡ true
is_in-distinct c [] h = h
is_in-distinct c (d ∷ ds) h = by (are_same c d) refl (is_in-distinct c ds) where
  rest : List Coord
  rest = filter (λ other. not (are_same d other)) (distinct ds)

  by : (b : Bool) → are_same c d ≡ b → (is_in c ds ≡ true → is_in c (distinct ds) ≡ true) → (are_same c d || is_in c rest) ≡ true
  by true e further = left_true (are_same c d) (is_in c rest) e
  by false e further =
      let later : is_in c ds ≡ true = (λ i. sym e i || is_in c ds) ∙ h in
      right_true (are_same c d) (is_in c rest)
      (is_in-filter (λ other. not (are_same d other)) c (distinct ds) (differs c d (are_same d c) refl e) (further later))

each_in : (whole cs : List Coord) → ((c : Coord) → is_in c cs ≡ true → is_in c whole ≡ true) → Each (λ c. is_in c whole ≡ true) cs
each_in whole [] within = tt
each_in whole (c ∷ cs) within =
    (within c (left_true (are_same c c) (is_in c cs) (is_same c)), each_in whole cs (λ d h. within d (right_true (are_same d c) (is_in d cs) h)))

each_so : (P Q : Coord → Type 0) → ((c : Coord) → P c → Q c) → (cs : List Coord) → Each P cs → Each Q cs
each_so P Q f [] all = tt
each_so P Q f (c ∷ cs) all = (f c all.0, each_so P Q f cs all.1)

-- a coordinate of a variable that stands in a list
abbrev Known : List Coord → Coord → Type 0
Known list c = is_of_variable c ≡ true → is_in c list ≡ true

known : (whole : List Coord) → Each (Known (distinct (filter is_of_variable whole))) whole
known whole =
    each_so (λ c. is_in c whole ≡ true) (Known (distinct (filter is_of_variable whole)))
    (λ c there of. is_in-distinct c (filter is_of_variable whole) (is_in-filter is_of_variable c whole of there)) whole (each_in whole whole (λ c h. h))

-- ---- fewer numbers, in the same order

module _ (rank : Coord → ℕ) (list : List Coord) where
  abbrev counts : ℕ → Coord → Bool
  counts limit c = nat_lt 0 (rank c) && nat_le (rank c) limit

  -- how many coordinates have a number above 0 up to a limit
  abbrev tally : ℕ → List Coord → ℕ
  tally limit [] = 0
  tally limit (c ∷ cs) = (if counts limit c then 1 else 0) + tally limit cs

  tally_most : (limit : ℕ) (cs : List Coord) → tally limit cs ≤ length cs
  tally_most limit [] = omega arith
  tally_most limit (c ∷ cs) =
      let rest = tally_most limit cs in
      let one : (if counts limit c then 1 else 0) ≤ 1 = grind (arith, nat_tests) in
      omega (arith, rest, one)

  none_below : (r : ℕ) → (if nat_lt 0 r && nat_le r 0 then 1 else 0) ≡ zero
  none_below r = grind (arith, nat_tests)

  tally_zero : (cs : List Coord) → tally 0 cs ≡ 0
  tally_zero [] = refl
  tally_zero (c ∷ cs) =
      let rest = tally_zero cs in
      let none = none_below (rank c) in
      omega (arith, rest, none)

  one_more : (low high r : ℕ) → low ≤ high → (if nat_lt 0 r && nat_le r low then 1 else 0) ≤ (if nat_lt 0 r && nat_le r high then 1 else 0)
  one_more low high r le = grind (arith, nat_tests)

  tally_more : (low high : ℕ) (cs : List Coord) → low ≤ high → tally low cs ≤ tally high cs
  tally_more low high [] le = omega arith
  tally_more low high (c ∷ cs) le =
      let rest = tally_more low high cs le in
      let first = one_more low high (rank c) le in
      omega (arith, rest, first)

  one_strict : (low r : ℕ) → low < r → (if nat_lt 0 r && nat_le r low then 1 else 0) < (if nat_lt 0 r && nat_le r r then 1 else 0)
  one_strict low r lt = grind (arith, nat_tests)

  tally_strict : (low : ℕ) (c : Coord) (cs : List Coord) → low < rank c → is_in c cs ≡ true → tally low cs < tally (rank c) cs
  tally_strict low c [] lt h = absurd (true≢false (sym h))
  tally_strict low c (d ∷ cs) lt h =
      elim (either_true (are_same c d) (is_in c cs) h) [
        | inl here ↦
            let same : rank c ≡ rank d = ap rank (same_is c d here) in
            let rest = tally_more low (rank d) cs (omega (arith, lt, same)) in
            let first = one_strict low (rank d) (omega (arith, lt, same)) in
            subst (λ n. tally low (d ∷ cs) < tally n (d ∷ cs)) (sym same) (omega (arith, rest, first))
        | inr there ↦
            let rest = tally_strict low c cs lt there in
            let first = one_more low (rank c) (rank d) (omega (arith, lt)) in
            omega (arith, rest, first)
      ]

  -- 0 stays, the last end has one more than there are coordinates, and each number between has its tally
  abbrev shrunk : ℕ → ℕ
  shrunk n = if nat_le (rank coordinate.One) n then length list + 1 else tally n list

  shrunk_low : (n : ℕ) → n < rank coordinate.One → shrunk n ≡ tally n list
  shrunk_low n lt = grind (arith, nat_tests)

  shrunk_high : (n : ℕ) → rank coordinate.One ≤ n → shrunk n ≡ length list + 1
  shrunk_high n le = grind (arith, nat_tests)

  shrunk_most : (n : ℕ) → shrunk n ≤ length list + 1
  shrunk_most n = elim (cases_lt n (rank coordinate.One)) [
    | inl low ↦ omega (arith, shrunk_low n low, tally_most n list)
    | inr high ↦ omega (arith, shrunk_high n (omega (arith, high)))
  ]

  shrunk_more : (m n : ℕ) → m ≤ n → shrunk m ≤ shrunk n
  shrunk_more m n le = elim (cases_lt n (rank coordinate.One)) [
    | inl low ↦ omega (arith, shrunk_low m (omega (arith, low, le)), shrunk_low n low, tally_more m n list le)
    | inr high ↦ omega (arith, shrunk_most m, shrunk_high n (omega (arith, high)))
  ]

  shrunk_strict : (m : ℕ) (c : Coord) → rank coordinate.Zero ≡ 0 → Known list c → m < rank c → rank c ≤ rank coordinate.One → shrunk m < shrunk (rank c)
  shrunk_strict m coordinate.Zero zero_is there lt most = absurd (omega (arith, zero_is, lt))
  shrunk_strict m coordinate.One zero_is there lt most =
      omega (arith, shrunk_low m lt, tally_most m list, shrunk_high (rank coordinate.One) (omega arith))
  shrunk_strict m (coordinate.Of variable way) zero_is there lt most =
      let c : Coord = coordinate.Of variable way in
      elim (cases_lt (rank c) (rank coordinate.One)) [
        | inl low ↦ omega (arith, shrunk_low m (omega (arith, low, lt)), shrunk_low (rank c) low, tally_strict m c list lt (there refl))
        | inr high ↦ omega (arith, shrunk_low m (omega (arith, lt, most)), tally_most m list, shrunk_high (rank c) (omega (arith, high)))
      ]

  abbrev pub shrunk_list : List Coord → RankList
  shrunk_list cs = map (λ c. (c, shrunk (rank c))) cs

  shrunk_length : (cs : List Coord) → length (shrunk_list cs) ≡ length cs
  shrunk_length [] = refl
  shrunk_length (c ∷ cs) = ap suc (shrunk_length cs)

  shrunk_found : (c : Coord) (cs : List Coord) → is_in c cs ≡ true → unwrap_or (lookup (are_same c) (shrunk_list cs)) 0 ≡ shrunk (rank c)
  shrunk_found c [] h = absurd (true≢false (sym h))
  shrunk_found c (d ∷ cs) h = by (are_same c d) refl (shrunk_found c cs) where
    by : (b : Bool) → are_same c d ≡ b → (is_in c cs ≡ true → unwrap_or (lookup (are_same c) (shrunk_list cs)) 0 ≡ shrunk (rank c)) → unwrap_or (cond b (Some (shrunk (rank d))) (lookup (are_same c) (shrunk_list cs))) 0 ≡ shrunk (rank c)
    by true e further = ap (λ x. shrunk (rank x)) (sym (same_is c d e))
    by false e further = further ((λ i. sym e i || is_in c cs) ∙ h)

  shrunk_rank : (c : Coord) → rank coordinate.Zero ≡ 0 → 1 ≤ rank coordinate.One → Known list c → rank_in (shrunk_list list) c ≡ shrunk (rank c)
  shrunk_rank coordinate.Zero zero_is apart there =
      sym (ap shrunk zero_is ∙ shrunk_low 0 (omega (arith, apart)) ∙ tally_zero list)
  shrunk_rank coordinate.One zero_is apart there =
      (λ i. shrunk_length list i + 1) ∙ sym (shrunk_high (rank coordinate.One) (omega arith))
  shrunk_rank (coordinate.Of variable way) zero_is apart there = shrunk_found (coordinate.Of variable way) list (there refl)

  shrunk_coordinates : (cs : List Coord) → map (λ pair. pair.0) (shrunk_list cs) ≡ cs
  shrunk_coordinates [] = refl
  shrunk_coordinates (c ∷ cs) = ap (λ ds. c ∷ ds) (shrunk_coordinates cs)

  shrunk_is_list : IsRankList list (shrunk_list list)
  shrunk_is_list = record {
    coordinates_are = shrunk_coordinates list;
    small = All-map (λ (pair : Coord × ℕ). pair.1 ≤ length (shrunk_list list) + 1) (λ c. (c, shrunk (rank c))) list
        (λ k d lt. omega (arith, shrunk_most (rank (get_or list k d)), shrunk_length list));
  }

  same_order : (a b m n : ℕ) → (m ≤ n → a ≤ b) → (n < m → b < a) → nat_le a b ≡ nat_le m n
  same_order a b m n le lt = elim (cases_lt n m) [
    | inl high ↦ let strict = lt high in grind (arith, nat_tests)
    | inr low ↦ let more = le (omega (arith, low)) in grind (arith, nat_tests)
  ]

  shrunk_order : rank coordinate.Zero ≡ 0 → 1 ≤ rank coordinate.One → ((c : Coord) → rank c ≤ rank coordinate.One) → HasOrder (Known list) rank (rank_in (shrunk_list list))
  shrunk_order zero_is apart most = record {
    end = λ of. absurd (true≢false (sym of));
    zero_is = zero_is;
    zero_other = refl;
    order = λ c d there other.
        (λ i. nat_le (shrunk_rank c zero_is apart there i) (shrunk_rank d zero_is apart other i))
        ∙ same_order (shrunk (rank c)) (shrunk (rank d)) (rank c) (rank d) (shrunk_more (rank c) (rank d)) (λ lt. shrunk_strict (rank d) c zero_is there lt (most c));
  }

-- ---- the law

at_path_small : (last : ℕ) (cube : Tree) (numbers way : List ℕ) → All (λ n. n ≤ last) numbers → at_path cube numbers way ≤ last
at_path_small last (At CubeTwo number name Nil) [] way all = omega arith
at_path_small last (At CubeTwo number name Nil) (n ∷ numbers) way all = All-head (λ n. n ≤ last) n numbers all
at_path_small last (At Product number name (And left (And right Nil))) numbers [] all = omega arith
at_path_small last (At Product number name (And left (And right Nil))) numbers (turn ∷ way) all =
    chosen (turn == LEFT) (at_path left (take (width left) numbers) way) (at_path right (drop (width left) numbers) way)
    (at_path_small last left (take (width left) numbers) way (All-take (λ n. n ≤ last) (width left) numbers all))
    (at_path_small last right (drop (width left) numbers) way (All-drop (λ n. n ≤ last) (width left) numbers all)) where
      chosen : (b : Bool) (m n : ℕ) → m ≤ last → n ≤ last → (if b then m else n) ≤ last
      chosen true m n low high = low
      chosen false m n low high = high
at_path_small last other numbers way all = omega arith

numbered_small : (cubes : List Tree) (valuation : Valuation) → FitsCubes cubes valuation → (c : Coord) → numbered valuation cubes c ≤ valuation.last
numbered_small cubes valuation fits coordinate.Zero = omega arith
numbered_small cubes valuation fits coordinate.One = omega arith
numbered_small cubes valuation fits (coordinate.Of variable way) = by (slice_get cubes variable) refl where
  by : (o : Option Tree) → slice_get cubes variable ≡ o → number_in o (valuation.values variable) way ≤ valuation.last
  by None e = omega arith
  by (Some cube) e = at_path_small valuation.last cube (valuation.values variable) way (fits.each variable cube e).small

-- some rank list refutes where any numbers of coordinates do
pub small_refutation : (context tope : Tree) (number : Coord → ℕ) → IsRefutedBy context tope number → IsRefutedByRanks context tope
small_refutation context tope number refuted =
    let all_compared = compared_in context ++ compared (binders_of context) tope in
    let list = occurring context tope in
    let ranks = shrunk_list number list list in
    let numbering = refuted.numbering in
    let order = shrunk_order number list numbering.first numbering.ends_differ numbering.small in
    let all = known all_compared in (
      ranks,
      record {
        ranks_are = shrunk_is_list number list;
        context_is_true = are_true_alike context (Known list) number (rank_in ranks) order (each_left (Known list) (compared_in context) (compared (binders_of context) tope) all)
            ∙ refuted.context_is_true;
        tope_is_false = truth_alike (Known list) number (rank_in ranks) order (binders_of context) tope (each_right (Known list) (compared_in context) (compared (binders_of context) tope) all)
            ∙ refuted.tope_is_false;
      },
    )

-- so what is valid is true in all numbers of coordinates
pub valid_everywhere : (context tope : Tree) → IsValid context tope → IsTrueInAllNumbers context tope
valid_everywhere context tope valid number numbering holds = by (truth (binders_of context) number tope) refl where
  by : (b : Bool) → truth (binders_of context) number tope ≡ b → truth (binders_of context) number tope ≡ true
  by true e = e
  by false e =
      let small = small_refutation context tope number (record { numbering = numbering; context_is_true = holds; tope_is_false = e }) in
      absurd (true≢false (sym (valid small.0 small.1.ranks_are small.1.context_is_true) ∙ small.1.tope_is_false))

-- where topes are over what stands before them, numbers of points are numbers of coordinates
pub numbers_refute : (context tope : Tree) → IsSequent context tope → (valuation : Valuation) → IsRefutation context tope valuation
    → IsRefutedBy context tope (numbered valuation (cubes_of context))
numbers_refute context tope sequent valuation refutes =
    let fits = refutes.allowed.fits in record {
      numbering = record { first = refl; ends_differ = fits.ends_differ; small = numbered_small (cubes_of context) valuation fits };
      context_is_true = sym (allows_numbered context sequent.topes valuation fits) ∙ refutes.allowed.allowed;
      tope_is_false = sym (truth_numbered (binders_of context) valuation fits tope sequent.over) ∙ refutes.untrue;
    }

-- so what is valid is true in all valuations
pub valid_entails : (context tope : Tree) → IsSequent context tope → IsValid context tope → Entails (place_of context) tope
valid_entails context tope sequent valid valuation allowed = by (is_true (binders_of context) valuation tope) refl where
  by : (b : Bool) → is_true (binders_of context) valuation tope ≡ b → is_true (binders_of context) valuation tope ≡ true
  by true e = e
  by false e =
      let numbers = numbered valuation (cubes_of context) in
      let refuted = numbers_refute context tope sequent valuation (record { allowed = allowed; untrue = e }) in
      absurd (true≢false (sym (valid_everywhere context tope valid numbers refuted.numbering refuted.context_is_true) ∙ refuted.tope_is_false))
