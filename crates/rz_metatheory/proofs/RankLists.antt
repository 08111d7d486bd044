-- Rank lists are numbers of coordinates, and these are valuations: what all of either make true is valid.
use Rattle.std.proofs.Common.{◌≡◌, ℕ, suc, ◌+◌, ◌≤◌, List, [], ◌∷◌, ◌++◌, length, take, drop, map, All, Option, Some, None, IsTrue, ◌&&◌, refl, sym, ap, ◌∙◌, subst, arith}
use Rattle.std.specs.Prelude.{slice_get, unwrap_or, IfSome}
use Rattle.std.proofs.lemmas.List.Elements.{All-map}
use Rattle.std.specs.Map.{lookup}
use Rattle.std.proofs.lemmas.List.{length-map, length-append, map-append, take-map, drop-map}
use Rattle.std.proofs.lemmas.Map.Entries.{All-lookup}
use Rattle.rz_rules.specs.declared.kinds.Kind.TheVariants.{CubeTwo, Product, PointVariable, Zero, One, PointPair, PointLeft, PointRight, CubeEntry, TopeEntry, TermEntry}
use Rattle.rz_rules.specs.declared.coordinates.Coord.{Coord}
use Rattle.rz_rules.specs.declared.coordinates.Coord.TheVariants as coordinate
use Rattle.rz_rules.specs.declared.coordinates.TheConstants.{LEFT, RIGHT}
use Rattle.rz_rules.specs.Tree.{Tree, At, Nil, And}
use Rattle.rz_rules.specs.Cube.{Binders, cubes_of, binders_of}
use Rattle.rz_rules.specs.Coordinate.{paths, width, left_width, coordinates_of_variable, coordinates, are_same, raised}
use Rattle.rz_rules.specs.Tope.{cube_of}
use Rattle.rz_rules.specs.Validity.{RankList, rank_in, truth_at, truth, are_true, occurring, IsRankList, IsValid, Refutes}
use Rattle.rz_metatheory.specs.SmallOrders.{IsNumbering, IsRefutedBy, IsTrueInAllNumbers, IsRefuted}
use Rattle.rz_metatheory.specs.Place.{Valuation, FitsCube, FitsCubes, value, is_true, outside, allows_in, place_of, IsAllowed, Entails}

-- a cube has as many ways to leaves that are the directed interval as it has such leaves
pub paths_many : (cube : Tree) → length (paths cube) ≡ width cube
paths_many (At CubeTwo number name Nil) = refl
paths_many (At Product number name (And left (And right Nil))) =
    length-append (map (λ path. LEFT ∷ path) (paths left)) (map (λ path. RIGHT ∷ path) (paths right))
    ∙ (λ i. length-map (paths left) (λ path. LEFT ∷ path) i + length-map (paths right) (λ path. RIGHT ∷ path) i)
    ∙ (λ i. paths_many left i + paths_many right i)
paths_many other = refl

-- a number for each coordinate is a valuation
abbrev pub valuation_of : (Coord → ℕ) → List Tree → Valuation
valuation_of rank cubes =
    record { last = rank coordinate.One; values = λ index. map rank (coordinates_of_variable index (slice_get cubes index)) }

pub value_of : (binders : Binders) (rank : Coord → ℕ) → rank coordinate.Zero ≡ 0
    → (point : Tree) → value binders (valuation_of rank binders.cubes) point ≡ map rank (coordinates binders point)
value_of binders rank zero_is (At PointVariable index name Nil) = refl
value_of binders rank zero_is (At Zero number name Nil) = ap (λ n. n ∷ []) (sym zero_is)
value_of binders rank zero_is (At One number name Nil) = refl
value_of binders rank zero_is (At PointPair number name (And s (And u Nil))) =
    (λ i. value_of binders rank zero_is s i ++ value_of binders rank zero_is u i)
    ∙ sym (map-append rank (coordinates binders s) (coordinates binders u))
value_of binders rank zero_is (At PointLeft number name (And s Nil)) =
    ap (take (left_width (cube_of binders s))) (value_of binders rank zero_is s) ∙ take-map rank (left_width (cube_of binders s)) (coordinates binders s)
value_of binders rank zero_is (At PointRight number name (And s Nil)) =
    ap (drop (left_width (cube_of binders s))) (value_of binders rank zero_is s) ∙ drop-map rank (left_width (cube_of binders s)) (coordinates binders s)
value_of binders rank zero_is other = refl

pub truth_of : (binders : Binders) (rank : Coord → ℕ) → rank coordinate.Zero ≡ 0
    → (tope : Tree) → is_true binders (valuation_of rank binders.cubes) tope ≡ truth binders rank tope
truth_of binders rank zero_is tope = λ i. truth_at (λ point. value_of binders rank zero_is point i) tope

-- a coordinate further in
pub raised_coordinates : (rank : Coord → ℕ) (index : ℕ) (cube : Option Tree)
    → map rank (coordinates_of_variable (suc index) cube) ≡ map (λ c. rank (raised c)) (coordinates_of_variable index cube)
raised_coordinates rank index None = refl
raised_coordinates rank index (Some cube) = by (paths cube) where
  next : suc index ≡ index + 1
  next = omega arith

  by : (ways : List (List ℕ)) → map rank (map (λ path. coordinate.Of (suc index) path) ways) ≡ map (λ c. rank (raised c)) (map (λ path. coordinate.Of index path) ways)
  by [] = refl
  by (way ∷ ways) = λ i. rank (coordinate.Of (next i) way) ∷ by ways i

pub outside_of : (rank : Coord → ℕ) (cube : Tree) (cubes : List Tree)
    → outside (valuation_of rank (cube ∷ cubes)) ≡ valuation_of (λ c. rank (raised c)) cubes
outside_of rank cube cubes = λ i. record { last = rank coordinate.One; values = λ index. raised_coordinates rank index (slice_get cubes index) i }

pub allows_of : (context : Tree) (rank : Coord → ℕ) → rank coordinate.Zero ≡ 0 → allows_in context (valuation_of rank (cubes_of context)) ≡ are_true rank context
allows_of (At CubeEntry number name (And context (And cube Nil))) rank zero_is =
    ap (allows_in context) (outside_of rank cube (cubes_of context)) ∙ allows_of context (λ c. rank (raised c)) zero_is
allows_of (At TopeEntry number name (And context (And tope Nil))) rank zero_is =
    λ i. allows_of context rank zero_is i && truth_of (binders_of context) rank zero_is tope i
allows_of (At TermEntry number name (And context (And type Nil))) rank zero_is = allows_of context rank zero_is
allows_of other rank zero_is = refl

-- ranks that are at most that of the last end fit
pub fits_of : (cubes : List Tree) (rank : Coord → ℕ) → 1 ≤ rank coordinate.One → ((c : Coord) → rank c ≤ rank coordinate.One) → FitsCubes cubes (valuation_of rank cubes)
fits_of cubes rank apart small = record { ends_differ = apart; each = each } where
  numbers : (index : ℕ) (cube : Tree) → FitsCube (rank coordinate.One) cube (map rank (coordinates_of_variable index (Some cube)))
  numbers index cube = record {
    long = length-map (coordinates_of_variable index (Some cube)) rank ∙ length-map (paths cube) (λ path. coordinate.Of index path) ∙ paths_many cube;
    small = All-map (λ number. number ≤ rank coordinate.One) rank (coordinates_of_variable index (Some cube)) (λ k d lt. small _);
  }

  each : (index : ℕ) (cube : Tree) → slice_get cubes index ≡ Some cube → FitsCube (rank coordinate.One) cube (map rank (coordinates_of_variable index (slice_get cubes index)))
  each index cube e = subst (λ (o : Option Tree). FitsCube (rank coordinate.One) cube (map rank (coordinates_of_variable index o))) (sym e) (numbers index cube)

-- what is looked up in a rank list is at most the greatest rank
rank_small : (ranks : RankList) → All (λ pair. pair.1 ≤ length ranks + 1) ranks → (c : Coord) → rank_in ranks c ≤ length ranks + 1
rank_small ranks all coordinate.Zero = omega arith
rank_small ranks all coordinate.One = omega arith
rank_small ranks all (coordinate.Of variable path) = by (lookup (are_same (coordinate.Of variable path)) ranks) (All-lookup (λ n. n ≤ length ranks + 1) (are_same (coordinate.Of variable path)) ranks all) where
  by : (o : Option ℕ) → IfSome o (λ n. n ≤ length ranks + 1) → unwrap_or o 0 ≤ length ranks + 1
  by None h = omega arith
  by (Some n) h = h

-- a rank list gives a number to each coordinate
pub ranks_number : (coordinates : List Coord) (ranks : RankList) → IsRankList coordinates ranks → IsNumbering (rank_in ranks)
ranks_number coordinates ranks list = record { first = refl; ends_differ = omega arith; small = rank_small ranks list.small }

-- so one that refutes is numbers of coordinates that do
pub ranks_refute : (context tope : Tree) (ranks : RankList) → Refutes context tope ranks → IsRefutedBy context tope (rank_in ranks)
ranks_refute context tope ranks refutes = record {
  numbering = ranks_number (occurring context tope) ranks refutes.ranks_are;
  context_is_true = refutes.context_is_true;
  tope_is_false = refutes.tope_is_false;
}

pub everywhere_valid : (context tope : Tree) → IsTrueInAllNumbers context tope → IsValid context tope
everywhere_valid context tope all ranks list holds = all (rank_in ranks) (ranks_number (occurring context tope) ranks list) holds

-- numbers of coordinates that make the topes of a context true are a valuation that is allowed there
numbers_allowed : (context : Tree) (number : Coord → ℕ) → IsNumbering number → IsTrue (are_true number context)
    → IsAllowed (place_of context) (valuation_of number (cubes_of context))
numbers_allowed context number numbering holds = record {
  fits = fits_of (cubes_of context) number numbering.ends_differ numbering.small;
  allowed = allows_of context number numbering.first ∙ holds;
}

-- so what all valuations of a context make true is valid
pub entails_valid : (context tope : Tree) → Entails (place_of context) tope → IsValid context tope
entails_valid context tope entails ranks list holds =
    sym (truth_of (binders_of context) (rank_in ranks) refl tope)
    ∙ entails (valuation_of (rank_in ranks) (cubes_of context))
    (numbers_allowed context (rank_in ranks) (ranks_number (occurring context tope) ranks list) holds)

-- and numbers of coordinates that refute are a valuation that does
pub large_refutation : (context tope : Tree) (number : Coord → ℕ) → IsRefutedBy context tope number → IsRefuted context tope
large_refutation context tope number refuted = (
  valuation_of number (cubes_of context),
  record {
    allowed = numbers_allowed context number refuted.numbering refuted.context_is_true;
    untrue = truth_of (binders_of context) number refuted.numbering.first tope ∙ refuted.tope_is_false;
  },
)
