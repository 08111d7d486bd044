-- Validity: what it is that a tope follows from those of a context.
use Rattle.std.specs.Prelude.{◌≡◌, ℕ, ◌+◌, ◌≤◌, nat_le, nat_eq, ◌&&◌, ◌||◌, not, Bool, true, false, IsTrue, List, [], ◌∷◌, ◌++◌, length, map, filter, All, slice_index, unwrap_or}
use Rattle.std.specs.List.{flat_map, list_all, range_with_len}
use Rattle.std.specs.Cmp.Lexicographic.{pointwise}
use Rattle.std.specs.Map.{lookup}
use Rattle.rz_rules.specs.declared.kinds.Kind.TheVariants.{Top, Bottom, Conjunction, Disjunction, EqualPoints, AtMost, CubeEntry, TopeEntry, TermEntry}
use Rattle.rz_rules.specs.declared.coordinates.Coord.{Coord}
use Rattle.rz_rules.specs.declared.coordinates.Coord.TheVariants as coordinate
use Rattle.rz_rules.specs.Tree.{Tree, At, Nil, And}
use Rattle.rz_rules.specs.Cube.{Binders, binders_of}
use Rattle.rz_rules.specs.Coordinate.{coordinates, are_same, is_of_variable, raised}

-- a rank list: each of n coordinates of variables with a number from 0 to n + 1
abbrev pub RankList : Type 0
RankList = List (Coord × ℕ)

-- the rank of a coordinate; the end 0 has the rank 0, and the end 1 the rank n + 1
abbrev pub rank_in : RankList → Coord → ℕ
rank_in ranks coordinate.Zero = 0
rank_in ranks coordinate.One = length ranks + 1
rank_in ranks (coordinate.Of variable path) = unwrap_or (lookup (are_same (coordinate.Of variable path)) ranks) 0

-- whether a tope is true where each point has these values, one for each of its coordinates
abbrev pub truth_at : (Tree → List ℕ) → Tree → Bool
truth_at values (At Top number name Nil) = true
truth_at values (At Bottom number name Nil) = false
truth_at values (At Conjunction number name (And p (And q Nil))) = truth_at values p && truth_at values q
truth_at values (At Disjunction number name (And p (And q Nil))) = truth_at values p || truth_at values q
truth_at values (At EqualPoints number name (And cube (And s (And u Nil)))) = pointwise nat_eq (values s) (values u)
truth_at values (At AtMost number name (And s (And u Nil))) = nat_le (slice_index (values s) 0) (slice_index (values u) 0)
truth_at values other = false

-- whether a tope is true where the coordinates of its points have these ranks
abbrev pub truth : Binders → (Coord → ℕ) → Tree → Bool
truth binders rank tope = truth_at (λ point. map rank (coordinates binders point)) tope

-- whether all topes of a context are true; each is one over the entries before it
abbrev pub are_true : (Coord → ℕ) → Tree → Bool
are_true rank (At CubeEntry number name (And context (And cube Nil))) = are_true (λ coordinate. rank (raised coordinate)) context
are_true rank (At TopeEntry number name (And context (And tope Nil))) = are_true rank context && truth (binders_of context) rank tope
are_true rank (At TermEntry number name (And context (And type Nil))) = are_true rank context
are_true rank other = true

-- the coordinates of the points that a tope compares
abbrev pub compared : Binders → Tree → List Coord
compared binders (At Conjunction number name (And p (And q Nil))) = compared binders p ++ compared binders q
compared binders (At Disjunction number name (And p (And q Nil))) = compared binders p ++ compared binders q
compared binders (At EqualPoints number name (And cube (And s (And u Nil)))) = coordinates binders s ++ coordinates binders u
compared binders (At AtMost number name (And s (And u Nil))) = coordinates binders s ++ coordinates binders u
compared binders other = []

-- the coordinates that the topes of a context compare, its outermost entry first, named from its innermost entry
abbrev pub compared_in : Tree → List Coord
compared_in (At CubeEntry number name (And context (And cube Nil))) = map raised (compared_in context)
compared_in (At TopeEntry number name (And context (And tope Nil))) = compared_in context ++ compared (binders_of context) tope
compared_in (At TermEntry number name (And context (And type Nil))) = compared_in context
compared_in other = []

-- each coordinate once, in order of first occurrence
abbrev pub distinct : List Coord → List Coord
distinct [] = []
distinct (first ∷ rest) = first ∷ filter (λ other. not (are_same first other)) (distinct rest)

-- the coordinates of variables that occur in the topes of a context or in a tope over it
abbrev pub occurring : Tree → Tree → List Coord
occurring context tope = distinct (filter is_of_variable (compared_in context ++ compared (binders_of context) tope))

-- a rank list for these coordinates
pub record IsRankList (coordinates : List Coord) (ranks : RankList) : Type 0 where
  pub coordinates_are : map (λ pair. pair.0) ranks ≡ coordinates
  pub small : All (λ pair. pair.1 ≤ length ranks + 1) ranks

-- ranks with which the tope is true where all topes of the context are
abbrev pub keeps_truth : Tree → Tree → RankList → Bool
keeps_truth context tope ranks = not (are_true (rank_in ranks) context) || truth (binders_of context) (rank_in ranks) tope

-- a tope follows: each rank list for what occurs that makes all topes of the context true makes it true
abbrev pub IsValid : Tree → Tree → Type 0
IsValid context tope = (ranks : RankList) → IsRankList (occurring context tope) ranks
    → IsTrue (are_true (rank_in ranks) context) → IsTrue (truth (binders_of context) (rank_in ranks) tope)

-- all lists that give each of these coordinates a number below a limit
abbrev pub lists_below : ℕ → List Coord → List RankList
lists_below limit [] = [] ∷ []
lists_below limit (first ∷ rest) = flat_map (λ ranks. map (λ rank. (first, rank) ∷ ranks) (range_with_len 0 limit)) (lists_below limit rest)

-- all rank lists for these coordinates
abbrev pub rank_lists : List Coord → List RankList
rank_lists coordinates = lists_below (length coordinates + 2) coordinates

-- whether a tope follows, by trying all rank lists
abbrev pub is_valid : Tree → Tree → Bool
is_valid context tope = list_all (keeps_truth context tope) (rank_lists (occurring context tope))

-- ranks of the coordinates that occur make all topes of the context true and the tope false
pub record Refutes (context tope : Tree) (ranks : RankList) : Type 0 where
  pub ranks_are : IsRankList (occurring context tope) ranks
  pub context_is_true : IsTrue (are_true (rank_in ranks) context)
  pub tope_is_false : truth (binders_of context) (rank_in ranks) tope ≡ false

-- the most coordinates of variables of which a question may speak
abbrev pub coordinates_limit : ℕ
coordinates_limit = 8

-- what is answered where it is asked whether a tope follows from those of a context
pub data Entailment : Type 0 where
  Valid : Entailment
  Invalid : Entailment
  -- so many coordinates occur in the topes, which are too many, and no answer is given
  Over : (coordinates : ℕ) → Entailment

-- A tope of a context. The coordinates are counted before anything is tried, also where the answer is plain.
abbrev pub entailment : Tree → Tree → Entailment
entailment context tope =
    let count = length (occurring context tope) in
    elim (nat_le count coordinates_limit) [
      | false ↦ Over count
      | true ↦ elim (is_valid context tope) [ true ↦ Valid | false ↦ Invalid ]
    ]
