-- Refutations: numbers for coordinates, numbers for points, and rank lists that make all topes of a context true and another
-- tope false.
use Rattle.std.specs.Prelude.{◌≡◌, ℕ, ◌≤◌, false, IsTrue}
use Rattle.rz_rules.specs.declared.kinds.Kind.TheVariants.{CubeEntry, TopeEntry, TermEntry}
use Rattle.rz_rules.specs.declared.coordinates.Coord.{Coord}
use Rattle.rz_rules.specs.declared.coordinates.Coord.TheVariants as coordinate
use Rattle.rz_rules.specs.Tree.{Tree, At, Nil, And}
use Rattle.rz_rules.specs.Cube.{binders_of}
use Rattle.rz_rules.specs.Tope.{IsTopeOver}
use Rattle.rz_rules.specs.Validity.{RankList, truth, are_true, Refutes}
use Rattle.rz_metatheory.specs.Place.{Valuation, is_true, place_of, IsAllowed}

-- A number for each coordinate: 0 for the first end of the directed interval, at least 1 for its last end, and none above
-- that.
pub record IsNumbering (number : Coord → ℕ) : Type 0 where
  pub first : number coordinate.Zero ≡ 0
  pub ends_differ : 1 ≤ number coordinate.One
  pub small : (c : Coord) → number c ≤ number coordinate.One

-- numbers of coordinates, however large, that make all topes of a context true and the tope false
pub record IsRefutedBy (context tope : Tree) (number : Coord → ℕ) : Type 0 where
  pub numbering : IsNumbering number
  pub context_is_true : IsTrue (are_true number context)
  pub tope_is_false : truth (binders_of context) number tope ≡ false

-- some rank list does
abbrev pub IsRefutedByRanks : Tree → Tree → Type 0
IsRefutedByRanks context tope = (ranks : RankList) × Refutes context tope ranks

-- all numbers of coordinates that make the topes of a context true make the tope true
abbrev pub IsTrueInAllNumbers : Tree → Tree → Type 0
IsTrueInAllNumbers context tope = (number : Coord → ℕ) → IsNumbering number
    → IsTrue (are_true number context) → IsTrue (truth (binders_of context) number tope)

-- each tope of a context is over what stands before it
abbrev pub HasTopesOver : Tree → Type 0
HasTopesOver (At CubeEntry number name (And context (And cube Nil))) = HasTopesOver context
HasTopesOver (At TopeEntry number name (And context (And tope Nil))) = HasTopesOver context × IsTopeOver (binders_of context) tope
HasTopesOver (At TermEntry number name (And context (And type Nil))) = HasTopesOver context
HasTopesOver other = Unit {0}

-- a context and a tope over it, whose topes are over what stands before them
pub record IsSequent (context tope : Tree) : Type 0 where
  pub topes : HasTopesOver context
  pub over : IsTopeOver (binders_of context) tope

-- numbers for points that make all topes of the context true and the tope false
pub record IsRefutation (context tope : Tree) (valuation : Valuation) : Type 0 where
  pub allowed : IsAllowed (place_of context) valuation
  pub untrue : is_true (binders_of context) valuation tope ≡ false

-- some do
abbrev pub IsRefuted : Tree → Tree → Type 0
IsRefuted context tope = (valuation : Valuation) × IsRefutation context tope valuation
