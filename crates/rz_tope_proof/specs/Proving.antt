-- What inferences prove.
use Rattle.std.specs.Prelude.{◌≡◌, ℕ, ◌<◌, List, [], ◌∷◌, ◌++◌, Some, Contains, length, slice_get}
use Rattle.rz_rules.specs.declared.nodes.Node.{Node}
use Rattle.rz_rules.specs.declared.rows.Row.{Row}
use Rattle.rz_rules.specs.declared.rows.Row.TheVariants as row
use Rattle.rz_rules.specs.Tree.{Tree}
use Rattle.rz_rules.specs.Substitution.{weakened}
use Rattle.rz_rules.specs.Context.{Entry, OfTope, depth_of, with_entries, with_entry}
use Rattle.rz_rules.specs.Cube.{cube_one, cube_two, product}
use Rattle.rz_tope_proof.specs.declared.proof.Claim.{Claim}
use Rattle.rz_tope_proof.specs.declared.proof.Reason.{Reason}
use Rattle.rz_tope_proof.specs.declared.proof.Reason.TheVariants as reason
use Rattle.rz_tope_proof.specs.declared.proof.Inference.{Inference}
use Rattle.rz_tope_proof.specs.Claim.{IsClaim, tope_of}
use Rattle.rz_rules.specs.Tope.{at_most, bottom, conjunction, disjunction, equal_points, left, one_end, pair, right, top, zero_end}

-- In any context a row leads from these topes to this one: its text, read for topes alone.
pub data Infers : Row → List Tree → Tree → Type 0 where
  TopHolds : Infers row.Top [] top
  FromBottom : {p : Tree} → Infers row.Bottom (bottom ∷ []) p
  Both : {p q : Tree} → Infers row.And (p ∷ q ∷ []) (conjunction p q)
  FirstPart : {p q : Tree} → Infers row.AndLeft (conjunction p q ∷ []) p
  SecondPart : {p q : Tree} → Infers row.AndRight (conjunction p q ∷ []) q
  FirstSide : {p q : Tree} → Infers row.OrLeft (p ∷ []) (disjunction p q)
  SecondSide : {p q : Tree} → Infers row.OrRight (q ∷ []) (disjunction p q)
  Reflexive : {cube s : Tree} → Infers row.EqualReflexive [] (equal_points cube s s)
  Symmetric : {cube s u : Tree} → Infers row.EqualSymmetric (equal_points cube s u ∷ []) (equal_points cube u s)
  Transitive : {cube s u w : Tree} → Infers row.EqualTransitive (equal_points cube s u ∷ equal_points cube u w ∷ []) (equal_points cube s w)
  LeftOfPair : {cube s u : Tree} → Infers row.EqualFirst [] (equal_points cube (left (pair s u)) s)
  RightOfPair : {cube s u : Tree} → Infers row.EqualSecond [] (equal_points cube (right (pair s u)) u)
  PairOfParts : {one other s : Tree} → Infers row.EqualEta [] (equal_points (product one other) s (pair (left s) (right s)))
  OnlyPoint : {s u : Tree} → Infers row.EqualOne [] (equal_points cube_one s u)
  Pairs : {one other s t u w : Tree}
      → Infers row.EqualPair (equal_points one s t ∷ equal_points other u w ∷ []) (equal_points (product one other) (pair s u) (pair t w))
  Lefts : {one other s u : Tree} → Infers row.EqualLeft (equal_points (product one other) s u ∷ []) (equal_points one (left s) (left u))
  Rights : {one other s u : Tree} → Infers row.EqualRight (equal_points (product one other) s u ∷ []) (equal_points other (right s) (right u))
  OfEqual : {s u : Tree} → Infers row.AtMostEqual (equal_points cube_two s u ∷ []) (at_most s u)
  Through : {s u w : Tree} → Infers row.AtMostTransitive (at_most s u ∷ at_most u w ∷ []) (at_most s w)
  BothWays : {s u : Tree} → Infers row.AtMostAntisymmetric (at_most s u ∷ at_most u s ∷ []) (equal_points cube_two s u)
  Total : {s u : Tree} → Infers row.AtMostTotal [] (disjunction (at_most s u) (at_most u s))
  Least : {s : Tree} → Infers row.ZeroAtMost [] (at_most zero_end s)
  Greatest : {s : Tree} → Infers row.AtMostOne [] (at_most s one_end)
  Apart : Infers row.ZeroIsNotOne (equal_points cube_two zero_end one_end ∷ []) bottom

-- the tope of a context's entry behind which so many others stand, as it is read behind them
pub record IsGiven (context : Tree) (number : ℕ) (tope : Tree) : Type 0 where
  pub outer : Tree
  pub stated : Tree
  pub inner : List Entry
  pub context_is : context ≡ with_entries (with_entry outer (OfTope stated)) inner
  pub count : length inner ≡ number
  pub tope_is : tope ≡ weakened (depth_of inner) stated

-- an inference has this reason and says this tope
pub record IsInference (nodes : List Node) (context : Tree) (all : List Inference) (i : ℕ) (why : Reason) (tope : Tree) : Type 0 where
  pub claim : Claim
  pub there : slice_get all i ≡ Some (record { claim = claim; reason = why })
  pub is_claim : IsClaim nodes context claim
  pub says : tope_of nodes claim ≡ tope

-- An inference proves a tope in a context to which the assumptions with these numbers are added: by an entry of the context,
-- by one of the assumptions, by a row, or since a disjunction holds and the tope follows from each of its sides.
pub data Proves (nodes : List Node) (context : Tree) (all : List Inference) : List ℕ → ℕ → Tree → Type 0 where
  ByHypothesis : {assumed : List ℕ} {i : ℕ} {tope : Tree} (number : ℕ)
      → IsInference nodes context all i (reason.Hypothesis number) tope → IsGiven context number tope
      → Proves nodes context all assumed i tope
  ByAssumption : {assumed : List ℕ} {i : ℕ} {tope : Tree}
      → IsInference nodes context all i reason.Assumption tope → Contains assumed i
      → Proves nodes context all assumed i tope
  ByAxiom : {assumed : List ℕ} {i : ℕ} {tope : Tree} (by : Row)
      → IsInference nodes context all i (reason.Axiom by) tope → Infers by [] tope
      → Proves nodes context all assumed i tope
  ByOne : {assumed : List ℕ} {i : ℕ} {tope : Tree} (by : Row) (j : ℕ) (p : Tree)
      → IsInference nodes context all i (reason.One by j) tope → j < i → Infers by (p ∷ []) tope
      → Proves nodes context all assumed j p → Proves nodes context all assumed i tope
  ByTwo : {assumed : List ℕ} {i : ℕ} {tope : Tree} (by : Row) (j k : ℕ) (p q : Tree)
      → IsInference nodes context all i (reason.Two by j k) tope → j < i → k < i → Infers by (p ∷ q ∷ []) tope
      → Proves nodes context all assumed j p → Proves nodes context all assumed k q → Proves nodes context all assumed i tope
  ByCases : {assumed : List ℕ} {i : ℕ} {tope : Tree} (cover : ℕ) (one other : ℕ × ℕ) (p q : Tree)
      → IsInference nodes context all i (reason.Cases cover one other) tope → cover < i → one.1 < i → other.1 < i
      → IsInference nodes context all one.0 reason.Assumption p → IsInference nodes context all other.0 reason.Assumption q
      → Proves nodes context all assumed cover (disjunction p q)
      → Proves nodes context all (one.0 ∷ assumed) one.1 tope → Proves nodes context all (other.0 ∷ assumed) other.1 tope
      → Proves nodes context all assumed i tope

-- later inferences may have been added
pub record Extends (old new : List Inference) : Type 0 where
  pub added : List Inference
  pub is : new ≡ old ++ added
