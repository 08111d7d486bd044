-- What is shown among more inferences, and claims of points.
use Rattle.std.proofs.Common.{◌≡◌, ℕ, zero, suc, ◌+◌, ◌<◌, List, [], ◌∷◌, ◌++◌, length, Option, Some, None, All, refl, sym, ap, ◌∙◌, subst, arith, get_or, set, replicate, ◌≢◌, ◌⊎◌, inl, inr, length-append}
use Rattle.std.specs.Prelude.{IfSome}
use Rattle.std.proofs.lemmas.Bool.Decides.{eqb_tells, leb_tells}
use Rattle.std.proofs.lemmas.List.{get_or_past}
use Rattle.std.proofs.Math.ListN.{get_or-append}
use Rattle.std.proofs.Math.Seq.{get_or-append_seam}
use Rattle.std.proofs.lemmas.Option.{slice_get-get_or}
use Rattle.rz_tope_proof.specs.Part.{part_at}
use Rattle.rz_rules.specs.declared.nodes.Node.{Node}
use Rattle.rz_rules.specs.Tree.{Tree, tree_of}
use Rattle.rz_rules.specs.Cube.{binders_of, cube_two}
use Rattle.rz_rules.specs.Tope.{IsPointOf, equal_points, disjunction}
use Rattle.rz_tope_proof.specs.declared.parts.Form.{Form}
use Rattle.rz_tope_proof.specs.declared.parts.Form.TheVariants as form
use Rattle.rz_tope_proof.specs.declared.parts.Part.{Part}
use Rattle.rz_tope_proof.specs.declared.parts.Side.{Side}
use Rattle.rz_tope_proof.specs.declared.places.Places.{Places}
use Rattle.rz_tope_proof.specs.declared.proof.Claim.TheVariants as claim
use Rattle.rz_tope_proof.specs.declared.proof.Inference.{Inference}
use Rattle.rz_tope_proof.specs.Claim.{IsClaim, tope_of}
use Rattle.rz_tope_proof.specs.Place.{IsPlaces, IsPoint, point_at}
use Rattle.rz_tope_proof.specs.Proving.{Extends}
use Rattle.rz_tope_proof.specs.Reading.{IsPlacedBy, IsSide, HasForm, IsRead, AreRead, tope_at}
use Rattle.rz_tope_proof.proofs.Proving.{extended_proof, proves_anywhere, proves_under}
use Rattle.rz_tope_proof.proofs.Leading.{Contains-rest}
use Rattle.rz_tope_search.specs.declared.table.Table.{Table}
use Rattle.rz_tope_search.specs.declared.branches.Branch.{Branch}
use Rattle.rz_tope_search.specs.declared.branches.Waiting.{Waiting}
use Rattle.rz_tope_search.specs.Showing.{Setting, assuming, Shows, ShowsUnlessSame, AreSides, HasPlace, IsReading, ProvesTable, ProvesWaiting, ProvesBranch, ProvesSteps, places_tope}

-- ---- claims

All-none : (P : ℕ → Type 0) → All P []
All-none P k d lt = absurd (omega arith)

All-and : (P : ℕ → Type 0) (x : ℕ) (xs : List ℕ) → P x → All P xs → All P (x ∷ xs)
All-and P x xs here rest zero d lt = here
All-and P x xs here rest (suc k) d lt = rest k d (omega arith)

module _ (nodes : List Node) (context : Tree) where
  pub claim-at_most : (s u : ℕ) → IsPoint nodes context s → IsPoint nodes context u → IsClaim nodes context (claim.AtMost s u)
  claim-at_most s u one other = record {
    live = All-and (λ id. id < length nodes) s (u ∷ []) one.live (All-and (λ id. id < length nodes) u [] other.live (All-none (λ id. id < length nodes)));
    over = (one.over, other.over);
  }

  pub claim-either : (s u : ℕ) → IsPoint nodes context s → IsPoint nodes context u → IsClaim nodes context (claim.Either s u)
  claim-either s u one other = record {
    live = All-and (λ id. id < length nodes) s (u ∷ []) one.live (All-and (λ id. id < length nodes) u [] other.live (All-none (λ id. id < length nodes)));
    over = ((one.over, other.over), (other.over, one.over));
  }

  pub claim-equal : (cube s u : ℕ) → cube < length nodes → s < length nodes → u < length nodes
      → IsPointOf (binders_of context) (tree_of nodes cube) (tree_of nodes s) → IsPointOf (binders_of context) (tree_of nodes cube) (tree_of nodes u)
      → IsClaim nodes context (claim.Equal cube s u)
  claim-equal cube s u a b c one other = record {
    live = All-and (λ id. id < length nodes) cube (s ∷ u ∷ []) a
        (All-and (λ id. id < length nodes) s (u ∷ []) b (All-and (λ id. id < length nodes) u [] c (All-none (λ id. id < length nodes))));
    over = (one, other);
  }

  module _ (places : Places) (are : IsPlaces nodes context places) where
    pub claim-same : (s u : ℕ) → IsPoint nodes context s → IsPoint nodes context u → IsClaim nodes context (claim.Equal places.interval s u)
    claim-same s u one other = claim-equal places.interval s u are.live one.live other.live
        (subst (λ (cube : Tree). IsPointOf (binders_of context) cube (tree_of nodes s)) (sym are.interval) one.over)
        (subst (λ (cube : Tree). IsPointOf (binders_of context) cube (tree_of nodes u)) (sym are.interval) other.over)

    pub same-says : (s u : ℕ) → tope_of nodes (claim.Equal places.interval s u) ≡ equal_points cube_two (tree_of nodes s) (tree_of nodes u)
    same-says s u = ap (λ (cube : Tree). equal_points cube (tree_of nodes s) (tree_of nodes u)) are.interval

-- ---- among more inferences

module _ (at : Setting) (old new : List Inference) (extends : Extends old new) where
  pub shows-later : (step : ℕ) (tope : Tree) → Shows at old step tope → Shows at new step tope
  shows-later step tope shows = extended_proof at.nodes at.context old new extends shows

  pub unless-later : (step : Option ℕ) (tope s u : Tree) → ShowsUnlessSame at old step tope s u → ShowsUnlessSame at new step tope s u
  unless-later None tope s u same = same
  unless-later (Some step) tope s u shows = shows-later step tope shows

module _ (nodes : List Node) (context : Tree) (places : Places) (old new : List Inference) (extends : Extends old new) where
  placed-later : (point place : ℕ) (step : Option ℕ) → IsPlacedBy nodes context places old point place step
      → IsPlacedBy nodes context places new point place step
  placed-later point place None same = same
  placed-later point place (Some step) shows = extended_proof nodes context old new extends shows

  pub side-later : (side : Side) → IsSide nodes context places old side → IsSide nodes context places new side
  side-later side is = record { place = is.place; point = is.point; equation = placed-later side.point side.place side.equation is.equation }

  form-later : (parts : List Part) (f : Form) (tope : Tree) → HasForm nodes context places old parts f tope → HasForm nodes context places new parts f tope
  form-later parts form.Top tope has = has
  form-later parts form.Bottom tope has = has
  form-later parts (form.And first second) tope has = has
  form-later parts (form.Or first second) tope has = has
  form-later parts (form.AtMost first second) tope has = (side-later first has.0, side-later second has.1, has.2)
  form-later parts (form.Equal first second) tope has = (side-later first has.0, side-later second has.1, has.2)
  form-later parts (form.EqualPairs of one other pairs) tope has = has
  form-later parts form.Same tope has = has
  form-later parts form.OnePoint tope has = has

  pub read-later : (parts : List Part) (part : Part) → IsRead nodes context places old parts part → IsRead nodes context places new parts part
  read-later parts part is = record { claim = is.claim; form = form-later parts part.form (tope_of nodes part.claim) is.form }

  pub all_read-later : (parts : List Part) → AreRead nodes context places old parts → AreRead nodes context places new parts
  all_read-later parts are k part there = read-later parts part (are k part there)

module _ (at : Setting) (places : Places) (old new : List Inference) (extends : Extends old new) where
  pub sides-later : (first second : Side) → AreSides at old places first second → AreSides at new places first second
  sides-later first second are = record {
    places_are = are.places_are;
    first_is = side-later at.nodes at.context places old new extends first are.first_is;
    second_is = side-later at.nodes at.context places old new extends second are.second_is;
  }

  pub place-later : (side : Side) → HasPlace at old places side → HasPlace at new places side
  place-later side has = record { places_are = has.places_are; side_is = side-later at.nodes at.context places old new extends side has.side_is }

-- ---- where there is no inference

pub unless-same : (at : Setting) (all : List Inference) (step : Option ℕ) (tope s u x y : Tree) → (s ≡ u → x ≡ y)
    → ShowsUnlessSame at all step tope s u → ShowsUnlessSame at all step tope x y
unless-same at all None tope s u x y moves same = moves same
unless-same at all (Some step) tope s u x y moves shows = shows

pub side-shows : (at : Setting) (places : Places) (all : List Inference) (side : Side) → IsSide at.nodes at.context places all side
    → ShowsUnlessSame at all side.equation (equal_points cube_two (tree_of at.nodes side.point) (tree_of at.nodes (point_at places side.place)))
    (tree_of at.nodes side.point) (tree_of at.nodes (point_at places side.place))
side-shows at places all side is = placed side.point side.place side.equation is.equation
  where
    placed : (point place : ℕ) (step : Option ℕ) → IsPlacedBy at.nodes at.context places all point place step
        → ShowsUnlessSame at all step (equal_points cube_two (tree_of at.nodes point) (tree_of at.nodes (point_at places place)))
        (tree_of at.nodes point) (tree_of at.nodes (point_at places place))
    placed point place None same = ap (tree_of at.nodes) same
    placed point place (Some step) shows = proves_anywhere at.nodes at.context all shows at.assumed

module _ (at : Setting) (places : Places) (old new : List Inference) (extends : Extends old new) where
  pub table-later : (table : Table) → ProvesTable at old places table → ProvesTable at new places table
  table-later table proves low high step a b is = shows-later at old new extends step (places_tope at.nodes places low high) (proves low high step a b is)

pub table-moved : (at : Setting) (places : Places) (p q : List Inference) (t r : Table) → p ≡ q → t ≡ r
    → ProvesTable at q places r → ProvesTable at p places t
table-moved at places p q t r same equal_points proves =
    subst (λ (x : List Inference). ProvesTable at x places t) (sym same) (subst (ProvesTable at q places) (sym equal_points) proves)

-- ---- branches

module _ (at : Setting) (parts : List Part) (old new : List Inference) (extends : Extends old new) where
  pub waiting-later : (ws : List Waiting) → All (ProvesWaiting at old parts) ws → All (ProvesWaiting at new parts) ws
  waiting-later ws all k d lt =
      let w : Waiting = get_or ws k d in
      shows-later at old new extends w.step (disjunction (tope_at at.nodes parts w.sides.0) (tope_at at.nodes parts w.sides.1)) (all k d lt)

  pub steps-later : (steps : List (Option ℕ)) → ProvesSteps at old parts steps → ProvesSteps at new parts steps
  steps-later steps all k step is = shows-later at old new extends step (tope_at at.nodes parts k) (all k step is)

  pub branch-later : (places : Places) (branch : Branch) → ProvesBranch at old places parts branch → ProvesBranch at new places parts branch
  branch-later places branch proves = record {
    table = table-later at places old new extends branch.table proves.table;
    waiting = waiting-later branch.waiting.items proves.waiting;
  }

  pub reading-later : (places : Places) → IsReading at old places parts → IsReading at new places parts
  reading-later places is = record {
    places_are = is.places_are;
    parts_are = all_read-later at.nodes at.context places old new extends parts is.parts_are;
  }

-- what is known is known under one assumption more
pub shows-assuming : (leaf : ℕ) (at : Setting) (all : List Inference) (step : ℕ) (tope : Tree) → Shows at all step tope
    → Shows (assuming leaf at) all step tope
shows-assuming leaf at all step tope shows =
    proves_under at.nodes at.context all shows (leaf ∷ at.assumed) (λ a has. Contains-rest at.assumed leaf a has)

pub branch-assuming : (leaf : ℕ) (at : Setting) (all : List Inference) (places : Places) (parts : List Part) (branch : Branch)
    → ProvesBranch at all places parts branch → ProvesBranch (assuming leaf at) all places parts branch
branch-assuming leaf at all places parts branch proves = record {
  table = λ low high step a b is. shows-assuming leaf at all step (places_tope at.nodes places low high) (proves.table low high step a b is);
  waiting = λ k d lt.
      let w : Waiting = get_or branch.waiting.items k d in
      shows-assuming leaf at all w.step (disjunction (tope_at at.nodes parts w.sides.0) (tope_at at.nodes parts w.sides.1)) (proves.waiting k d lt);
}

-- a branch that knows the same
pub branch-same : (at : Setting) (all : List Inference) (places : Places) (parts : List Part) (old new : Branch) → new.table ≡ old.table
    → new.waiting.items ≡ old.waiting.items → ProvesBranch at all places parts old → ProvesBranch at all places parts new
branch-same at all places parts old new table waiting proves = record {
  table = subst (λ (t : Table). ProvesTable at all places t) (sym table) proves.table;
  waiting = subst (λ (ws : List Waiting). All (ProvesWaiting at all parts) ws) (sym waiting) proves.waiting;
}

pub claim-bottom : (nodes : List Node) (context : Tree) → IsClaim nodes context claim.Bottom
claim-bottom nodes context = record { live = All-none (λ id. id < length nodes); over = tt }

-- a part is read
pub read-at-part : (at : Setting) (all : List Inference) (places : Places) (parts : List Part) → IsReading at all places parts
    → (k : ℕ) → k < length parts → IsRead at.nodes at.context places all parts (part_at parts k)
read-at-part at all places parts is k there = is.parts_are k (part_at parts k) (slice_get-get_or parts k _ there)

-- what holds of what is there
pub some-at : (P : ℕ → Type 0) (o : Option ℕ) (s : ℕ) → o ≡ Some s → IfSome o P → P s
some-at P o s is holds = subst (λ (x : Option ℕ). IfSome x P) is holds

-- ---- inferences of parts

step-set : (steps : List (Option ℕ)) (i k : ℕ) (v : Option ℕ) (s : ℕ) → get_or (set steps i v) k None ≡ Some s
    → (get_or steps k None ≡ Some s) ⊎ ((k ≡ i) × (v ≡ Some s))
step-set [] i k v s h = inl h
step-set (x ∷ steps) zero zero v s h = inr (refl, h)
step-set (x ∷ steps) zero (suc k) v s h = inl h
step-set (x ∷ steps) (suc i) zero v s h = inl h
step-set (x ∷ steps) (suc i) (suc k) v s h = elim (step-set steps i k v s h) [
  | inl before ↦ inl before
  | inr here ↦ inr (ap suc here.0, here.1)
]

module _ (at : Setting) (all : List Inference) (parts : List Part) where
  -- an inference more
  pub steps-set : (steps : List (Option ℕ)) (i s : ℕ) → ProvesSteps at all parts steps → Shows at all s (tope_at at.nodes parts i)
      → ProvesSteps at all parts (set steps i (Some s))
  steps-set steps i s proves shows k step is = elim (step-set steps i k (Some s) step is) [
    | inl before ↦ proves k step before
    | inr here ↦
        let same : s ≡ step = let e : Some s ≡ Some step = here.1 in cc in
        subst (λ (m : ℕ). Shows at all step (tope_at at.nodes parts m)) (sym here.0)
        (subst (λ (n : ℕ). Shows at all n (tope_at at.nodes parts i)) same shows)
  ]

  none-there : (n k step : ℕ) → get_or (replicate n None) k None ≡ Some step → ⊥
  none-there zero k step h = let e : None ≡ Some step = h in cc
  none-there (suc n) zero step h = let e : None ≡ Some step = h in cc
  none-there (suc n) (suc k) step h = none-there n k step h

  pub steps-none : (n : ℕ) → ProvesSteps at all parts (replicate n None)
  steps-none n k step is = absurd (none-there n k step is)

-- what is known of each value
pub some-each : (P : ℕ → Type 0) (o : Option ℕ) → ((s : ℕ) → o ≡ Some s → P s) → IfSome o P
some-each P None holds = tt
some-each P (Some s) holds = holds s refl

-- the inference of a part proves it
pub step-at : (at : Setting) (all : List Inference) (parts : List Part) (steps : List (Option ℕ)) → ProvesSteps at all parts steps
    → (k : ℕ) → IfSome (get_or steps k None) (λ s. Shows at all s (tope_at at.nodes parts k))
step-at at all parts steps proves k = some-each (λ s. Shows at all s (tope_at at.nodes parts k)) (get_or steps k None) (proves k)

-- the inference of one part more
pub steps-push : (at : Setting) (all : List Inference) (parts : List Part) (steps : List (Option ℕ)) (o : Option ℕ) (i : ℕ) → length steps ≡ i
    → ProvesSteps at all parts steps → IfSome o (λ s. Shows at all s (tope_at at.nodes parts i)) → ProvesSteps at all parts (steps ++ o ∷ [])
steps-push at all parts steps o i full proves here k step is = elim (eqb_tells k i) [
  | inl same ↦
      let last : get_or (steps ++ o ∷ []) k None ≡ o =
      ap (λ (n : ℕ). get_or (steps ++ o ∷ []) n None) (same.1 ∙ sym full) ∙ get_or-append_seam steps o [] None in
      subst (λ (n : ℕ). Shows at all step (tope_at at.nodes parts n)) (sym same.1)
      (some-at (λ s. Shows at all s (tope_at at.nodes parts i)) o step (sym last ∙ is) here)
  | inr apart ↦ elim (leb_tells (k + 1) i) [
    | inl before ↦ proves k step (sym (get_or-append steps (o ∷ []) None k (omega (arith, before.1, full))) ∙ is)
    | inr after ↦
        let ne : k ≢ i = apart.1 in
        let past : get_or (steps ++ o ∷ []) k None ≡ None =
        get_or_past (steps ++ o ∷ []) k None (omega (arith, length-append steps (o ∷ []), full, ne, after.1)) in
        let wrong : None ≡ Some step = sym past ∙ is in
        absurd cc
  ]
]
