-- What some steps rest on, and what they name, is there and is closed.
use Rattle.std.proofs.Common.{◌≡◌, ℕ, zero, suc, ◌<◌, List, [], ◌∷◌, length, get_or, take, map, All, Contains, Option, Some, None, slice_get, refl, sym, subst, inl, inr, arith}
use Rattle.std.specs.Prelude.{◌↔◌}
use Rattle.std.specs.List.{concat}
use Rattle.std.proofs.lemmas.List.{length-map, length-take, get_or-map}
use Rattle.std.proofs.lemmas.List.Elements.{All-contains, All-map, Contains-append_cases, Contains-append_left, Contains-append_right, Contains-get_or}
use Rattle.std.proofs.lemmas.Option.{slice_get_within, get_or_from_slice_get}
use Rattle.rz_rules.specs.declared.judgments.Line.{Line}
use Rattle.rz_rules.specs.Judgment.{ids_of}
use Rattle.rz_log.specs.declared.world.World.{World}
use Rattle.rz_log.specs.Log.{IsLineOver, statements_of}
use Rattle.rz_log.specs.Reachable.{IsReachable, Root, Premise}
use Rattle.rz_log.specs.World.{IsSound}
use Rattle.rz_export.specs.declared.claims.Claimed.{Claimed}
use Rattle.rz_export.specs.Claims.{steps_claimed}
use Rattle.rz_export.specs.Moves.{AreClosed, NameAmong, RestAmong}
use Rattle.rz_export.specs.Needs.{IsNeeded, Named, Kid, names_at, names_of}
use Rattle.rz_export.proofs.Following.{length_said, numbers_within}
use Rattle.rz_export.proofs.Places.{place_of}

-- what stands in lists that are joined
pub in_concat : {A : Type 0} (f : A → List ℕ) (xs : List A) (y : ℕ) → Contains (concat (map f xs)) y → (x : A) × Contains xs x × Contains (f x) y
in_concat f [] y there = absurd (omega (arith, there.1))
in_concat f (x ∷ xs) y there =
    elim (Contains-append_cases (f x) (concat (map f xs)) y there) [
      | inl first ↦ (x, (0, omega arith, refl), first)
      | inr others ↦
          let found = in_concat f xs y others in
          (found.0, Contains-append_right (x ∷ []) xs found.0 found.1, found.2)
    ]

pub concat_in : {A : Type 0} (f : A → List ℕ) (xs : List A) (place : ℕ) (x : A) (y : ℕ) → slice_get xs place ≡ Some x → Contains (f x) y → Contains (concat (map f xs)) y
concat_in f [] place x y e there = absurd cc
concat_in f (first ∷ xs) zero x y e there =
    let same : first ≡ x = cc in
    Contains-append_left (f first) (concat (map f xs)) y (subst (λ z. Contains (f z) y) (sym same) there)
concat_in f (first ∷ xs) (suc place) x y e there =
    Contains-append_right (f first) (concat (map f xs)) y (concat_in f xs place x y e there)

contains_all : {A : Type 0} (P : A → Type 0) (xs : List A) → ((x : A) → Contains xs x → P x) → All P xs
contains_all P xs each k d within = each (get_or xs k d) (Contains-get_or xs k d within)

names_in : (found : Option Line) (id : ℕ) → Contains (names_of found) id → (line : Line) × (found ≡ Some line) × Contains (ids_of line.says) id
names_in (Some line) id there = (line, refl, there)
names_in None id there = absurd (omega (arith, there.1))

-- an id that some lines name is named by one of them
pub named_at : (lines : List Line) (steps : List ℕ) (id : ℕ) → Contains (names_at lines steps) id
    → (step : ℕ) × Contains steps step × ((line : Line) × (slice_get lines step ≡ Some line) × Contains (ids_of line.says) id)
named_at lines steps id there =
    let found = in_concat (λ step. names_of (slice_get lines step)) steps id there in
    (found.0, found.1, names_in (slice_get lines found.0) id found.2)

pub named_in : (lines : List Line) (steps : List ℕ) (step : ℕ) (line : Line) (id : ℕ) → Contains steps step → slice_get lines step ≡ Some line
    → Contains (ids_of line.says) id → Contains (names_at lines steps) id
named_in lines steps step line id there at among =
    let place = place_of steps step there in
    concat_in (λ s. names_of (slice_get lines s)) steps place.0 step id place.1
    (subst (λ (found : Option Line). Contains (names_of found) id) (sym at) among)

module _ (w : World) (sound : IsSound w) where
  over_at : (step : ℕ) (line : Line) → slice_get w.log step ≡ Some line → IsLineOver w.pool.nodes line
  over_at step line at =
      subst (IsLineOver w.pool.nodes) (get_or_from_slice_get w.log step line line at)
      (sound.log.over step line (slice_get_within w.log step line at))

  premises_within : (step : ℕ) (line : Line) → slice_get w.log step ≡ Some line → All (λ premise. premise < length w.log) line.from
  premises_within step line at =
      let follows = sound.log.follow step line at in
      let early = numbers_within (statements_of w.pool.nodes (take step w.log)) line.from follows.premises follows.from in
      λ k d l. omega (arith, early k d l, length_said w.pool.nodes (take step w.log), length-take step w.log)

  module _ (roots : List ℕ) (live : All (λ root. root < length w.log) roots) where
    reachable_within : (step : ℕ) → IsReachable w.log roots step → step < length w.log
    reachable_within step (Root root) = All-contains (λ r. r < length w.log) roots step live root
    reachable_within step (Premise {step = from} {line = line} reached at premise) =
        All-contains (λ p. p < length w.log) line.from step (premises_within from line at) premise

    module _ (steps : List ℕ) (exact : (step : ℕ) → Contains steps step ↔ IsReachable w.log roots step) where
      pub steps_within : All (λ step. step < length w.log) steps
      steps_within = contains_all (λ step. step < length w.log) steps (λ step there. reachable_within step ((exact step).0 there))

      pub rest_among : RestAmong w.log steps
      rest_among step line there at = contains_all (Contains steps) line.from (λ premise among. (exact premise).1 (Premise ((exact step).0 there) at among))

  -- the ids that lines name, and those below them
  module _ (steps : List ℕ) where
    pub named_live : All (λ id. id < length w.pool.nodes) (names_at w.log steps)
    named_live =
        contains_all (λ id. id < length w.pool.nodes) (names_at w.log steps)
        (λ id there.
        let named = named_at w.log steps id there in
        let line = named.2.0 in
        All-contains (λ i. i < length w.pool.nodes) (ids_of line.says) id (over_at named.0 line named.2.1).live named.2.2)

    below_live : (id : ℕ) → IsNeeded w.pool.nodes (names_at w.log steps) id → id < length w.pool.nodes
    below_live id (Named there) = All-contains (λ i. i < length w.pool.nodes) (names_at w.log steps) id named_live there
    below_live id (Kid {id = whole} {node = node} below at kid) =
        let low : id < whole = All-contains (λ i. i < whole) node.kids id (sound.pool.forms whole node at).kids kid in
        let within = slice_get_within w.pool.nodes whole node at in
        omega (arith, low, within)

    module _ (ids : List ℕ) (exact : (id : ℕ) → Contains ids id ↔ IsNeeded w.pool.nodes (names_at w.log steps) id) where
      pub ids_live : All (λ id. id < length w.pool.nodes) ids
      ids_live = contains_all (λ id. id < length w.pool.nodes) ids (λ id there. below_live id ((exact id).0 there))

      pub ids_closed : AreClosed w.pool.nodes ids
      ids_closed id node there at = contains_all (Contains ids) node.kids (λ kid among. (exact kid).1 (Kid ((exact id).0 there) at among))

      pub name_among : NameAmong w.log steps ids
      name_among step line there at =
          contains_all (Contains ids) (ids_of line.says) (λ id among. (exact id).1 (Named (named_in w.log steps step line id there at among)))

-- the steps of claims
pub claims_live : (bound : ℕ) (claims : List Claimed) → All (λ claim. claim.step < bound) claims → All (λ root. root < bound) (steps_claimed claims)
claims_live bound claims live = All-map (λ root. root < bound) (λ (claim : Claimed). claim.step) claims live

pub claims_among : (lines : List Line) (claims : List Claimed) (steps : List ℕ) → ((step : ℕ) → Contains steps step ↔ IsReachable lines (steps_claimed claims) step)
    → All (λ claim. Contains steps claim.step) claims
claims_among lines claims steps exact k d within =
    (exact (get_or claims k d).step).1
    (Root (k, omega (arith, within, length-map claims (λ (claim : Claimed). claim.step)), get_or-map (λ (claim : Claimed). claim.step) claims k d (get_or claims k d).step within))
