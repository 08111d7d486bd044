-- What a derivation file claims is derived.
use Rattle.std.proofs.Common.{◌≡◌, ℕ, ◌<◌, List, [], ◌∷◌, ◌++◌, length, map, All, refl, sym, ap, ◌∙◌, subst}
use Rattle.std.specs.Prelude.{slice_get}
use Rattle.std.proofs.lemmas.List.{map-append, append_assoc, append-nil}
use Rattle.std.proofs.lemmas.List.Elements.{All-nil, All-append, All-cons}
use Rattle.std.proofs.lemmas.Option.{slice_get-get_or}
use Rattle.rz_rules.specs.declared.judgments.Line.{Line}
use Rattle.rz_rules.specs.Derivation.{Step, Follows}
use Rattle.rz_rules.specs.File.{Item, NodeItem, StepItem, ClaimItem, Claim, FileState, empty_state, statement_at, extended, AllFit, step_over, AllFollow, state_after, IsFile}
use Rattle.rz_rules.specs.Judgment.{Statement, statement}
use Rattle.rz_metatheory.specs.Derivation.{FollowAfter, IsDerivation, Derives}

abbrev says_of : List Step → List Statement
says_of steps = map (λ (step : Step). step.says) steps

-- one line more
follow_more : (earlier : List Statement) (steps : List Step) (step : Step) → FollowAfter earlier steps → Follows (earlier ++ says_of steps) step → FollowAfter earlier (steps ++ step ∷ [])
follow_more earlier [] step all follows = (subst (λ (list : List Statement). Follows list step) (append-nil earlier) follows, tt)
follow_more earlier (first ∷ steps) step all follows = (
  all.0,
  follow_more (earlier ++ first.says ∷ []) steps step all.1
      (subst (λ (list : List Statement). Follows list step) (sym (append_assoc earlier (first.says ∷ []) (says_of steps))) follows),
)

-- the steps so far are a derivation, and the claims so far are derived
record IsSound (state : FileState) : Type 0 where
  pub steps : List Step
  pub derivation : IsDerivation steps
  pub says : says_of steps ≡ state.statements
  pub claims : All (λ (claim : Claim). Derives claim.says) state.claims

module _ (state : FileState) (sound : IsSound state) where
  with_step : (line : Line) → Follows state.statements (step_over state.trees line) → IsSound (extended state (StepItem line))
  with_step line follows = record {
    steps = sound.steps ++ step_over state.trees line ∷ [];
    derivation = follow_more [] sound.steps (step_over state.trees line) sound.derivation
        (subst (λ (list : List Statement). Follows list (step_over state.trees line)) (sym sound.says) follows);
    says = map-append (λ (step : Step). step.says) sound.steps (step_over state.trees line ∷ []) ∙ ap (λ (list : List Statement). list ++ statement state.trees line.says ∷ []) sound.says;
    claims = sound.claims;
  }

  with_claim : (name : List ℕ) (step : ℕ) → step < length state.statements → IsSound (extended state (ClaimItem name step))
  with_claim name step there = record {
    steps = sound.steps;
    derivation = sound.derivation;
    says = sound.says;
    claims = All-append (λ (claim : Claim). Derives claim.says) state.claims (record { name = name; says = statement_at state.statements step } ∷ []) sound.claims
        (All-cons (λ (claim : Claim). Derives claim.says) (record { name = name; says = statement_at state.statements step }) []
        (sound.steps, sound.derivation, step, ap (λ (list : List Statement). slice_get list step) sound.says ∙ slice_get-get_or state.statements step _ there)
        (All-nil (λ (claim : Claim). Derives claim.says)));
  }

items_sound : (state : FileState) (items : List Item) → IsSound state → AllFit state items → AllFollow state items → IsSound (state_after state items)
items_sound state [] sound fit follow = sound
items_sound state (NodeItem node ∷ items) sound fit follow =
    items_sound (extended state (NodeItem node)) items (record { steps = sound.steps; derivation = sound.derivation; says = sound.says; claims = sound.claims }) fit.1 follow.1
items_sound state (StepItem line ∷ items) sound fit follow =
    items_sound (extended state (StepItem line)) items (with_step state sound line follow.0) fit.1 follow.1
items_sound state (ClaimItem name step ∷ items) sound fit follow =
    items_sound (extended state (ClaimItem name step)) items (with_claim state sound name step fit.0.there) fit.1 follow.1

pub claims_derived : (bytes : List ℕ) (claims : List Claim) → IsFile bytes claims → All (λ (claim : Claim). Derives claim.says) claims
claims_derived bytes claims file =
    let start : IsSound empty_state = record { steps = []; derivation = tt; says = refl; claims = All-nil (λ (claim : Claim). Derives claim.says) } in
    subst (λ (list : List Claim). All (λ (claim : Claim). Derives claim.says) list) (sym file.4) (items_sound empty_state file.0 start file.1 file.2).claims
