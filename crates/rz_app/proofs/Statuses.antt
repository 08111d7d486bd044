-- Which status a command has.
use Rattle.std.proofs.Common.{◌≡◌, ℕ, ◌≢◌, ◌⊎◌, inl, inr, List, [], ◌∷◌, ◌++◌, Option, None, Some, refl, sym, ◌∙◌, subst, arith}
use Rattle.rz_rules.specs.Validity.{IsValid}
use Rattle.rz_io.specs.Device.{Told}
use Rattle.rz_tope_query.specs.declared.decision.Decision.{Decision}
use Rattle.rz_tope_query.specs.declared.decision.Decision.TheVariants as decision
use Rattle.rz_tope_query.specs.Sequent.{IsNoSequent, SaysSequent, Sequent}
use Rattle.rz_tope_query.specs.Decision.{IsDecided, IsDecisionOf}
use Rattle.rz_app.specs.Command.{AsksAbout, Command, IsNoCommand, Kernel, Tope, files_of}
use Rattle.rz_app.specs.Answer.{AnswersCommand, HasFewCoordinates, TopeWrites, Writes, WritesUsage, decision_status}
use Rattle.rz_app.specs.Fault.{Composes}

-- a text says one sequent
abbrev pub OneSequent : Type 0
OneSequent = (text : List ℕ) (this that : Sequent) → SaysSequent text this → SaysSequent text that → this ≡ that

-- ---- what a decision of a sequent is

decided_of : OneSequent → (text : List ℕ) (sequent : Sequent) (answer : Decision) → SaysSequent text sequent → IsDecided text answer → IsDecisionOf sequent answer
decided_of one text sequent answer says is = subst (λ (s : Sequent). IsDecisionOf s answer) (one text is.0 sequent is.1 says) is.2

status_of_valid : (sequent : Sequent) (answer : Decision) → IsDecisionOf sequent answer → HasFewCoordinates sequent → IsValid sequent.context sequent.goal → decision_status answer ≡ 0
status_of_valid sequent (decision.Yes bytes) is few valid = refl
status_of_valid sequent (decision.No names ranks) is few valid =
    let holds = valid ranks is.2.ranks_are is.2.context_is_true in
    let fails = is.2.tope_is_false in
    absurd cc
status_of_valid sequent (decision.Silent count) is few valid = absurd (omega (is.0, is.1, few, arith))

status_of_invalid : (sequent : Sequent) (answer : Decision) → IsDecisionOf sequent answer → HasFewCoordinates sequent → (IsValid sequent.context sequent.goal → ⊥) → decision_status answer ≡ 1
status_of_invalid sequent (decision.Yes bytes) is few invalid = absurd (invalid is.1)
status_of_invalid sequent (decision.No names ranks) is few invalid = refl
status_of_invalid sequent (decision.Silent count) is few invalid = absurd (omega (is.0, is.1, few, arith))

status_of_wide : (sequent : Sequent) (answer : Decision) → IsDecisionOf sequent answer → (HasFewCoordinates sequent → ⊥) → decision_status answer ≡ 7
status_of_wide sequent (decision.Yes bytes) is wide = absurd (wide is.0)
status_of_wide sequent (decision.No names ranks) is wide = absurd (wide is.0)
status_of_wide sequent (decision.Silent count) is wide = refl

-- ---- what a command writes

-- a sequent reads no file
tope_writes : (sequent : List ℕ) (told : List ℕ → Told) (text : List ℕ) (status : ℕ) → AnswersCommand (Some (Tope sequent)) told text status
    → TopeWrites sequent text status ⊎ IsNoSequent sequent × WritesUsage text status
tope_writes sequent told text status is = by_contents is.contents is.writes
  where
    by_contents : (contents : List (List ℕ)) → Writes (Some (Tope sequent)) contents text status → TopeWrites sequent text status ⊎ IsNoSequent sequent × WritesUsage text status
    by_contents [] writes = writes
    by_contents (bytes ∷ contents) writes = absurd writes

-- ---- the statuses of the answer

-- what is said of a sequent's status by the decision of it
abbrev ByDecision : ℕ → Sequent → Type 0
ByDecision status sequent = (answer : Decision) × IsDecisionOf sequent answer × (status ≡ decision_status answer)

by_decision : OneSequent → (asked : Option Command) (told : List ℕ → Told) (text : List ℕ) (status : ℕ) (sequent : Sequent)
    → AnswersCommand asked told text status → AsksAbout asked sequent → ByDecision status sequent
by_decision one None told text status sequent is asks = absurd asks
by_decision one (Some (Kernel file)) told text status sequent is asks = absurd asks
by_decision one (Some (Tope words)) told text status sequent is asks = elim (tope_writes words told text status is) [
  | inl wrote ↦ (wrote.decision, decided_of one words sequent wrote.decision asks wrote.decided, wrote.status_is)
  | inr none ↦ absurd (none.0 sequent asks)
]

-- ---- what is composed

-- a command that reads no file has an answer
answer_of : (asked : Option Command) (told : List ℕ → Told) (before now : ℕ) (text : List ℕ) (status : ℕ) → files_of asked ≡ []
    → Composes asked told before now text status → AnswersCommand asked told text status
answer_of asked told before now text status none composed = elim composed [
  | inl answer ↦ answer
  | inr cannot ↦ absurd (no_place cannot.0.earlier cannot.0.name cannot.0.later (sym none ∙ cannot.0.place))
]
  where
    no_place : (earlier : List (List ℕ)) (name : List ℕ) (later : List (List ℕ)) → [] ≡ earlier ++ name ∷ later → ⊥
    no_place [] name later e = cc
    no_place (first ∷ earlier) name later e = cc

sequents_read_nothing : (asked : Option Command) (sequent : Sequent) → AsksAbout asked sequent → files_of asked ≡ []
sequents_read_nothing None sequent asks = absurd asks
sequents_read_nothing (Some (Kernel file)) sequent asks = absurd asks
sequents_read_nothing (Some (Tope words)) sequent asks = refl

no_commands_read_nothing : (asked : Option Command) → IsNoCommand asked → files_of asked ≡ []
no_commands_read_nothing None none = refl
no_commands_read_nothing (Some (Kernel file)) none = absurd none
no_commands_read_nothing (Some (Tope words)) none = refl

pub zero_where_valid : OneSequent → (asked : Option Command) (told : List ℕ → Told) (before now : ℕ) (text : List ℕ) (status : ℕ) → Composes asked told before now text status
    → (sequent : Sequent) → AsksAbout asked sequent → HasFewCoordinates sequent → IsValid sequent.context sequent.goal → status ≢ 4 → status ≢ 5 → status ≡ 0
zero_where_valid one asked told before now text status composed sequent asks few valid _ _ =
    let answer = answer_of asked told before now text status (sequents_read_nothing asked sequent asks) composed in
    let by = by_decision one asked told text status sequent answer asks in by.2 ∙ status_of_valid sequent by.0 by.1 few valid

pub one_where_invalid : OneSequent → (asked : Option Command) (told : List ℕ → Told) (before now : ℕ) (text : List ℕ) (status : ℕ) → Composes asked told before now text status
    → (sequent : Sequent) → AsksAbout asked sequent → HasFewCoordinates sequent → ¬ IsValid sequent.context sequent.goal → status ≢ 4 → status ≢ 5 → status ≡ 1
one_where_invalid one asked told before now text status composed sequent asks few invalid _ _ =
    let answer = answer_of asked told before now text status (sequents_read_nothing asked sequent asks) composed in
    let by = by_decision one asked told text status sequent answer asks in by.2 ∙ status_of_invalid sequent by.0 by.1 few invalid

pub seven_where_wide : OneSequent → (asked : Option Command) (told : List ℕ → Told) (before now : ℕ) (text : List ℕ) (status : ℕ) → Composes asked told before now text status
    → (sequent : Sequent) → AsksAbout asked sequent → ¬ HasFewCoordinates sequent → status ≢ 4 → status ≢ 5 → status ≡ 7
seven_where_wide one asked told before now text status composed sequent asks wide _ _ =
    let answer = answer_of asked told before now text status (sequents_read_nothing asked sequent asks) composed in
    let by = by_decision one asked told text status sequent answer asks in by.2 ∙ status_of_wide sequent by.0 by.1 wide

pub two_where_no_command : (asked : Option Command) (told : List ℕ → Told) (before now : ℕ) (text : List ℕ) (status : ℕ) → Composes asked told before now text status
    → IsNoCommand asked → status ≢ 4 → status ≢ 5 → status ≡ 2
two_where_no_command asked told before now text status composed none _ _ =
    by_command asked (answer_of asked told before now text status (no_commands_read_nothing asked none) composed) none
  where
    by_command : (asked : Option Command) → AnswersCommand asked told text status → IsNoCommand asked → status ≡ 2
    by_command None is none = is.writes.1
    by_command (Some (Kernel file)) is none = absurd none
    by_command (Some (Tope words)) is none = elim (tope_writes words told text status is) [
      | inl wrote ↦ absurd (none wrote.decided.0 wrote.decided.1)
      | inr wrote ↦ wrote.1.1
    ]
