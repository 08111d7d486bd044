-- What is answered of the sequent that a text says.
use Rattle.std.specs.Prelude.{◌≡◌, ℕ, ◌<◌, ◌≤◌, List, [], ◌∷◌, length, codes}
use Rattle.rz_rules.specs.Cube.{binders_of}
use Rattle.rz_rules.specs.File.{Claim, IsFile}
use Rattle.rz_rules.specs.Structural.{formed, holds}
use Rattle.rz_rules.specs.Tope.{IsTopeOver}
use Rattle.rz_rules.specs.Tree.{tree_of}
use Rattle.rz_rules.specs.Validity.{IsValid, occurring, Refutes, coordinates_limit}
use Rattle.rz_log.specs.declared.world.World.{World}
use Rattle.rz_log.specs.World.{Says}
use Rattle.rz_export.specs.Needs.{HasNothingInVain}
use Rattle.rz_tope_query.specs.declared.sequent.Question.{Question}
use Rattle.rz_tope_query.specs.declared.decision.Decision.{Decision}
use Rattle.rz_tope_query.specs.declared.decision.Decision.TheVariants.{Yes, No, Silent}
use Rattle.rz_tope_query.specs.Sequent.{Sequent, SaysSequent}

-- the sequent of a question of a world
abbrev pub sequent_at : World → Question → Sequent
sequent_at w question =
    record { names = question.names; context = tree_of w.pool.nodes question.context; goal = tree_of w.pool.nodes question.goal }

-- the text says the sequent of a question, whose context a step says to be formed
pub record IsAsked (text : List ℕ) (w : World) (question : Question) : Type 0 where
  pub says : SaysSequent text (sequent_at w question)
  pub formed_is : Says w question.at (formed (tree_of w.pool.nodes question.context))
  pub context_live : question.context < length w.pool.nodes
  pub goal_live : question.goal < length w.pool.nodes
  pub over : IsTopeOver (binders_of (tree_of w.pool.nodes question.context)) (tree_of w.pool.nodes question.goal)

-- the claim that the goal holds in the context
abbrev pub tope_claim : Sequent → Claim
tope_claim sequent = record { name = codes "tope"; says = holds sequent.context sequent.goal }

-- how many coordinates occur in a sequent
abbrev pub count_of : Sequent → ℕ
count_of sequent = length (occurring sequent.context sequent.goal)

-- The right decision: the sequent is valid, and the bytes are a file of derivations that claims it and nothing else; or
-- ranks of the coordinates that occur refute it; or more than eight coordinates occur.
abbrev pub IsDecisionOf : Sequent → Decision → Type 0
IsDecisionOf sequent (Yes bytes) =
    (count_of sequent ≤ coordinates_limit) × IsValid sequent.context sequent.goal × IsFile bytes (tope_claim sequent ∷ [])
IsDecisionOf sequent (No names ranks) =
    (count_of sequent ≤ coordinates_limit) × (names ≡ sequent.names) × Refutes sequent.context sequent.goal ranks
IsDecisionOf sequent (Silent count) = (coordinates_limit < count) × (count ≡ count_of sequent)

-- each line and each node of the file of a yes is there for its claim
abbrev pub IsLean : Decision → Type 0
IsLean (Yes bytes) = HasNothingInVain bytes
IsLean other = Unit {0}

-- the text says a sequent, and this is the right decision of it
abbrev pub IsDecided : List ℕ → Decision → Type 0
IsDecided text decision = (sequent : Sequent) × SaysSequent text sequent × IsDecisionOf sequent decision
