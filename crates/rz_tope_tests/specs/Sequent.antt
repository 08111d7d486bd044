-- Sequents in a world.
use Rattle.std.specs.Prelude.{ℕ, ◌<◌, length}
use Rattle.rz_rules.specs.Structural.{formed}
use Rattle.rz_rules.specs.Tope.{IsTopeOver}
use Rattle.rz_rules.specs.Cube.{binders_of}
use Rattle.rz_rules.specs.Tree.{tree_of}
use Rattle.rz_log.specs.declared.world.World.{World}
use Rattle.rz_log.specs.declared.entail.Entailed.{Entailed}
use Rattle.rz_log.specs.declared.entail.Entailed.TheVariants.{Yes}
use Rattle.rz_log.specs.Entail.{IsEntailed}
use Rattle.rz_log.specs.World.{Says}
use Rattle.rz_tope_tests.specs.declared.sequents.Question.{Question}

-- a step says that a context is formed
pub record IsQuestion (w : World) (question : ℕ × ℕ) : Type 0 where
  pub live : question.0 < length w.pool.nodes
  pub formed_is : Says w question.1 (formed (tree_of w.pool.nodes question.0))

-- and a tope is over it
pub record IsAsked (w : World) (asked : Question) : Type 0 where
  pub question : IsQuestion w (asked.context, asked.at)
  pub live : asked.tope < length w.pool.nodes
  pub over : IsTopeOver (binders_of (tree_of w.pool.nodes asked.context)) (tree_of w.pool.nodes asked.tope)

-- the right answer to it
pub record IsAnswered (w : World) (asked : Question) (entailed : Entailed) : Type 0 where
  pub asked_is : IsAsked w asked
  pub answer : IsEntailed w (tree_of w.pool.nodes asked.context) (tree_of w.pool.nodes asked.tope) entailed

-- the step of a yes is there
abbrev pub IsStepOf : World → Entailed → Type 0
IsStepOf w (Yes step) = step < length w.log
IsStepOf w other = Unit {0}
