-- Worlds: trees, and lines about them that follow.
use Rattle.std.specs.Prelude.{◌≡◌, ℕ, List, [], ◌∷◌, ◌++◌, length, take, Some, None, slice_get, ◌⊎◌}
use Rattle.rz_rules.specs.declared.judgments.Line.{Line}
use Rattle.rz_rules.specs.Tree.{Tree}
use Rattle.rz_rules.specs.Judgment.{Statement}
use Rattle.rz_rules.specs.File.{statement_at}
use Rattle.rz_pool.specs.Pool as pool
use Rattle.rz_pool.specs.Pool.{IsPool}
use Rattle.rz_log.specs.declared.world.World.{World}
use Rattle.rz_log.specs.declared.world.Mark.{Mark}
use Rattle.rz_log.specs.Index.{IsFirst}
use Rattle.rz_log.specs.Log.{AreBelow, IsSoundLog, judgments_of, statements_of}

-- each line of the log names nodes of the pool and follows, read as trees, from earlier lines
pub record IsSound (w : World) : Type 0 where
  pub pool : IsPool w.pool.nodes
  pub log : IsSoundLog w.pool.nodes w.log

-- what the lines say of trees
abbrev pub statements_in : World → List Statement
statements_in w = statements_of w.pool.nodes w.log

-- a step says this
abbrev pub Says : World → ℕ → Statement → Type 0
Says w step says = slice_get (statements_in w) step ≡ Some says

-- the context of what a step says
abbrev pub context_at : World → ℕ → Tree
context_at w step = (statement_at (statements_in w) step).context

-- the old nodes and lines keep their numbers, some may follow, and the new world is sound
pub record Grows (old new : World) : Type 0 where
  pub nodes : pool.Grows old.pool.nodes new.pool.nodes
  pub added : List Line
  pub lines : new.log ≡ old.log ++ added
  pub sound : IsSound new

-- no line before a mark names a node from the mark on
abbrev pub EndsBelow : World → Mark → Type 0
EndsBelow w mark = AreBelow mark.nodes (take mark.lines w.log)

-- A step says a line's judgment: it was the first to say it, and no line was added; or none said it, and it is the new line.
abbrev pub Adds : List Line → Line → List Line → ℕ → Type 0
Adds old line new step =
    IsFirst (judgments_of old) line.says (Some step) × (new ≡ old)
    ⊎ IsFirst (judgments_of old) line.says None × (step ≡ length old) × (new ≡ old ++ line ∷ [])
