-- Judgments that move to a context with an entry more, and topes of a context.
use Rattle.std.specs.Prelude.{◌≡◌, ℕ, List, length, map}
use Rattle.rz_rules.specs.Tree.{Tree}
use Rattle.rz_rules.specs.Substitution.{Changes, Depth, changed, none, raising, weakened}
use Rattle.rz_rules.specs.Context.{Entry, OfTope, bound_by, changed_entries, depth_of, with_entry, with_entries}
use Rattle.rz_rules.specs.Judgment.{Statement}
use Rattle.rz_rules.specs.Structural.{changed_statement, formed, holds}
use Rattle.rz_log.specs.declared.world.World.{World}
use Rattle.rz_log.specs.World.{Says}

-- a judgment whose parts change at a depth, in another context
abbrev pub raised_judgment : Changes → Depth → Tree → Statement → Statement
raised_judgment changes depth context says = record { kind = says.kind; context = context; parts = map (changed changes depth) says.parts }

-- a step says something in a context, and another that this context with one entry more is formed
pub record CanWeaken (w : World) (step formed_at depth : ℕ) : Type 0 where
  pub premise : Statement
  pub outer : Tree
  pub entry : Entry
  pub inner : List Entry
  pub count : length inner ≡ depth
  pub says : Says w step premise
  pub context : premise.context ≡ with_entries outer inner
  pub formed_is : Says w formed_at (formed (with_entries (with_entry outer entry) (changed_entries (raising none (bound_by entry)) inner)))

-- the judgment there
abbrev pub weakening_of : (w : World) (step formed_at depth : ℕ) → CanWeaken w step formed_at depth → Statement
weakening_of w step formed_at depth can =
    changed_statement (raising none (bound_by can.entry)) (with_entry can.outer can.entry) can.inner can.premise

-- a step says that a context is formed which has a tope behind which so many entries stand
pub record HasTope (w : World) (formed_at number : ℕ) : Type 0 where
  pub outer : Tree
  pub tope : Tree
  pub inner : List Entry
  pub count : length inner ≡ number
  pub formed_is : Says w formed_at (formed (with_entries (with_entry outer (OfTope tope)) inner))

-- the tope holds in the whole context
abbrev pub hypothesis_of : (w : World) (formed_at number : ℕ) → HasTope w formed_at number → Statement
hypothesis_of w formed_at number has = holds (with_entries (with_entry has.outer (OfTope has.tope)) has.inner) (weakened (depth_of has.inner) has.tope)
