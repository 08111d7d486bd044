-- When a line follows.
use Rattle.std.specs.Prelude.{◌≡◌, ℕ, ◌≤◌, List, [], ◌∷◌, ◌++◌, All, Some, map, slice_get}
use Rattle.rz_rules.specs.declared.judgments.JudgmentKind.{JudgmentKind}
use Rattle.rz_rules.specs.declared.judgments.JudgmentKind.TheVariants.{Holds}
use Rattle.rz_rules.specs.declared.symbols.Condition.{Condition}
use Rattle.rz_rules.specs.declared.symbols.Condition.TheVariants.{FewLeaves, TopeOver, PointOf}
use Rattle.rz_rules.specs.declared.rows.Row.{Row}
use Rattle.rz_rules.specs.declared.rows.Scheme.{Scheme}
use Rattle.rz_rules.specs.declared.rows.Scheme.TheVariants as scheme
use Rattle.rz_rules.specs.Tree.{Tree}
use Rattle.rz_rules.specs.Cube.{binders_of, leaves}
use Rattle.rz_rules.specs.Tope.{IsPointOf, IsTopeOver}
use Rattle.rz_rules.specs.Judgment.{Statement, IsStatement}
use Rattle.rz_rules.specs.Row.{Assignment, IsInstance}
use Rattle.rz_rules.specs.Table.{Rule, rule_of}
use Rattle.rz_rules.specs.Structural.{ConcludesBy}

-- a line over trees
pub record Step : Type 0 where
  pub row : Row
  pub number : ℕ
  pub says : Statement
  pub from : List ℕ

-- in a judgment that a tope holds, the tope is over the context
abbrev pub IsScoped : JudgmentKind → Tree → List Tree → Type 0
IsScoped Holds context parts = All (IsTopeOver (binders_of context)) parts
IsScoped kind context parts = Unit {0}

-- what a condition asks of the trees of the letters
abbrev pub IsMet : Assignment → Condition → Type 0
IsMet assignment (FewLeaves cube) = leaves (assignment.letters cube.number) ≤ 64
IsMet assignment (TopeOver context tope) =
    IsTopeOver (binders_of (assignment.letters context.number)) (assignment.letters tope.number)
IsMet assignment (PointOf context cube point) =
    IsPointOf (binders_of (assignment.letters context.number)) (assignment.letters cube.number) (assignment.letters point.number)

-- For some trees in the place of its letters, which meet the rule's conditions, the rule's text spells the premises and
-- then the conclusion.
pub record IsSpelled (rule : Rule) (premises : List Statement) (conclusion : Statement) : Type 0 where
  pub assignment : Assignment
  pub instance : IsInstance rule.text assignment (premises ++ conclusion ∷ [])
  pub conditions : All (IsMet assignment) rule.conditions

-- A rule leads from premises to a conclusion: by its text, which has no use for the line's number, or by its scheme.
abbrev pub AppliesBy : Scheme → Rule → ℕ → List Statement → Statement → Type 0
AppliesBy scheme.Text rule number premises conclusion = (number ≡ 0) × IsSpelled rule premises conclusion
AppliesBy scheme rule number premises conclusion = ConcludesBy scheme number premises conclusion

abbrev pub Applies : Rule → ℕ → List Statement → Statement → Type 0
Applies rule number premises conclusion = AppliesBy rule.scheme rule number premises conclusion

-- the line says something of trees, and follows by its row's rule from the earlier ones that it names
pub record Follows (earlier : List Statement) (step : Step) : Type 0 where
  pub trees : IsStatement step.says
  pub scoped : IsScoped step.says.kind step.says.context step.says.parts
  pub premises : List Statement
  pub from : map (slice_get earlier) step.from ≡ map (λ says. Some says) premises
  pub applies : Applies (rule_of step.row) step.number premises step.says
