-- A line over the nodes of a pool.
use Rattle.std.specs.Prelude.{◌∷◌, [], Bool, List, All, map}
use Rattle.rz_rules.specs.declared.nodes.Node.{Node}
use Rattle.rz_rules.specs.declared.judgments.Judgment.{Judgment}
use Rattle.rz_rules.specs.declared.judgments.Line.{Line}
use Rattle.rz_rules.specs.declared.symbols.Letter.{Letter}
use Rattle.rz_rules.specs.declared.symbols.Condition.{Condition}
use Rattle.rz_rules.specs.declared.symbols.Condition.TheVariants.{FewLeaves, TopeOver, PointOf}
use Rattle.rz_rules.specs.Tree.{trees_in}
use Rattle.rz_rules.specs.Judgment.{Statement, statement}
use Rattle.std.specs.List.{list_all, list_any}
use Rattle.rz_rules.specs.Row.{Assignment, IsInstance}
use Rattle.rz_rules.specs.Table.{Rule}
use Rattle.rz_rules.specs.Text.{same_letter}
use Rattle.rz_rules.specs.Derivation.{IsMet, Step}
use Rattle.rz_rules.specs.File.{step_over}
pub use Rattle.rz_rule_text.specs.Spelling.{IsJudgmentOver}

-- the letters of a condition
abbrev pub letters_of : Condition → List Letter
letters_of (FewLeaves cube) = cube ∷ []
letters_of (TopeOver context tope) = context ∷ tope ∷ []
letters_of (PointOf context cube point) = context ∷ cube ∷ point ∷ []

-- a line says something of nodes that are there
abbrev pub IsLineOver : List Node → Line → Type 0
IsLineOver nodes line = IsJudgmentOver nodes line.says

abbrev pub said : List Line → List Judgment
said lines = map (λ line. line.says) lines

-- judgments, and what lines say, read as trees
abbrev pub statements_in : List Node → List Judgment → List Statement
statements_in nodes judgments = map (statement (trees_in nodes)) judgments

abbrev pub statements_of : List Node → List Line → List Statement
statements_of nodes lines = statements_in nodes (said lines)

abbrev pub step_of : List Node → Line → Step
step_of nodes line = step_over (trees_in nodes) line

-- for some trees in the place of its letters, which meet its conditions, the rule's text spells these judgments
abbrev pub IsInstanceOf : Rule → List Statement → Type 0
IsInstanceOf rule statements = (assignment : Assignment) × IsInstance rule.text assignment statements × All (IsMet assignment) rule.conditions

-- the letters of a condition are among those of a text
abbrev pub names_letters : List Letter → Condition → Bool
names_letters letters condition = list_all (λ letter. list_any (same_letter letter) letters) (letters_of condition)
