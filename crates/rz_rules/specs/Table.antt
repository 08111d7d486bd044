-- The row table: the rule of each row.
use Rattle.std.specs.Prelude.{◌≡◌, ℕ, List, Option, Some, None, find, refl}
use Rattle.std.specs.Str.{bytes_eq}
use Rattle.std.specs.Borrow.{Bor}
use Rattle.rz_rules.specs.declared.symbols.Symbol.{Symbol}
use Rattle.rz_rules.specs.declared.symbols.Condition.{Condition}
use Rattle.rz_rules.specs.declared.kinds.Kind.{Kind}
use Rattle.rz_rules.specs.declared.kinds.Kind.TheVariants as kind
use Rattle.rz_rules.specs.declared.rows.Scheme.{Scheme}
use Rattle.rz_rules.specs.declared.rows.Scheme.TheVariants as scheme
use Rattle.rz_rules.specs.declared.rows.Row.{Row}
use Rattle.rz_rules.specs.declared.rows.Row.TheVariants as row
use Rattle.rz_rules.specs.declared.rows.TheConstants as table
use Rattle.rz_rules.specs.declared.rows.contexts.TheConstants as contexts
use Rattle.rz_rules.specs.declared.rows.topes.TheConstants as topes
use Rattle.rz_rules.specs.declared.rows.typing.TheConstants as typing
use Rattle.rz_rules.specs.declared.rows.congruence.TheConstants as congruence
use Rattle.rz_rules.specs.declared.rows.computation.TheConstants as computation
use Rattle.rz_rules.specs.declared.rows.structural.TheConstants as structural

-- A rule: its word in a derivation file, how it leads to its conclusion, and where its text says that, its premises and
-- then its conclusion in prefix notation, and its conditions.
pub record Rule : Type 0 where
  pub word : List ℕ
  pub scheme : Scheme
  pub text : List Symbol
  pub conditions : List Condition

-- the code answers this rule
pub record IsRule (rule : Rule) (entry : Bor (List ℕ) × Bor (List Symbol) × Bor (List Condition)) : Type 0 where
  pub word : entry.0.now ≡ rule.word
  pub text : entry.1.now ≡ rule.text
  pub conditions : entry.2.now ≡ rule.conditions

-- an entry of the code's table as a rule of a scheme
abbrev pub rule_by : Scheme → record { now : List ℕ } × record { now : List Symbol } × record { now : List Condition } → Rule
rule_by scheme entry = record { word = entry.0.now; scheme = scheme; text = entry.1.now; conditions = entry.2.now }

abbrev pub rule : record { now : List ℕ } × record { now : List Symbol } × record { now : List Condition } → Rule
rule entry = rule_by scheme.Text entry

-- the rule of each row
abbrev pub rule_of : Row → Rule
rule_of row.ContextNil = rule contexts.CONTEXT_NIL_RULE
rule_of row.ContextCube = rule contexts.CONTEXT_CUBE_RULE
rule_of row.ContextTope = rule contexts.CONTEXT_TOPE_RULE
rule_of row.ContextTerm = rule contexts.CONTEXT_TERM_RULE
rule_of row.Top = rule topes.TOP_RULE
rule_of row.Bottom = rule topes.BOTTOM_RULE
rule_of row.And = rule topes.AND_RULE
rule_of row.AndLeft = rule topes.AND_LEFT_RULE
rule_of row.AndRight = rule topes.AND_RIGHT_RULE
rule_of row.OrLeft = rule topes.OR_LEFT_RULE
rule_of row.OrRight = rule topes.OR_RIGHT_RULE
rule_of row.OrElimination = rule topes.OR_ELIMINATION_RULE
rule_of row.EqualReflexive = rule topes.EQUAL_REFLEXIVE_RULE
rule_of row.EqualSymmetric = rule topes.EQUAL_SYMMETRIC_RULE
rule_of row.EqualTransitive = rule topes.EQUAL_TRANSITIVE_RULE
rule_of row.EqualFirst = rule topes.EQUAL_FIRST_RULE
rule_of row.EqualSecond = rule topes.EQUAL_SECOND_RULE
rule_of row.EqualEta = rule topes.EQUAL_ETA_RULE
rule_of row.EqualOne = rule topes.EQUAL_ONE_RULE
rule_of row.EqualPair = rule topes.EQUAL_PAIR_RULE
rule_of row.EqualLeft = rule topes.EQUAL_LEFT_RULE
rule_of row.EqualRight = rule topes.EQUAL_RIGHT_RULE
rule_of row.AtMostEqual = rule topes.AT_MOST_EQUAL_RULE
rule_of row.AtMostTransitive = rule topes.AT_MOST_TRANSITIVE_RULE
rule_of row.AtMostAntisymmetric = rule topes.AT_MOST_ANTISYMMETRIC_RULE
rule_of row.AtMostTotal = rule topes.AT_MOST_TOTAL_RULE
rule_of row.ZeroAtMost = rule topes.ZERO_AT_MOST_RULE
rule_of row.AtMostOne = rule topes.AT_MOST_ONE_RULE
rule_of row.ZeroIsNotOne = rule topes.ZERO_IS_NOT_ONE_RULE
rule_of row.Universe = rule typing.UNIVERSE_RULE
rule_of row.Constant = rule typing.CONSTANT_RULE
rule_of row.Postulate = rule typing.POSTULATE_RULE
rule_of row.Pi = rule typing.PI_RULE
rule_of row.Sigma = rule typing.SIGMA_RULE
rule_of row.Lambda = rule typing.LAMBDA_RULE
rule_of row.Application = rule typing.APPLICATION_RULE
rule_of row.Pair = rule typing.PAIR_RULE
rule_of row.First = rule typing.FIRST_RULE
rule_of row.Second = rule typing.SECOND_RULE
rule_of row.Identity = rule typing.IDENTITY_RULE
rule_of row.Reflexivity = rule typing.REFLEXIVITY_RULE
rule_of row.IdentityInduction = rule typing.IDENTITY_INDUCTION_RULE
rule_of row.UnitType = rule typing.UNIT_TYPE_RULE
rule_of row.Star = rule typing.STAR_RULE
rule_of row.Extension = rule typing.EXTENSION_RULE
rule_of row.ExtensionLambda = rule typing.EXTENSION_LAMBDA_RULE
rule_of row.ExtensionApplication = rule typing.EXTENSION_APPLICATION_RULE
rule_of row.RecOr = rule typing.REC_OR_RULE
rule_of row.RecBottom = rule typing.REC_BOTTOM_RULE
rule_of row.Conversion = rule typing.CONVERSION_RULE
rule_of row.SameReflexive = rule congruence.SAME_REFLEXIVE_RULE
rule_of row.SameSymmetric = rule congruence.SAME_SYMMETRIC_RULE
rule_of row.SameTransitive = rule congruence.SAME_TRANSITIVE_RULE
rule_of row.SameConversion = rule congruence.SAME_CONVERSION_RULE
rule_of row.PiCongruence = rule congruence.PI_CONGRUENCE_RULE
rule_of row.SigmaCongruence = rule congruence.SIGMA_CONGRUENCE_RULE
rule_of row.LambdaCongruence = rule congruence.LAMBDA_CONGRUENCE_RULE
rule_of row.ApplicationCongruence = rule congruence.APPLICATION_CONGRUENCE_RULE
rule_of row.PairCongruence = rule congruence.PAIR_CONGRUENCE_RULE
rule_of row.FirstCongruence = rule congruence.FIRST_CONGRUENCE_RULE
rule_of row.SecondCongruence = rule congruence.SECOND_CONGRUENCE_RULE
rule_of row.IdentityCongruence = rule congruence.IDENTITY_CONGRUENCE_RULE
rule_of row.ReflexivityCongruence = rule congruence.REFLEXIVITY_CONGRUENCE_RULE
rule_of row.IdentityInductionCongruence = rule congruence.IDENTITY_INDUCTION_CONGRUENCE_RULE
rule_of row.ExtensionCongruence = rule congruence.EXTENSION_CONGRUENCE_RULE
rule_of row.ExtensionLambdaCongruence = rule congruence.EXTENSION_LAMBDA_CONGRUENCE_RULE
rule_of row.ExtensionApplicationCongruence = rule congruence.EXTENSION_APPLICATION_CONGRUENCE_RULE
rule_of row.RecOrCongruence = rule congruence.REC_OR_CONGRUENCE_RULE
rule_of row.RecBottomCongruence = rule congruence.REC_BOTTOM_CONGRUENCE_RULE
rule_of row.Beta = rule computation.BETA_RULE
rule_of row.Eta = rule computation.ETA_RULE
rule_of row.FirstBeta = rule computation.FIRST_BETA_RULE
rule_of row.SecondBeta = rule computation.SECOND_BETA_RULE
rule_of row.PairEta = rule computation.PAIR_ETA_RULE
rule_of row.IdentityInductionBeta = rule computation.IDENTITY_INDUCTION_BETA_RULE
rule_of row.UnitEta = rule computation.UNIT_ETA_RULE
rule_of row.Delta = rule computation.DELTA_RULE
rule_of row.ExtensionBeta = rule computation.EXTENSION_BETA_RULE
rule_of row.ExtensionEta = rule computation.EXTENSION_ETA_RULE
rule_of row.Face = rule computation.FACE_RULE
rule_of row.RecOrLeft = rule computation.REC_OR_LEFT_RULE
rule_of row.RecOrRight = rule computation.REC_OR_RIGHT_RULE
rule_of row.RecOrEta = rule computation.REC_OR_ETA_RULE
rule_of row.RecBottomEta = rule computation.REC_BOTTOM_ETA_RULE
rule_of row.PointReplacement = rule computation.POINT_REPLACEMENT_RULE
rule_of row.Hypothesis = rule_by scheme.Hypothesis structural.HYPOTHESIS_RULE
rule_of row.Variable = rule_by scheme.Variable structural.VARIABLE_RULE
rule_of row.Weakening = rule_by scheme.Weakening structural.WEAKENING_RULE
rule_of row.TermCut = rule_by scheme.TermCut structural.TERM_CUT_RULE
rule_of row.CubeCut = rule_by scheme.CubeCut structural.CUBE_CUT_RULE
rule_of row.TopeCut = rule_by scheme.TopeCut structural.TOPE_CUT_RULE
rule_of row.ContextOf = rule_by scheme.ContextOf structural.CONTEXT_OF_RULE
rule_of row.TypeOf = rule structural.TYPE_OF_RULE
rule_of row.LeftSide = rule structural.LEFT_SIDE_RULE
rule_of row.RightSide = rule structural.RIGHT_SIDE_RULE
rule_of row.Inversion = rule_by scheme.Inversion structural.INVERSION_RULE
rule_of row.OwnType = rule_by scheme.OwnType structural.OWN_TYPE_RULE

-- the row that types the terms of a former; variables have none
abbrev pub typing_row : Kind → Option Row
typing_row kind.Universe = Some row.Universe
typing_row kind.Constant = Some row.Constant
typing_row kind.Postulate = Some row.Postulate
typing_row kind.Pi = Some row.Pi
typing_row kind.Sigma = Some row.Sigma
typing_row kind.Lambda = Some row.Lambda
typing_row kind.Application = Some row.Application
typing_row kind.Pair = Some row.Pair
typing_row kind.First = Some row.First
typing_row kind.Second = Some row.Second
typing_row kind.Identity = Some row.Identity
typing_row kind.Reflexivity = Some row.Reflexivity
typing_row kind.IdentityInduction = Some row.IdentityInduction
typing_row kind.UnitType = Some row.UnitType
typing_row kind.Star = Some row.Star
typing_row kind.Extension = Some row.Extension
typing_row kind.ExtensionLambda = Some row.ExtensionLambda
typing_row kind.ExtensionApplication = Some row.ExtensionApplication
typing_row kind.RecOr = Some row.RecOr
typing_row kind.RecBottom = Some row.RecBottom
typing_row other = None

-- the word of a row in a derivation file
abbrev pub word_of_row : Row → List ℕ
word_of_row row = (rule_of row).word

abbrev pub all_rows : List Row
all_rows = table.ROWS.now

-- no two rows have one word, and none is left out
pub row_words_are_distinct : (row : Row) → find (λ other. bytes_eq (word_of_row other) (word_of_row row)) all_rows ≡ Some row
row_words_are_distinct row.ContextNil = refl
row_words_are_distinct row = refl
