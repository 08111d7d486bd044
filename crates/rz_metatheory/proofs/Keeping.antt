-- What a row keeps, read off its text: from premises that are good follows a conclusion that is.
use Rattle.std.proofs.Common.{List, [], ◌∷◌}
use Rattle.rz_rules.specs.declared.judgments.JudgmentKind.{JudgmentKind}
use Rattle.rz_rules.specs.declared.judgments.JudgmentKind.TheVariants.{Holds}
use Rattle.rz_rules.specs.declared.symbols.Condition.{Condition}
use Rattle.rz_rules.specs.declared.rows.Row.{Row}
use Rattle.rz_rules.specs.Cube.{binders_of}
use Rattle.rz_rules.specs.Derivation.{IsMet}
use Rattle.rz_rules.specs.Judgment.{Statement, IsStatement}
use Rattle.rz_rules.specs.Row.{Assignment, spelled}
use Rattle.rz_rules.specs.Table.{rule_of}
use Rattle.rz_rules.specs.Tope.{IsTopeOver}
use Rattle.rz_rules.specs.Tree.{Tree}
use Rattle.rz_metatheory.specs.Place.{place_of}
use Rattle.rz_metatheory.specs.Good.{IsGood, IsGoodContext, IsGoodStatement}

-- what each line says of its own scope: the tope that holds is over the context
abbrev pub IsToldOver : JudgmentKind → Tree → List Tree → Type 0
IsToldOver Holds context (tope ∷ []) = IsTopeOver (binders_of context) tope
IsToldOver kind context parts = Unit {0}

-- where all judgments but the last are good, so is the last
abbrev pub Keeps : List Statement → Type 0
Keeps [] = Unit {0}
Keeps (says ∷ []) = IsStatement says → IsToldOver says.kind says.context says.parts → IsGoodStatement says
Keeps (says ∷ more ∷ rest) = IsGoodStatement says → Keeps (more ∷ rest)

-- the conditions, one after the other
abbrev pub AreMet : Assignment → List Condition → Type 0
AreMet letters [] = Unit {0}
AreMet letters (condition ∷ conditions) = IsMet letters condition × AreMet letters conditions

-- a row leads from good judgments to a good one
abbrev pub RowKeeps : Row → Type 0
RowKeeps row = (letters : Assignment) → AreMet letters (rule_of row).conditions → Keeps (spelled (rule_of row).text letters).statements

-- all judgments are good
abbrev pub EachGood : List Statement → Type 0
EachGood [] = Unit {0}
EachGood (says ∷ rest) = IsGoodStatement says × EachGood rest

-- the first term of the last judgment is good in a good context
abbrev pub IsFirstGood : Tree → List Tree → Type 0
IsFirstGood context [] = ⊥
IsFirstGood context (term ∷ parts) = IsGood (place_of context) term

abbrev pub IsLastGood : List Statement → Type 0
IsLastGood [] = ⊥
IsLastGood (says ∷ []) = IsGoodContext says.context × IsFirstGood says.context says.parts
IsLastGood (says ∷ more ∷ rest) = IsLastGood (more ∷ rest)

-- a typing row leads back from a good term to good judgments
abbrev pub RowReturns : Row → Type 0
RowReturns row = (letters : Assignment) → IsLastGood (spelled (rule_of row).text letters).statements → EachGood (spelled (rule_of row).text letters).statements
