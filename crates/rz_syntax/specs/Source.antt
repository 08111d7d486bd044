-- What the tokens of a text are: the commands of a file, a sequent, or a fault with its place.
use Rattle.std.specs.Prelude.{◌≡◌, ℕ, Bool, true, false, List, [], ◌∷◌, Result, Err}
use Rattle.rz_lex.specs.declared.token.Tok.{Tok}
use Rattle.rz_lex.specs.declared.token.Tok.TheVariants.{LangCommand}
use Rattle.rz_lex.specs.declared.token.Token.{Token}
use Rattle.rz_syntax.specs.declared.action.Step.{Step}
use Rattle.rz_syntax.specs.declared.fault.ParseFault.{ParseFault}
use Rattle.rz_syntax.specs.declared.fault.ParseFault.TheVariants.{NoLang, TooNested, Syntax, OutOfMemory}
use Rattle.rz_syntax.specs.declared.forms.Commands.{Commands}
use Rattle.rz_syntax.specs.declared.forms.RawSequent.{RawSequent}
use Rattle.rz_syntax.specs.declared.grammar.Rule.TheVariants as rule
use Rattle.rz_syntax.specs.Grammar.{Gives, StopsAt, kinds_of}
use Rattle.rz_syntax.specs.Levels.{IsShallow, IsTooNestedAt}
use Rattle.rz_syntax.specs.Building.{commands_by, sequent_by}

-- The tokens of a text are a file of the grammar, and these are its commands.
pub record IsFile (text : List ℕ) (tokens : List Token) (commands : Commands) : Type 0 where
  pub steps : List Step
  pub gives : Gives rule.File (kinds_of tokens) steps
  pub are : commands ≡ commands_by text tokens steps

-- whether the first token begins a file
abbrev pub begins_file : List Tok → Bool
begins_file [] = false
begins_file (LangCommand ∷ kinds) = true
begins_file (_ ∷ kinds) = false

-- What a fault says of tokens. Of NoLang, TooNested and Syntax the first is told that there is.
abbrev pub IsRefusal : List Tok → ParseFault → Type 0
IsRefusal kinds NoLang = begins_file kinds ≡ false
IsRefusal kinds (TooNested token) = (begins_file kinds ≡ true) × IsTooNestedAt kinds token
IsRefusal kinds (Syntax token) =
    (begins_file kinds ≡ true) × IsShallow kinds × StopsAt rule.File kinds token
IsRefusal kinds OutOfMemory = ⊥

-- the same, or memory ran out
abbrev pub IsFaultOf : List Tok → ParseFault → Type 0
IsFaultOf kinds OutOfMemory = Unit {0}
IsFaultOf kinds fault = IsRefusal kinds fault

-- The answer is this one, unless memory ran out.
abbrev pub UnlessMemory : {T : Type 0} → Result T ParseFault → Result T ParseFault → Type 0
UnlessMemory (Err OutOfMemory) wanted = Unit {0}
UnlessMemory answer wanted = answer ≡ wanted

-- The tokens of a text are a sequent of the grammar, and this is what it says.
pub record IsSequent (text : List ℕ) (tokens : List Token) (sequent : RawSequent) : Type 0 where
  pub steps : List Step
  pub gives : Gives rule.Sequent (kinds_of tokens) steps
  pub is : sequent ≡ sequent_by text tokens steps

-- What a fault says of tokens that are read as a sequent. Of TooNested and Syntax the first is told
-- that there is.
abbrev pub IsSequentRefusal : List Tok → ParseFault → Type 0
IsSequentRefusal kinds NoLang = ⊥
IsSequentRefusal kinds (TooNested token) = IsTooNestedAt kinds token
IsSequentRefusal kinds (Syntax token) = IsShallow kinds × StopsAt rule.Sequent kinds token
IsSequentRefusal kinds OutOfMemory = ⊥

-- the same, or memory ran out
abbrev pub IsSequentFaultOf : List Tok → ParseFault → Type 0
IsSequentFaultOf kinds OutOfMemory = Unit {0}
IsSequentFaultOf kinds fault = IsSequentRefusal kinds fault
