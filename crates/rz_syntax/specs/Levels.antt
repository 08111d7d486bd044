-- How deep tokens are nested: the level of each token, from the tokens alone.
use Rattle.std.specs.Prelude.{◌≡◌, ◌≢◌, ℕ, ◌+◌, ◌<◌, List, [], ◌∷◌, ◌++◌, length, take}
use Rattle.rz_lex.specs.declared.token.Tok.{Tok}
use Rattle.rz_lex.specs.declared.token.Tok.TheVariants as token
use Rattle.rz_syntax.specs.declared.fault.ParseFault.{ParseFault}
use Rattle.rz_syntax.specs.declared.fault.ParseFault.TheVariants.{NoLang, TooNested, Syntax, OutOfMemory}
use Rattle.rz_syntax.specs.declared.levels.TheConstants.{TOO_DEEP}
use Rattle.rz_syntax.specs.declared.levels.Bend.{Bend}
use Rattle.rz_syntax.specs.declared.levels.Bend.TheVariants.{Restart, Open, Close, Rise, Stay}
use Rattle.rz_syntax.specs.declared.levels.Nesting.{Nesting}
use Rattle.rz_syntax.specs.Building.{top, below}

-- what a token does to the level
abbrev pub bend_of : Tok → Bend
bend_of token.LangCommand = Restart
bend_of token.DefCommand = Restart
bend_of token.DefineCommand = Restart
bend_of token.PostulateCommand = Restart
bend_of token.CheckCommand = Restart
bend_of token.ComputeCommand = Restart
bend_of token.ComputeWhnfCommand = Restart
bend_of token.ComputeNfCommand = Restart
bend_of token.SectionCommand = Restart
bend_of token.EndCommand = Restart
bend_of token.AssumeCommand = Restart
bend_of token.VariableCommand = Restart
bend_of token.VariablesCommand = Restart
bend_of token.SetOptionCommand = Restart
bend_of token.UnsetOptionCommand = Restart
bend_of token.OpenParen = Open
bend_of token.OpenBracket = Open
bend_of token.OpenBrace = Open
bend_of token.EqualAt = Open
bend_of token.ReflAt = Open
bend_of token.CloseParen = Close
bend_of token.CloseBracket = Close
bend_of token.CloseBrace = Close
bend_of token.Lambda = Rise
bend_of token.Arrow = Rise
bend_of token.Sigma = Rise
bend_of token.Or = Rise
bend_of token.And = Rise
bend_of _ = Stay

-- The level after a token, with the levels before the brackets that are open. A closing bracket
-- gives back the level before the last open one, of whatever kind; where none is open it changes
-- nothing.
abbrev pub bent : Bend → Nesting → Nesting
bent Restart nesting = record { level = 0; outer = [] }
bent Open nesting =
    record { level = nesting.level + 1; outer = nesting.outer ++ nesting.level ∷ [] }
bent Close nesting = record { level = top nesting.level nesting.outer; outer = below nesting.outer }
bent Rise nesting = record { level = nesting.level + 1; outer = nesting.outer }
bent Stay nesting = nesting

-- the same after each of some tokens
abbrev pub nested : Nesting → List Tok → Nesting
nested nesting [] = nesting
nested nesting (kind ∷ kinds) = nested (bent (bend_of kind) nesting) kinds

abbrev pub outermost : Nesting
outermost = record { level = 0; outer = [] }

-- the level of the last of these tokens, from the text's beginning
abbrev pub level_of : List Tok → ℕ
level_of kinds = (nested outermost kinds).level

-- The token of this number is the first that is nested too deep.
pub record IsTooNestedAt (kinds : List Tok) (number : ℕ) : Type 0 where
  pub within : number < length kinds
  pub here : level_of (take (number + 1) kinds) ≡ TOO_DEEP
  pub first : (before : ℕ) → before < number → level_of (take (before + 1) kinds) ≢ TOO_DEEP

-- No token is nested too deep.
abbrev pub IsShallow : List Tok → Type 0
IsShallow kinds =
    (number : ℕ) → number < length kinds → level_of (take (number + 1) kinds) ≢ TOO_DEEP

-- all levels that are kept are small
abbrev pub AreLow : List ℕ → Type 0
AreLow [] = Unit {0}
AreLow (level ∷ levels) = (level < TOO_DEEP) × AreLow levels

pub record IsLow (nesting : Nesting) : Type 0 where
  pub level : nesting.level < TOO_DEEP
  pub outer : AreLow nesting.outer

-- what a fault of the levels says of tokens
abbrev pub IsDeepFault : List Tok → ParseFault → Type 0
IsDeepFault kinds NoLang = ⊥
IsDeepFault kinds (TooNested token) = IsTooNestedAt kinds token
IsDeepFault kinds (Syntax token) = ⊥
IsDeepFault kinds OutOfMemory = Unit {0}
