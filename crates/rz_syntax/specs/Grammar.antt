-- The grammar: what its rules give.
use Rattle.std.specs.Prelude.{◌≡◌, ℕ, ◌+◌, ◌<◌, ◌≤◌, List, [], ◌∷◌, ◌++◌, ◌⊎◌, length, take, map}
use Rattle.rz_lex.specs.declared.token.Tok.{Tok}
use Rattle.rz_lex.specs.declared.token.Token.{Token}
use Rattle.rz_syntax.specs.declared.action.Action.{Action}
use Rattle.rz_syntax.specs.declared.action.Step.{Step}
use Rattle.rz_syntax.specs.declared.action.Step.TheVariants.{Take, Act}
use Rattle.rz_syntax.specs.declared.grammar.Symbol.{Symbol}
use Rattle.rz_syntax.specs.declared.grammar.Symbol.TheVariants.{One, Sub, Do}
use Rattle.rz_syntax.specs.declared.grammar.Rule.{Rule}
use Rattle.rz_syntax.specs.declared.grammar.Rule.TheVariants as rule
use Rattle.rz_syntax.specs.declared.grammar.TheConstants as table

-- the alternatives of a rule, as the table has them
unfoldable pub alternatives : Rule → List (List Symbol)
alternatives rule.File = map (λ one. one.now) table.FILE.now
alternatives rule.Semicolons = map (λ one. one.now) table.SEMICOLONS.now
alternatives rule.Commands = map (λ one. one.now) table.COMMANDS.now
alternatives rule.Command = map (λ one. one.now) table.COMMAND.now
alternatives rule.Uses = map (λ one. one.now) table.USES.now
alternatives rule.Words = map (λ one. one.now) table.WORDS.now
alternatives rule.Title = map (λ one. one.now) table.TITLE.now
alternatives rule.Binders = map (λ one. one.now) table.BINDERS.now
alternatives rule.Binder = map (λ one. one.now) table.BINDER.now
alternatives rule.Tope = map (λ one. one.now) table.TOPE.now
alternatives rule.Patterns = map (λ one. one.now) table.PATTERNS.now
alternatives rule.Pattern = map (λ one. one.now) table.PATTERN.now
alternatives rule.Term = map (λ one. one.now) table.TERM.now
alternatives rule.Tail = map (λ one. one.now) table.TAIL.now
alternatives rule.Parameters = map (λ one. one.now) table.PARAMETERS.now
alternatives rule.Parameter = map (λ one. one.now) table.PARAMETER.now
alternatives rule.Rest = map (λ one. one.now) table.REST.now
alternatives rule.Faces = map (λ one. one.now) table.FACES.now
alternatives rule.MoreFaces = map (λ one. one.now) table.MORE_FACES.now
alternatives rule.Face = map (λ one. one.now) table.FACE.now
alternatives rule.Disjunction = map (λ one. one.now) table.DISJUNCTION.now
alternatives rule.MoreDisjunction = map (λ one. one.now) table.MORE_DISJUNCTION.now
alternatives rule.Conjunction = map (λ one. one.now) table.CONJUNCTION.now
alternatives rule.MoreConjunction = map (λ one. one.now) table.MORE_CONJUNCTION.now
alternatives rule.Relation = map (λ one. one.now) table.RELATION.now
alternatives rule.RightSide = map (λ one. one.now) table.RIGHT_SIDE.now
alternatives rule.Product = map (λ one. one.now) table.PRODUCT.now
alternatives rule.MoreProduct = map (λ one. one.now) table.MORE_PRODUCT.now
alternatives rule.Application = map (λ one. one.now) table.APPLICATION.now
alternatives rule.Head = map (λ one. one.now) table.HEAD.now
alternatives rule.Arguments = map (λ one. one.now) table.ARGUMENTS.now
alternatives rule.Atom = map (λ one. one.now) table.ATOM.now
alternatives rule.ReflEnd = map (λ one. one.now) table.REFL_END.now
alternatives rule.Closing = map (λ one. one.now) table.CLOSING.now
alternatives rule.Sequent = map (λ one. one.now) table.SEQUENT.now
alternatives rule.Entries = map (λ one. one.now) table.ENTRIES.now
alternatives rule.MoreEntries = map (λ one. one.now) table.MORE_ENTRIES.now
alternatives rule.Names = map (λ one. one.now) table.NAMES.now
alternatives rule.Hypotheses = map (λ one. one.now) table.HYPOTHESES.now
alternatives rule.MoreHypotheses = map (λ one. one.now) table.MORE_HYPOTHESES.now

-- what tokens mean, without their places
abbrev pub kinds_of : List Token → List Tok
kinds_of tokens = map (λ token. token.kind) tokens

-- the list is one of these
abbrev pub IsOneOf : List Symbol → List (List Symbol) → Type 0
IsOneOf symbols [] = ⊥
IsOneOf symbols (first ∷ others) = (symbols ≡ first) ⊎ IsOneOf symbols others

-- The symbols give these tokens, with these steps. A token gives itself, an action no token; a
-- rule gives what one of its alternatives gives; and what symbols give stands in a row.
pub data Phrase : List Symbol → List Tok → List Step → Type 0 where
  nothing : Phrase [] [] []
  token : {kind : Tok} {symbols : List Symbol} {kinds : List Tok} {steps : List Step}
      → Phrase symbols kinds steps → Phrase (One kind ∷ symbols) (kind ∷ kinds) (Take ∷ steps)
  action : {act : Action} {symbols : List Symbol} {kinds : List Tok} {steps : List Step}
      → Phrase symbols kinds steps → Phrase (Do act ∷ symbols) kinds (Act act ∷ steps)
  part : {rule : Rule} {symbols inner : List Symbol} {front rest : List Tok}
      {before after : List Step}
      → IsOneOf inner (alternatives rule) → Phrase inner front before → Phrase symbols rest after
      → Phrase (Sub rule ∷ symbols) (front ++ rest) (before ++ after)

-- The tokens of these kinds are what a rule gives, with these steps.
abbrev pub Gives : Rule → List Tok → List Step → Type 0
Gives rule kinds steps = Phrase (Sub rule ∷ []) kinds steps

-- Something that the rule gives begins with tokens of these kinds.
abbrev pub MayBegin : Rule → List Tok → Type 0
MayBegin rule kinds = (rest : List Tok) × (steps : List Step) × Gives rule (kinds ++ rest) steps

-- With the token of this number it is clear that the tokens are nothing that the rule gives:
-- those before it begin something that it gives, and those up to and including it begin nothing.
-- Where the number is that of the tokens, they begin something and are nothing.
pub record StopsAt (rule : Rule) (kinds : List Tok) (number : ℕ) : Type 0 where
  pub within : number ≤ length kinds
  pub before : MayBegin rule (take number kinds)
  pub here : number < length kinds → MayBegin rule (take (number + 1) kinds) → ⊥
  pub none : (steps : List Step) → Gives rule kinds steps → ⊥
