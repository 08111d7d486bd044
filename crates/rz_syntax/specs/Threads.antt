-- The engine's view: the ways in which the tokens so far may go on.
use Rattle.std.specs.Prelude.{◌≡◌, ℕ, ◌+◌, ◌*◌, ◌<◌, Bool, true, false, List, [], ◌∷◌, ◌++◌, ◌⊎◌, Option, None, Some, length, map, if◌then◌else◌}
use denote.Enum.Bare.{sameb}
use Rattle.rz_lex.specs.declared.token.Tok.{Tok}
use Rattle.rz_lex.specs.contracts.token.Tok.{the_type}
use Rattle.rz_syntax.specs.declared.action.Action.{Action}
use Rattle.rz_syntax.specs.declared.action.Step.{Step}
use Rattle.rz_syntax.specs.declared.action.Step.TheVariants.{Take, Act}
use Rattle.rz_syntax.specs.declared.grammar.Symbol.{Symbol}
use Rattle.rz_syntax.specs.declared.grammar.Symbol.TheVariants.{One, Sub, Do}
use Rattle.rz_syntax.specs.declared.grammar.Rule.{Rule}
use Rattle.rz_syntax.specs.declared.grammar.Rule.TheVariants as rule
use Rattle.rz_syntax.specs.declared.engine.Thread.{Thread}
use Rattle.rz_syntax.specs.declared.engine.Engine.{Engine}
use Rattle.rz_syntax.specs.declared.fault.ParseFault.{ParseFault}
use Rattle.rz_syntax.specs.declared.fault.ParseFault.TheVariants.{NoLang, TooNested, Syntax, OutOfMemory}
use Rattle.rz_syntax.specs.Grammar.{IsOneOf, Gives, StopsAt, alternatives}
use Rattle.rz_syntax.specs.Lists.{list_at}

-- a list put in front of another, the last item first
abbrev pub onto : List Step → List Step → List Step
onto [] steps = steps
onto (step ∷ done) steps = onto done (step ∷ steps)

-- With these symbols expected and these steps done, the last one first, tokens of these kinds
-- are taken, and the steps in their order are then this script.
pub data Goes : List Symbol → List Step → List Tok → List Step → Type 0 where
  ends : {done : List Step} → Goes [] done [] (onto done [])
  takes : {kind : Tok} {symbols : List Symbol} {done : List Step} {kinds : List Tok}
      {script : List Step}
      → Goes symbols (Take ∷ done) kinds script
      → Goes (One kind ∷ symbols) done (kind ∷ kinds) script
  acts : {act : Action} {symbols : List Symbol} {done : List Step} {kinds : List Tok}
      {script : List Step}
      → Goes symbols (Act act ∷ done) kinds script → Goes (Do act ∷ symbols) done kinds script
  opens : {rule : Rule} {symbols : List Symbol} {done : List Step} {kinds : List Tok}
      {script : List Step} (inner : List Symbol)
      → IsOneOf inner (alternatives rule) → Goes (inner ++ symbols) done kinds script
      → Goes (Sub rule ∷ symbols) done kinds script

-- the symbols expected, and the steps done
abbrev pub Way : Type 0
Way = List Symbol × List Step

-- some way goes on so
abbrev pub Lives : List Way → List Tok → List Step → Type 0
Lives [] kinds script = ⊥
Lives (way ∷ ways) kinds script = Goes way.0 way.1 kinds script ⊎ Lives ways kinds script

-- what is left of the tokens before the one that stands ahead, and after it; at the end nothing is
abbrev pub from_here : Option Tok → List Tok → List Tok
from_here None rest = []
from_here (Some kind) rest = kind ∷ rest

abbrev pub from_next : Option Tok → List Tok → List Tok
from_next None rest = []
from_next (Some kind) rest = rest

-- Some way that is yet to be looked at goes on so from here, or some way that was looked at goes
-- on so from the next token.
abbrev pub Open : Option Tok → List Way → List Way → List Tok → List Step → Type 0
Open ahead pending live rest script =
    Lives pending (from_here ahead rest) script ⊎ Lives live (from_next ahead rest) script

-- Nothing that may follow is lost, and nothing comes in.
pub record Keeps (ahead : Option Tok) (pending live pending' live' : List Way) : Type 0 where
  pub forth : (rest : List Tok) (script : List Step) → Open ahead pending live rest script
      → Open ahead pending' live' rest script
  pub back : (rest : List Tok) (script : List Step) → Open ahead pending' live' rest script
      → Open ahead pending live rest script

-- whether a token is the one that stands ahead
abbrev pub is_ahead : Tok → Option Tok → Bool
is_ahead kind None = false
is_ahead kind (Some next) = sameb the_type next kind

-- whether the first token that symbols take may stand ahead
abbrev pub begins : List Symbol → Option Tok → Bool
begins [] ahead = true
begins (One kind ∷ symbols) ahead = is_ahead kind ahead
begins (Sub rule ∷ symbols) ahead = true
begins (Do act ∷ symbols) ahead = begins symbols ahead

-- the ways that the alternatives open which may begin so
abbrev pub opened : List (List Symbol) → Option Tok → Way → List Way
opened [] ahead way = []
opened (one ∷ others) ahead way =
    if begins one ahead then (one ++ way.0, way.1) ∷ opened others ahead way
    else opened others ahead way

-- how many ways a rule opens in turn before a token is taken, and in how many of them none is
abbrev pub opening : Rule → ℕ
opening rule.File = 2
opening rule.Semicolons = 2
opening rule.Commands = 16
opening rule.Command = 15
opening rule.Uses = 2
opening rule.Words = 2
opening rule.Title = 2
opening rule.Binders = 4
opening rule.Binder = 3
opening rule.Tope = 3
opening rule.Patterns = 6
opening rule.Pattern = 5
opening rule.Term = 49
opening rule.Tail = 3
opening rule.Parameters = 10
opening rule.Parameter = 9
opening rule.Rest = 38
opening rule.Faces = 3
opening rule.MoreFaces = 2
opening rule.Face = 38
opening rule.Disjunction = 37
opening rule.MoreDisjunction = 2
opening rule.Conjunction = 36
opening rule.MoreConjunction = 2
opening rule.Relation = 35
opening rule.RightSide = 5
opening rule.Product = 34
opening rule.MoreProduct = 2
opening rule.Application = 33
opening rule.Head = 31
opening rule.Arguments = 27
opening rule.Atom = 26
opening rule.ReflEnd = 3
opening rule.Closing = 3
opening rule.Sequent = 5
opening rule.Entries = 3
opening rule.MoreEntries = 2
opening rule.Names = 2
opening rule.Hypotheses = 50
opening rule.MoreHypotheses = 2

abbrev pub passing : Rule → ℕ
passing rule.File = 0
passing rule.Semicolons = 1
passing rule.Commands = 1
passing rule.Command = 0
passing rule.Uses = 1
passing rule.Words = 1
passing rule.Title = 1
passing rule.Binders = 1
passing rule.Binder = 0
passing rule.Tope = 1
passing rule.Patterns = 1
passing rule.Pattern = 0
passing rule.Term = 0
passing rule.Tail = 1
passing rule.Parameters = 1
passing rule.Parameter = 0
passing rule.Rest = 0
passing rule.Faces = 1
passing rule.MoreFaces = 1
passing rule.Face = 0
passing rule.Disjunction = 0
passing rule.MoreDisjunction = 1
passing rule.Conjunction = 0
passing rule.MoreConjunction = 1
passing rule.Relation = 0
passing rule.RightSide = 1
passing rule.Product = 0
passing rule.MoreProduct = 1
passing rule.Application = 0
passing rule.Head = 0
passing rule.Arguments = 1
passing rule.Atom = 0
passing rule.ReflEnd = 0
passing rule.Closing = 0
passing rule.Sequent = 0
passing rule.Entries = 1
passing rule.MoreEntries = 1
passing rule.Names = 0
passing rule.Hypotheses = 1
passing rule.MoreHypotheses = 1

-- at most so many ways are looked at, from these symbols on, before a token is taken
abbrev pub cost : List Symbol → ℕ
cost [] = 1
cost (One kind ∷ symbols) = 1
cost (Sub rule ∷ symbols) = opening rule + passing rule * cost symbols
cost (Do act ∷ symbols) = 1 + cost symbols

abbrev pub costs : List Way → ℕ
costs [] = 0
costs (way ∷ ways) = cost way.0 + costs ways

-- the way that a thread stands for
abbrev pub way_at : List (List Symbol) → List (List Step) → Thread → Way
way_at symbols steps thread = (list_at symbols thread.symbols, list_at steps thread.steps)

abbrev pub pending_ways : Engine → List Way
pending_ways engine = map (way_at engine.symbols engine.steps) engine.pending.items

abbrev pub live_ways : Engine → List Way
live_ways engine = map (way_at engine.symbols engine.steps) engine.live.items

-- the thread names lists that there are
pub record IsIn (symbols : List (List Symbol)) (steps : List (List Step)) (thread : Thread)
    : Type 0 where
  pub symbols_in : thread.symbols < length symbols
  pub steps_in : thread.steps < length steps

abbrev pub AreIn : List (List Symbol) → List (List Step) → List Thread → Type 0
AreIn symbols steps [] = Unit {0}
AreIn symbols steps (thread ∷ threads) = IsIn symbols steps thread × AreIn symbols steps threads

-- all threads name lists that there are
pub record IsSound (engine : Engine) : Type 0 where
  pub pending : AreIn engine.symbols engine.steps engine.pending.items
  pub live : AreIn engine.symbols engine.steps engine.live.items

-- nothing is expected any more
abbrev pub AreEnded : List Way → Type 0
AreEnded [] = Unit {0}
AreEnded (way ∷ ways) = (way.0 ≡ []) × AreEnded ways

-- The tokens so far begin what a rule gives exactly where some way goes on with the rest.
pub record Reaches (rule : Rule) (kinds : List Tok) (live : List Way) : Type 0 where
  pub forth : (rest : List Tok) (steps : List Step) → Gives rule (kinds ++ rest) steps
      → Lives live rest steps
  pub back : (rest : List Tok) (steps : List Step)
      → Lives live rest steps → Gives rule (kinds ++ rest) steps

-- what a fault says of tokens that are read by a rule
abbrev pub IsStopOf : Rule → List Tok → ParseFault → Type 0
IsStopOf rule kinds NoLang = ⊥
IsStopOf rule kinds (TooNested token) = ⊥
IsStopOf rule kinds (Syntax token) = StopsAt rule kinds token
IsStopOf rule kinds OutOfMemory = Unit {0}
