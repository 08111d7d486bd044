-- The structural rules: what a context gives, how judgments move from context to context, and what a term's former tells.
use Rattle.std.specs.Prelude.{◌≡◌, ℕ, List, [], ◌∷◌, ◌++◌, length, map, All, Some, slice_get, ◌⊎◌}
use Rattle.rz_rules.specs.declared.kinds.Kind.TheVariants.{Universe, TermVariable}
use Rattle.rz_rules.specs.declared.kinds.Space.TheVariants.{Points, Terms}
use Rattle.rz_rules.specs.declared.judgments.JudgmentKind.TheVariants as kind
use Rattle.rz_rules.specs.declared.rows.Row.{Row}
use Rattle.rz_rules.specs.declared.rows.Scheme.{Scheme}
use Rattle.rz_rules.specs.declared.rows.Scheme.TheVariants as scheme
use Rattle.rz_rules.specs.Tree.{Tree, At, Nil, kind_at}
use Rattle.rz_rules.specs.Tope.{equal_points}
use Rattle.rz_rules.specs.Substitution.{Changes, changed, none, only, total, raising, putting, weakened}
use Rattle.rz_rules.specs.Context.{Entry, OfCube, OfTope, OfType, with_entry, with_entries, bound_by, depth_of, changed_entries}
use Rattle.rz_rules.specs.Judgment.{Statement, IsStatement}
use Rattle.rz_rules.specs.Row.{Assignment, IsInstance}
use Rattle.rz_rules.specs.Table.{rule_of, typing_row}

-- the four judgments, and the trees that the rules name
abbrev pub formed : Tree → Statement
formed context = record { kind = kind.Formed; context = context; parts = [] }

abbrev pub holds : Tree → Tree → Statement
holds context tope = record { kind = kind.Holds; context = context; parts = tope ∷ [] }

abbrev pub has : Tree → Tree → Tree → Statement
has context term type = record { kind = kind.Has; context = context; parts = term ∷ type ∷ [] }

abbrev pub same : Tree → Tree → Tree → Tree → Statement
same context left right type = record { kind = kind.Same; context = context; parts = left ∷ right ∷ type ∷ [] }

abbrev pub term_variable : ℕ → Tree
term_variable index = At TermVariable index [] Nil

abbrev pub universe : Tree
universe = At Universe 0 [] Nil

-- ---- what a context gives

-- The tope of an entry holds, as it is read behind the entries further in, of which there are `number`.
pub record IsHypothesis (number : ℕ) (premises : List Statement) (conclusion : Statement) : Type 0 where
  pub outer : Tree
  pub tope : Tree
  pub inner : List Entry
  pub count : length inner ≡ number
  pub context : conclusion.context ≡ with_entries (with_entry outer (OfTope tope)) inner
  pub premises_are : premises ≡ formed conclusion.context ∷ []
  pub says : conclusion ≡ holds conclusion.context (weakened (depth_of inner) tope)

-- A variable has the type of its entry, as it is read behind that entry and those further in. Its index is the number of
-- term entries among the latter.
pub record IsVariable (context term type : Tree) : Type 0 where
  pub outer : Tree
  pub stated : Tree
  pub inner : List Entry
  pub context_is : context ≡ with_entries (with_entry outer (OfType stated)) inner
  pub term_is : term ≡ term_variable (depth_of inner Terms)
  pub type_is : type ≡ weakened (total (depth_of inner) (only Terms 1)) stated

abbrev pub TypesVariable : List Statement → Statement → Type 0
TypesVariable premises conclusion =
    (term : Tree) × (type : Tree) × IsVariable conclusion.context term type
    × (premises ≡ formed conclusion.context ∷ []) × (conclusion ≡ has conclusion.context term type)

-- ---- how judgments move

-- A change of contexts at a place: what stands outside of the place before and after, what becomes of the variables that
-- are bound there, and the judgment that allows it.
pub record Move : Type 0 where
  pub before : Tree
  pub after : Tree
  pub changes : Changes
  pub allowed : Statement

-- one entry more, where the whole new context is formed
abbrev pub weakening : Tree → Entry → Tree → Move
weakening outer entry context =
    record { before = outer; after = with_entry outer entry; changes = raising none (bound_by entry); allowed = formed context }

-- a term of its type in the place of a term entry
abbrev pub term_cut : Tree → Tree → Tree → Move
term_cut outer type value =
    record { before = with_entry outer (OfType type); after = outer; changes = putting Terms none value; allowed = has outer value type }

-- a point of its cube in the place of a cube entry; that the point equals itself says that it is one
abbrev pub cube_cut : Tree → Tree → Tree → Move
cube_cut outer cube point =
    record { before = with_entry outer (OfCube cube); after = outer; changes = putting Points none point; allowed = holds outer (equal_points cube point point) }

-- no tope entry, where the tope holds; no variable changes
abbrev pub tope_cut : Tree → Tree → Move
tope_cut outer tope =
    record { before = with_entry outer (OfTope tope); after = outer; changes = raising none none; allowed = holds outer tope }

-- a judgment that stood behind these entries: `outer` stands outside of them now, and variables change
abbrev pub changed_statement : Changes → Tree → List Entry → Statement → Statement
changed_statement changes outer inner premise = record {
  kind = premise.kind;
  context = with_entries outer (changed_entries changes inner);
  parts = map (changed changes (depth_of inner)) premise.parts;
}

-- A judgment moves: `number` entries stand behind the place, and change with all that the judgment says.
pub record IsMoved (move : Move) (number : ℕ) (premises : List Statement) (conclusion : Statement) : Type 0 where
  pub premise : Statement
  pub inner : List Entry
  pub count : length inner ≡ number
  pub premises_are : premises ≡ premise ∷ move.allowed ∷ []
  pub before : premise.context ≡ with_entries move.before inner
  pub says : conclusion ≡ changed_statement move.changes move.after inner premise

abbrev pub IsWeakening : ℕ → List Statement → Statement → Type 0
IsWeakening number premises conclusion =
    (outer : Tree) × (entry : Entry) × IsMoved (weakening outer entry conclusion.context) number premises conclusion

abbrev pub IsTermCut : ℕ → List Statement → Statement → Type 0
IsTermCut number premises conclusion =
    (outer : Tree) × (type : Tree) × (value : Tree) × IsMoved (term_cut outer type value) number premises conclusion

abbrev pub IsCubeCut : ℕ → List Statement → Statement → Type 0
IsCubeCut number premises conclusion =
    (outer : Tree) × (cube : Tree) × (point : Tree) × IsMoved (cube_cut outer cube point) number premises conclusion

abbrev pub IsTopeCut : ℕ → List Statement → Statement → Type 0
IsTopeCut number premises conclusion =
    (outer : Tree) × (tope : Tree) × IsMoved (tope_cut outer tope) number premises conclusion

-- ---- what a judgment tells of its context and of its term

-- The context of a judgment is formed.
abbrev pub IsContextOf : List Statement → Statement → Type 0
IsContextOf premises conclusion = (premise : Statement) × (premises ≡ premise ∷ []) × (conclusion ≡ formed premise.context)

-- the typing row of the term's former gives it this type, and has these premises; no index is too large in any of them
pub record IsTyped (context term type : Tree) (premises : List Statement) : Type 0 where
  pub row : Row
  pub former : typing_row (kind_at term) ≡ Some row
  pub assignment : Assignment
  pub instance : IsInstance (rule_of row).text assignment (premises ++ has context term type ∷ [])
  pub trees : All IsStatement (premises ++ has context term type ∷ [])

-- Premise `number`, counted from 0, of the typing row of a term's former.
pub record IsInversion (number : ℕ) (premises : List Statement) (conclusion : Statement) : Type 0 where
  pub context : Tree
  pub term : Tree
  pub stated : Tree
  pub type : Tree
  pub above : List Statement
  pub premises_are : premises ≡ has context term stated ∷ []
  pub typed : IsTyped context term type above
  pub says : slice_get above number ≡ Some conclusion

-- the type that the typing row of the term's former gives, or of a variable that of its entry
abbrev pub IsOwnType : Tree → Tree → Tree → Type 0
IsOwnType context term type = ((above : List Statement) × IsTyped context term type above) ⊎ IsVariable context term type

-- The type that a term is said to have equals its own.
pub record SameAsOwn (premises : List Statement) (conclusion : Statement) : Type 0 where
  pub context : Tree
  pub term : Tree
  pub stated : Tree
  pub type : Tree
  pub premises_are : premises ≡ has context term stated ∷ []
  pub own : IsOwnType context term type
  pub says : conclusion ≡ same context stated type universe

-- ---- the schemes

-- A rule with a scheme of its own leads from premises to a conclusion. Where it has no use for the line's number, that
-- is 0.
abbrev pub ConcludesBy : Scheme → ℕ → List Statement → Statement → Type 0
ConcludesBy scheme.Text number premises conclusion = ⊥
ConcludesBy scheme.Hypothesis number premises conclusion = IsHypothesis number premises conclusion
ConcludesBy scheme.Variable number premises conclusion = (number ≡ 0) × TypesVariable premises conclusion
ConcludesBy scheme.Weakening number premises conclusion = IsWeakening number premises conclusion
ConcludesBy scheme.TermCut number premises conclusion = IsTermCut number premises conclusion
ConcludesBy scheme.CubeCut number premises conclusion = IsCubeCut number premises conclusion
ConcludesBy scheme.TopeCut number premises conclusion = IsTopeCut number premises conclusion
ConcludesBy scheme.ContextOf number premises conclusion = (number ≡ 0) × IsContextOf premises conclusion
ConcludesBy scheme.Inversion number premises conclusion = IsInversion number premises conclusion
ConcludesBy scheme.OwnType number premises conclusion = (number ≡ 0) × SameAsOwn premises conclusion
