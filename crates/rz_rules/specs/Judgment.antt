-- Judgments: the table of their kinds, and what they say of trees.
use Rattle.std.specs.Prelude.{◌≡◌, ℕ, List, [], ◌∷◌, Some, find, map, refl}
use Rattle.std.specs.Str.{bytes_eq}
use Rattle.std.specs.Borrow.{Bor}
use Rattle.rz_rules.specs.declared.kinds.Sort.{Sort}
use Rattle.rz_rules.specs.declared.kinds.Sort.TheVariants as sort
use Rattle.rz_rules.specs.declared.judgments.JudgmentKind.{JudgmentKind}
use Rattle.rz_rules.specs.declared.judgments.JudgmentKind.TheVariants as kind
use Rattle.rz_rules.specs.declared.judgments.Judgment.{Judgment}
use Rattle.rz_rules.specs.declared.judgments.Judgment.TheVariants.{Formed, Holds, Has, Same}
use Rattle.rz_rules.specs.declared.judgments.TheConstants as table
use Rattle.rz_rules.specs.Tree.{Tree, IsTree, AreTrees, trees_of, tree_at}

-- the word of a judgment in a derivation file, and the sorts of its parts behind the context
pub record JudgmentForm : Type 0 where
  pub word : List ℕ
  pub parts : List Sort

-- the code answers this entry
pub record IsJudgmentForm (form : JudgmentForm) (entry : Bor (List ℕ) × Bor (List Sort)) : Type 0 where
  pub word : entry.0.now ≡ form.word
  pub parts : entry.1.now ≡ form.parts

-- an entry of the code's table
abbrev pub entry : record { now : List ℕ } × record { now : List Sort } → JudgmentForm
entry row = record { word = row.0.now; parts = row.1.now }

-- the table of judgments
abbrev pub judgment_form : JudgmentKind → JudgmentForm
judgment_form kind.Formed = entry table.FORMED
judgment_form kind.Holds = entry table.HOLDS
judgment_form kind.Has = entry table.HAS
judgment_form kind.Same = entry table.SAME

abbrev pub word_of_judgment_kind : JudgmentKind → List ℕ
word_of_judgment_kind kind = (judgment_form kind).word

abbrev pub all_judgment_kinds : List JudgmentKind
all_judgment_kinds = table.JUDGMENT_KINDS.now

-- no two kinds of judgments have one word, and none is left out
pub judgment_words_are_distinct : (kind : JudgmentKind)
    → find (λ other. bytes_eq (word_of_judgment_kind other) (word_of_judgment_kind kind)) all_judgment_kinds ≡ Some kind
judgment_words_are_distinct kind.Formed = refl
judgment_words_are_distinct kind = refl

-- the sorts of a judgment's context and parts
abbrev pub sorts_of : JudgmentKind → List Sort
sorts_of kind = sort.Context ∷ (judgment_form kind).parts

-- a judgment over trees: what is said, in which context, of which parts
pub record Statement : Type 0 where
  pub kind : JudgmentKind
  pub context : Tree
  pub parts : List Tree

-- a judgment's context and parts are trees of their sorts
pub record IsStatement (says : Statement) : Type 0 where
  pub context : IsTree sort.Context says.context
  pub parts : AreTrees (judgment_form says.kind).parts (trees_of says.parts)

abbrev pub kind_of : Judgment → JudgmentKind
kind_of (Formed c) = kind.Formed
kind_of (Holds c phi) = kind.Holds
kind_of (Has c a of) = kind.Has
kind_of (Same c a b of) = kind.Same

abbrev pub context_of : Judgment → ℕ
context_of (Formed c) = c
context_of (Holds c phi) = c
context_of (Has c a of) = c
context_of (Same c a b of) = c

abbrev pub parts_of : Judgment → List ℕ
parts_of (Formed c) = []
parts_of (Holds c phi) = phi ∷ []
parts_of (Has c a of) = a ∷ of ∷ []
parts_of (Same c a b of) = a ∷ b ∷ of ∷ []

-- all ids of a judgment, its context first
abbrev pub ids_of : Judgment → List ℕ
ids_of says = context_of says ∷ parts_of says

-- the judgment of a kind with this context and these parts
pub record IsJudgmentOf (kind : JudgmentKind) (context : ℕ) (parts : List ℕ) (says : Judgment) : Type 0 where
  pub kind_is : kind_of says ≡ kind
  pub context_is : context_of says ≡ context
  pub parts_are : parts_of says ≡ parts

-- what a judgment says where its ids stand for these trees
abbrev pub statement : List Tree → Judgment → Statement
statement trees says = record { kind = kind_of says; context = tree_at trees (context_of says); parts = map (tree_at trees) (parts_of says) }
