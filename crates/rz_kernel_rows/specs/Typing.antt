-- What the typing row of a term's former says, over the nodes of a pool.
use Rattle.std.specs.Prelude.{◌≡◌, ℕ, ◌↔◌, List, [], ◌∷◌, ◌++◌, map, All}
use Rattle.rz_rules.specs.declared.nodes.Node.{Node}
use Rattle.rz_rules.specs.declared.judgments.Judgment.{Judgment}
use Rattle.rz_rules.specs.declared.kinds.Sort.TheVariants.{Term}
use Rattle.rz_rules.specs.Tree.{Tree, tree_of, trees_in}
use Rattle.rz_rules.specs.Judgment.{Statement, statement}
use Rattle.rz_rules.specs.Structural.{IsTyped, has}
use Rattle.rz_kernel_rows.specs.declared.formers.Typing.{Typing}
use Rattle.rz_kernel_rows.specs.Context.{IsAt}
use Rattle.rz_kernel_rows.specs.Line.{IsJudgmentOver}

-- these are the premises of the typing row of a term's former, and then that the term has its type
pub record AreTyping (old new : List Node) (context term : ℕ) (said : List Judgment) : Type 0 where
  pub over : All (IsJudgmentOver new) said
  pub typed : (type : Tree) (above : List Statement) → IsTyped (tree_of old context) (tree_of old term) type above
      ↔ (above ++ has (tree_of old context) (tree_of old term) type ∷ [] ≡ map (statement (trees_in new)) said)

abbrev pub HasNoTyping : List Node → ℕ → ℕ → Type 0
HasNoTyping nodes context term =
    (type : Tree) (above : List Statement) → IsTyped (tree_of nodes context) (tree_of nodes term) type above → ⊥

-- the type that the typing row of the term's former gives it
abbrev pub HasFormerType : Tree → Tree → Tree → Type 0
HasFormerType context term type = (above : List Statement) × IsTyped context term type above

-- what the typing row of the term's former says of the term: these premises, and this type
pub record IsTypingOf (old new : List Node) (context term : ℕ) (typing : Typing) : Type 0 where
  pub over : All (IsJudgmentOver new) typing.above.items
  pub type_at : IsAt new Term typing.of
  pub typed : (type : Tree) (above : List Statement) → IsTyped (tree_of old context) (tree_of old term) type above
      ↔ ((above ≡ map (statement (trees_in new)) typing.above.items) × (type ≡ tree_of new typing.of))
