-- Questions that are asked of a pool, and their answers.
use Rattle.std.specs.Prelude.{◌≡◌, ℕ, ◌<◌, ◌^◌, List, length, Option, None, Some}
use Rattle.rz_rules.specs.declared.kinds.Space.TheVariants.{Points, Terms}
use Rattle.rz_rules.specs.declared.nodes.Node.{Node}
use Rattle.rz_rules.specs.Tree.{Tree, tree_of}
use Rattle.rz_rules.specs.Substitution.{Changes, IndicesBelow, changed, none, raising, putting}
use Rattle.rz_pool.specs.Counts.{depth_of}
use Rattle.rz_pool.specs.declared.questions.Question.{Question}
use Rattle.rz_pool.specs.declared.questions.VariableChange.{VariableChange}
use Rattle.rz_pool.specs.declared.questions.VariableChange.TheVariants.{Rise, PutPoint, PutTerm}

-- what becomes of each variable
abbrev pub changes_by : List Node → VariableChange → Changes
changes_by nodes (Rise from by) = raising (depth_of from) (depth_of by)
changes_by nodes (PutPoint at value) = putting Points (depth_of at) (tree_of nodes value)
changes_by nodes (PutTerm at value) = putting Terms (depth_of at) (tree_of nodes value)

-- what it names is in the pool
abbrev pub NamesNodes : List Node → VariableChange → Type 0
NamesNodes nodes (Rise from by) = Unit {0}
NamesNodes nodes (PutPoint at value) = value < length nodes
NamesNodes nodes (PutTerm at value) = value < length nodes

-- the tree that is asked for
abbrev pub asked_tree : List Node → Question → Tree
asked_tree nodes question =
    changed (changes_by nodes question.change) none (tree_of nodes question.id)

-- the id of a tree, or none where an index of the tree is too large
abbrev pub IsAnswerOf : List Node → Tree → Option ℕ → Type 0
IsAnswerOf nodes tree (Some id) = (id < length nodes) × (tree_of nodes id ≡ tree)
IsAnswerOf nodes tree None = ¬ (IndicesBelow (2 ^ 32) tree)

-- the question is one of this pool, and this is its answer
pub record IsRight (nodes : List Node) (question : Question) (answer : Option ℕ) : Type 0 where
  pub live : question.id < length nodes
  pub named : NamesNodes nodes question.change
  pub is : IsAnswerOf nodes (asked_tree nodes question) answer
