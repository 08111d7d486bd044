-- Derivations as tables: nodes by their places, steps by rows whose rule is a text, and steps that are weakened.
use Rattle.std.specs.Prelude.{◌≡◌, ℕ, suc, ◌+◌, ◌<◌, ◌≤◌, false, List, [], ◌∷◌, ◌++◌, Option, Some, None, length, map, All, slice_get}
use Rattle.std.specs.List.{slice_index_or}
use Rattle.std.specs.Borrow.{Bor}
use Rattle.rz_rules.specs.declared.kinds.Kind.{Kind}
use Rattle.rz_rules.specs.declared.kinds.Sort.{Sort}
use Rattle.rz_rules.specs.declared.rows.Row.{Row}
use Rattle.rz_rules.specs.declared.rows.Scheme.TheVariants as scheme
use Rattle.rz_rules.specs.Tree.{Tree, At, blank, sort_of, tree_at, tree_of, trees_of}
use Rattle.rz_rules.specs.Context.{Entry, bound_by, changed_entries, with_entries, with_entry}
use Rattle.rz_rules.specs.Judgment.{Statement}
use Rattle.rz_rules.specs.Row.{Assignment, spelled}
use Rattle.rz_rules.specs.Structural.{changed_statement, formed}
use Rattle.rz_rules.specs.Substitution.{none, raising}
use Rattle.rz_rules.specs.Table.{rule_of}
use Rattle.rz_rules.specs.File.{statement_at}
use Rattle.rz_rules.specs.Derivation.{IsMet, IsScoped}
use Rattle.rz_rule_text.specs.Letters.{has_name}
use Rattle.rz_log.specs.World.{IsSound, statements_in}
use Rattle.rz_lemmas.specs.Letters.{slots}
use Rattle.rz_lemmas.specs.Conclude.{conclusion_in, premises_in}
use Rattle.rz_tope_tests.specs.declared.bench.Bench.{Bench}

-- the trees of the nodes that were made, and what the steps say
abbrev pub trees : Bench → List Tree
trees bench = map (tree_of bench.w.pool.nodes) bench.ids.items

abbrev pub said : Bench → List Statement
said bench = map (statement_at (statements_in bench.w)) bench.steps.items

-- the world is sound, and the nodes and the steps are there
pub record IsBench (bench : Bench) : Type 0 where
  pub sound : IsSound bench.w
  pub ids : All (λ id. id < length bench.w.pool.nodes) bench.ids.items
  pub steps : All (λ step. step < length bench.w.log) bench.steps.items

-- the tree of a row of a table of nodes
abbrev pub node_tree : List Tree → Kind × ℕ × Bor (List ℕ) → Tree
node_tree trees row = At row.0 row.1 [] (trees_of (map (tree_at trees) row.2.now))

-- the trees of a table of nodes, behind those that are there
abbrev pub trees_after : List Tree → List (Kind × ℕ × Bor (List ℕ)) → List Tree
trees_after trees [] = trees
trees_after trees (row ∷ rows) = trees_after (trees ++ node_tree trees row ∷ []) rows

-- trees in the places of a row's letters
abbrev pub placed_trees : List (Option Sort) → List Tree → List (Option Tree)
placed_trees [] trees = []
placed_trees (None ∷ slots) trees = None ∷ placed_trees slots trees
placed_trees (Some sort ∷ slots) [] = None ∷ placed_trees slots []
placed_trees (Some sort ∷ slots) (tree ∷ trees) = Some tree ∷ placed_trees slots trees

abbrev pub known : Option Tree → Tree
known None = blank
known (Some tree) = tree

abbrev pub letters_over : Row → List Tree → Assignment
letters_over row trees =
    record { letters = λ k. known (slice_index_or (placed_trees (slots (rule_of row).text) trees) k None); name = [] }

-- these trees have the sorts of a row's letters
abbrev pub HaveSorts : List (Option Sort) → List Tree → Type 0
HaveSorts [] [] = Unit {0}
HaveSorts (None ∷ slots) trees = HaveSorts slots trees
HaveSorts (Some sort ∷ slots) (tree ∷ trees) = (sort_of tree ≡ sort) × HaveSorts slots trees
HaveSorts slots trees = ⊥

-- what a row's text says of trees, and of which it concludes
abbrev pub judgments_over : Row → List Tree → List Statement
judgments_over row trees = (spelled (rule_of row).text (letters_over row trees)).statements

-- by a row, from steps that are there, with trees that are there in the place of its letters
pub record IsConcluded (trees : List Tree) (said : List Statement) (row : Row) (letters premises : List ℕ) : Type 0 where
  pub text : (rule_of row).scheme ≡ scheme.Text
  pub unnamed : has_name (rule_of row).text ≡ false
  pub letters_there : All (λ place. place < length trees) letters
  pub premises_there : All (λ place. place < length said) premises
  pub sorts : HaveSorts (slots (rule_of row).text) (map (tree_at trees) letters)
  pub premises_are : map (statement_at said) premises ≡ premises_in (judgments_over row (map (tree_at trees) letters))
  pub conditions : All (IsMet (letters_over row (map (tree_at trees) letters))) (rule_of row).conditions
  pub scoped : (says : Statement) → says ≡ conclusion_in (judgments_over row (map (tree_at trees) letters))
      → IsScoped says.kind says.context says.parts

-- what a step says
abbrev pub concluded : List Tree → Row → List ℕ → Statement
concluded trees row letters = conclusion_in (judgments_over row (map (tree_at trees) letters))

-- each step of a table is concluded from those before it
abbrev pub AreConcluded : List Tree → List Statement → List (Row × Bor (List ℕ) × Bor (List ℕ)) → Type 0
AreConcluded trees said [] = Unit {0}
AreConcluded trees said (step ∷ steps) =
    IsConcluded trees said step.0 step.1.now step.2.now × AreConcluded trees (said ++ concluded trees step.0 step.1.now ∷ []) steps

-- what the steps of a table say, behind those that are there
abbrev pub said_after : List Tree → List Statement → List (Row × Bor (List ℕ) × Bor (List ℕ)) → List Statement
said_after trees said [] = said
said_after trees said (step ∷ steps) = said_after trees (said ++ concluded trees step.0 step.1.now ∷ []) steps

-- the kids of a table's nodes are there, at most seven of each
abbrev pub HaveKids : ℕ → List (Kind × ℕ × Bor (List ℕ)) → Type 0
HaveKids count [] = Unit {0}
HaveKids count (row ∷ rows) = All (λ place. place < count) row.2.now × (length row.2.now ≤ 7) × HaveKids (suc count) rows

-- what a step says can move to a context with one entry more, which another step says to be formed
pub record CanMove (said : List Statement) (step formed_at depth : ℕ) : Type 0 where
  pub premise : Statement
  pub outer : Tree
  pub entry : Entry
  pub inner : List Entry
  pub count : length inner ≡ depth
  pub says : slice_get said step ≡ Some premise
  pub context : premise.context ≡ with_entries outer inner
  pub formed_is : slice_get said formed_at ≡ Some (formed (with_entries (with_entry outer entry) (changed_entries (raising none (bound_by entry)) inner)))

-- what is said there
abbrev pub moved : (said : List Statement) (step formed_at depth : ℕ) → CanMove said step formed_at depth → Statement
moved said step formed_at depth can =
    changed_statement (raising none (bound_by can.entry)) (with_entry can.outer can.entry) can.inner can.premise

-- each row of a table of moves can be made
abbrev pub CanAllMove : List Statement → List (ℕ × ℕ × ℕ) → Type 0
CanAllMove said rows = All (λ row. CanMove said row.0 row.1 row.2) rows

-- tables that make steps, and claims of those
pub record IsTrial (nodes : List (Kind × ℕ × Bor (List ℕ))) (steps : List (Row × Bor (List ℕ) × Bor (List ℕ)))
    (moves : List (ℕ × ℕ × ℕ)) (claims : List (Bor (List ℕ) × ℕ)) : Type 0 where
  pub kids : HaveKids 0 nodes
  pub concluded : AreConcluded (trees_after [] nodes) [] steps
  pub movable : CanAllMove (said_after (trees_after [] nodes) [] steps) moves
  pub claimed : All (λ claim. claim.1 < length steps + length moves) claims
