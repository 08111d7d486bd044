-- What the kernel has while it reads: the different trees once in a pool, and where each node of the file stands in it.
use Rattle.std.specs.Prelude.{ℕ, ◌<◌, List, [], ◌∷◌, ◌++◌, length, All, map}
use Rattle.rz_rules.specs.declared.nodes.Node.{Node}
use Rattle.rz_rules.specs.Tree.{tree_of, tree_over, trees_in}
use Rattle.rz_rules.specs.Judgment.{Statement}
use Rattle.rz_rules.specs.File.{Claim, FileState, statement_at}
use Rattle.rz_kernel_rows.specs.Line.{IsJudgmentOver, statements_in}
use Rattle.rz_context.specs.Knowledge.{IsKnown}
use Rattle.rz_kernel.specs.declared.state.KernelState.{KernelState}

-- names and numbers of steps as claims
abbrev pub claims_of : List Statement → List (List ℕ × ℕ) → List Claim
claims_of statements claims =
    map (λ claim. record { name = claim.0; says = statement_at statements claim.1 }) claims

-- what the items so far give, by what the kernel has of them
abbrev pub file_state : KernelState → FileState
file_state state =
    let nodes = state.pool.nodes in
    let statements = statements_in nodes state.said.items in
    record {
      trees = map (tree_of nodes) state.places.items;
      statements = statements;
      claims = claims_of statements state.claims.items;
    }

-- the same with the tree of a node over the pool behind the others
abbrev pub with_tree : KernelState → Node → FileState
with_tree state node =
    let known = file_state state in
    record known { trees = known.trees ++ tree_over (trees_in state.pool.nodes) node ∷ [] }

-- what the kernel has names nodes that are there, and what it knows of them is so
pub record IsKernelState (state : KernelState) : Type 0 where
  pub places : All (λ place. place < length state.pool.nodes) state.places.items
  pub said : All (IsJudgmentOver state.pool.nodes) state.said.items
  pub known : IsKnown state.pool.nodes state.known
