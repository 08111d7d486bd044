-- The leaves of cubes over the nodes of a pool.
use Rattle.std.specs.Prelude.{◌≡◌, ℕ, ◌+◌, ◌*◌, ◌<◌, List, [], ◌∷◌, length, All}
use Rattle.rz_rules.specs.declared.nodes.Node.{Node}
use Rattle.rz_rules.specs.Tree.{tree_of}
use Rattle.rz_rules.specs.Cube.{leaves}

-- the leaves of some cubes
abbrev pub leaves_of : List Node → List ℕ → ℕ
leaves_of ns [] = 0
leaves_of ns (id ∷ ids) = leaves (tree_of ns id) + leaves_of ns ids

-- what a step of a count of leaves keeps and lessens, where these cubes wait before it and after it
pub record IsStep (ns : List Node) (before : List ℕ) (counted : ℕ) (after : List ℕ) (count : ℕ) : Type 0 where
  pub low : All (λ id. id < length ns) after
  pub all : count + leaves_of ns after ≡ counted + leaves_of ns before
  pub less : 2 * leaves_of ns after + length before < 2 * leaves_of ns before + length after
