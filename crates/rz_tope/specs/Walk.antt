-- A walk through a context from its innermost entry.
use Rattle.std.specs.Prelude.{◌≡◌, ℕ, ◌<◌, ◌≤◌, List, ◌++◌, length, map, drop}
use Rattle.rz_rules.specs.declared.coordinates.Coord.{Coord}
use Rattle.rz_rules.specs.declared.nodes.Node.{Node}
use Rattle.rz_rules.specs.Tree.{tree_of}
use Rattle.rz_rules.specs.Cube.{cubes_of}
use Rattle.rz_rules.specs.Validity.{compared_in}
use Rattle.rz_tope.specs.declared.occurrences.Walk.{Walk}
use Rattle.rz_tope.specs.Occurrence.{occurrences, raised_by}

-- what occurs in the context that is left, and then in the list, is the whole
pub record IsWalk (nodes : List Node) (entries : List ℕ) (whole : List Coord) (walk : Walk) : Type 0 where
  pub there : walk.at < length nodes
  pub within : walk.behind ≤ length entries
  pub cubes : map (tree_of nodes) (drop walk.behind entries) ≡ cubes_of (tree_of nodes walk.at)
  pub once : occurrences walk.list ≡ walk.list
  pub all : occurrences (map (raised_by walk.behind) (compared_in (tree_of nodes walk.at)) ++ walk.list) ≡ whole
