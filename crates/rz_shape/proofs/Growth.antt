-- What stays as a pool grows.
use Rattle.std.proofs.Common.{◌≡◌, List, ap, arith}
use Rattle.rz_rules.specs.declared.nodes.Node.{Node}
use Rattle.rz_rules.specs.Tree.{Tree}
use Rattle.rz_pool.specs.Pool.{Grows}
use Rattle.rz_pool.proofs.Nodes.{length-Grows}
use Rattle.rz_cube.proofs.CachedPoints.{same_trees}
use Rattle.rz_shape.specs.declared.variables.Variables.{Variables}
use Rattle.rz_shape.specs.Answer.{AreThere, bindings_at}
use Rattle.rz_shape.specs.Reading.{Bindings}

-- what bound names stand for stays
pub bindings_at-Grows : (old new : List Node) (names : Variables) → Grows old new → AreThere old names → bindings_at new names ≡ bindings_at old names
bindings_at-Grows old new names grows there =
    let of : List Tree → Bindings = λ cubes. record { cubes = cubes; variables = names.variables.items } in
    ap of (same_trees old new grows names.cubes.items there)

-- and their cubes are there
pub AreThere-Grows : (old new : List Node) (names : Variables) → Grows old new → AreThere old names → AreThere new names
AreThere-Grows old new names grows there k d lt = omega (arith, there k d lt, length-Grows old new grows)
