-- What is answered of a form, by ids of a pool.
use Rattle.std.specs.Prelude.{◌≡◌, ℕ, ◌<◌, List, length, map, Ok, Err, All}
use Rattle.rz_rules.specs.declared.nodes.Node.{Node}
use Rattle.rz_rules.specs.Tree.{Tree, tree_of}
use Rattle.rz_shape.specs.declared.fault.ShapeFault.{ShapeFault}
use Rattle.rz_shape.specs.declared.fault.ShapeFault.TheVariants.{Refused, OutOfMemory}
use Rattle.rz_shape.specs.declared.variables.Variables.{Variables}
use Rattle.rz_shape.specs.Reading.{Reading, Bindings}

-- the id is that of the tree that is read
pub record IsRead (nodes : List Node) (reading : Reading Tree) (id : ℕ) : Type 0 where
  pub live : id < length nodes
  pub is : reading ≡ Ok (tree_of nodes id)

-- the fault is the refusal that is read, or memory ran out
abbrev pub IsFaultOf : {T : Type 0} → Reading T → ShapeFault → Type 0
IsFaultOf reading OutOfMemory = Unit {0}
IsFaultOf reading (Refused why at) = reading ≡ Err (Refused why at)

-- what the bound names stand for, over these nodes
abbrev pub bindings_at : List Node → Variables → Bindings
bindings_at nodes names = record { cubes = map (tree_of nodes) names.cubes.items; variables = names.variables.items }

-- the cubes are ids of nodes
abbrev pub AreThere : List Node → Variables → Type 0
AreThere nodes names = All (λ id. id < length nodes) names.cubes.items
