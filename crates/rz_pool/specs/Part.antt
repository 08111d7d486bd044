-- The parts of a tree: itself, its kids, their kids, and so on.
use Rattle.std.specs.Prelude.{ℕ, List, Contains}
use Rattle.rz_rules.specs.declared.kinds.Kind.{Kind}
use Rattle.rz_rules.specs.Tree.{Tree, At, trees_of}

pub data IsPart : Tree → Tree → Type 0 where
  Itself : {whole : Tree} → IsPart whole whole
  Kid : {whole part : Tree} {kind : Kind} {number : ℕ} {name : List ℕ} (kids : List Tree)
      → IsPart whole (At kind number name (trees_of kids)) → Contains kids part → IsPart whole part
