-- Whether two trees are one, as a test by which definitions choose.
use Rattle.std.specs.Prelude.{nat_eq, ◌&&◌, Bool, true, false}
use Rattle.std.specs.Str.{bytes_eq}
use Rattle.rz_rules.specs.Form.{word_of_kind}
use Rattle.rz_rules.specs.Tree.{Tree, Trees, At, Nil, And}

-- one kind, one number, one name, and the same kids; a kind is known by its word
abbrev mutual
  pub same_tree : Tree → Tree → Bool
  same_tree (At kind number name kids) (At kind' number' name' kids') =
      bytes_eq (word_of_kind kind) (word_of_kind kind') && nat_eq number number' && bytes_eq name name' && same_trees kids kids'

  pub same_trees : Trees → Trees → Bool
  same_trees Nil Nil = true
  same_trees (And first rest) (And first' rest') = same_tree first first' && same_trees rest rest'
  same_trees kids kids' = false
