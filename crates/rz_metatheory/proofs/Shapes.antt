-- Functions on a shape at a point.
use Rattle.std.proofs.Common.{List}
use Rattle.rz_rules.specs.declared.kinds.Space.TheVariants.{Points}
use Rattle.rz_rules.specs.declared.kinds.Kind.TheVariants.{EmptyContext, CubeEntry, TopeEntry, TermEntry, ExtensionApplication}
use Rattle.rz_rules.specs.Tree.{Tree, Trees, At, Nil, And}
use Rattle.rz_rules.specs.Cube.{cubes_of, binders_of}
use Rattle.rz_rules.specs.Context.{OfCube, with_entry}
use Rattle.rz_rules.specs.Structural.{has}
use Rattle.rz_rules.specs.Substitution.{none, put}
use Rattle.rz_rules.specs.Tope.{IsPointOf, IsTopeOver}
use Rattle.rz_metatheory.specs.Derivation.{Derives}
use Rattle.rz_metatheory.specs.Scope.{kid, IsNodeOver, scope_of, IsWellScopedContext, IsScopedStatement}
use Rattle.rz_metatheory.specs.Place.{place_of}
use Rattle.rz_metatheory.proofs.Derived.{derived_good}
use Rattle.rz_metatheory.proofs.Moves.{put_over}
use Rattle.rz_metatheory.proofs.Scoping.{statement_scoped}
use Rattle.rz_metatheory.proofs.Values.{AreCubes, AreCubes-front, cube_of_is}

-- the cubes of a well scoped context are cubes
scoped_cubes : (context : Tree) → IsWellScopedContext context → AreCubes (cubes_of context)
scoped_cubes (At EmptyContext number name Nil) h = λ index cube e. absurd cc
scoped_cubes (At CubeEntry number name (And context (And cube Nil))) h = AreCubes-front cube (cubes_of context) h.1.tree (scoped_cubes context h.0)
scoped_cubes (At TopeEntry number name (And context (And tope Nil))) h = scoped_cubes context h.0
scoped_cubes (At TermEntry number name (And context (And type Nil))) h = scoped_cubes context h.0
scoped_cubes other h = absurd h

-- a point put into a tope over its cube
pub point_put : (context cube point tope : Tree) → IsWellScopedContext context → IsPointOf (binders_of context) cube point
    → IsTopeOver (binders_of (with_entry context (OfCube cube))) tope → IsTopeOver (binders_of context) (put Points none point tope)
point_put context cube point tope scoped there over =
    let cubes = scoped_cubes context scoped in
    put_over (place_of context) cube tope point cubes (cube_of_is (cubes_of context) cubes point cube there) there over

-- a typed function on a shape at a point
module _ (context type : Tree) (number : _) (name : List _) (kids : Trees)
    (derives : Derives (has context (At ExtensionApplication number name kids) type)) where
  typed : IsScopedStatement (has context (At ExtensionApplication number name kids) type)
  typed =
      let says = has context (At ExtensionApplication number name kids) type in
      statement_scoped says (derived_good says derives)

  node : IsNodeOver (scope_of context) ExtensionApplication number kids
  node = typed.1.0.0

  pub applied_point : IsPointOf (binders_of context) (kid kids 0) (kid kids 6)
  applied_point = node.1

  pub applied_shape : IsTopeOver (binders_of context) (put Points none (kid kids 6) (kid kids 1))
  applied_shape = point_put context (kid kids 0) (kid kids 6) (kid kids 1) typed.0 node.1 node.0.tope_is

  pub applied_face : IsTopeOver (binders_of context) (put Points none (kid kids 6) (kid kids 3))
  applied_face = point_put context (kid kids 0) (kid kids 6) (kid kids 3) typed.0 node.1 node.0.face_is
