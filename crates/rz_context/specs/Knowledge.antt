-- What is known of points and topes over the contexts of a pool.
use Rattle.std.specs.Prelude.{◌≡◌, ℕ, ◌<◌, ◌↔◌, ◌⊎◌, Bool, true, IsTrue, List, length, All, Contains, Option, Some, slice_get}
use Rattle.std.specs.HashMap.{get}
use Rattle.rz_rules.specs.declared.nodes.Node.{Node}
use Rattle.rz_rules.specs.Tree.{tree_of}
use Rattle.rz_rules.specs.Cube.{Binders, binders_of}
use Rattle.rz_rules.specs.Tope.{cube_of, IsTopeOver}
use Rattle.rz_pool.specs.Copy.{AreSettled}
use Rattle.rz_context.specs.contracts.knowledge.ViewPartialEq.TheImpl.{eq-value}
use Rattle.rz_context.specs.declared.knowledge.View.{View}
use Rattle.rz_context.specs.declared.knowledge.Cached.{Cached}
use Rattle.rz_context.specs.declared.knowledge.Knowledge.{Knowledge}
use Rattle.rz_pool.specs.Cubes.{IsCubeId}
use Rattle.rz_context.specs.Summary.{AreSummaries}

abbrev pub view_of : ℕ → ℕ → View
view_of context node = record { context = context; node = node }

-- what a node is over some binders: the cube of a point, where it has one, and whether it is a tope over them
pub record IsCachedOf (nodes : List Node) (binders : Binders) (id : ℕ) (cached : Cached) : Type 0 where
  pub live : id < length nodes
  pub point : IsCubeId nodes (cube_of binders (tree_of nodes id)) cached.cube
  pub tope : IsTrue cached.is_over ↔ IsTopeOver binders (tree_of nodes id)

-- what is known of a view is what its node is over its context
pub record IsViewed (nodes : List Node) (view : View) (cached : Cached) : Type 0 where
  pub there : view.context < length nodes
  pub is : IsCachedOf nodes (binders_of (tree_of nodes view.context)) view.node cached

abbrev pub cached_in : Knowledge → View → Option Cached
cached_in known = get eq-value.it known.cached

-- something is known of a node over a context
abbrev pub Caches : Knowledge → ℕ → ℕ → Type 0
Caches known context id = (cached : Cached) × (cached_in known (view_of context id) ≡ Some cached)

-- all kids of a node are cached
abbrev pub CachesKids : List Node → Knowledge → ℕ → ℕ → Type 0
CachesKids nodes known context id = (node : Node) → slice_get nodes id ≡ Some node → All (Caches known context) node.kids

-- all that is cached is so
pub record IsKnown (nodes : List Node) (known : Knowledge) : Type 0 where
  pub summaries : AreSummaries nodes known.summaries.summaries.items
  pub views : (view : View) (cached : Cached) → cached_in known view ≡ Some cached → IsViewed nodes view cached

-- a context has a summary
abbrev pub IsCovered : Knowledge → ℕ → Type 0
IsCovered known context = context < length known.summaries.summaries.items

-- some ids are still to be cached, each after its kids
pub record IsCaching (nodes : List Node) (id : ℕ) (IsCached : ℕ → Type 0) (ids : List ℕ) : Type 0 where
  pub top : Contains ids id ⊎ IsCached id
  pub live : All (λ part. part < length nodes) ids
  pub settled : AreSettled nodes ids IsCached

-- ids wait that waited before, and those of a list of which it isn't cached
pub record IsAdded (before after : ℕ → Bool) (IsCached : ℕ → Type 0) (ids : List ℕ) : Type 0 where
  pub kept : (id : ℕ) → before id ≡ true → after id ≡ true
  pub only : (id : ℕ) → after id ≡ true → (before id ≡ true) ⊎ Contains ids id
  pub all : All (λ id. (after id ≡ true) ⊎ IsCached id) ids
