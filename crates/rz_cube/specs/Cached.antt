-- What is known of points by their ids.
use Rattle.std.specs.Prelude.{◌≡◌, ℕ, ◌<◌, nat_eq, List, length, All, Option, Some, slice_get}
use Rattle.std.specs.HashMap.{get}
use Rattle.rz_rules.specs.declared.nodes.Node.{Node}
use Rattle.rz_rules.specs.Tree.{Tree, tree_of}
use Rattle.rz_rules.specs.Cube.{binders_of, cube_two}
use Rattle.rz_rules.specs.Tope.{cube_of}
use Rattle.rz_rules.specs.Coordinate.{coordinates}
use Rattle.rz_cube.specs.declared.points.Points.{Points}
use Rattle.rz_cube.specs.declared.points.CachedPoint.{CachedPoint}
use Rattle.rz_cube.specs.Point.{binders_at}
use Rattle.rz_pool.specs.Cubes.{IsCubeId}

-- what is known of an id
abbrev pub cached_of : Points → ℕ → Option CachedPoint
cached_of points id = get nat_eq points.table id

-- the interval is there
pub record IsPoints (nodes : List Node) (points : Points) : Type 0 where
  pub there : points.interval < length nodes
  pub two : tree_of nodes points.interval ≡ cube_two

-- this is so of a tree over the cubes with these ids: its cube as a point, where it has one, and its coordinates
pub record IsCached (nodes : List Node) (entries : List ℕ) (id : ℕ) (cached : CachedPoint) : Type 0 where
  pub live : id < length nodes
  pub cube : IsCubeId nodes (cube_of (binders_at nodes entries) (tree_of nodes id)) cached.cube
  pub list : cached.coordinates ≡ coordinates (binders_at nodes entries) (tree_of nodes id)

-- an id is cached
abbrev pub Caches : List Node → List ℕ → Points → ℕ → Type 0
Caches nodes entries points id = (cached : CachedPoint) × (cached_of points id ≡ Some cached) × IsCached nodes entries id cached

-- the kids of an id are cached
abbrev pub CachesKids : List Node → List ℕ → Points → ℕ → Type 0
CachesKids nodes entries points id = (node : Node) → slice_get nodes id ≡ Some node → All (Caches nodes entries points) node.kids

-- this is so of a point over a context
pub record IsCachedOver (nodes : List Node) (context point : Tree) (cached : CachedPoint) : Type 0 where
  pub cube : IsCubeId nodes (cube_of (binders_of context) point) cached.cube
  pub list : cached.coordinates ≡ coordinates (binders_of context) point

-- the point of an id is cached over a context
abbrev pub CachesOver : List Node → Tree → Tree → Points → ℕ → Type 0
CachesOver nodes context point points id = (cached : CachedPoint) × (cached_of points id ≡ Some cached) × IsCachedOver nodes context point cached
