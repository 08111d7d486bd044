-- What a tree has that is no context with an entry.
use Rattle.std.proofs.Common.{◌≡◌, true, true≢false, [], refl}
use Rattle.rz_rules.specs.declared.kinds.Kind.TheVariants.{CubeEntry, TopeEntry, TermEntry}
use Rattle.rz_rules.specs.Tree.{Tree, At}
use Rattle.rz_rules.specs.Cube.{cubes_of}
use Rattle.rz_rules.specs.Validity.{are_true, compared_in}
use Rattle.rz_rules.specs.declared.coordinates.Coord.{Coord}
use Rattle.std.specs.Prelude.{ℕ}
use Rattle.rz_pool.specs.Entry.{IsNoEntry}

pub no_entry-cubes : (t : Tree) → IsNoEntry t → cubes_of t ≡ []
no_entry-cubes (At CubeEntry number name kids) none = absurd (true≢false none)
no_entry-cubes (At TopeEntry number name kids) none = absurd (true≢false none)
no_entry-cubes (At TermEntry number name kids) none = absurd (true≢false none)
no_entry-cubes other none = refl

pub no_entry-compared : (t : Tree) → IsNoEntry t → compared_in t ≡ []
no_entry-compared (At CubeEntry number name kids) none = absurd (true≢false none)
no_entry-compared (At TopeEntry number name kids) none = absurd (true≢false none)
no_entry-compared (At TermEntry number name kids) none = absurd (true≢false none)
no_entry-compared other none = refl

pub no_entry-true : (rank : Coord → ℕ) (t : Tree) → IsNoEntry t → are_true rank t ≡ true
no_entry-true rank (At CubeEntry number name kids) none = absurd (true≢false none)
no_entry-true rank (At TopeEntry number name kids) none = absurd (true≢false none)
no_entry-true rank (At TermEntry number name kids) none = absurd (true≢false none)
no_entry-true rank other none = refl
