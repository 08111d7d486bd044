-- The rows of contexts, and the structural rows that are text.
use Rattle.std.proofs.Common.{refl}
use Rattle.rz_rules.specs.declared.rows.Row.TheVariants as row
use Rattle.rz_metatheory.proofs.Keeping.{RowKeeps}

pub context_nil : RowKeeps row.ContextNil
context_nil L met tree over = (tt, tt)

pub context_cube : RowKeeps row.ContextCube
context_cube L met context tree over = ((context.0, record { tree = tree.context.2.1.0; few = met.0 }), tt)

pub context_tope : RowKeeps row.ContextTope
context_tope L met context tree over = ((context.0, met.0), tt)

pub context_term : RowKeeps row.ContextTerm
context_term L met type tree over = ((type.0, type.1.0), tt)

pub type_of : RowKeeps row.TypeOf
type_of L met x tree over = (x.0, (x.1.1, (refl, tt, tt)))

pub left_side : RowKeeps row.LeftSide
left_side L met same tree over = (same.0, (same.1.0, same.1.2))

pub right_side : RowKeeps row.RightSide
right_side L met same tree over = (same.0, (same.1.1, same.1.2))
