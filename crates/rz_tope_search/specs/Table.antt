-- What the table of places says.
use Rattle.std.specs.Prelude.{◌≡◌, ℕ, ◌+◌, ◌*◌, ◌==◌, ◌<◌, ◌&&◌, ◌||◌, Option, None, is_some}
use Rattle.std.specs.List.{slice_index_or}
use Rattle.rz_tope_search.specs.declared.table.Table.{Table}
use Rattle.rz_tope_proof.specs.Order.{Order}

-- the inference that one place is at most another, where there is one
abbrev pub step_at : Table → ℕ → ℕ → Option ℕ
step_at table x y = slice_index_or table.steps (x * 10 + y) None

-- the order that the table says
abbrev pub order_of : Table → Order
order_of table x y = is_some (step_at table x y)

-- an order with one comparison more, and what follows from it by transitivity
abbrev pub with_pair : Order → ℕ → ℕ → Order
with_pair le first second x y = le x y || (le x first && le second y)

-- two orders say the same of the places below a count
abbrev pub AreSame : ℕ → Order → Order → Type 0
AreSame count le more = (x y : ℕ) → x < count → y < count → more x y ≡ le x y

-- what each order of the places says: each is at most itself, and stands between the ends
abbrev pub between_ends : Order
between_ends x y = (x == y) || (x == 0) || (y == 1)
