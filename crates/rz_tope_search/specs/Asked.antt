-- Which parts are asked for.
use Rattle.std.specs.Prelude.{◌≡◌, ℕ, Bool, true, false, List, ◌⊎◌}
use Rattle.std.specs.List.{slice_index_or}
use Rattle.rz_tope_proof.specs.declared.parts.Form.{Form}
use Rattle.rz_tope_proof.specs.declared.parts.Form.TheVariants as form

-- whether a number is marked
abbrev pub is_marked : List Bool → ℕ → Bool
is_marked marks k = slice_index_or marks k false

-- Where a conjunction is asked for, both its parts are; where a disjunction is that holds, one side is that holds.
abbrev pub AsksFor : (ℕ → Bool) → (ℕ → Bool) → Form → Type 0
AsksFor holds asked (form.And first second) = (asked first ≡ true) × (asked second ≡ true)
AsksFor holds asked (form.EqualPairs of left right pairs) = (asked left ≡ true) × (asked right ≡ true)
AsksFor holds asked (form.Or first second) =
    ((holds first ≡ true) × (asked first ≡ true))
    ⊎ ((holds second ≡ true) × (asked second ≡ true))
    ⊎ ((holds first ≡ false) × (holds second ≡ false))
AsksFor holds asked form = Unit {0}
