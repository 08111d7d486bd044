-- What the parts of topes say in an order of the places.
use Rattle.std.specs.Prelude.{◌≡◌, ℕ, ◌<◌, ◌&&◌, ◌||◌, Bool, true, false, List, Some, slice_get}
use Rattle.std.specs.List.{slice_index_or}
use Rattle.rz_tope_proof.specs.declared.proof.Claim.TheVariants.{Tope}
use Rattle.rz_tope_proof.specs.declared.parts.Form.{Form}
use Rattle.rz_tope_proof.specs.declared.parts.Form.TheVariants as form
use Rattle.rz_tope_proof.specs.declared.parts.Part.{Part}
use Rattle.rz_tope_proof.specs.Order.{Order}

-- the part with this number
abbrev pub part_at : List Part → ℕ → Part
part_at parts k = slice_index_or parts k (record { claim = Tope 0; form = form.Top })

-- whether a form is true in an order, where it is said which parts are
abbrev pub value_over : Order → (ℕ → Bool) → Form → Bool
value_over le value form.Top = true
value_over le value form.Bottom = false
value_over le value (form.And first second) = value first && value second
value_over le value (form.Or first second) = value first || value second
value_over le value (form.AtMost first second) = le first.place second.place
value_over le value (form.Equal first second) = le first.place second.place && le second.place first.place
value_over le value (form.EqualPairs of left right pairs) = value left && value right
value_over le value form.Same = true
value_over le value form.OnePoint = true

-- whether an order decides each comparison of a form, where it is said in which parts it does
abbrev pub decided_over : Order → (ℕ → Bool) → Form → Bool
decided_over le decided (form.And first second) = decided first && decided second
decided_over le decided (form.Or first second) = decided first && decided second
decided_over le decided (form.AtMost first second) = le first.place second.place || le second.place first.place
decided_over le decided (form.Equal first second) = le first.place second.place || le second.place first.place
decided_over le decided (form.EqualPairs of left right pairs) = decided left && decided right
decided_over le decided form = true

-- it is said of each part as of its form
abbrev pub Says : (Form → Bool) → List Part → (ℕ → Bool) → Type 0
Says over parts value = (k : ℕ) (part : Part) → slice_get parts k ≡ Some part → value k ≡ over part.form

-- which parts are true in an order
abbrev pub AreValues : Order → List Part → (ℕ → Bool) → Type 0
AreValues le parts value = Says (value_over le value) parts value

-- in which parts an order decides each comparison
abbrev pub AreDecided : Order → List Part → (ℕ → Bool) → Type 0
AreDecided le parts decided = Says (decided_over le decided) parts decided

-- the parts that a form is made of stand before a number, and its places are below a count
abbrev pub IsMadeOf : ℕ → ℕ → Form → Type 0
IsMadeOf before count (form.And first second) = (first < before) × (second < before)
IsMadeOf before count (form.Or first second) = (first < before) × (second < before)
IsMadeOf before count (form.AtMost first second) = (first.place < count) × (second.place < count)
IsMadeOf before count (form.Equal first second) = (first.place < count) × (second.place < count)
IsMadeOf before count (form.EqualPairs of left right pairs) = (left < before) × (right < before)
IsMadeOf before count form = Unit {0}

-- each part is made of earlier ones, and of places below a count
abbrev pub AreParts : ℕ → List Part → Type 0
AreParts count parts = (k : ℕ) (part : Part) → slice_get parts k ≡ Some part → IsMadeOf k count part.form
