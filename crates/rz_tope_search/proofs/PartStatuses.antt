-- Statuses of parts.
use Rattle.std.proofs.Common.{◌≡◌, ℕ, ◌+◌, ◌<◌, ◌&&◌, Bool, false, inl, inr, List, [], ◌∷◌, ◌++◌, length, Some, refl, sym, ap, ◌∙◌, arith}
use Rattle.std.specs.Prelude.{◌||◌, slice_get}
use Rattle.rz_tope_proof.specs.declared.parts.Form.{Form}
use Rattle.rz_tope_proof.specs.declared.parts.Form.TheVariants as form
use Rattle.rz_tope_proof.specs.declared.parts.Part.{Part}
use Rattle.rz_tope_proof.specs.Order.{Order}
use Rattle.rz_tope_proof.specs.Part.{value_over, decided_over, IsMadeOf, AreParts}
use Rattle.std.proofs.Math.ListN.{get_or-append}
use Rattle.std.proofs.Math.Seq.{get_or-append_seam}
use Rattle.rz_tope_search.proofs.Lists.{slice_get_is}
use Rattle.rz_tope_search.specs.declared.statuses.Status.{Status}
use Rattle.rz_tope_search.specs.Status.{status_at, holds_in, decided_in, AreStatuses}
use Rattle.rz_tope_search.proofs.RankOrders.{last_or_before}

-- what is said of a form is read off the parts that it is made of
abbrev pub Reads : ℕ → ((ℕ → Bool) → Form → Bool) → Type 0
Reads count over = (k : ℕ) (f : Form) (v w : ℕ → Bool) → IsMadeOf k count f
    → ((j : ℕ) → j < k → v j ≡ w j) → over v f ≡ over w f

two : (f : Bool → Bool → Bool) (a b c d : Bool) → a ≡ c → b ≡ d → f a b ≡ f c d
two f a b c d p q = λ i. f (p i) (q i)

pub value_over-reads : (count : ℕ) (le : Order) → Reads count (value_over le)
value_over-reads count le k (form.And i j) v w made same = two (λ b c. b && c) (v i) (v j) (w i) (w j) (same i made.0) (same j made.1)
value_over-reads count le k (form.Or i j) v w made same = two (λ b c. b || c) (v i) (v j) (w i) (w j) (same i made.0) (same j made.1)
value_over-reads count le k (form.EqualPairs of i j pairs) v w made same = two (λ b c. b && c) (v i) (v j) (w i) (w j) (same i made.0) (same j made.1)
value_over-reads count le k (form.AtMost a b) v w made same = refl
value_over-reads count le k (form.Equal a b) v w made same = refl
value_over-reads count le k form.Top v w made same = refl
value_over-reads count le k form.Bottom v w made same = refl
value_over-reads count le k form.Same v w made same = refl
value_over-reads count le k form.OnePoint v w made same = refl

pub decided_over-reads : (count : ℕ) (le : Order) → Reads count (decided_over le)
decided_over-reads count le k (form.And i j) v w made same = two (λ b c. b && c) (v i) (v j) (w i) (w j) (same i made.0) (same j made.1)
decided_over-reads count le k (form.Or i j) v w made same = two (λ b c. b && c) (v i) (v j) (w i) (w j) (same i made.0) (same j made.1)
decided_over-reads count le k (form.EqualPairs of i j pairs) v w made same = two (λ b c. b && c) (v i) (v j) (w i) (w j) (same i made.0) (same j made.1)
decided_over-reads count le k (form.AtMost a b) v w made same = refl
decided_over-reads count le k (form.Equal a b) v w made same = refl
decided_over-reads count le k form.Top v w made same = refl
decided_over-reads count le k form.Bottom v w made same = refl
decided_over-reads count le k form.Same v w made same = refl
decided_over-reads count le k form.OnePoint v w made same = refl

-- what is said of the parts before a number, and of the part there, is said of those before the next
pub says-next : (count : ℕ) (over : (ℕ → Bool) → Form → Bool) → Reads count over → (parts : List Part) → AreParts count parts
    → (v w : ℕ → Bool) (i : ℕ) → ((j : ℕ) → j < i → w j ≡ v j)
    → ((k : ℕ) (part : Part) → k < i → slice_get parts k ≡ Some part → v k ≡ over v part.form)
    → ((part : Part) → slice_get parts i ≡ Some part → w i ≡ over v part.form)
    → (k : ℕ) (part : Part) → k < i + 1 → slice_get parts k ≡ Some part → w k ≡ over w part.form
says-next count over reads parts made v w i kept before here k part lt at =
    elim (last_or_before i k (omega (arith, lt))) [
      | inl same ↦
          ap w same ∙ here part (ap (slice_get parts) (sym same) ∙ at)
          ∙ reads k part.form v w (made k part at) (λ j l. sym (kept j (omega (arith, l, same))))
      | inr less ↦
          kept k less ∙ before k part less at
          ∙ reads k part.form v w (made k part at) (λ j l. sym (kept j (omega (arith, l, less))))
    ]

-- ---- a status more

module _ (count : ℕ) (le : Order) (parts : List Part) (made : AreParts count parts) (list : List Status) (status : Status) (i : ℕ) (all : length list ≡ i) where
  kept : (j : ℕ) → j < i → status_at (list ++ status ∷ []) j ≡ status_at list j
  kept j lt = get_or-append list (status ∷ []) (record { holds = false; decided = false }) j (omega (arith, lt, all))

  last : status_at (list ++ status ∷ []) i ≡ status
  last = ap (status_at (list ++ status ∷ [])) (sym all) ∙ get_or-append_seam list status [] (record { holds = false; decided = false })

  pub holds-next : ((k : ℕ) (part : Part) → k < i → slice_get parts k ≡ Some part → holds_in list k ≡ value_over le (holds_in list) part.form)
      → ((part : Part) → slice_get parts i ≡ Some part → status.holds ≡ value_over le (holds_in list) part.form)
      → (k : ℕ) (part : Part) → k < i + 1 → slice_get parts k ≡ Some part
      → holds_in (list ++ status ∷ []) k ≡ value_over le (holds_in (list ++ status ∷ [])) part.form
  holds-next before here =
      says-next count (value_over le) (value_over-reads count le) parts made (holds_in list) (holds_in (list ++ status ∷ [])) i
      (λ j lt. ap (λ (s : Status). s.holds) (kept j lt)) before (λ part at. ap (λ (s : Status). s.holds) last ∙ here part at)

  pub decided-next : ((k : ℕ) (part : Part) → k < i → slice_get parts k ≡ Some part → decided_in list k ≡ decided_over le (decided_in list) part.form)
      → ((part : Part) → slice_get parts i ≡ Some part → status.decided ≡ decided_over le (decided_in list) part.form)
      → (k : ℕ) (part : Part) → k < i + 1 → slice_get parts k ≡ Some part
      → decided_in (list ++ status ∷ []) k ≡ decided_over le (decided_in (list ++ status ∷ [])) part.form
  decided-next before here =
      says-next count (decided_over le) (decided_over-reads count le) parts made (decided_in list) (decided_in (list ++ status ∷ [])) i
      (λ j lt. ap (λ (s : Status). s.decided) (kept j lt)) before (λ part at. ap (λ (s : Status). s.decided) last ∙ here part at)

-- where all parts have a status, these are their statuses
pub statuses-all : (le : Order) (parts : List Part) (list : List Status) (i : ℕ) → length list ≡ i → i ≡ length parts
    → ((k : ℕ) (part : Part) → k < i → slice_get parts k ≡ Some part → holds_in list k ≡ value_over le (holds_in list) part.form)
    → ((k : ℕ) (part : Part) → k < i → slice_get parts k ≡ Some part → decided_in list k ≡ decided_over le (decided_in list) part.form)
    → AreStatuses le parts list
statuses-all le parts list i all end values decided = record {
  all = all ∙ end;
  values = λ k part at. values k part (omega (arith, (slice_get_is parts k part part at).0, end)) at;
  decided = λ k part at. decided k part (omega (arith, (slice_get_is parts k part part at).0, end)) at;
}
