-- Lists from which an item is taken, and what stands in them.
use Rattle.std.proofs.Common.{◌≡◌, ◌≢◌, ℕ, zero, suc, Some, ◌+◌, ◌-◌, ◌<◌, inl, inr, List, [], ◌∷◌, ◌++◌, length, get_or, All, sym, subst, ◌∙◌, arith}
use Rattle.std.specs.Prelude.{slice_get}
use Rattle.std.specs.List.{remove}
use Rattle.std.proofs.lemmas.Bool.Decides.{eqb_tells, leb_tells}
use Rattle.std.proofs.Common.{length-append}
use Rattle.std.proofs.lemmas.Option.{slice_get-get_or, get_or_from_slice_get}
use Rattle.std.proofs.Math.ListN.{get_or-append}
use Rattle.std.proofs.Math.Seq.{get_or-append_seam}
use Rattle.std.proofs.lemmas.List.Edits.{get_or-remove_below, get_or-remove_above, length-remove}

module _ {X : Type 0} (P : X → Type 0) (xs : List X) (i : ℕ) (there : i < length xs) where
  -- what holds of all items holds of those that are left
  pub All-remove : All P xs → All P (remove xs i)
  All-remove all k d lt =
      let len = length-remove xs i there in
      elim (leb_tells i k) [
        | inl after ↦ subst P (sym (get_or-remove_above xs i d k after.1 there)) (all (k + 1) d (omega (arith, len, lt)))
        | inr before ↦ subst P (sym (get_or-remove_below xs i d k before.1 there)) (all k d (omega (arith, len, lt)))
      ]

  -- what holds of those that are left, and of the one that was taken, holds of all
  pub All-put_back : All P (remove xs i) → ((d : X) → P (get_or xs i d)) → All P xs
  All-put_back all here k d lt =
      let len = length-remove xs i there in
      elim (leb_tells (k + 1) i) [
        | inl before ↦ subst P (get_or-remove_below xs i d k (omega (arith, before.1)) there) (all k d (omega (arith, len, before.1, there)))
        | inr after ↦ elim (eqb_tells k i) [
          | inl same ↦ subst (λ m. P (get_or xs m d)) (sym same.1) (here d)
          | inr apart ↦
              let ne : k ≢ i = apart.1 in
              let back : k - 1 + 1 ≡ k = omega (arith, after.1, ne) in
              subst (λ m. P (get_or xs m d)) back
              (subst P (get_or-remove_above xs i d (k - 1) (omega (arith, after.1, ne)) there) (all (k - 1) d (omega (arith, len, lt, after.1, ne))))
        ]
      ]

-- the items in front of the last one, and that one
module _ {X : Type 0} (P : X → Type 0) (xs : List X) (x : X) where
  pub All-front : All P (xs ++ x ∷ []) → All P xs
  All-front all k d lt =
      subst P (get_or-append xs (x ∷ []) d k lt) (all k d (omega (arith, lt, length-append xs (x ∷ []))))

  pub All-last : All P (xs ++ x ∷ []) → P x
  All-last all =
      subst P (get_or-append_seam xs x [] x) (all (length xs) x (omega (arith, length-append xs (x ∷ []))))

-- what is read at a place doesn't depend on what would stand outside
pub read-at : {X : Type 0} (xs : List X) (k : ℕ) (r d : X) → k < length xs → r ≡ get_or xs k r → get_or xs k d ≡ r
read-at xs k r d lt e = get_or_from_slice_get xs k (get_or xs k r) d (slice_get-get_or xs k r lt) ∙ sym e

-- what stands at a place
pub slice_get_is : {A : Type 0} (xs : List A) (i : ℕ) (x d : A) → slice_get xs i ≡ Some x → (i < length xs) × (get_or xs i d ≡ x)
slice_get_is [] i x d e = absurd cc
slice_get_is (y ∷ xs) zero x d e =
    let same : y ≡ x = cc in
    (omega arith, same)
slice_get_is (y ∷ xs) (suc i) x d e =
    let rest = slice_get_is xs i x d e in
    (omega (arith, rest.0), rest.1)
