-- What is answered of a tope.
use Rattle.std.proofs.Common.{◌≡◌, ℕ, ◌<◌, ◌≤◌, nat_le, Bool, true, false, true≢false, length, refl, sym, ap, ◌∙◌, subst}
use Rattle.std.specs.Prelude.{◌↔◌}
use Rattle.std.proofs.lemmas.Bool.{le-leb, leb-true, leb-false, lt-leb}
use Rattle.rz_rules.specs.Tree.{Tree}
use Rattle.rz_rules.specs.Validity.{IsValid, occurring, is_valid, Entailment, Valid, Invalid, Over, entailment, coordinates_limit}
use Rattle.rz_rules.proofs.Validity.{is_valid_iff}

-- the answer, by what is counted and tried
abbrev answer : ℕ → Bool → Bool → Entailment
answer count small valid = elim small [ false ↦ Over count | true ↦ elim valid [ true ↦ Valid | false ↦ Invalid ] ]

answer_valid : (count : ℕ) (small valid : Bool) → (answer count small valid ≡ Valid ↔ (small ≡ true) × (valid ≡ true))
answer_valid count true true = (λ e. (refl, refl), λ e. refl)
answer_valid count true false = (λ e. absurd cc, λ e. absurd (true≢false (sym e.1)))
answer_valid count false valid = (λ e. absurd cc, λ e. absurd (true≢false (sym e.0)))

answer_invalid : (count : ℕ) (small valid : Bool) → (answer count small valid ≡ Invalid ↔ (small ≡ true) × (valid ≡ false))
answer_invalid count true true = (λ e. absurd cc, λ e. absurd (true≢false e.1))
answer_invalid count true false = (λ e. (refl, refl), λ e. refl)
answer_invalid count false valid = (λ e. absurd cc, λ e. absurd (true≢false (sym e.0)))

answer_over : (count other : ℕ) (small valid : Bool) → (answer count small valid ≡ Over other ↔ (small ≡ false) × (other ≡ count))
answer_over count other true true = (λ e. absurd cc, λ e. absurd (true≢false e.0))
answer_over count other true false = (λ e. absurd cc, λ e. absurd (true≢false e.0))
answer_over count other false valid = (λ e. (refl, cc), λ e. ap Over (sym e.1))

false_of : (x : Bool) → (x ≡ true → ⊥) → x ≡ false
false_of true untrue = absurd (untrue refl)
false_of false untrue = refl

module _ (C phi : Tree) where
  abbrev count : ℕ
  count = length (occurring C phi)

  pub entailment_valid : entailment C phi ≡ Valid ↔ (count ≤ coordinates_limit) × IsValid C phi
  entailment_valid =
      let both = answer_valid count (nat_le count coordinates_limit) (is_valid C phi) in (
        λ e. (leb-true count coordinates_limit (both.0 e).0, (is_valid_iff C phi).0 (both.0 e).1),
        λ is. both.1 (le-leb count coordinates_limit is.0, (is_valid_iff C phi).1 is.1),
      )

  pub entailment_invalid : entailment C phi ≡ Invalid ↔ (count ≤ coordinates_limit) × (IsValid C phi → ⊥)
  entailment_invalid =
      let both = answer_invalid count (nat_le count coordinates_limit) (is_valid C phi) in (
        λ e. (leb-true count coordinates_limit (both.0 e).0, λ valid. true≢false (sym ((is_valid_iff C phi).1 valid) ∙ (both.0 e).1)),
        λ is. both.1 (le-leb count coordinates_limit is.0, false_of (is_valid C phi) (λ e. is.1 ((is_valid_iff C phi).0 e))),
      )

  pub entailment_over : (number : ℕ) → (entailment C phi ≡ Over number ↔ (coordinates_limit < number) × (number ≡ count))
  entailment_over number =
      let both = answer_over count number (nat_le count coordinates_limit) (is_valid C phi) in (
        λ e. (subst (λ n. coordinates_limit < n) (sym (both.0 e).1) (leb-false count coordinates_limit (both.0 e).0), (both.0 e).1),
        λ is. both.1 (lt-leb count coordinates_limit (subst (λ n. coordinates_limit < n) is.1 is.0), is.1),
      )
