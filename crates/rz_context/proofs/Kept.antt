-- Lists of summaries that grow at their end.
use Rattle.std.proofs.Common.{◌≡◌, ℕ, ◌⊎◌, inl, inr, ◌<◌, List, [], ◌∷◌, ◌++◌, length, Some, get_or, sym, ap, subst, ◌∙◌, arith}
use Rattle.std.specs.Prelude.{slice_get}
use Rattle.std.proofs.lemmas.List.{length_push}
use Rattle.std.proofs.lemmas.Option.{slice_get_within, slice_get_cases, get_or_from_slice_get}
use Rattle.std.proofs.Math.Seq.{get_or-append_seam}
use Rattle.rz_pool.proofs.Nodes.{slice_get-front}
use Rattle.rz_rules.specs.declared.nodes.Node.{Node}
use Rattle.rz_context.specs.declared.summaries.Summary.{Summary}
use Rattle.rz_context.specs.Summary.{AreSummaries, IsLow, IsSummary}

-- what stands in a list with one more
push_at : {X : Type 0} (xs : List X) (y : X) (i : ℕ) (x : X) → slice_get (xs ++ y ∷ []) i ≡ Some x
    → ((i < length xs) × (slice_get xs i ≡ Some x)) ⊎ ((i ≡ length xs) × (x ≡ y))
push_at xs y i x e =
    elim (slice_get_cases xs i).1 [
      | inl found ↦ inl (found.1, slice_get-front xs (y ∷ []) i x found.1 e)
      | inr past ↦
          let within = slice_get_within (xs ++ y ∷ []) i x e in
          let last : i ≡ length xs = omega (arith, within, length_push xs y, past.0) in
          inr (last, sym (get_or_from_slice_get (xs ++ y ∷ []) i x y e) ∙ ap (λ (n : ℕ). get_or (xs ++ y ∷ []) n y) last ∙ get_or-append_seam xs y [] y)
    ]

-- one summary more
pub summaries_more : (nodes : List Node) (summaries : List Summary) (summary : Summary) → AreSummaries nodes summaries → length summaries < length nodes → IsLow (length summaries) summary
    → IsSummary nodes (length summaries) summary → AreSummaries nodes (summaries ++ summary ∷ [])
summaries_more nodes summaries summary are few low is = record {
  few = omega (arith, length_push summaries summary, few);
  low = λ id at e. elim (push_at summaries summary id at e) [
    | inl old ↦ are.low id at old.1
    | inr new ↦ subst (λ (p : Summary). IsLow id p) (sym new.1) (subst (λ (n : ℕ). IsLow n summary) (sym new.0) low)
  ];
  each = λ id at e. elim (push_at summaries summary id at e) [
    | inl old ↦ are.each id at old.1
    | inr new ↦ subst (λ (p : Summary). IsSummary nodes id p) (sym new.1) (subst (λ (n : ℕ). IsSummary nodes n summary) (sym new.0) is)
  ];
}
