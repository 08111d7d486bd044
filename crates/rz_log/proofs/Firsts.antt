-- The first places of judgments in a list, where one more stands at its end.
use Rattle.std.proofs.Common.{◌≡◌, ℕ, ◌<◌, List, [], ◌∷◌, ◌++◌, Option, Some, None, length, slice_get, refl, sym, ap, subst, ◌∙◌, ◌⊎◌, inl, inr, arith}
use Rattle.std.proofs.lemmas.Bool.{cases_lt}
use Rattle.std.proofs.lemmas.List.{length_push, get_or_push}
use Rattle.std.proofs.lemmas.Option.{slice_get_within, slice_get-get_or}
use Rattle.rz_rules.specs.declared.judgments.Judgment.{Judgment}
use Rattle.rz_rules.specs.declared.judgments.Judgment.TheVariants.{Formed, Holds, Has, Same}
use Rattle.rz_pool.proofs.Nodes.{slice_get-front, slice_get-append}
use Rattle.rz_rules.specs.Judgment.{parts_of}
use Rattle.rz_log.specs.declared.index.Key.{Key}
use Rattle.rz_log.specs.declared.index.Index.{Index}
use Rattle.rz_log.specs.Index.{IsFirst, IsIndex, key_of, step_in}

-- a judgment is what its key has
pub same_judgment : (left right : Judgment) → key_of left ≡ key_of right → left ≡ right
same_judgment (Formed c) (Formed d) e =
    let context : c ≡ d = ap (λ (k : Key). k.context) e in cc
same_judgment (Holds c p) (Holds d q) e =
    let context : c ≡ d = ap (λ (k : Key). k.context) e in
    let parts : p ∷ [] ≡ q ∷ [] = ap (λ (k : Key). k.parts) e in cc
same_judgment (Has c a t) (Has d b u) e =
    let context : c ≡ d = ap (λ (k : Key). k.context) e in
    let parts : a ∷ t ∷ [] ≡ b ∷ u ∷ [] = ap (λ (k : Key). k.parts) e in cc
same_judgment (Same c a b t) (Same d f g u) e =
    let context : c ≡ d = ap (λ (k : Key). k.context) e in
    let parts : a ∷ b ∷ t ∷ [] ≡ f ∷ g ∷ u ∷ [] = ap (λ (k : Key). k.parts) e in cc
same_judgment left right e =
    let parts : parts_of left ≡ parts_of right = ap (λ (k : Key). k.parts) e in
    absurd cc

-- what stands at the end of a list
pub at_end : {X : Type 0} (xs : List X) (x : X) → slice_get (xs ++ x ∷ []) (length xs) ≡ Some x
at_end xs x = slice_get-get_or (xs ++ x ∷ []) (length xs) x (omega (arith, length_push xs x)) ∙ ap Some (get_or_push xs x x (length xs) refl)

-- what stands in a list with one more stands before that or is it
pub before_or_end : {X : Type 0} (xs : List X) (x y : X) (place : ℕ) → slice_get (xs ++ x ∷ []) place ≡ Some y
    → (place < length xs) × (slice_get xs place ≡ Some y) ⊎ (place ≡ length xs) × (x ≡ y)
before_or_end xs x y place at =
    let within : place < length (xs ++ x ∷ []) = slice_get_within (xs ++ x ∷ []) place y at in
    elim (cases_lt place (length xs)) [
      | inl l ↦ inl (l, slice_get-front xs (x ∷ []) place y l at)
      | inr le ↦
          let last : place ≡ length xs = omega (arith, length_push xs x) in
          let same : Some x ≡ Some y = sym (at_end xs x) ∙ (ap (slice_get (xs ++ x ∷ [])) (sym last) ∙ at) in
          inr (last, cc)
    ]

module _ (said : List Judgment) (says : Judgment) where
  -- a judgment that was said, or is another, has the first place that it had
  first_stays : (other : Judgment) (place : Option ℕ) → IsFirst said other place → (place ≡ None → other ≡ says → ⊥) → IsFirst (said ++ says ∷ []) other place
  first_stays other None first new = λ step at.
      elim (before_or_end said says other step at) [
        | inl before ↦ first step before.1
        | inr last ↦ new refl (sym last.1)
      ]
  first_stays other (Some step) first new = (
    slice_get-append said (says ∷ []) step other first.0,
    λ before lower at. elim (before_or_end said says other before at) [
      | inl inner ↦ first.1 before lower inner.1
      | inr last ↦ absurd (omega (arith, slice_get_within said step other first.0, last.0))
    ],
  )

  first_is_last : IsFirst said says None → IsFirst (said ++ says ∷ []) says (Some (length said))
  first_is_last new = (at_end said says, λ before lower at. new before (slice_get-front said (says ∷ []) before says lower at))

  first_without_end : (other : Judgment) (place : Option ℕ) → IsFirst (said ++ says ∷ []) other place
      → (place ≡ Some (length said) → ⊥) → IsFirst said other place
  first_without_end other None first elsewhere = λ step at. first step (slice_get-append said (says ∷ []) step other at)
  first_without_end other (Some step) first elsewhere =
      elim (before_or_end said says other step first.0) [
        | inl before ↦ (before.1, λ lower l at. first.1 lower l (slice_get-append said (says ∷ []) lower other at))
        | inr last ↦ absurd (elsewhere (ap Some last.0))
      ]

  none_without_end : IsFirst (said ++ says ∷ []) says (Some (length said)) → IsFirst said says None
  none_without_end first step at =
      first.1 step (slice_get_within said step says at) (slice_get-append said (says ∷ []) step says at)

  not_the_end : (other : Judgment) → (other ≡ says → ⊥) → IsFirst (said ++ says ∷ []) other (Some (length said)) → ⊥
  not_the_end other differs first =
      let same : Some says ≡ Some other = sym (at_end said says) ∙ first.0 in
      differs cc

  -- an index where a judgment is said once more
  pub index_stays : (index : Index) (place : ℕ) → step_in index says ≡ Some place → IsIndex said index → IsIndex (said ++ says ∷ []) index
  index_stays index place here is other =
      first_stays other (step_in index other) (is other)
      (λ none same. let wrong : None ≡ Some place = sym none ∙ (ap (step_in index) same ∙ here) in absurd cc)

  module _ (old new : Index) (others : (other : Judgment) → (key_of other ≡ key_of says) ⊎ (step_in new other ≡ step_in old other)) where
    -- an index where a judgment is said for the first time
    pub index_with : step_in old says ≡ None → step_in new says ≡ Some (length said) → IsIndex said old → IsIndex (said ++ says ∷ []) new
    index_with none here is other =
        elim (others other) [
          | inl same ↦
              let one = same_judgment other says same in
              subst (λ (j : Judgment). IsFirst (said ++ says ∷ []) j (step_in new j)) (sym one)
              (subst (IsFirst (said ++ says ∷ []) says) (sym here) (first_is_last (subst (IsFirst said says) none (is says))))
          | inr kept ↦ subst (IsFirst (said ++ says ∷ []) other) (sym kept)
              (first_stays other (step_in old other) (is other) (λ missing same. kept_differs other kept missing same here))
        ]
      where
        kept_differs : (other : Judgment) → step_in new other ≡ step_in old other → step_in old other ≡ None → other ≡ says → step_in new says ≡ Some (length said) → ⊥
        kept_differs other kept missing same there =
            let wrong : None ≡ Some (length said) = sym missing ∙ (sym kept ∙ (ap (step_in new) same ∙ there)) in
            absurd cc

    -- an index where a judgment isn't said any more
    pub index_without : step_in old says ≡ Some (length said) → step_in new says ≡ None → IsIndex (said ++ says ∷ []) old → IsIndex said new
    index_without there none is other =
        elim (others other) [
          | inl same ↦
              let one = same_judgment other says same in
              subst (λ (j : Judgment). IsFirst said j (step_in new j)) (sym one)
              (subst (IsFirst said says) (sym none) (none_without_end (subst (IsFirst (said ++ says ∷ []) says) there (is says))))
          | inr kept ↦ subst (IsFirst said other) (sym kept)
              (first_without_end other (step_in old other) (is other) (λ last. elsewhere other kept last))
        ]
      where
        elsewhere : (other : Judgment) → step_in new other ≡ step_in old other → step_in old other ≡ Some (length said) → ⊥
        elsewhere other kept last =
            not_the_end other
            (λ same. let wrong : None ≡ Some (length said) = sym none ∙ (ap (step_in new) (sym same) ∙ (kept ∙ last)) in absurd cc)
            (subst (IsFirst (said ++ says ∷ []) other) last (is other))

  -- an index where a judgment that is said before isn't said at the end any more
  pub index_front : (index : Index) → (step_in index says ≡ Some (length said) → ⊥) → IsIndex (said ++ says ∷ []) index → IsIndex said index
  index_front index elsewhere is other =
      first_without_end other (step_in index other) (is other)
      (λ last. not_the_end other (λ same. elsewhere (ap (step_in index) (sym same) ∙ last)) (subst (IsFirst (said ++ says ∷ []) other) last (is other)))

-- an index that answers alike is one of the same list
pub index_alike : (said : List Judgment) (old new : Index) → ((other : Judgment) → step_in new other ≡ step_in old other) → IsIndex said old → IsIndex said new
index_alike said old new alike is other = subst (IsFirst said other) (sym (alike other)) (is other)
