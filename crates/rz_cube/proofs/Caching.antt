-- What is known of the ids of a list, from its last to its first.
use Rattle.std.proofs.Common.{◌≡◌, ℕ, ◌<◌, List, [], ◌∷◌, ◌++◌, ◌⊎◌, inl, inr, length, get_or, All, Contains, Some, refl, sym, ap, subst, ◌∙◌, arith}
use Rattle.std.specs.Prelude.{slice_get}
use Rattle.std.proofs.lemmas.Bool.{cases_lt}
use Rattle.std.proofs.lemmas.List.{length_push, get_or_append_left, get_or_push}
use Rattle.std.proofs.lemmas.List.Elements.{Contains-push_cases}
use Rattle.rz_rules.specs.declared.nodes.Node.{Node}
use Rattle.rz_pool.specs.Copy.{AreSettled, ListsParts}

-- some ids are still to be cached, each after its kids
pub record IsCaching (nodes : List Node) (id : ℕ) (Cached : ℕ → Type 0) (ids : List ℕ) : Type 0 where
  pub top : Contains ids id ⊎ Cached id
  pub live : All (λ part. part < length nodes) ids
  pub settled : AreSettled nodes ids Cached

pub IsCaching-start : (nodes : List Node) (id : ℕ) (Cached : ℕ → Type 0) (ids : List ℕ) → ListsParts nodes id ids → IsCaching nodes id Cached ids
IsCaching-start nodes id Cached ids lists = record {
  top = inl lists.top;
  live = λ k d l. (lists.parts k d l).0;
  settled = λ place node l at k d m. elim (lists.settled place node l at k d m) [ inl after ↦ inl after | inr never ↦ absurd never ];
}

-- the last of the ids
module _ (nodes : List Node) (id : ℕ) (Cached : ℕ → Type 0) (ids : List ℕ) (part : ℕ) (caching : IsCaching nodes id Cached (ids ++ part ∷ [])) where
  at_last : get_or (ids ++ part ∷ []) (length ids) 0 ≡ part
  at_last = get_or_push ids part 0 (length ids) refl

  pub last_live : part < length nodes
  last_live = subst (λ (p : ℕ). p < length nodes) at_last (caching.live (length ids) 0 (omega (arith, length_push ids part)))

  pub last_kids : (node : Node) → slice_get nodes part ≡ Some node → All Cached node.kids
  last_kids node at k d l =
      elim (caching.settled (length ids) node (omega (arith, length_push ids part)) (ap (slice_get nodes) at_last ∙ at) k d l) [
        | inl after ↦ absurd (omega (arith, after.1, after.2, length_push ids part))
        | inr cached ↦ cached
      ]

  -- it is cached
  module _ (More : ℕ → Type 0) (here : More part) (kept : (q : ℕ) → Cached q → More q) where
    before : (place d : ℕ) → place < length ids → get_or (ids ++ part ∷ []) place d ≡ get_or ids place d
    before place d l = get_or_append_left ids (part ∷ []) d place l

    settled : AreSettled nodes ids More
    settled place node l at k d m =
        elim (caching.settled place node (omega (arith, length_push ids part)) (ap (slice_get nodes) (before place 0 l) ∙ at) k d m) [
          | inl after ↦ elim (cases_lt after.0 (length ids)) [
            | inl within ↦ inl (after.0, after.1, within, sym (before after.0 0 within) ∙ after.3)
            | inr from ↦
                let last : get_or (ids ++ part ∷ []) after.0 0 ≡ part = get_or_push ids part 0 after.0 (omega (arith, after.2, length_push ids part)) in
                inr (subst More (sym last ∙ after.3) here)
          ]
          | inr cached ↦ inr (kept (get_or node.kids k d) cached)
        ]

    pub IsCaching-pop : IsCaching nodes id More ids
    IsCaching-pop = record {
      top = elim caching.top [
        | inl listed ↦ elim (Contains-push_cases ids part id listed) [
          | inl among ↦ inl among
          | inr last ↦ inr (subst More last here)
        ]
        | inr cached ↦ inr (kept id cached)
      ];
      live = λ k d l. subst (λ (p : ℕ). p < length nodes) (before k d l) (caching.live k d (omega (arith, length_push ids part)));
      settled = settled;
    }

-- none is left
pub cached_at_end : (nodes : List Node) (id : ℕ) (Cached : ℕ → Type 0) (ids : List ℕ) → length ids ≡ 0 → IsCaching nodes id Cached ids → Cached id
cached_at_end nodes id Cached ids none caching = elim caching.top [
  | inl listed ↦ absurd (omega (arith, none, listed.1))
  | inr cached ↦ cached
]
