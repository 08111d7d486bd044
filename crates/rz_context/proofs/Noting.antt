-- What is known once something more is noted, and while the ids of a list are cached, from its last to its first.
use Rattle.std.proofs.Common.{◌≡◌, ℕ, ◌<◌, List, [], ◌∷◌, ◌++◌, ◌⊎◌, inl, inr, length, get_or, All, Some, refl, sym, ap, subst, ◌∙◌, arith}
use Rattle.std.specs.Prelude.{slice_get}
use Rattle.std.proofs.lemmas.Bool.{cases_lt}
use Rattle.std.proofs.lemmas.List.{length_push, get_or_append_left, get_or_push}
use Rattle.std.proofs.lemmas.List.Elements.{Contains-push_cases}
use Rattle.rz_rules.specs.declared.nodes.Node.{Node}
use Rattle.rz_pool.specs.Copy.{AreSettled}
use Rattle.rz_context.specs.declared.knowledge.Knowledge.{Knowledge}
use Rattle.rz_context.specs.declared.knowledge.Cached.{Cached}
use Rattle.rz_context.specs.declared.knowledge.View.{View}
use Rattle.rz_context.specs.declared.summaries.Summaries.{Summaries}
use Rattle.rz_context.specs.Knowledge.{IsKnown, IsCaching, IsViewed, cached_in, view_of}
use Rattle.rz_context.specs.Summary.{AreSummaries}

pub noted : (nodes : List Node) (before after : Knowledge) (context id : ℕ) (cached : Cached) → IsKnown nodes before → IsViewed nodes (view_of context id) cached → after.summaries ≡ before.summaries
    → cached_in after (view_of context id) ≡ Some cached → ((view : View) → (view ≡ view_of context id) ⊎ (cached_in after view ≡ cached_in before view)) → IsKnown nodes after
noted nodes before after context id cached known viewed summaries here others = record {
  summaries = subst (λ (p : Summaries). AreSummaries nodes p.summaries.items) (sym summaries) known.summaries;
  views = λ view other e. elim (others view) [
    | inl same ↦
        let found : Some cached ≡ Some other = sym here ∙ (ap (cached_in after) (sym same) ∙ e) in
        let one : cached ≡ other = cc in
        subst (λ (v : View). IsViewed nodes v other) (sym same) (subst (IsViewed nodes (view_of context id)) one viewed)
    | inr kept ↦ known.views view other (sym kept ∙ e)
  ];
}

-- the last of the ids
module _ (nodes : List Node) (id : ℕ) (IsCached : ℕ → Type 0) (ids : List ℕ) (part : ℕ) (caching : IsCaching nodes id IsCached (ids ++ part ∷ [])) where
  at_last : get_or (ids ++ part ∷ []) (length ids) 0 ≡ part
  at_last = get_or_push ids part 0 (length ids) refl

  pub last_live : part < length nodes
  last_live = subst (λ (p : ℕ). p < length nodes) at_last (caching.live (length ids) 0 (omega (arith, length_push ids part)))

  pub last_kids : (node : Node) → slice_get nodes part ≡ Some node → All IsCached node.kids
  last_kids node at k d l =
      elim (caching.settled (length ids) node (omega (arith, length_push ids part)) (ap (slice_get nodes) at_last ∙ at) k d l) [
        | inl after ↦ absurd (omega (arith, after.1, after.2, length_push ids part))
        | inr cached ↦ cached
      ]

  -- it is cached
  module _ (IsMore : ℕ → Type 0) (here : IsMore part) (kept : (q : ℕ) → IsCached q → IsMore q) where
    before : (summary d : ℕ) → summary < length ids → get_or (ids ++ part ∷ []) summary d ≡ get_or ids summary d
    before summary d l = get_or_append_left ids (part ∷ []) d summary l

    settled : AreSettled nodes ids IsMore
    settled summary node l at k d m =
        elim (caching.settled summary node (omega (arith, length_push ids part)) (ap (slice_get nodes) (before summary 0 l) ∙ at) k d m) [
          | inl after ↦ elim (cases_lt after.0 (length ids)) [
            | inl within ↦ inl (after.0, after.1, within, sym (before after.0 0 within) ∙ after.3)
            | inr from ↦
                let last : get_or (ids ++ part ∷ []) after.0 0 ≡ part = get_or_push ids part 0 after.0 (omega (arith, after.2, length_push ids part)) in
                inr (subst IsMore (sym last ∙ after.3) here)
          ]
          | inr cached ↦ inr (kept (get_or node.kids k d) cached)
        ]

    pub IsCaching-pop : IsCaching nodes id IsMore ids
    IsCaching-pop = record {
      top = elim caching.top [
        | inl listed ↦ elim (Contains-push_cases ids part id listed) [
          | inl among ↦ inl among
          | inr last ↦ inr (subst IsMore last here)
        ]
        | inr cached ↦ inr (kept id cached)
      ];
      live = λ k d l. subst (λ (p : ℕ). p < length nodes) (before k d l) (caching.live k d (omega (arith, length_push ids part)));
      settled = settled;
    }
