-- The list of the parts of a tree of which it isn't cached, while it is made.
use Rattle.std.proofs.Common.{◌≡◌, ℕ, ◌<◌, ◌≤◌, Bool, true, false, cond, List, [], ◌∷◌, ◌++◌, Some, length, get_or, All, Contains, slice_get, refl, sym, ap, subst, ◌∙◌, ◌⊎◌, inl, inr, true≢false, arith}
use Rattle.std.specs.Ordering.{nat_cmp, is_eq, is_lt}
use Rattle.std.proofs.lemmas.List.{length_push, get_or_append_left, get_or_push}
use Rattle.std.proofs.lemmas.List.Elements.{All-push, Contains-push, Contains-append_left}
use Rattle.std.proofs.lemmas.Bool.{cases_lt}
use Rattle.rz_rules.specs.declared.nodes.Node.{Node}
use Rattle.rz_pool.specs.Copy.{StandsAfter, AreSettled}
use Rattle.rz_pool.proofs.Orders.{equal_numbers, other_numbers, no_less}
use Rattle.rz_pool.proofs.Listing.{bound, bound_push}
use Rattle.rz_context.specs.Knowledge.{IsAdded, IsCaching}

-- ---- ids that are added

pub IsAdded-none : (before : ℕ → Bool) (IsCached : ℕ → Type 0) → IsAdded before before IsCached []
IsAdded-none before IsCached = record { kept = λ id h. h; only = λ id h. inl h; all = λ k d l. absurd (omega arith) }

pub IsAdded-more : (before middle after : ℕ → Bool) (IsCached : ℕ → Type 0) (ids : List ℕ) (x : ℕ) → IsAdded before middle IsCached ids
    → ((id : ℕ) → middle id ≡ true → after id ≡ true) → ((id : ℕ) → after id ≡ true → (middle id ≡ true) ⊎ (id ≡ x)) → (after x ≡ true) ⊎ IsCached x
    → IsAdded before after IsCached (ids ++ x ∷ [])
IsAdded-more before middle after IsCached ids x added kept only here = record {
  kept = λ id h. kept id (added.kept id h);
  only = λ id h. elim (only id h) [
    | inl old ↦ elim (added.only id old) [
      | inl first ↦ inl first
      | inr among ↦ inr (Contains-append_left ids (x ∷ []) id among)
    ]
    | inr new ↦ inr (subst (Contains (ids ++ x ∷ [])) (sym new) (Contains-push ids x))
  ];
  all = All-push (λ id. (after id ≡ true) ⊎ IsCached id) ids x
      (λ k d l. elim (added.all k d l) [
        | inl waits ↦ inl (kept (get_or ids k d) waits)
        | inr cached ↦ inr cached
      ]) here;
}

-- ---- ids that are listed

-- some ids are listed, and others are waiting, which stand below; all others are cached
pub record IsListing (nodes : List Node) (id : ℕ) (IsCached : ℕ → Type 0) (waits : ℕ → Bool) (ids : List ℕ) : Type 0 where
  pub waiting : (q : ℕ) → waits q ≡ true → (q < length nodes) × (q < bound id ids)
  pub top : Contains ids id ⊎ ((waits id ≡ true) ⊎ IsCached id)
  pub live : All (λ part. part < length nodes) ids
  pub settled : AreSettled nodes ids (λ q. (waits q ≡ true) ⊎ IsCached q)

one_among : (x y : ℕ) → Contains (x ∷ []) y → y ≡ x
one_among x y (k, lt, e) = sym e ∙ only k lt where
  only : (n : ℕ) → n < 1 → get_or (x ∷ []) n y ≡ x
  only n l = let first : n ≡ 0 = omega (arith, l) in ap (λ (i : ℕ). get_or (x ∷ []) i y) first

pub IsListing-start : (nodes : List Node) (id : ℕ) (IsCached : ℕ → Type 0) (none waits : ℕ → Bool) → id < length nodes → ((q : ℕ) → none q ≡ false)
    → IsAdded none waits IsCached (id ∷ []) → IsListing nodes id IsCached waits []
IsListing-start nodes id IsCached none waits l empty added = record {
  waiting = λ q h. elim (added.only q h) [
    | inl wrong ↦ absurd (true≢false (sym wrong ∙ empty q))
    | inr among ↦ let same = one_among id q among in (omega (arith, same, l), omega (arith, same))
  ];
  top = inr (added.all 0 0 (omega arith));
  live = λ k d lt. absurd (omega arith);
  settled = λ summary node lt at. absurd (omega arith);
}

StandsAfter-push : (ids : List ℕ) (summary id part : ℕ) → StandsAfter ids summary id → StandsAfter (ids ++ part ∷ []) summary id
StandsAfter-push ids summary id part (other, after, within, is) =
    (other, after, omega (arith, length_push ids part), get_or_append_left ids (part ∷ []) 0 other within ∙ is)

StandsAfter-last : (ids : List ℕ) (summary part : ℕ) → summary < length ids → StandsAfter (ids ++ part ∷ []) summary part
StandsAfter-last ids summary part l = (length ids, l, omega (arith, length_push ids part), get_or_push ids part 0 (length ids) refl)

cond_cases : (t a : Bool) → cond t false a ≡ true → (t ≡ false) × (a ≡ true)
cond_cases true a h = absurd (true≢false (sym h))
cond_cases false a h = (refl, h)

-- one more id is listed, the greatest that waited, and its kids wait of which it isn't cached
module _ (nodes : List Node) (id : ℕ) (IsCached : ℕ → Type 0) (waits : ℕ → Bool) (ids : List ℕ) (listing : IsListing nodes id IsCached waits ids)
    (part : ℕ) (node : Node) (here : waits part ≡ true) (at : slice_get nodes part ≡ Some node) (low : All (λ kid. kid < part) node.kids)
    (left more : ℕ → Bool)
    (greatest : (q : ℕ) → waits q ≡ true → is_lt (nat_cmp part q) ≡ false)
    (gone : (q : ℕ) → left q ≡ cond (is_eq (nat_cmp part q)) false (waits q))
    (kept : (q : ℕ) → is_eq (nat_cmp part q) ≡ false → left q ≡ waits q)
    (added : IsAdded left more IsCached node.kids) where
  stays : (q : ℕ) → waits q ≡ true → (q ≡ part) ⊎ (more q ≡ true)
  stays q h = by (is_eq (nat_cmp part q)) refl
    where
      by : (b : Bool) → is_eq (nat_cmp part q) ≡ b → (q ≡ part) ⊎ (more q ≡ true)
      by true e = inl (sym (equal_numbers part q e))
      by false e = inr (added.kept q (kept q e ∙ h))

  waiting : (q : ℕ) → more q ≡ true → (q < length nodes) × (q < bound id (ids ++ part ∷ []))
  waiting q h =
      elim (added.only q h) [
        | inl e ↦
            let w = cond_cases (is_eq (nat_cmp part q)) (waits q) (sym (gone q) ∙ e) in
            let below : q ≤ part = no_less part q (greatest q w.1) in
            let other : part ≡ q → ⊥ = other_numbers part q w.0 in
            ((listing.waiting q w.1).0, omega (arith, bound_push id ids part, below, other))
        | inr e ↦
            let below : q < part = kid_low q e in
            (omega (arith, (listing.waiting part here).0, below), omega (arith, bound_push id ids part, below))
      ] where
        kid_low : (q : ℕ) → Contains node.kids q → q < part
        kid_low q (k, lt, e) = subst (λ (n : ℕ). n < part) e (low k q lt)

  settled : AreSettled nodes (ids ++ part ∷ []) (λ q. (more q ≡ true) ⊎ IsCached q)
  settled summary n l at' k d m =
      elim (cases_lt summary (length ids)) [
        | inl before ↦
            let same : get_or (ids ++ part ∷ []) summary 0 ≡ get_or ids summary 0 = get_or_append_left ids (part ∷ []) 0 summary before in
            elim (listing.settled summary n before (sym (ap (slice_get nodes) same) ∙ at') k d m) [
              | inl after ↦ inl (StandsAfter-push ids summary (get_or n.kids k d) part after)
              | inr waits' ↦ elim waits' [
                | inl w ↦ elim (stays (get_or n.kids k d) w) [
                  | inl e ↦ inl (subst (StandsAfter (ids ++ part ∷ []) summary) (sym e) (StandsAfter-last ids summary part before))
                  | inr still ↦ inr (inl still)
                ]
                | inr cached ↦ inr (inr cached)
              ]
            ]
        | inr from ↦
            let last : get_or (ids ++ part ∷ []) summary 0 ≡ part = get_or_push ids part 0 summary (omega (arith, length_push ids part)) in
            let found : Some node ≡ Some n = sym at ∙ (sym (ap (slice_get nodes) last) ∙ at') in
            let same : node ≡ n = cc in
            inr (subst (λ (m' : Node). k < length m'.kids → (more (get_or m'.kids k d) ≡ true) ⊎ IsCached (get_or m'.kids k d)) same (added.all k d) m)
      ]

  pub IsListing-push : IsListing nodes id IsCached more (ids ++ part ∷ [])
  IsListing-push = record {
    waiting = waiting;
    top = elim listing.top [
      | inl listed ↦ inl (Contains-append_left ids (part ∷ []) id listed)
      | inr other ↦ elim other [
        | inl w ↦ elim (stays id w) [
          | inl e ↦ inl (subst (Contains (ids ++ part ∷ [])) (sym e) (Contains-push ids part))
          | inr still ↦ inr (inl still)
        ]
        | inr cached ↦ inr (inr cached)
      ]
    ];
    live = All-push (λ p. p < length nodes) ids part listing.live (listing.waiting part here).0;
    settled = settled;
  }

pub IsCaching-end : (nodes : List Node) (id : ℕ) (IsCached : ℕ → Type 0) (waits : ℕ → Bool) (ids : List ℕ) → IsListing nodes id IsCached waits ids → ((q : ℕ) → waits q ≡ false)
    → IsCaching nodes id IsCached ids
IsCaching-end nodes id IsCached waits ids listing none = record {
  top = elim listing.top [
    | inl listed ↦ inl listed
    | inr other ↦ elim other [
      | inl w ↦ absurd (true≢false (sym w ∙ none id))
      | inr cached ↦ inr cached
    ]
  ];
  live = listing.live;
  settled = λ summary node l at k d m. elim (listing.settled summary node l at k d m) [
    | inl after ↦ inl after
    | inr other ↦ elim other [
      | inl w ↦ absurd (true≢false (sym w ∙ none (get_or node.kids k d)))
      | inr cached ↦ inr cached
    ]
  ];
}
