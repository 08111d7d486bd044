-- The list of a tree's parts, while it is made.
use Rattle.std.proofs.Common.{◌≡◌, ℕ, ◌+◌, ◌-◌, ◌<◌, ◌≤◌, Bool, true, false, cond, ◌||◌, List, [], ◌∷◌, ◌++◌, Some, length, get_or, map, All, Contains, slice_get, refl, sym, ap, subst, ◌∙◌, ◌⊎◌, inl, inr, true≢false, arith}
use Rattle.std.specs.List.{list_any}
use Rattle.std.specs.Ordering.{nat_cmp, is_eq, is_lt, eq_by_cmp}
use Rattle.std.proofs.lemmas.List.{length_push, get_or_append_left, get_or_push, get_or-map, length-map}
use Rattle.std.proofs.lemmas.List.Elements.{All-push, Contains-get_or, Contains-push, Contains-append_left}
use Rattle.std.proofs.lemmas.Bool.{cases_lt}
use Rattle.rz_rules.specs.declared.nodes.Node.{Node}
use Rattle.rz_rules.specs.Tree.{trees_in, tree_over, tree_of}
use Rattle.rz_pool.specs.Part.{IsPart, Itself, Kid}
use Rattle.rz_pool.specs.Copy.{StandsAfter, AreSettled, StandForParts, ListsParts}
use Rattle.rz_pool.proofs.Orders.{equal_numbers, other_numbers, no_less, among, is_among}

-- the last id that was listed, or one more than the first
abbrev pub bound : ℕ → List ℕ → ℕ
bound id ids = get_or ids (length ids - 1) (id + 1)

-- some ids are listed, and others are waiting, which stand below
pub record IsListing (nodes : List Node) (id : ℕ) (waits : ℕ → Bool) (ids : List ℕ) : Type 0 where
  pub waiting : (q : ℕ) → waits q ≡ true → (q < length nodes) × IsPart (tree_of nodes id) (tree_of nodes q) × (q < bound id ids)
  pub top : Contains ids id ⊎ (waits id ≡ true)
  pub parts : StandForParts nodes id ids
  pub settled : AreSettled nodes ids (λ q. waits q ≡ true)

pub IsListing-start : (nodes : List Node) (id : ℕ) (waits : ℕ → Bool) → id < length nodes → waits id ≡ true → ((q : ℕ) → waits q ≡ true → q ≡ id) → IsListing nodes id waits []
IsListing-start nodes id waits l top only = record {
  waiting = λ q h. (omega (arith, only q h), subst (λ k. IsPart (tree_of nodes id) (tree_of nodes k)) (sym (only q h)) Itself, omega (arith, only q h));
  top = inr top;
  parts = λ k d lt. absurd (omega arith);
  settled = λ place node lt at. absurd (omega arith);
}

pub bound_push : (id : ℕ) (ids : List ℕ) (part : ℕ) → bound id (ids ++ part ∷ []) ≡ part
bound_push id ids part = get_or_push ids part (id + 1) (length (ids ++ part ∷ []) - 1) (omega (arith, length_push ids part))

-- an id that stood after a place still does when one more is listed
StandsAfter-push : (ids : List ℕ) (place id part : ℕ) → StandsAfter ids place id → StandsAfter (ids ++ part ∷ []) place id
StandsAfter-push ids place id part (other, after, within, is) =
    (other, after, omega (arith, length_push ids part), get_or_append_left ids (part ∷ []) 0 other within ∙ is)

StandsAfter-last : (ids : List ℕ) (place part : ℕ) → place < length ids → StandsAfter (ids ++ part ∷ []) place part
StandsAfter-last ids place part l = (length ids, l, omega (arith, length_push ids part), get_or_push ids part 0 (length ids) refl)

or_cases : (a b : Bool) → (a || b) ≡ true → (a ≡ true) ⊎ (b ≡ true)
or_cases true b h = inl refl
or_cases false b h = inr h

or_left : (a b : Bool) → a ≡ true → (a || b) ≡ true
or_left true b h = refl
or_left false b h = absurd (true≢false (sym h))

or_right : (a b : Bool) → b ≡ true → (a || b) ≡ true
or_right true b h = refl
or_right false b h = h

cond_cases : (t a : Bool) → cond t false a ≡ true → (t ≡ false) × (a ≡ true)
cond_cases true a h = absurd (true≢false (sym h))
cond_cases false a h = (refl, h)

-- one more id is listed, the greatest that waited, and its kids wait
module _ (nodes : List Node) (id : ℕ) (waits : ℕ → Bool) (ids : List ℕ) (listing : IsListing nodes id waits ids)
    (part : ℕ) (node : Node) (here : waits part ≡ true) (at : slice_get nodes part ≡ Some node)
    (tree : tree_of nodes part ≡ tree_over (trees_in nodes) node) (low : All (λ kid. kid < part) node.kids)
    (left more : ℕ → Bool)
    (greatest : (q : ℕ) → waits q ≡ true → is_lt (nat_cmp part q) ≡ false)
    (gone : (q : ℕ) → left q ≡ cond (is_eq (nat_cmp part q)) false (waits q))
    (kept : (q : ℕ) → is_eq (nat_cmp part q) ≡ false → left q ≡ waits q)
    (all : (q : ℕ) → more q ≡ (left q || list_any (eq_by_cmp nat_cmp q) node.kids)) where
  stays : (q : ℕ) → waits q ≡ true → (q ≡ part) ⊎ (more q ≡ true)
  stays q h = by (is_eq (nat_cmp part q)) refl
    where
      by : (b : Bool) → is_eq (nat_cmp part q) ≡ b → (q ≡ part) ⊎ (more q ≡ true)
      by true e = inl (sym (equal_numbers part q e))
      by false e = inr (all q ∙ or_left (left q) (list_any (eq_by_cmp nat_cmp q) node.kids) (kept q e ∙ h))

  kid_waits : (k d : ℕ) → k < length node.kids → more (get_or node.kids k d) ≡ true
  kid_waits k d l = all (get_or node.kids k d) ∙ or_right (left (get_or node.kids k d)) (list_any (eq_by_cmp nat_cmp (get_or node.kids k d)) node.kids) (is_among node.kids k d l)

  kid_part : (k : ℕ) → k < length node.kids → IsPart (tree_of nodes id) (tree_of nodes (get_or node.kids k 0))
  kid_part k l =
      Kid (map (tree_of nodes) node.kids)
      (subst (IsPart (tree_of nodes id)) tree (listing.waiting part here).1)
      (subst (Contains (map (tree_of nodes) node.kids)) (get_or-map (tree_of nodes) node.kids k 0 (tree_of nodes 0) l)
      (Contains-get_or (map (tree_of nodes) node.kids) k (tree_of nodes 0) (omega (arith, length-map node.kids (tree_of nodes)))))

  waiting : (q : ℕ) → more q ≡ true → (q < length nodes) × IsPart (tree_of nodes id) (tree_of nodes q) × (q < bound id (ids ++ part ∷ []))
  waiting q h =
      elim (or_cases (left q) (list_any (eq_by_cmp nat_cmp q) node.kids) (sym (all q) ∙ h)) [
        | inl e ↦
            let w = cond_cases (is_eq (nat_cmp part q)) (waits q) (sym (gone q) ∙ e) in
            let below : q ≤ part = no_less part q (greatest q w.1) in
            let other : part ≡ q → ⊥ = other_numbers part q w.0 in
            ((listing.waiting q w.1).0, (listing.waiting q w.1).1, omega (arith, bound_push id ids part))
        | inr e ↦
            let found = among node.kids q e in
            let below : q < part = omega (arith, low found.0 0 found.1, found.2) in (
              omega (arith, (listing.waiting part here).0),
              subst (λ k. IsPart (tree_of nodes id) (tree_of nodes k)) found.2 (kid_part found.0 found.1),
              omega (arith, bound_push id ids part),
            )
      ]

  settled : AreSettled nodes (ids ++ part ∷ []) (λ q. more q ≡ true)
  settled place n l at' k d m =
      elim (cases_lt place (length ids)) [
        | inl before ↦
            let same : get_or (ids ++ part ∷ []) place 0 ≡ get_or ids place 0 = get_or_append_left ids (part ∷ []) 0 place before in
            elim (listing.settled place n before (sym (ap (slice_get nodes) same) ∙ at') k d m) [
              | inl after ↦ inl (StandsAfter-push ids place (get_or n.kids k d) part after)
              | inr waits' ↦ elim (stays (get_or n.kids k d) waits') [
                | inl e ↦ inl (subst (StandsAfter (ids ++ part ∷ []) place) (sym e) (StandsAfter-last ids place part before))
                | inr w ↦ inr w
              ]
            ]
        | inr from ↦
            let last : get_or (ids ++ part ∷ []) place 0 ≡ part = get_or_push ids part 0 place (omega (arith, length_push ids part)) in
            let found : Some node ≡ Some n = sym at ∙ (sym (ap (slice_get nodes) last) ∙ at') in
            let same : node ≡ n = cc in
            inr (subst (λ (m' : Node). k < length m'.kids → more (get_or m'.kids k d) ≡ true) same (kid_waits k d) m)
      ]

  pub IsListing-push : IsListing nodes id more (ids ++ part ∷ [])
  IsListing-push = record {
    waiting = waiting;
    top = elim listing.top [
      | inl listed ↦ inl (Contains-append_left ids (part ∷ []) id listed)
      | inr waits' ↦ elim (stays id waits') [
        | inl e ↦ inl (subst (Contains (ids ++ part ∷ [])) (sym e) (Contains-push ids part))
        | inr w ↦ inr w
      ]
    ];
    parts = All-push (λ p. (p < length nodes) × IsPart (tree_of nodes id) (tree_of nodes p)) ids part listing.parts ((listing.waiting part here).0, (listing.waiting part here).1);
    settled = settled;
  }

pub ListsParts-end : (nodes : List Node) (id : ℕ) (waits : ℕ → Bool) (ids : List ℕ) → IsListing nodes id waits ids → ((q : ℕ) → waits q ≡ false) → ListsParts nodes id ids
ListsParts-end nodes id waits ids listing none = record {
  top = elim listing.top [ inl listed ↦ listed | inr w ↦ absurd (true≢false (sym w ∙ none id)) ];
  parts = listing.parts;
  settled = λ place node l at k d m. elim (listing.settled place node l at k d m) [
    | inl after ↦ inl after
    | inr w ↦ absurd (true≢false (sym w ∙ none (get_or node.kids k d)))
  ];
}
