-- Ids and those below them, while they are listed from the last one on.
use Rattle.std.proofs.Common.{◌≡◌, ℕ, zero, suc, ◌<◌, ◌≤◌, Bool, true, false, cond, ◌||◌, List, [], ◌∷◌, Some, length, get_or, All, Contains, slice_get, refl, sym, ap, subst, ◌∙◌, ◌⊎◌, inl, inr, true≢false, arith}
use Rattle.std.specs.Prelude.{IsTrue, ◌↔◌}
use Rattle.std.specs.Ordering.{nat_cmp, eq_by_cmp, is_eq, is_lt}
use Rattle.std.specs.List.{list_any}
use Rattle.std.proofs.lemmas.List.Elements.{All-cons, All-nil, All-contains, Contains-append_cases, Contains-append_right}
use Rattle.std.proofs.lemmas.List.Kept.{AllPairs-cons}
use Rattle.rz_rules.specs.declared.nodes.Node.{Node}
use Rattle.rz_pool.proofs.Orders.{equal_numbers, other_numbers, no_less, among, is_among}
use Rattle.rz_log.specs.Reachable.{IsRising}
use Rattle.rz_export.specs.Needs.{IsNeeded, Named, Kid}

-- the first id that is listed, or one that is greater than all
abbrev pub bound : List Node → List ℕ → ℕ
bound nodes listed = get_or listed 0 (length nodes)

-- some ids are listed, and others wait, which are less than all of those
pub record IsListing (nodes : List Node) (named : List ℕ) (waits : ℕ → Bool) (listed : List ℕ) : Type 0 where
  pub waiting : (q : ℕ) → IsTrue (waits q) → (q < length nodes) × IsNeeded nodes named q × All (λ s. q < s) listed
  pub wanted : (q : ℕ) → Contains named q → Contains listed q ⊎ IsTrue (waits q)
  pub reached : All (IsNeeded nodes named) listed
  pub settled : (q p : ℕ) (node : Node) → Contains listed q → slice_get nodes q ≡ Some node → Contains node.kids p → Contains listed p ⊎ IsTrue (waits p)
  pub rising : IsRising listed

get_or_any : (ks : List ℕ) (i d e : ℕ) → i < length ks → get_or ks i d ≡ get_or ks i e
get_or_any [] i d e l = absurd (omega arith)
get_or_any (k ∷ ks) zero d e l = refl
get_or_any (k ∷ ks) (suc i) d e l = get_or_any ks i d e (omega arith)

pub listing_start : (nodes : List Node) (named : List ℕ) (waits : ℕ → Bool) → All (λ root. root < length nodes) named
    → ((q : ℕ) → IsTrue (waits q) ↔ Contains named q) → IsListing nodes named waits []
listing_start nodes named waits live is = record {
  waiting = λ q here.
      let root = (is q).0 here in
      (All-contains (λ r. r < length nodes) named q live root, Named root, All-nil (λ s. q < s));
  wanted = λ q root. inr ((is q).1 root);
  reached = All-nil (IsNeeded nodes named);
  settled = λ q p node listed. absurd (omega (arith, listed.1));
  rising = λ i j d before within. absurd (omega arith);
}

pub below_bound : (nodes : List Node) (q : ℕ) (listed : List ℕ) → q < length nodes → All (λ s. q < s) listed → q < bound nodes listed
below_bound nodes q [] l below = l
below_bound nodes q (s ∷ listed) l below = below 0 0 (omega arith)

or_cases : (a b : Bool) → IsTrue (a || b) → IsTrue a ⊎ IsTrue b
or_cases true b h = inl refl
or_cases false b h = inr h

or_left : (a b : Bool) → IsTrue a → IsTrue (a || b)
or_left true b h = refl
or_left false b h = absurd (true≢false (sym h))

or_right : (a b : Bool) → IsTrue b → IsTrue (a || b)
or_right true b h = refl
or_right false b h = h

-- a number is among others where one of them compares as equal to it
pub listed_iff : (ids : List ℕ) (q : ℕ) → IsTrue (list_any (eq_by_cmp nat_cmp q) ids) ↔ Contains ids q
listed_iff ids q = (
  λ any. let found = among ids q any in (found.0, found.1, get_or_any ids found.0 q 0 found.1 ∙ found.2),
  λ there. subst (λ (n : ℕ). IsTrue (list_any (eq_by_cmp nat_cmp n) ids)) there.2 (is_among ids there.0 q there.1),
)

pub joined : (more left : Bool) (ids : List ℕ) (q : ℕ) → more ≡ (left || list_any (eq_by_cmp nat_cmp q) ids) → IsTrue more ↔ (IsTrue left ⊎ Contains ids q)
joined more left ids q e = (
  λ h. elim (or_cases left (list_any (eq_by_cmp nat_cmp q) ids) (sym e ∙ h)) [ inl l ↦ inl l | inr r ↦ inr ((listed_iff ids q).0 r) ],
  λ h. elim h [
    | inl l ↦ e ∙ or_left left (list_any (eq_by_cmp nat_cmp q) ids) l
    | inr r ↦ e ∙ or_right left (list_any (eq_by_cmp nat_cmp q) ids) ((listed_iff ids q).1 r)
  ],
)

-- one id more is listed, the last that waited, and its kids wait
module _ (nodes : List Node) (named : List ℕ) (waits : ℕ → Bool) (listed : List ℕ) (listing : IsListing nodes named waits listed)
    (id : ℕ) (node : Node) (here : IsTrue (waits id)) (at : slice_get nodes id ≡ Some node) (earlier : All (λ kid. kid < id) node.kids)
    (left more : ℕ → Bool)
    (greatest : (q : ℕ) → waits q ≡ true → is_lt (nat_cmp id q) ≡ false)
    (gone : (q : ℕ) → left q ≡ cond (is_eq (nat_cmp id q)) false (waits q))
    (sum : (q : ℕ) → more q ≡ (left q || list_any (eq_by_cmp nat_cmp q) node.kids)) where
  all : (q : ℕ) → IsTrue (more q) ↔ (IsTrue (left q) ⊎ Contains node.kids q)
  all q = joined (more q) (left q) node.kids q (sum q)

  first : Contains (id ∷ listed) id
  first = (0, omega arith, refl)

  later : (q : ℕ) → Contains listed q → Contains (id ∷ listed) q
  later q among = Contains-append_right (id ∷ []) listed q among

  among_cases : (q : ℕ) → Contains (id ∷ listed) q → (id ≡ q) ⊎ Contains listed q
  among_cases q among =
      elim (Contains-append_cases (id ∷ []) listed q among) [
        | inl one ↦ inl (All-contains (λ s. id ≡ s) (id ∷ []) q (All-cons (λ s. id ≡ s) id [] refl (All-nil (λ s. id ≡ s))) one)
        | inr others ↦ inr others
      ]

  -- what waited is listed now or waits still
  stays : (q : ℕ) → IsTrue (waits q) → Contains (id ∷ listed) q ⊎ IsTrue (more q)
  stays q waited = by (is_eq (nat_cmp id q)) refl where
    by : (b : Bool) → is_eq (nat_cmp id q) ≡ b → Contains (id ∷ listed) q ⊎ IsTrue (more q)
    by true e = inl (subst (Contains (id ∷ listed)) (equal_numbers id q e) first)
    by false e = inr ((all q).1 (inl (gone q ∙ (ap (λ (b : Bool). cond b false (waits q)) e ∙ waited))))

  -- what is left has waited, and is less
  left_before : (q : ℕ) → IsTrue (left q) → IsTrue (waits q) × (q < id)
  left_before q here' = by (is_eq (nat_cmp id q)) refl where
    by : (b : Bool) → is_eq (nat_cmp id q) ≡ b → IsTrue (waits q) × (q < id)
    by true e = absurd (true≢false (sym here' ∙ (gone q ∙ ap (λ (b : Bool). cond b false (waits q)) e)))
    by false e =
        let waited : IsTrue (waits q) = sym (ap (λ (b : Bool). cond b false (waits q)) e) ∙ (sym (gone q) ∙ here') in
        let below : q ≤ id = no_less id q (greatest q waited) in
        let other : id ≡ q → ⊥ = other_numbers id q e in
        (waited, omega arith)

  less : (q : ℕ) → q < id → All (λ s. q < s) listed → All (λ s. q < s) (id ∷ listed)
  less q below others = All-cons (λ s. q < s) id listed below others

  below_all : All (λ s. id < s) listed
  below_all = (listing.waiting id here).2

  waiting : (q : ℕ) → IsTrue (more q) → (q < length nodes) × IsNeeded nodes named q × All (λ s. q < s) (id ∷ listed)
  waiting q h =
      elim ((all q).0 h) [
        | inl kept ↦
            let before = left_before q kept in
            let known = listing.waiting q before.0 in
            (known.0, known.1, less q before.1 known.2)
        | inr kid ↦
            let low : q < id = All-contains (λ p. p < id) node.kids q earlier kid in
            let known = listing.waiting id here in (
              omega (arith, low, known.0),
              Kid known.1 at kid,
              less q low (λ k d l. omega (arith, low, below_all k d l)),
            )
      ]

  pub listing_push : IsListing nodes named more (id ∷ listed)
  listing_push = record {
    waiting = waiting;
    wanted = λ q root. elim (listing.wanted q root) [ inl among ↦ inl (later q among) | inr waited ↦ stays q waited ];
    reached = All-cons (IsNeeded nodes named) id listed (listing.waiting id here).1 listing.reached;
    settled = λ q p other among at_q kid. elim (among_cases q among) [
      | inl same ↦
          let one : Some node ≡ Some other = sym at ∙ (ap (slice_get nodes) same ∙ at_q) in
          let is : node ≡ other = cc in
          inr ((all p).1 (inr (subst (λ (l : Node). Contains l.kids p) (sym is) kid)))
      | inr before ↦ elim (listing.settled q p other before at_q kid) [ inl known ↦ inl (later p known) | inr waited ↦ stays p waited ]
    ];
    rising = AllPairs-cons (λ before after. before < after) id listed below_all listing.rising;
  }

-- nothing waits any more
module _ (nodes : List Node) (named : List ℕ) (waits : ℕ → Bool) (listed : List ℕ) (listing : IsListing nodes named waits listed)
    (none : (q : ℕ) → IsTrue (waits q) → ⊥) where
  complete : (id : ℕ) → IsNeeded nodes named id → Contains listed id
  complete id (Named root) = elim (listing.wanted id root) [ inl among ↦ among | inr waited ↦ absurd (none id waited) ]
  complete id (Kid {id = from} {node = node} reached at kid) =
      elim (listing.settled from id node (complete from reached) at kid) [ inl among ↦ among | inr waited ↦ absurd (none id waited) ]

  pub listing_end : (id : ℕ) → Contains listed id ↔ IsNeeded nodes named id
  listing_end id = (λ among. All-contains (IsNeeded nodes named) listed id listing.reached among, complete id)
