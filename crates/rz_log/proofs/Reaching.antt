-- The steps on which others rest, while they are listed from the last one on.
use Rattle.std.proofs.Common.{◌≡◌, ℕ, zero, suc, ◌<◌, ◌≤◌, Bool, true, false, cond, ◌||◌, List, [], ◌∷◌, Some, length, get_or, All, Contains, slice_get, refl, sym, ap, subst, ◌∙◌, ◌⊎◌, inl, inr, true≢false, arith}
use Rattle.std.specs.Prelude.{IsTrue, ◌↔◌}
use Rattle.std.specs.Ordering.{nat_cmp, eq_by_cmp, is_eq, is_lt}
use Rattle.std.specs.List.{list_any}
use Rattle.std.proofs.lemmas.List.Elements.{All-cons, All-nil, All-contains, Contains-append_cases, Contains-append_right}
use Rattle.std.proofs.lemmas.List.Kept.{AllPairs-cons}
use Rattle.rz_rules.specs.declared.judgments.Line.{Line}
use Rattle.rz_pool.proofs.Orders.{equal_numbers, other_numbers, no_less, among, is_among}
use Rattle.rz_log.specs.Reachable.{IsReachable, Root, Premise, IsRising}

-- the first step that is listed, or one that is greater than all
abbrev pub bound : List Line → List ℕ → ℕ
bound lines listed = get_or listed 0 (length lines)

-- some steps are listed, and others wait, which are less than all of those
pub record IsListing (lines : List Line) (roots : List ℕ) (waits : ℕ → Bool) (listed : List ℕ) : Type 0 where
  pub waiting : (q : ℕ) → IsTrue (waits q) → (q < length lines) × IsReachable lines roots q × All (λ s. q < s) listed
  pub wanted : (q : ℕ) → Contains roots q → Contains listed q ⊎ IsTrue (waits q)
  pub reached : All (IsReachable lines roots) listed
  pub settled : (q p : ℕ) (line : Line) → Contains listed q → slice_get lines q ≡ Some line → Contains line.from p → Contains listed p ⊎ IsTrue (waits p)
  pub rising : IsRising listed

get_or_any : (ks : List ℕ) (i d e : ℕ) → i < length ks → get_or ks i d ≡ get_or ks i e
get_or_any [] i d e l = absurd (omega arith)
get_or_any (k ∷ ks) zero d e l = refl
get_or_any (k ∷ ks) (suc i) d e l = get_or_any ks i d e (omega arith)

pub listing_start : (lines : List Line) (roots : List ℕ) (waits : ℕ → Bool) → All (λ root. root < length lines) roots
    → ((q : ℕ) → IsTrue (waits q) ↔ Contains roots q) → IsListing lines roots waits []
listing_start lines roots waits live is = record {
  waiting = λ q here.
      let root = (is q).0 here in
      (All-contains (λ r. r < length lines) roots q live root, Root root, All-nil (λ s. q < s));
  wanted = λ q root. inr ((is q).1 root);
  reached = All-nil (IsReachable lines roots);
  settled = λ q p line listed. absurd (omega (arith, listed.1));
  rising = λ i j d before within. absurd (omega arith);
}

pub below_bound : (lines : List Line) (q : ℕ) (listed : List ℕ) → q < length lines → All (λ s. q < s) listed → q < bound lines listed
below_bound lines q [] l below = l
below_bound lines q (s ∷ listed) l below = below 0 0 (omega arith)

or_cases : (a b : Bool) → IsTrue (a || b) → IsTrue a ⊎ IsTrue b
or_cases true b h = inl refl
or_cases false b h = inr h

or_left : (a b : Bool) → IsTrue a → IsTrue (a || b)
or_left true b h = refl
or_left false b h = absurd (true≢false (sym h))

or_right : (a b : Bool) → IsTrue b → IsTrue (a || b)
or_right true b h = refl
or_right false b h = h

-- a number is among others where one of them compares as equal to it
pub listed_iff : (steps : List ℕ) (q : ℕ) → IsTrue (list_any (eq_by_cmp nat_cmp q) steps) ↔ Contains steps q
listed_iff steps q = (
  λ any. let found = among steps q any in (found.0, found.1, get_or_any steps found.0 q 0 found.1 ∙ found.2),
  λ there. subst (λ (n : ℕ). IsTrue (list_any (eq_by_cmp nat_cmp n) steps)) there.2 (is_among steps there.0 q there.1),
)

pub joined : (more left : Bool) (steps : List ℕ) (q : ℕ) → more ≡ (left || list_any (eq_by_cmp nat_cmp q) steps) → IsTrue more ↔ (IsTrue left ⊎ Contains steps q)
joined more left steps q e = (
  λ h. elim (or_cases left (list_any (eq_by_cmp nat_cmp q) steps) (sym e ∙ h)) [ inl l ↦ inl l | inr r ↦ inr ((listed_iff steps q).0 r) ],
  λ h. elim h [
    | inl l ↦ e ∙ or_left left (list_any (eq_by_cmp nat_cmp q) steps) l
    | inr r ↦ e ∙ or_right left (list_any (eq_by_cmp nat_cmp q) steps) ((listed_iff steps q).1 r)
  ],
)

-- one step more is listed, the last that waited, and its premises wait
module _ (lines : List Line) (roots : List ℕ) (waits : ℕ → Bool) (listed : List ℕ) (listing : IsListing lines roots waits listed)
    (step : ℕ) (line : Line) (here : IsTrue (waits step)) (at : slice_get lines step ≡ Some line) (earlier : All (λ premise. premise < step) line.from)
    (left more : ℕ → Bool)
    (greatest : (q : ℕ) → waits q ≡ true → is_lt (nat_cmp step q) ≡ false)
    (gone : (q : ℕ) → left q ≡ cond (is_eq (nat_cmp step q)) false (waits q))
    (sum : (q : ℕ) → more q ≡ (left q || list_any (eq_by_cmp nat_cmp q) line.from)) where
  all : (q : ℕ) → IsTrue (more q) ↔ (IsTrue (left q) ⊎ Contains line.from q)
  all q = joined (more q) (left q) line.from q (sum q)

  first : Contains (step ∷ listed) step
  first = (0, omega arith, refl)

  later : (q : ℕ) → Contains listed q → Contains (step ∷ listed) q
  later q among = Contains-append_right (step ∷ []) listed q among

  among_cases : (q : ℕ) → Contains (step ∷ listed) q → (step ≡ q) ⊎ Contains listed q
  among_cases q among =
      elim (Contains-append_cases (step ∷ []) listed q among) [
        | inl one ↦ inl (All-contains (λ s. step ≡ s) (step ∷ []) q (All-cons (λ s. step ≡ s) step [] refl (All-nil (λ s. step ≡ s))) one)
        | inr others ↦ inr others
      ]

  -- what waited is listed now or waits still
  stays : (q : ℕ) → IsTrue (waits q) → Contains (step ∷ listed) q ⊎ IsTrue (more q)
  stays q waited = by (is_eq (nat_cmp step q)) refl where
    by : (b : Bool) → is_eq (nat_cmp step q) ≡ b → Contains (step ∷ listed) q ⊎ IsTrue (more q)
    by true e = inl (subst (Contains (step ∷ listed)) (equal_numbers step q e) first)
    by false e = inr ((all q).1 (inl (gone q ∙ (ap (λ (b : Bool). cond b false (waits q)) e ∙ waited))))

  -- what is left has waited, and is less
  left_before : (q : ℕ) → IsTrue (left q) → IsTrue (waits q) × (q < step)
  left_before q here' = by (is_eq (nat_cmp step q)) refl where
    by : (b : Bool) → is_eq (nat_cmp step q) ≡ b → IsTrue (waits q) × (q < step)
    by true e = absurd (true≢false (sym here' ∙ (gone q ∙ ap (λ (b : Bool). cond b false (waits q)) e)))
    by false e =
        let waited : IsTrue (waits q) = sym (ap (λ (b : Bool). cond b false (waits q)) e) ∙ (sym (gone q) ∙ here') in
        let below : q ≤ step = no_less step q (greatest q waited) in
        let other : step ≡ q → ⊥ = other_numbers step q e in
        (waited, omega arith)

  less : (q : ℕ) → q < step → All (λ s. q < s) listed → All (λ s. q < s) (step ∷ listed)
  less q below others = All-cons (λ s. q < s) step listed below others

  below_all : All (λ s. step < s) listed
  below_all = (listing.waiting step here).2

  waiting : (q : ℕ) → IsTrue (more q) → (q < length lines) × IsReachable lines roots q × All (λ s. q < s) (step ∷ listed)
  waiting q h =
      elim ((all q).0 h) [
        | inl kept ↦
            let before = left_before q kept in
            let known = listing.waiting q before.0 in
            (known.0, known.1, less q before.1 known.2)
        | inr premise ↦
            let low : q < step = All-contains (λ p. p < step) line.from q earlier premise in
            let known = listing.waiting step here in (
              omega (arith, low, known.0),
              Premise known.1 at premise,
              less q low (λ k d l. omega (arith, low, below_all k d l)),
            )
      ]

  pub listing_push : IsListing lines roots more (step ∷ listed)
  listing_push = record {
    waiting = waiting;
    wanted = λ q root. elim (listing.wanted q root) [ inl among ↦ inl (later q among) | inr waited ↦ stays q waited ];
    reached = All-cons (IsReachable lines roots) step listed (listing.waiting step here).1 listing.reached;
    settled = λ q p other among at_q premise. elim (among_cases q among) [
      | inl same ↦
          let one : Some line ≡ Some other = sym at ∙ (ap (slice_get lines) same ∙ at_q) in
          let is : line ≡ other = cc in
          inr ((all p).1 (inr (subst (λ (l : Line). Contains l.from p) (sym is) premise)))
      | inr before ↦ elim (listing.settled q p other before at_q premise) [ inl known ↦ inl (later p known) | inr waited ↦ stays p waited ]
    ];
    rising = AllPairs-cons (λ before after. before < after) step listed below_all listing.rising;
  }

-- nothing waits any more
module _ (lines : List Line) (roots : List ℕ) (waits : ℕ → Bool) (listed : List ℕ) (listing : IsListing lines roots waits listed)
    (none : (q : ℕ) → IsTrue (waits q) → ⊥) where
  complete : (step : ℕ) → IsReachable lines roots step → Contains listed step
  complete step (Root root) = elim (listing.wanted step root) [ inl among ↦ among | inr waited ↦ absurd (none step waited) ]
  complete step (Premise {step = from} {line = line} reached at premise) =
      elim (listing.settled from step line (complete from reached) at premise) [ inl among ↦ among | inr waited ↦ absurd (none step waited) ]

  pub listing_end : (step : ℕ) → Contains listed step ↔ IsReachable lines roots step
  listing_end step = (λ among. All-contains (IsReachable lines roots) listed step listing.reached among, complete step)
