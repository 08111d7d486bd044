-- An inference that doesn't lead to an assumption is proved without it.
use Rattle.std.proofs.Common.{◌≡◌, ◌≢◌, ℕ, zero, suc, ◌<◌, ◌≤◌, ◌⊎◌, inl, inr, Bool, true, false, List, [], ◌∷◌, ◌++◌, length, take, Some, refl, sym, ap, ◌∙◌, subst, arith}
use Rattle.std.specs.Prelude.{slice_get, Contains, ◌==◌, ◌||◌}
use Rattle.std.proofs.lemmas.Bool.{eq-eqb, true≢false}
use Rattle.std.proofs.lemmas.Bool.Decides.{eqb_tells}
use Rattle.std.proofs.lemmas.List.{take-append-le}
use Rattle.std.proofs.Math.ListN.{get_or-append}
use Rattle.std.proofs.Math.Seq.{get_or-append_seam}
use Rattle.std.proofs.Common.{length-append, get_or}
use Rattle.std.proofs.lemmas.Option.{get_or_from_slice_get, slice_get-get_or}
use Rattle.rz_rules.specs.declared.nodes.Node.{Node}
use Rattle.rz_rules.specs.Tree.{Tree}
use Rattle.rz_tope_proof.specs.declared.proof.Claim.TheVariants as claim
use Rattle.rz_tope_proof.specs.declared.proof.Reason.TheVariants as reason
use Rattle.rz_tope_proof.specs.declared.proof.Reason.{Reason}
use Rattle.rz_tope_proof.specs.declared.proof.Inference.{Inference}
use Rattle.rz_tope_proof.specs.Proving.{Proves, ByHypothesis, ByAssumption, ByAxiom, ByOne, ByTwo, ByCases, IsInference}
use Rattle.rz_tope_proof.specs.Leading.{is_marked, leads_by, AreMarks}

or_first : (a b : Bool) → (a || b) ≡ false → a ≡ false
or_first true b h = h
or_first false b h = refl

or_second : (a b : Bool) → (a || b) ≡ false → b ≡ false
or_second true b h = cc
or_second false b h = h

-- marks of earlier ones
marked-take : (marks : List Bool) (i j : ℕ) → j < i → is_marked (take i marks) j ≡ is_marked marks j
marked-take [] zero j lt = absurd (omega arith)
marked-take [] (suc i) j lt = refl
marked-take (m ∷ marks) zero j lt = absurd (omega arith)
marked-take (m ∷ marks) (suc i) zero lt = refl
marked-take (m ∷ marks) (suc i) (suc j) lt = marked-take marks i j (omega arith)

there-within : {X : Type 0} (xs : List X) (i : ℕ) (x : X) → slice_get xs i ≡ Some x → i < length xs
there-within [] i x e = absurd cc
there-within (y ∷ xs) zero x e = omega arith
there-within (y ∷ xs) (suc i) x e = let rest = there-within xs i x e in omega (arith, rest)

-- what a list contains behind its first item
pub Contains-rest : {X : Type 0} (xs : List X) (x y : X) → Contains xs y → Contains (x ∷ xs) y
Contains-rest xs x y (k, lt, is) = (suc k, omega (arith, lt), is)

pub Contains-first : {X : Type 0} (xs : List X) (x : X) → Contains (x ∷ xs) x
Contains-first xs x = (0, omega arith, refl)

pub first_or_rest : (xs : List ℕ) (x y : ℕ) → Contains (x ∷ xs) y → (y ≡ x) ⊎ Contains xs y
first_or_rest xs x y (zero, lt, is) = inl (sym is)
first_or_rest xs x y (suc k, lt, is) = inr (k, omega (arith, lt), is)

module _ (nodes : List Node) (context : Tree) (all : List Inference) (marks : List Bool) (leaf : ℕ)
    (full : length marks ≡ length all) (are : AreMarks all leaf marks) where
  -- of an inference that isn't marked, no premise is, and it isn't the assumption
  apart : (i : ℕ) (why : Reason) (tope : Tree) → IsInference nodes context all i why tope → is_marked marks i ≡ false
      → (i == leaf || leads_by (take i marks) why) ≡ false
  apart i why tope is h = sym (are i (record { claim = is.claim; reason = why }) is.there
      (let lt = there-within all i (record { claim = is.claim; reason = why }) is.there in omega (arith, lt, full))) ∙ h

  -- what is kept besides one assumption more
  keeps-behind : (x : ℕ) (assumed less : List ℕ) → ((a : ℕ) → Contains assumed a → a ≢ leaf → Contains less a)
      → (a : ℕ) → Contains (x ∷ assumed) a → a ≢ leaf → Contains (x ∷ less) a
  keeps-behind x assumed less keeps a has ne = elim (first_or_rest assumed x a has) [
    | inl same ↦ subst (Contains (x ∷ less)) (sym same) (Contains-first less x)
    | inr rest ↦ Contains-rest less x a (keeps a rest ne)
  ]

  earlier : (i j : ℕ) → j < i → is_marked (take i marks) j ≡ false → is_marked marks j ≡ false
  earlier i j lt h = sym (marked-take marks i j lt) ∙ h

  pub proves-without : {assumed : List ℕ} {i : ℕ} {tope : Tree} → Proves nodes context all assumed i tope → is_marked marks i ≡ false
      → (less : List ℕ) → ((a : ℕ) → Contains assumed a → a ≢ leaf → Contains less a) → Proves nodes context all less i tope
  proves-without (ByHypothesis number is given) h less keeps = ByHypothesis number is given
  proves-without {i = i} (ByAssumption is within) h less keeps =
      ByAssumption is (keeps i within (λ same. true≢false (sym (eq-eqb i leaf same) ∙ or_first (i == leaf) _ (apart _ _ _ is h))))
  proves-without (ByAxiom by is infers) h less keeps = ByAxiom by is infers
  proves-without {i = i} (ByOne by j p is lt infers first) h less keeps =
      let no = or_second (i == leaf) _ (apart _ _ _ is h) in
      ByOne by j p is lt infers (proves-without first (earlier i j lt no) less keeps)
  proves-without {i = i} (ByTwo by j k p q is lj lk infers first second) h less keeps =
      let no = or_second (i == leaf) _ (apart _ _ _ is h) in
      ByTwo by j k p q is lj lk infers
      (proves-without first (earlier i j lj (or_first (is_marked (take i marks) j) _ no)) less keeps)
      (proves-without second (earlier i k lk (or_second (is_marked (take i marks) j) _ no)) less keeps)
  proves-without {i = i} (ByCases cover one other p q is lc lo lt left_is right_is covers first second) h less keeps =
      let no = or_second (i == leaf) _ (apart _ _ _ is h) in
      let front = or_first (is_marked (take i marks) cover || is_marked (take i marks) one.1) _ no in
      let back = or_second (is_marked (take i marks) cover || is_marked (take i marks) one.1) _ no in
      ByCases cover one other p q is lc lo lt left_is right_is
      (proves-without covers (earlier i cover lc (or_first (is_marked (take i marks) cover) _ front)) less keeps)
      (proves-without first (earlier i one.1 lo (or_second (is_marked (take i marks) cover) _ front)) (one.0 ∷ less)
      (keeps-behind one.0 _ less keeps))
      (proves-without second (earlier i other.1 lt back) (other.0 ∷ less)
      (keeps-behind other.0 _ less keeps))

take-whole : (marks more : List Bool) → take (length marks) (marks ++ more) ≡ marks
take-whole [] more = refl
take-whole (m ∷ marks) more = ap (λ ms. m ∷ ms) (take-whole marks more)

-- a mark more
pub marks-next : (all : List Inference) (leaf i : ℕ) (marks : List Bool) (found : Bool) → length marks ≡ i → AreMarks all leaf marks
    → ((step : Inference) → slice_get all i ≡ Some step → found ≡ (i == leaf || leads_by marks step.reason))
    → AreMarks all leaf (marks ++ found ∷ [])
marks-next all leaf i marks found full are here k step at lt = elim (eqb_tells k i) [
  | inl same ↦
      ap (is_marked (marks ++ found ∷ [])) (same.1 ∙ sym full) ∙ get_or-append_seam marks found [] false
      ∙ here step (ap (slice_get all) (sym same.1) ∙ at)
      ∙ ap (λ n. n == leaf || leads_by marks step.reason) (sym same.1)
      ∙ ap (λ ms. k == leaf || leads_by ms step.reason) (sym (ap (λ n. take n (marks ++ found ∷ [])) (same.1 ∙ sym full) ∙ take-whole marks (found ∷ [])))
  | inr apart ↦
      let ne : k ≢ i = apart.1 in
      let less : k < length marks = omega (arith, ne, lt, full, length-append marks (found ∷ [])) in
      get_or-append marks (found ∷ []) false k less ∙ are k step at less
      ∙ ap (λ ms. k == leaf || leads_by ms step.reason) (sym (take-append-le k marks (found ∷ []) (omega (arith, less))))
]

-- what an item says of marks
pub leads_by-at : (found : Bool) (ms leads : List Bool) (all : List Inference) (i : ℕ) (step d : Inference) → slice_get all i ≡ Some step → ms ≡ leads
    → found ≡ leads_by ms (get_or all i d).reason → found ≡ leads_by leads step.reason
leads_by-at found ms leads all i step d at same is = is ∙ (λ j. leads_by (same j) (get_or_from_slice_get all i step d at j).reason)

-- ---- one way to mark

take-all : (marks : List Bool) (n : ℕ) → length marks ≡ n → take n marks ≡ marks
take-all [] zero full = refl
take-all [] (suc n) full = refl
take-all (m ∷ marks) zero full = absurd (omega (arith, full))
take-all (m ∷ marks) (suc n) full = ap (λ ms. m ∷ ms) (take-all marks n (omega (arith, full)))

take-same : (marks other : List Bool) (n : ℕ) → n ≤ length marks → n ≤ length other
    → ((j : ℕ) → j < n → is_marked marks j ≡ is_marked other j) → take n marks ≡ take n other
take-same [] [] zero a b same = refl
take-same [] [] (suc n) a b same = refl
take-same [] (o ∷ other) zero a b same = refl
take-same [] (o ∷ other) (suc n) a b same = absurd (omega (arith, a))
take-same (m ∷ marks) [] zero a b same = refl
take-same (m ∷ marks) [] (suc n) a b same = absurd (omega (arith, b))
take-same (m ∷ marks) (o ∷ other) zero a b same = refl
take-same (m ∷ marks) (o ∷ other) (suc n) a b same =
    let rest = take-same marks other n (omega (arith, a)) (omega (arith, b)) (λ j lt. same (suc j) (omega (arith, lt))) in
    λ i. same 0 (omega arith) i ∷ rest i

module _ (all : List Inference) (leaf : ℕ) (marks other : List Bool) (full : length marks ≡ length all) (whole : length other ≡ length all)
    (are : AreMarks all leaf marks) (so_are : AreMarks all leaf other) where
  same-below : (n i : ℕ) → i < n → i < length all → is_marked marks i ≡ is_marked other i
  same-below zero i lt there = absurd (omega arith)
  same-below (suc n) i lt there =
      let none : Inference = record { claim = claim.Bottom; reason = reason.Assumption } in
      let step = get_or all i none in
      let at : slice_get all i ≡ Some step = slice_get-get_or all i none there in
      let before = take-same marks other i (omega (arith, full, there)) (omega (arith, whole, there))
      (λ j less. same-below n j (omega (arith, less, lt)) (omega (arith, less, there))) in
      are i step at (omega (arith, full, there))
      ∙ ap (λ (ms : List Bool). i == leaf || leads_by ms step.reason) before
      ∙ sym (so_are i step at (omega (arith, whole, there)))

  pub marks-same : marks ≡ other
  marks-same =
      let n = length all in
      sym (take-all marks n full)
      ∙ take-same marks other n (omega (arith, full)) (omega (arith, whole)) (λ j lt. same-below n j lt lt)
      ∙ take-all other n whole
