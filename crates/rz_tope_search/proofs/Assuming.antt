-- What is known once parts are taken apart.
use Rattle.std.proofs.Common.{◌≡◌, ℕ, zero, suc, ◌-◌, ◌<◌, ◌≤◌, ◌≢◌, Bool, true, ◌⊎◌, inl, inr, List, length, Option, Some, All, subst, ◌∙◌, arith}
use Rattle.std.specs.Prelude.{slice_get}
use Rattle.std.proofs.lemmas.Option.{slice_get-get_or}
use Rattle.std.proofs.lemmas.Bool.Decides.{eqb_tells}
use Rattle.rz_tope_proof.specs.declared.parts.Form.{Form}
use Rattle.rz_tope_proof.specs.declared.parts.Form.TheVariants as form
use Rattle.rz_tope_proof.specs.declared.parts.Part.{Part}
use Rattle.rz_tope_search.specs.declared.branches.Branch.{Branch}
use Rattle.rz_tope_search.specs.declared.branches.Waiting.{Waiting}
use Rattle.rz_tope_search.specs.declared.table.Table.{Table}
use Rattle.rz_tope_proof.specs.Order.{Order, IsWithin}
use Rattle.rz_tope_search.specs.Table.{order_of}
use Rattle.rz_tope_proof.specs.Part.{value_over, part_at, IsMadeOf, AreParts}
use Rattle.rz_tope_search.specs.Branch.{IsModel, IsTrueWaiting, Refines, IsDone, is_joint, first_of, second_of, has_step}
use Rattle.rz_tope_search.specs.Asked.{AsksFor}
use Rattle.rz_tope_search.proofs.RankOrders.{both, and_true}

-- a conjunction is true where both its parts are, and these stand before it
pub joint-value : (le : Order) (v : ℕ → Bool) (f : Form) → is_joint f ≡ true → v (first_of f) ≡ true → v (second_of f) ≡ true → value_over le v f ≡ true
joint-value le v (form.And a b) h vi vj = and_true (v a) (v b) vi vj
joint-value le v (form.EqualPairs of a b pairs) h vi vj = and_true (v a) (v b) vi vj
joint-value le v (form.Or a b) h vi vj = cc
joint-value le v (form.AtMost a b) h vi vj = cc
joint-value le v (form.Equal a b) h vi vj = cc
joint-value le v form.Top h vi vj = cc
joint-value le v form.Bottom h vi vj = cc
joint-value le v form.Same h vi vj = cc
joint-value le v form.OnePoint h vi vj = cc

pub joint-before : (k count : ℕ) (f : Form) → is_joint f ≡ true → IsMadeOf k count f → (first_of f < k) × (second_of f < k)
joint-before k count (form.And a b) h made = made
joint-before k count (form.EqualPairs of a b pairs) h made = made
joint-before k count (form.Or a b) h made = cc
joint-before k count (form.AtMost a b) h made = cc
joint-before k count (form.Equal a b) h made = cc
joint-before k count form.Top h made = cc
joint-before k count form.Bottom h made = cc
joint-before k count form.Same h made = cc
joint-before k count form.OnePoint h made = cc

-- what a form is made of stands before each later number
pub IsMadeOf-later : (k m count : ℕ) (f : Form) → k ≤ m → IsMadeOf k count f → IsMadeOf m count f
IsMadeOf-later k m count (form.And a b) le made = (omega (arith, le, made.0), omega (arith, le, made.1))
IsMadeOf-later k m count (form.EqualPairs of a b pairs) le made = (omega (arith, le, made.0), omega (arith, le, made.1))
IsMadeOf-later k m count (form.Or a b) le made = (omega (arith, le, made.0), omega (arith, le, made.1))
IsMadeOf-later k m count (form.AtMost a b) le made = made
IsMadeOf-later k m count (form.Equal a b) le made = made
IsMadeOf-later k m count form.Top le made = made
IsMadeOf-later k m count form.Bottom le made = made
IsMadeOf-later k m count form.Same le made = made
IsMadeOf-later k m count form.OnePoint le made = made

-- the form of a part
pub made-at : (count : ℕ) (parts : List Part) → AreParts count parts → (k : ℕ) → k < length parts → IsMadeOf k count (part_at parts k).form
made-at count parts made k there = made k (part_at parts k) (slice_get-get_or parts k _ there)

-- what is accounted for stays so
pub IsDone-later : (count : ℕ) (parts : List Part) (old new : Branch) (steps more : List (Option ℕ)) (f : Form)
    → ((k : ℕ) → has_step steps k ≡ true → has_step more k ≡ true) → Refines count parts new old
    → IsDone count parts old steps f → IsDone count parts new more f
IsDone-later count parts old new steps more f kept refines done = record {
  kids = λ h. (kept (first_of f) (done.kids h).0, kept (second_of f) (done.kids h).1);
  others = λ h le value model. done.others h le value (refines le value model);
}

module _ (count : ℕ) (parts : List Part) (made : AreParts count parts) (branch : Branch) (steps : List (Option ℕ))
    (done : (k : ℕ) → has_step steps k ≡ true → IsDone count parts branch steps (part_at parts k).form)
    (le : Order) (value : ℕ → Bool) (model : IsModel count parts branch le value) where
  done-before : (n k : ℕ) → k < n → k < length parts → has_step steps k ≡ true → value k ≡ true
  done-before zero k lt there h = absurd (omega arith)
  done-before (suc n) k lt there h =
      let at : slice_get parts k ≡ Some (part_at parts k) = slice_get-get_or parts k _ there in
      let f : Form = (part_at parts k).form in
      let here = done k h in
      model.values k (part_at parts k) at ∙ elim (both (is_joint f)) [
        | inl joint ↦
            let before = joint-before k count f joint (made k (part_at parts k) at) in
            let known = here.kids joint in
            joint-value le value f joint
            (done-before n (first_of f) (omega (arith, before.0, lt)) (omega (arith, before.0, there)) known.0)
            (done-before n (second_of f) (omega (arith, before.1, lt)) (omega (arith, before.1, there)) known.1)
        | inr atom ↦ here.others atom le value model
      ]

  -- each part that was inferred is true in each model
  pub done-true : (k : ℕ) → k < length parts → has_step steps k ≡ true → value k ≡ true
  done-true k there h = done-before (suc k) k (omega arith) there h

-- from one less on is there, or from here on
pub here_or_later : (n k : ℕ) → 0 < n → n - 1 ≤ k → (k ≡ n - 1) ⊎ (n ≤ k)
here_or_later n k some le = elim (eqb_tells k (n - 1)) [
  | inl same ↦ inl same.1
  | inr other ↦ let ne : k ≢ n - 1 = other.1 in inr (omega (arith, some, le, ne))
]

-- what is asked for stays so
pub AsksFor-later : (holds asked more : ℕ → Bool) (f : Form) → ((k : ℕ) → asked k ≡ true → more k ≡ true) → AsksFor holds asked f → AsksFor holds more f
AsksFor-later holds asked more (form.And a b) kept h = (kept a h.0, kept b h.1)
AsksFor-later holds asked more (form.EqualPairs of a b pairs) kept h = (kept a h.0, kept b h.1)
AsksFor-later holds asked more (form.Or a b) kept h = elim h [
  | inl l ↦ inl (l.0, kept a l.1)
  | inr r ↦ elim r [ inl m ↦ inr (inl (m.0, kept b m.1)) | inr none ↦ inr (inr none) ]
]
AsksFor-later holds asked more (form.AtMost a b) kept h = tt
AsksFor-later holds asked more (form.Equal a b) kept h = tt
AsksFor-later holds asked more form.Top kept h = tt
AsksFor-later holds asked more form.Bottom kept h = tt
AsksFor-later holds asked more form.Same kept h = tt
AsksFor-later holds asked more form.OnePoint kept h = tt

-- branches that know the same have the same models
pub IsModel-same : (count : ℕ) (parts : List Part) (old new : Branch) → new.table ≡ old.table → new.waiting.items ≡ old.waiting.items
    → Refines count parts new old
IsModel-same count parts old new table waiting le value model = record {
  order = model.order;
  apart = model.apart;
  values = model.values;
  within = subst (λ (t : Table). IsWithin count (order_of t) le) table model.within;
  waiting = subst (λ (ws : List Waiting). All (IsTrueWaiting value) ws) waiting model.waiting;
}
