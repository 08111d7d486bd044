-- The leaves of a search.
use Rattle.std.proofs.Common.{◌≡◌, ℕ, ◌+◌, ◌<◌, ◌≤◌, Bool, true, false, inl, inr, List, [], ◌∷◌, ◌++◌, length, get_or, Option, None, All, sym, ap, ◌∙◌, arith}
use Rattle.std.specs.Prelude.{is_some}
use Rattle.std.proofs.lemmas.Bool.{true≢false, leb-true}
use Rattle.rz_tope_proof.specs.declared.parts.Form.{Form}
use Rattle.rz_tope_proof.specs.declared.parts.Form.TheVariants as form
use Rattle.rz_tope_proof.specs.declared.parts.Part.{Part}
use Rattle.rz_tope_search.specs.declared.statuses.Status.{Status}
use Rattle.rz_tope_search.specs.declared.branches.Branch.{Branch}
use Rattle.rz_tope_search.specs.declared.branches.Waiting.{Waiting}
use Rattle.rz_tope_proof.specs.Order.{Order, rank, by_rank}
use Rattle.rz_tope_proof.specs.Part.{value_over, AreParts, IsMadeOf}
use Rattle.rz_tope_search.specs.Status.{holds_in, decided_in, AreStatuses}
use Rattle.rz_tope_search.specs.Asked.{AsksFor}
use Rattle.rz_tope_search.specs.Table.{order_of}
use Rattle.rz_tope_search.specs.Branch.{IsBranch, IsTrueWaiting, has_step}
use Rattle.rz_tope_search.specs.Search.{IsRefuted}
use Rattle.std.proofs.Math.ListN.{get_or-append}
use Rattle.std.proofs.Math.Seq.{get_or-append_seam}
use Rattle.rz_tope_search.proofs.RankOrders.{last_or_before, false_by, and_true, and_left, and_right, by_rank-within, by_rank-decided, by_rank-order, rank-zero, rank-one}
use Rattle.rz_tope_search.proofs.Values.{or_left, or_right, or_cases, values-within, values-decided}

-- Where the ends are apart, a side of each disjunction that waits holds, and the part is decided and doesn't hold, the
-- ranks of the table refute it.
pub leaf : (count : ℕ) (parts : List Part) (branch : Branch) (goal : ℕ) (list : List Status) → 1 < count → AreParts count parts
    → IsBranch count parts branch → AreStatuses (order_of branch.table) parts list → order_of branch.table 1 0 ≡ false
    → All (IsTrueWaiting (holds_in list)) branch.waiting.items → goal < length parts
    → decided_in list goal ≡ true → holds_in list goal ≡ false → IsRefuted count parts branch goal branch.table
leaf count parts branch goal list two made known statuses apart waiting there decided fails =
    let le : Order = order_of branch.table in
    let more : Order = by_rank (rank count le) in
    record {
      order = known.order;
      apart = apart;
      model = λ value values. record {
        order = by_rank-order count le two known.order;
        apart = false_by (more 1 0) (λ h.
            let most : rank count le 1 ≤ rank count le 0 = leb-true (rank count le 1) (rank count le 0) h in
            let one = rank-one count le two known.order in
            let low = rank-zero count le two known.order apart in
            absurd (omega (arith, most, one, low, two)));
        values = values;
        within = by_rank-within count le two known.order;
        waiting = λ k d lt.
            let w : Waiting = get_or branch.waiting.items k d in
            let sides = known.waiting k d lt in
            elim (or_cases (holds_in list w.sides.0) (holds_in list w.sides.1) (waiting k d lt)) [
              | inl h ↦ or_left (value w.sides.0) (value w.sides.1)
                  (values-within count le more (by_rank-within count le two known.order) (holds_in list) value parts made statuses.values values w.sides.0 sides.0 h)
              | inr h ↦ or_right (value w.sides.0) (value w.sides.1)
                  (values-within count le more (by_rank-within count le two known.order) (holds_in list) value parts made statuses.values values w.sides.1 sides.1 h)
            ];
      };
      refutes = λ value values. false_by (value goal) (λ h. true≢false (sym
          (values-decided count le more (by_rank-decided count le two known.order) (holds_in list) value (decided_in list) parts made
          statuses.values values statuses.decided goal there decided h) ∙ fails));
    }

-- ---- inferring what is asked for

-- A form that holds follows from the parts that it asks for, where those that hold are inferred.
pub asked-value : (count k : ℕ) (le : Order) (holds asked has : ℕ → Bool) (f : Form) → IsMadeOf k count f → AsksFor holds asked f
    → ((j : ℕ) → j < k → asked j ≡ true → holds j ≡ true → has j ≡ true)
    → value_over le holds f ≡ true → value_over le has f ≡ true
asked-value count k le holds asked has (form.And a b) made asks inferred h =
    and_true (has a) (has b) (inferred a made.0 asks.0 (and_left (holds a) (holds b) h)) (inferred b made.1 asks.1 (and_right (holds a) (holds b) h))
asked-value count k le holds asked has (form.EqualPairs of a b pairs) made asks inferred h =
    and_true (has a) (has b) (inferred a made.0 asks.0 (and_left (holds a) (holds b) h)) (inferred b made.1 asks.1 (and_right (holds a) (holds b) h))
asked-value count k le holds asked has (form.Or a b) made asks inferred h = elim asks [
  | inl l ↦ or_left (has a) (has b) (inferred a made.0 l.1 l.0)
  | inr r ↦ elim r [
    | inl m ↦ or_right (has a) (has b) (inferred b made.1 m.1 m.0)
    | inr none ↦ elim (or_cases (holds a) (holds b) h) [
      | inl x ↦ absurd (true≢false (sym x ∙ none.0))
      | inr y ↦ absurd (true≢false (sym y ∙ none.1))
    ]
  ]
]
asked-value count k le holds asked has (form.AtMost a b) made asks inferred h = h
asked-value count k le holds asked has (form.Equal a b) made asks inferred h = h
asked-value count k le holds asked has form.Top made asks inferred h = h
asked-value count k le holds asked has form.Bottom made asks inferred h = h
asked-value count k le holds asked has form.Same made asks inferred h = h
asked-value count k le holds asked has form.OnePoint made asks inferred h = h

-- an inference more
pub has-next : (steps : List (Option ℕ)) (step : Option ℕ) (i : ℕ) (asked holds : ℕ → Bool) → length steps ≡ i
    → ((k : ℕ) → k < i → asked k ≡ true → holds k ≡ true → has_step steps k ≡ true)
    → (asked i ≡ true → holds i ≡ true → is_some step ≡ true)
    → (k : ℕ) → k < i + 1 → asked k ≡ true → holds k ≡ true → has_step (steps ++ step ∷ []) k ≡ true
has-next steps step i asked holds all before here k lt a h =
    let none : Option ℕ = None in
    elim (last_or_before i k (omega (arith, lt))) [
      | inl same ↦
          ap (λ (o : Option ℕ). is_some o) (ap (λ m. get_or (steps ++ step ∷ []) m none) (same ∙ sym all) ∙ get_or-append_seam steps step [] none)
          ∙ here (ap asked (sym same) ∙ a) (ap holds (sym same) ∙ h)
      | inr less ↦
          ap (λ (o : Option ℕ). is_some o) (get_or-append steps (step ∷ []) none k (omega (arith, less, all)))
          ∙ before k less a h
    ]
