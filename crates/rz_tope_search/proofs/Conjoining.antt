-- The parts of a conjunction, and the ranks of the places.
use Rattle.std.proofs.Common.{◌≡◌, ℕ, ◌+◌, ◌&&◌, Bool, true, false, inl, inr, List, [], ◌∷◌, ◌++◌, length, sym, ap, ◌∙◌, arith}
use Rattle.std.proofs.lemmas.Bool.{true≢false}
use Rattle.rz_rules.specs.declared.coordinates.Coord.{Coord}
use Rattle.rz_rules.specs.Validity.{RankList}
use Rattle.rz_tope_proof.specs.declared.parts.Form.{Form}
use Rattle.rz_tope_proof.specs.declared.parts.Form.TheVariants as form
use Rattle.rz_tope_proof.specs.declared.parts.Part.{Part}
use Rattle.rz_tope_search.specs.declared.branches.Branch.{Branch}
use Rattle.rz_tope_search.specs.declared.table.Table.{Table}
use Rattle.rz_tope_proof.specs.Order.{Order, rank, by_rank}
use Rattle.rz_tope_proof.specs.Part.{value_over}
use Rattle.rz_tope_search.specs.Branch.{is_joint, first_of, second_of}
use Rattle.rz_tope_search.specs.Conjunct.{MarksKids, IsKid, Follows}
use Rattle.rz_tope_search.specs.Search.{IsRefuted}
use Rattle.rz_tope_proof.specs.Ranks.{ranks_from}
use Rattle.rz_tope_search.specs.Table.{order_of}
use Rattle.rz_tope_search.proofs.RankOrders.{false_by, and_left, and_right}

-- what is marked of a conjunction stays so
pub MarksKids-later : (marked more : ℕ → Bool) (f : Form) → ((k : ℕ) → marked k ≡ true → more k ≡ true) → MarksKids marked f → MarksKids more f
MarksKids-later marked more (form.And a b) kept h = (kept a h.0, kept b h.1)
MarksKids-later marked more (form.EqualPairs of a b pairs) kept h = (kept a h.0, kept b h.1)
MarksKids-later marked more (form.Or a b) kept h = tt
MarksKids-later marked more (form.AtMost a b) kept h = tt
MarksKids-later marked more (form.Equal a b) kept h = tt
MarksKids-later marked more form.Top kept h = tt
MarksKids-later marked more form.Bottom kept h = tt
MarksKids-later marked more form.Same kept h = tt
MarksKids-later marked more form.OnePoint kept h = tt

pub marks-joint : (marked : ℕ → Bool) (f : Form) → MarksKids marked f → is_joint f ≡ true → (marked (first_of f) ≡ true) × (marked (second_of f) ≡ true)
marks-joint marked (form.And a b) h joint = h
marks-joint marked (form.EqualPairs of a b pairs) h joint = h
marks-joint marked (form.Or a b) h joint = cc
marks-joint marked (form.AtMost a b) h joint = cc
marks-joint marked (form.Equal a b) h joint = cc
marks-joint marked form.Top h joint = cc
marks-joint marked form.Bottom h joint = cc
marks-joint marked form.Same h joint = cc
marks-joint marked form.OnePoint h joint = cc

-- where one part of a conjunction isn't true, the conjunction isn't
pub kid-false : (le : Order) (v : ℕ → Bool) (f : Form) (k : ℕ) → IsKid f k → v k ≡ false → value_over le v f ≡ false
kid-false le v (form.And a b) k kid h = elim kid [
  | inl l ↦ false_by (v a && v b) (λ g. true≢false (sym (and_left (v a) (v b) g) ∙ ap v (sym l) ∙ h))
  | inr r ↦ false_by (v a && v b) (λ g. true≢false (sym (and_right (v a) (v b) g) ∙ ap v (sym r) ∙ h))
]
kid-false le v (form.EqualPairs of a b pairs) k kid h = elim kid [
  | inl l ↦ false_by (v a && v b) (λ g. true≢false (sym (and_left (v a) (v b) g) ∙ ap v (sym l) ∙ h))
  | inr r ↦ false_by (v a && v b) (λ g. true≢false (sym (and_right (v a) (v b) g) ∙ ap v (sym r) ∙ h))
]
kid-false le v (form.Or a b) k kid h = absurd kid
kid-false le v (form.AtMost a b) k kid h = absurd kid
kid-false le v (form.Equal a b) k kid h = absurd kid
kid-false le v form.Top k kid h = absurd kid
kid-false le v form.Bottom k kid h = absurd kid
kid-false le v form.Same k kid h = absurd kid
kid-false le v form.OnePoint k kid h = absurd kid

-- ranks that refute a part refute what follows the part
pub refutes-whole : (count : ℕ) (parts : List Part) (root : Branch) (whole part : ℕ) (table : Table) → Follows parts whole part
    → IsRefuted count parts root part table → IsRefuted count parts root whole table
refutes-whole count parts root whole part table follow refuted = record {
  order = refuted.order;
  apart = refuted.apart;
  model = refuted.model;
  refutes = λ value values. follow (by_rank (rank count (order_of table))) value values (refuted.refutes value values);
}

-- a coordinate more
pub ranks_from-next : (r : ℕ → ℕ) (place : ℕ) (xs : List Coord) (x : Coord)
    → ranks_from r place (xs ++ x ∷ []) ≡ ranks_from r place xs ++ (x, r (place + length xs)) ∷ []
ranks_from-next r place [] x = ap (λ (n : ℕ). let pair : Coord × ℕ = (x, r n) in pair ∷ []) (omega arith)
ranks_from-next r place (y ∷ ys) x =
    let pair : Coord × ℕ = (y, r place) in
    ap (λ (rest : RankList). pair ∷ rest)
    (ranks_from-next r (place + 1) ys x
    ∙ ap (λ (n : ℕ). let last : Coord × ℕ = (x, r n) in ranks_from r (place + 1) ys ++ last ∷ []) (omega arith))
