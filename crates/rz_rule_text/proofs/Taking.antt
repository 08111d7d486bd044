-- Trees taken off a stack.
use Rattle.std.proofs.Common.{◌≡◌, ℕ, zero, suc, ◌+◌, ◌<◌, ◌≤◌, ◌&&◌, Bool, true, false, List, [], ◌∷◌, ◌++◌, Some, None, Option, length, get_or, take, drop, map, Contains, refl, sym, ap, ◌∙◌, arith, add-one}
use Rattle.std.specs.Bool.{OnTrue, OnFalse}
use Rattle.std.proofs.lemmas.List.{take_more, map-append, length_push}
use Rattle.std.proofs.lemmas.List.Elements.{Contains-append_left, Contains-append_right}
use Rattle.rz_rule_text.specs.Spelling.{Keeps, first_of}

-- so many trees were taken
pub record IsTaken (ids : List (Option ℕ)) (i : ℕ) (left : List (Option ℕ)) (kids : List ℕ) (known : Bool) : Type 0 where
  pub rest : left ≡ drop i ids
  pub few : length kids ≤ i
  pub all : known ≡ true → take i ids ≡ map (λ (id : ℕ). Some id) kids
  pub lost : known ≡ false → Contains (take i ids) None

first-drop : (ids : List (Option ℕ)) (i : ℕ) → first_of (drop i ids) ≡ get_or ids i None
first-drop [] zero = refl
first-drop [] (suc i) = refl
first-drop (id ∷ ids) zero = refl
first-drop (id ∷ ids) (suc i) = first-drop ids i

drop-drop : (ids : List (Option ℕ)) (i : ℕ) → drop 1 (drop i ids) ≡ drop (i + 1) ids
drop-drop ids i = rw add-one (behind ids i) where
  behind : (ids : List (Option ℕ)) (i : ℕ) → drop 1 (drop i ids) ≡ drop (suc i) ids
  behind [] zero = refl
  behind [] (suc i) = refl
  behind (id ∷ []) zero = refl
  behind (id ∷ other ∷ ids) zero = refl
  behind (id ∷ ids) (suc i) = behind ids i

pub taken_more : (ids : List (Option ℕ)) (i : ℕ) (left : List (Option ℕ)) (kids new : List ℕ) (known kept : Bool) (tree : Option ℕ) → i < length ids → tree ≡ first_of left
    → OnTrue kept (Keeps kids tree new) → OnFalse kept ((tree ≡ None) × (new ≡ kids)) → IsTaken ids i left kids known → IsTaken ids (i + 1) (drop 1 left) new (known && kept)
taken_more ids i left kids new known true tree low first keeps loses h = record {
  rest = ap (drop 1) h.rest ∙ drop-drop ids i;
  few = omega (arith, h.few, ap length keeps.kept, length_push kids keeps.id);
  all = λ e. grown (both_true known e);
  lost = λ e. rw (take_more ids i None low) (Contains-append_left (take i ids) (get_or ids i None ∷ []) None (h.lost (both_false known e)));
} where
  both_true : (b : Bool) → (b && true) ≡ true → b ≡ true
  both_true true e = refl
  both_true false e = absurd cc

  both_false : (b : Bool) → (b && true) ≡ false → b ≡ false
  both_false true e = absurd cc
  both_false false e = refl

  grown : known ≡ true → take (i + 1) ids ≡ map (λ (id : ℕ). Some id) new
  grown e =
      take_more ids i None low ∙ (λ j. h.all e j ++ (sym (first-drop ids i) ∙ ap first_of (sym h.rest) ∙ sym first ∙ keeps.is) j ∷ [])
      ∙ sym (map-append (λ (id : ℕ). Some id) kids (keeps.id ∷ [])) ∙ ap (map (λ (id : ℕ). Some id)) (sym keeps.kept)
taken_more ids i left kids new known false tree low first keeps loses h = record {
  rest = ap (drop 1) h.rest ∙ drop-drop ids i;
  few = omega (arith, h.few, ap length loses.1);
  all = λ e. absurd (never known e);
  lost = λ e. rw (take_more ids i None low) (Contains-append_right (take i ids) (get_or ids i None ∷ []) None
      (zero, omega arith, sym (first-drop ids i) ∙ ap first_of (sym h.rest) ∙ sym first ∙ loses.0));
} where
  never : (b : Bool) → (b && false) ≡ true → ⊥
  never true e = cc
  never false e = cc
