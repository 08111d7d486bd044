-- The longest spelling of a table at the front of a text, one entry after the other.
use Rattle.std.proofs.Common.{◌≡◌, ◌⊎◌, ℕ, ◌+◌, ◌<◌, ◌≤◌, Bool, true, false, cond, List, [], ◌∷◌, ◌++◌, length, get_or, take, Option, Some, None, refl, sym, ap, subst, ◌∙◌, arith, inl, inr}
use Rattle.std.specs.Prelude.{MatchOption, IfSome, IfNone}
use Rattle.std.specs.Option.{option_or}
use Rattle.std.specs.Str.{bytes_eq}
use Rattle.std.specs.Borrow.{Bor}
use Rattle.std.proofs.lemmas.Bool.{false_from_ne_true, cases_eq}
use Rattle.std.proofs.lemmas.List.{length-take-le, map_more}
use Rattle.std.proofs.lemmas.Slice.Eq.{bytes_eq-Decides}
use Rattle.rz_lex.specs.declared.token.Tok.{Tok}
use Rattle.rz_lex.specs.Spelling.{Entry, entries, meaning, IsLongestToken, NoToken}

first_or_later : (b : Bool) (kind : Tok) (pushed others last : Option Tok) → pushed ≡ option_or others last → cond b (Some kind) pushed ≡ option_or (cond b (Some kind) others) last
first_or_later true kind pushed others last e = refl
first_or_later false kind pushed others last e = e

-- what one more entry means
meaning_push : (fixed : List Entry) (entry : Entry) (bytes : List ℕ) → meaning (fixed ++ entry ∷ []) bytes ≡ option_or (meaning fixed bytes) (cond (bytes_eq entry.0 bytes) (Some entry.1) None)
meaning_push [] entry bytes = refl
meaning_push (first ∷ fixed) entry bytes = first_or_later (bytes_eq first.0 bytes) first.1 (meaning (fixed ++ entry ∷ []) bytes) (meaning fixed bytes) (cond (bytes_eq entry.0 bytes) (Some entry.1) None) (meaning_push fixed entry bytes)

-- What the entries so far find: the best so far and its length, or nothing and 0.
pub record BestSoFar (fixed : List Entry) (text : List ℕ) (len : ℕ) (best : Option (ℕ × Tok)) : Type 0 where
  pub found : MatchOption best (len ≡ 0) (λ found. (found.0 ≡ len) × (0 < len) × (len ≤ length text) × (meaning fixed (take len text) ≡ Some found.1))
  pub longest : (other : ℕ) → len < other → other ≤ length text → meaning fixed (take other text) ≡ None

pub best_of_none : (text : List ℕ) → BestSoFar [] text 0 None
best_of_none text = record { found = refl; longest = λ other lt le. refl }

neither : (fixed : List Entry) (entry : Entry) (bytes : List ℕ) → meaning fixed bytes ≡ None → bytes_eq entry.0 bytes ≡ false → meaning (fixed ++ entry ∷ []) bytes ≡ None
neither fixed entry bytes a b = meaning_push fixed entry bytes ∙ rw (a, b) refl

still : (fixed : List Entry) (entry : Entry) (bytes : List ℕ) (kind : Tok) → meaning fixed bytes ≡ Some kind → meaning (fixed ++ entry ∷ []) bytes ≡ Some kind
still fixed entry bytes kind a = meaning_push fixed entry bytes ∙ rw a refl

-- a spelling of another length is none of the text's front
of_other_length : (spelling text : List ℕ) (other : ℕ) → other ≤ length text → (length spelling ≡ other → ⊥) → bytes_eq spelling (take other text) ≡ false
of_other_length spelling text other le ne = false_from_ne_true (bytes_eq spelling (take other text)) (λ e.
    let same : spelling ≡ take other text = (bytes_eq-Decides spelling (take other text)).0 e in
    ne (ap length same ∙ length-take-le other text le))

-- nor is one that the text doesn't begin with
of_no_front : (spelling text : List ℕ) (other : ℕ) → other ≤ length text → bytes_eq spelling (take (length spelling) text) ≡ false → bytes_eq spelling (take other text) ≡ false
of_no_front spelling text other le refused =
    elim (cases_eq (length spelling) other) [
      | inl same ↦ rw (← same) refused
      | inr ne ↦ of_other_length spelling text other le ne
    ]

-- an entry that is longer and stands at the front is the best
pub better : (fixed : List Entry) (entry : Entry) (text : List ℕ) (len : ℕ) (best : Option (ℕ × Tok)) → BestSoFar fixed text len best → len < length entry.0 → length entry.0 ≤ length text → bytes_eq entry.0 (take (length entry.0) text) ≡ true
    → BestSoFar (fixed ++ entry ∷ []) text (length entry.0) (Some (length entry.0, entry.1))
better fixed entry text len best so_far longer within stands = record {
  found = (refl, omega arith, within, meaning_push fixed entry (take (length entry.0) text) ∙ rw (so_far.longest (length entry.0) longer within, stands) refl);
  longest = λ other lt le. neither fixed entry (take other text) (so_far.longest other (omega arith) le) (of_other_length entry.0 text other le (λ e. omega arith));
}

found_still : (fixed : List Entry) (entry : Entry) (text : List ℕ) (len : ℕ) (best : Option (ℕ × Tok)) → MatchOption best (len ≡ 0) (λ found. (found.0 ≡ len) × (0 < len) × (len ≤ length text) × (meaning fixed (take len text) ≡ Some found.1))
    → MatchOption best (len ≡ 0) (λ found. (found.0 ≡ len) × (0 < len) × (len ≤ length text) × (meaning (fixed ++ entry ∷ []) (take len text) ≡ Some found.1))
found_still fixed entry text len None h = h
found_still fixed entry text len (Some found) h = (h.0, h.1, h.2, still fixed entry (take len text) found.1 h.3)

-- another one changes nothing
pub no_better : (fixed : List Entry) (entry : Entry) (text : List ℕ) (len : ℕ) (best : Option (ℕ × Tok)) → BestSoFar fixed text len best → (length entry.0 ≤ len) ⊎ (bytes_eq entry.0 (take (length entry.0) text) ≡ false)
    → BestSoFar (fixed ++ entry ∷ []) text len best
no_better fixed entry text len best so_far (inl short) = record {
  found = found_still fixed entry text len best so_far.found;
  longest = λ other lt le. neither fixed entry (take other text) (so_far.longest other lt le) (of_other_length entry.0 text other le (λ e. omega arith));
}
no_better fixed entry text len best so_far (inr refused) = record {
  found = found_still fixed entry text len best so_far.found;
  longest = λ other lt le. neither fixed entry (take other text) (so_far.longest other lt le) (of_no_front entry.0 text other le refused);
}

pub none_found : (fixed : List Entry) (text : List ℕ) (len : ℕ) (best : Option (ℕ × Tok)) → BestSoFar fixed text len best → IfNone best (NoToken (meaning fixed) text)
none_found fixed text len None h = λ other lt le. h.longest other (omega (arith, h.found)) le
none_found fixed text len (Some found) h = tt

pub some_found : (fixed : List Entry) (text : List ℕ) (len : ℕ) (best : Option (ℕ × Tok)) → BestSoFar fixed text len best → IfSome best (λ found. IsLongestToken (meaning fixed) text found.0 found.1)
some_found fixed text len None h = tt
some_found fixed text len (Some found) h =
    let at_len : IsLongestToken (meaning fixed) text len found.1 = record { some = h.found.1; within = h.found.2; is = h.found.3; longest = h.longest } in
    subst (λ (k : ℕ). IsLongestToken (meaning fixed) text k found.1) (sym h.found.0) at_len

-- one more entry of a table that is lent
pub lent_better : (fixed : List (Bor (List ℕ) × Tok)) (i : ℕ) (d : Bor (List ℕ) × Tok) (spelling text : List ℕ) (len : ℕ) (best : Option (ℕ × Tok)) (b : Bool) → i < length fixed → spelling ≡ (get_or fixed i d).0.now
    → BestSoFar (entries (take i fixed)) text len best → len < length spelling → length spelling ≤ length text → b ≡ bytes_eq spelling (take (length spelling) text) → b ≡ true
    → BestSoFar (entries (take (i + 1) fixed)) text (length spelling) (Some (length spelling, (get_or fixed i d).1))
lent_better fixed i d spelling text len best b lt is so_far longer within says stands =
    let entry : Entry = (spelling, (get_or fixed i d).1) in
    let pushed : entries (take (i + 1) fixed) ≡ entries (take i fixed) ++ entry ∷ [] = map_more (λ (e : Bor (List ℕ) × Tok). (e.0.now, e.1)) fixed i d lt ∙ ap (λ (s : List ℕ). entries (take i fixed) ++ (s, (get_or fixed i d).1) ∷ []) (sym is) in
    rw pushed (better (entries (take i fixed)) entry text len best so_far longer within (sym says ∙ stands))

pub lent_no_better : (fixed : List (Bor (List ℕ) × Tok)) (i : ℕ) (d : Bor (List ℕ) × Tok) (spelling text : List ℕ) (len : ℕ) (best : Option (ℕ × Tok)) → i < length fixed → spelling ≡ (get_or fixed i d).0.now
    → BestSoFar (entries (take i fixed)) text len best → (length spelling ≤ len) ⊎ (bytes_eq spelling (take (length spelling) text) ≡ false)
    → BestSoFar (entries (take (i + 1) fixed)) text len best
lent_no_better fixed i d spelling text len best lt is so_far why =
    let entry : Entry = (spelling, (get_or fixed i d).1) in
    let pushed : entries (take (i + 1) fixed) ≡ entries (take i fixed) ++ entry ∷ [] = map_more (λ (e : Bor (List ℕ) × Tok). (e.0.now, e.1)) fixed i d lt ∙ ap (λ (s : List ℕ). entries (take i fixed) ++ (s, (get_or fixed i d).1) ∷ []) (sym is) in
    rw pushed (no_better (entries (take i fixed)) entry text len best so_far why)
