-- The letters of a text by their numbers, while the text is read from its end, and the ids that take their places.
use Rattle.std.proofs.Common.{◌≡◌, ℕ, ◌<◌, if◌then◌else◌, Bool, true, List, [], ◌∷◌, ◌++◌, Option, Some, None, length, get_or, map, sym, ap, ◌∙◌, append_assoc, inl, inr, arith}
use Rattle.std.specs.Prelude.{nat_lt, option_and_then}
use Rattle.std.proofs.lemmas.Bool.Decides.{eqb_tells, nat_tests}
use Rattle.std.specs.List.{range_with_len}
use Rattle.std.proofs.lemmas.List.{append-nil, ext_get_or, get_or-set_same, get_or-set_other, length-set}
use Rattle.std.proofs.lemmas.List.FromFn.{get_or-map-range_with_len, length-map-range_with_len}
use Rattle.std.proofs.Math.ListN.{set}
use Rattle.rz_rules.specs.declared.kinds.Sort.{Sort}
use Rattle.rz_rules.specs.declared.symbols.Letter.{Letter}
use Rattle.rz_rules.specs.declared.symbols.Symbol.{Symbol}
use Rattle.rz_rules.specs.declared.symbols.Symbol.TheVariants as symbol
use Rattle.rz_rules.specs.declared.symbols.TheConstants.{LETTERS}
use Rattle.rz_rules.specs.Text.{IsText, Mark, marks_of, with_mark}
use Rattle.rz_rule_text.proofs.Putting.{if_some}
use Rattle.rz_rule_text.proofs.Whole.{marks_behind}
use Rattle.rz_lemmas.specs.Letters.{slots, sort_of_letter}

-- ---- the letters of the end of a text

pub record IsSorting (text left : List Symbol) (sorts : List (Option Sort)) : Type 0 where
  pub behind : List Symbol
  pub split : text ≡ left ++ behind
  pub sorts_are : sorts ≡ slots behind

pub sorting_start : (text : List Symbol) (sorts : List (Option Sort)) → sorts ≡ slots [] → IsSorting text text sorts
sorting_start text sorts e = record { behind = []; split = sym (append-nil text); sorts_are = e }

pub below : (a b : ℕ) → nat_lt a b ≡ true → a < b
below a b e = grind (arith, nat_tests)

-- a letter's number is one of a letter
pub letter_is_one : (text left behind : List Symbol) (letter : Letter) → IsText text → text ≡ left ++ symbol.Letter letter ∷ behind → letter.number < LETTERS
letter_is_one text left behind letter is split =
    let inner = marks_behind left (symbol.Letter letter ∷ behind) [] (ap marks_of (sym split) ∙ is) in
    has_low (marks_of behind) inner.0 inner.1
  where
    low : (marks new : List Mark) → with_mark (symbol.Letter letter) marks ≡ Some new → letter.number < LETTERS
    low marks new e =
        let test : nat_lt letter.number LETTERS ≡ true = (if_some (nat_lt letter.number LETTERS) (record { sort = letter.sort; plain = true } ∷ marks) new e).0 in
        below letter.number LETTERS test

    has_low : (behind' : Option (List Mark)) (new : List Mark) → option_and_then (with_mark (symbol.Letter letter)) behind' ≡ Some new → letter.number < LETTERS
    has_low None new e = absurd cc
    has_low (Some marks) new e = low marks new e

abbrev some_slots : ℕ → List Symbol → List (Option Sort)
some_slots count text = map (sort_of_letter text) (range_with_len 0 count)

at_slot : (count : ℕ) (text : List Symbol) (i : ℕ) → i < count → get_or (some_slots count text) i None ≡ sort_of_letter text i
at_slot count text i low = get_or-map-range_with_len (sort_of_letter text) 0 count i i None low (omega arith)

slots_with : (count : ℕ) (behind : List Symbol) (letter : Letter) → letter.number < count
    → some_slots count (symbol.Letter letter ∷ behind) ≡ set (some_slots count behind) letter.number (Some letter.sort)
slots_with count behind letter low =
    ext_get_or None (some_slots count (symbol.Letter letter ∷ behind)) (set (some_slots count behind) letter.number (Some letter.sort))
    (length-map-range_with_len (sort_of_letter (symbol.Letter letter ∷ behind)) 0 count ∙ sym (length-set (some_slots count behind) letter.number (Some letter.sort) ∙ long))
    (λ i within. each i (omega (arith, within, length-map-range_with_len (sort_of_letter (symbol.Letter letter ∷ behind)) 0 count)))
  where
    long : length (some_slots count behind) ≡ count
    long = length-map-range_with_len (sort_of_letter behind) 0 count

    each : (i : ℕ) → i < count → get_or (some_slots count (symbol.Letter letter ∷ behind)) i None ≡ get_or (set (some_slots count behind) letter.number (Some letter.sort)) i None
    each i within =
        at_slot count (symbol.Letter letter ∷ behind) i within
        ∙ elim (eqb_tells letter.number i) [
          | inl same ↦
              ap (λ (b : Bool). if b then Some letter.sort else sort_of_letter behind i) same.0
              ∙ sym (ap (λ (n : ℕ). get_or (set (some_slots count behind) letter.number (Some letter.sort)) n None) (sym same.1)
              ∙ get_or-set_same (some_slots count behind) letter.number (Some letter.sort) None (omega (arith, long)))
          | inr other ↦
              ap (λ (b : Bool). if b then Some letter.sort else sort_of_letter behind i) other.0
              ∙ sym (get_or-set_other (some_slots count behind) letter.number i (Some letter.sort) None (λ e. other.1 (sym e)) ∙ at_slot count behind i within)
        ]

pub at_letter : (text : List Symbol) (number : ℕ) → number < LETTERS → get_or (slots text) number None ≡ sort_of_letter text number
at_letter text number low = at_slot LETTERS text number low

pub slots_letter : (behind : List Symbol) (letter : Letter) → letter.number < LETTERS
    → slots (symbol.Letter letter ∷ behind) ≡ set (slots behind) letter.number (Some letter.sort)
slots_letter behind letter low = slots_with LETTERS behind letter low

pub sorting_letter : (text left : List Symbol) (letter : Letter) (sorts : List (Option Sort)) → IsText text
    → (h : IsSorting text (left ++ symbol.Letter letter ∷ []) sorts) → IsSorting text left (set sorts letter.number (Some letter.sort))
sorting_letter text left letter sorts is h =
    let split = h.split ∙ append_assoc left (symbol.Letter letter ∷ []) h.behind in
    record {
      behind = symbol.Letter letter ∷ h.behind;
      split = split;
      sorts_are = ap (λ (s : List (Option Sort)). set s letter.number (Some letter.sort)) h.sorts_are
          ∙ sym (slots_letter h.behind letter (letter_is_one text left h.behind letter is split));
    }

-- a symbol that is no letter
abbrev pub IsNoLetter : Symbol → Type 0
IsNoLetter symbol = (behind : List Symbol) → slots (symbol ∷ behind) ≡ slots behind

pub sorting_other : (text left : List Symbol) (symbol : Symbol) (sorts : List (Option Sort)) → IsNoLetter symbol
    → IsSorting text (left ++ symbol ∷ []) sorts → IsSorting text left sorts
sorting_other text left symbol sorts other h = record {
  behind = symbol ∷ h.behind;
  split = h.split ∙ append_assoc left (symbol ∷ []) h.behind;
  sorts_are = h.sorts_are ∙ sym (other h.behind);
}

pub sorting_end : (text : List Symbol) (sorts : List (Option Sort)) → IsSorting text [] sorts → sorts ≡ slots text
sorting_end text sorts h = h.sorts_are ∙ ap slots (sym h.split)
