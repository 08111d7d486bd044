-- A text and its first line.
use Rattle.std.proofs.Common.{◌≡◌, ◌≢◌, ℕ, suc, ◌+◌, ◌<◌, false, cond, List, [], ◌∷◌, ◌++◌, length, take, drop, get_or, eqb, Option, Some, None, inl, inr, refl, sym, ap, ◌∙◌, append_assoc, arith}
use Rattle.std.proofs.lemmas.Bool.Decides.{eqb_tells}
use Rattle.std.proofs.lemmas.List.{length-append, length-take, length-drop, take_at, drop_at, take-append-drop}
use Rattle.std.proofs.lemmas.Str.Pattern.{NoCharPasses-char, drop_at_char}
use Rattle.std.specs.List.{onto_first}
use Rattle.std.specs.Str.Pattern.{EndsAtFirstMatch, FindsChar}
use Rattle.rz_literate.specs.declared.fence.Fence.{Fence}
use Rattle.rz_literate.specs.Code.{full_lines, blank, is_code_line, fence_after, code_lines}

-- a text without a line feed
abbrev Lacks : List ℕ → Type 0
Lacks text = (k : ℕ) → k < length text → get_or text k 0 ≢ 10

lacks_head : (b : ℕ) (text : List ℕ) → Lacks (b ∷ text) → eqb b 10 ≡ false
lacks_head b text lacks = elim (eqb_tells b 10) [ inl same ↦ absurd (lacks 0 (omega arith) same.1) | inr other ↦ other.0 ]

lacks_tail : (b : ℕ) (text : List ℕ) → Lacks (b ∷ text) → Lacks text
lacks_tail b text lacks = λ k h. lacks (suc k) (omega arith)

-- it is one line, if it is not empty
last_line : (b : ℕ) (text : List ℕ) → Lacks (b ∷ text) → full_lines (b ∷ text) ≡ (b ∷ text) ∷ []
last_line b [] lacks = rw (lacks_head b [] lacks)
last_line b (c ∷ text) lacks = rw (lacks_head b (c ∷ text) lacks) (ap (onto_first b) (last_line c text (lacks_tail b (c ∷ text) lacks)))

only_line : (text : List ℕ) → 0 < length text → Lacks text → full_lines text ≡ text ∷ []
only_line [] some lacks = absurd (omega arith)
only_line (b ∷ text) some lacks = last_line b text lacks

-- before a line feed it is the first line, with the line feed
line_before : (front rest : List ℕ) → Lacks front → full_lines (front ++ 10 ∷ rest) ≡ (front ++ 10 ∷ []) ∷ full_lines rest
line_before [] rest lacks = refl
line_before (b ∷ front) rest lacks = rw (lacks_head b front lacks) (ap (onto_first b) (line_before front rest (lacks_tail b front lacks)))

no_rest : (rest : List ℕ) → length rest ≡ 0 → rest ≡ []
no_rest [] none = refl
no_rest (b ∷ rest) none = absurd (omega arith)

-- two parts of a text are two parts of the same lengths
same_front : (a b c d : List ℕ) → a ++ b ≡ c ++ d → length a ≡ length c → a ≡ c
same_front a b c d e n = sym (take_at a b (length a) refl) ∙ ap (take (length a)) e ∙ take_at c d (length a) (sym n)

same_back : (a b c d : List ℕ) → a ++ b ≡ c ++ d → length a ≡ length c → b ≡ d
same_back a b c d e n = sym (drop_at a b (length a) refl) ∙ ap (drop (length a)) e ∙ drop_at c d (length a) (sym n)

-- the part up to the end of the first line feed is the first line
pub first_line : (text line rest : List ℕ) → text ≡ line ++ rest → EndsAtFirstMatch (FindsChar 10) text line → full_lines text ≡ line ∷ full_lines rest
first_line text line rest parts (None, finds, ends) =
    let none : length rest ≡ 0 = omega (arith, length-append line rest, ap length parts, ap length ends.0) in
    let lines : full_lines text ≡ text ∷ [] = only_line text ends.1 (λ k h. NoCharPasses-char 10 text k finds (omega arith) h) in
    let after : full_lines rest ≡ [] = ap full_lines (no_rest rest none) in
    lines ∙ (rw (ends.0, after))
first_line text line rest parts (Some q, finds, ends) =
    let front = take q.0 text in
    let split : drop q.0 text ≡ 10 ∷ drop q.1 text = drop_at_char 10 text q.0 q.1 finds.1 (omega arith) in
    let whole : text ≡ front ++ 10 ∷ drop q.1 text = sym (take-append-drop q.0 text) ∙ ap (λ r. front ++ r) split in
    let one : q.1 ≡ q.0 + 1 = finds.1.ends in
    let within : q.0 < length text = omega (arith, length-drop q.0 text, ap length split) in
    let front_length : length front ≡ q.0 = omega (arith, length-take q.0 text) in
    let lacks : Lacks front = λ k h. NoCharPasses-char 10 front k finds.0 (omega arith) h in
    let taken : line ≡ take q.1 text = ends (omega arith) in
    let line_length : length line ≡ length (front ++ 10 ∷ []) = omega (arith, ap length taken, length-take q.1 text, length-append front (10 ∷ [])) in
    let regrouped : line ++ rest ≡ (front ++ 10 ∷ []) ++ drop q.1 text = sym parts ∙ whole ∙ sym (append_assoc front (10 ∷ []) (drop q.1 text)) in
    let line_is : line ≡ front ++ 10 ∷ [] = same_front line rest (front ++ 10 ∷ []) (drop q.1 text) regrouped line_length in
    let rest_is : rest ≡ drop q.1 text = same_back line rest (front ++ 10 ∷ []) (drop q.1 text) regrouped line_length in
    ap full_lines whole ∙ line_before front (drop q.1 text) lacks ∙ sym (rw (line_is, rest_is) refl)

-- once its first line is written, what is left of a text is the text that is left
pub writes_on : (fence after : Option Fence) (out new text line rest whole : List ℕ) → new ≡ out ++ cond (is_code_line fence line) line (blank line) → after ≡ fence_after fence line
    → full_lines text ≡ line ∷ full_lines rest → out ++ code_lines fence (full_lines text) ≡ whole → new ++ code_lines after (full_lines rest) ≡ whole
writes_on fence after out new text line rest whole written then lines so_far =
    let step : out ++ code_lines fence (line ∷ full_lines rest) ≡ whole = ap (λ ls. out ++ code_lines fence ls) (sym lines) ∙ so_far in
    rw (written, then, append_assoc) step
