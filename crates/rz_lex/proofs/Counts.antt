-- The line feeds and the characters of one more byte of the text.
use Rattle.std.proofs.Common.{◌≡◌, ℕ, ◌+◌, ◌<◌, ◌≤◌, Bool, true, false, cond, not, List, [], ◌∷◌, ◌++◌, length, get_or, take, refl, sym, ap, ◌∙◌, arith}
use Rattle.std.specs.Prelude.{reverse}
use Rattle.std.specs.List.{take_while, count_by, prefix_len}
use Rattle.std.proofs.lemmas.List.{take_more, reverse-append, length-take, length-reverse}
use Rattle.std.proofs.lemmas.List.Sums.{sum_by_push, sum_by-cons, take_while-cons, count_by-le-length}
use Rattle.rz_lex.specs.Pieces.{is_not_line_feed}
use Rattle.rz_lex.specs.declared.place.Place.{Place}
use Rattle.rz_lex.specs.Text.{is_line_feed, begins_character, line_feeds, characters}
use Rattle.rz_lex.specs.Places.{IsPlaceOf}

line_feeds_push : (before : List ℕ) (byte : ℕ) → line_feeds (before ++ byte ∷ []) ≡ line_feeds before + cond (is_line_feed byte) 1 0
unfolding line_feeds
line_feeds_push before byte = sum_by_push (λ b. cond (is_line_feed b) 1 0) before byte

counted : (feed begins : Bool) (line : List ℕ) (byte : ℕ) → begins_character byte ≡ begins → count_by begins_character (cond (not feed) (byte ∷ line) []) ≡ cond feed 0 (count_by begins_character line + cond begins 1 0)
counted true begins line byte e = refl
counted false begins line byte e = sum_by-cons (λ b. cond (begins_character b) 1 0) byte line ∙ rw e (omega arith)

characters_push : (before : List ℕ) (byte : ℕ) → characters (before ++ byte ∷ []) ≡ cond (is_line_feed byte) 0 (characters before + cond (begins_character byte) 1 0)
unfolding characters
characters_push before byte =
    ap (λ (line : List ℕ). count_by begins_character (take_while is_not_line_feed line)) (reverse-append before (byte ∷ []))
    ∙ ap (λ (line : List ℕ). count_by begins_character line) (take_while-cons is_not_line_feed byte (reverse before))
    ∙ counted (is_line_feed byte) (begins_character byte) (take_while is_not_line_feed (reverse before)) byte refl

line_feeds_below : (before : List ℕ) → line_feeds before ≤ length before
unfolding line_feeds
line_feeds_below before = count_by-le-length is_line_feed before

characters_below : (before : List ℕ) → characters before ≤ length before
unfolding characters
characters_below before = omega (arith, count_by-le-length begins_character (take_while is_not_line_feed (reverse before)), length-take (prefix_len is_not_line_feed (reverse before)) (reverse before), length-reverse before)

-- the counts are at most the place
pub counts_below : (text : List ℕ) (place : Place) → IsPlaceOf text place → (place.line_feeds ≤ place.at) × (place.characters ≤ place.at)
counts_below text place h =
    (omega (arith, line_feeds_below (take place.at text), length-take place.at text, h.line_feeds_are), omega (arith, characters_below (take place.at text), length-take place.at text, h.characters_are))

-- the place behind one more byte
pub next_place : (text : List ℕ) (place next : Place) (i : ℕ) → IsPlaceOf text place → place.at ≡ i → i < length text → next.at ≡ place.at + 1
    → next.line_feeds ≡ place.line_feeds + cond (is_line_feed (get_or text i 0)) 1 0
    → next.characters ≡ cond (is_line_feed (get_or text i 0)) 0 (place.characters + cond (begins_character (get_or text i 0)) 1 0) → IsPlaceOf text next
next_place text place next i h at lt next_at feeds chars =
    let here : next.at ≡ i + 1 = omega arith in
    let pushed : take next.at text ≡ take i text ++ get_or text i 0 ∷ [] = ap (λ (n : ℕ). take n text) here ∙ take_more text i 0 lt in
    let feeds_before : place.line_feeds ≡ line_feeds (take i text) = h.line_feeds_are ∙ ap (λ (n : ℕ). line_feeds (take n text)) at in
    let chars_before : place.characters ≡ characters (take i text) = h.characters_are ∙ ap (λ (n : ℕ). characters (take n text)) at in
    record {
      within = omega arith;
      line_feeds_are = feeds ∙ ap (λ (n : ℕ). n + cond (is_line_feed (get_or text i 0)) 1 0) feeds_before ∙ sym (ap line_feeds pushed ∙ line_feeds_push (take i text) (get_or text i 0));
      characters_are = chars ∙ ap (λ (n : ℕ). cond (is_line_feed (get_or text i 0)) 0 (n + cond (begins_character (get_or text i 0)) 1 0)) chars_before ∙ sym (ap characters pushed ∙ characters_push (take i text) (get_or text i 0));
    }

pub starts : (text : List ℕ) (place : Place) → place.at ≡ 0 → place.line_feeds ≡ 0 → place.characters ≡ 0 → IsPlaceOf text place
unfolding line_feeds characters
starts text place at feeds chars = record {
  within = omega arith;
  line_feeds_are = feeds ∙ ap (λ (n : ℕ). line_feeds (take n text)) (sym at);
  characters_are = chars ∙ ap (λ (n : ℕ). characters (take n text)) (sym at);
}
