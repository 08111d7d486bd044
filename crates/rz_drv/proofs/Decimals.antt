-- Numbers as words: what is read is written so, and what is written is read again.
use Rattle.std.proofs.Common.{◌≡◌, ◌≢◌, ℕ, zero, suc, ◌<◌, ◌^◌, List, [], ◌∷◌, length, get_or, map, All, Some, Result, Ok, Err, sym, ap, ◌∙◌, arith}
use Rattle.std.specs.Prelude.{IfSome}
use Rattle.std.specs.Borrow.{Bor}
use Rattle.std.specs.Result.{result_ok}
use Rattle.std.specs.Fmt.{decimal}
use Rattle.std.specs.Int.{IsInRange}
use Rattle.std.specs.Str.Parse.{digits_value, ParsesUnsigned}
use Rattle.std.proofs.lemmas.Str.Parse.{IsNumeralModel, numerals_by_value, tells_by_index, parse_plain}
use Rattle.std.proofs.lemmas.Fmt.{digits_decimal, decimal_nonempty, first_decimal, decimal_digit, decimal-digits_value, parse-decimal}
use Rattle.std.proofs.lemmas.List.Elements.{All-tail}
use Rattle.rz_drv.specs.Numeral.{IsNumeralWord}

-- digits, place by place
abbrev pub AreDigits : List ℕ → Type 0
AreDigits ds = (i : ℕ) → i < length ds → IsInRange 48 57 (get_or ds i 0)

own : IsNumeralModel AreDigits (digits_value 10)
own = numerals_by_value AreDigits tells_by_index

decimal_plain : (n : ℕ) → n < 2 ^ 64 → get_or (decimal n) 0 0 ≡ 48 → length (decimal n) ≡ 1
decimal_plain zero small zeroed = ap length (decimal_digit 0 (omega arith))
decimal_plain (suc n) small zeroed = absurd (omega (arith, first_decimal (suc n) (omega arith) small))

-- what is written is decimal digits without leading zeros
pub IsNumeralWord-decimal : (n : ℕ) → n < 2 ^ 64 → IsNumeralWord (decimal n)
IsNumeralWord-decimal n small = record {
  digits = digits_decimal own n small;
  some = decimal_nonempty n small;
  plain = decimal_plain n small;
}

-- what is read is written so
read_back : (word : List ℕ) (x : ℕ) → IsNumeralWord word → digits_value 10 word < 2 ^ 64 → x ≡ digits_value 10 word → decimal x ≡ word
read_back word x numeral small is = ap decimal is ∙ decimal-digits_value own word numeral.digits numeral.some numeral.plain small

pub decimal_parsed : {E : Type 0} (word : List ℕ) (parsed : Result ℕ E) → IsNumeralWord word → ParsesUnsigned 64 10 word parsed → IfSome (result_ok parsed) (λ n. decimal n ≡ word)
decimal_parsed {E} word (Ok x) numeral told =
    let first = numeral.digits 0 numeral.some in
    let plain : get_or word 0 0 ≢ 43 = omega arith in
    let read = parse_plain own {E = E} 64 word (Ok x) told plain in
    read_back word x numeral read.0.2 read.1
decimal_parsed word (Err e) numeral told = tt

-- what is written is read again
pub parsed_decimal : {E : Type 0} (word : List ℕ) (parsed : Result ℕ E) → ParsesUnsigned 64 10 word parsed → (n : ℕ) → n < 2 ^ 64 → decimal n ≡ word → result_ok parsed ≡ Some n
parsed_decimal word parsed told n small is = ap result_ok (parse-decimal 64 n word parsed small small (sym is) told)

-- a word that stands nowhere
abbrev pub no_word : Bor (List ℕ)
no_word = record { ref_ptr = (0, 0); now = [] }

-- words of which one is no number are no numbers
pub none_spelled : (words : List (Bor (List ℕ))) (i : ℕ) → i < length words → ((n : ℕ) → n < 2 ^ 64 → decimal n ≡ (get_or words i no_word).now → ⊥)
    → (ns : List ℕ) → All (λ n. n < 2 ^ 64) ns → map decimal ns ≢ map (λ w. w.now) words
none_spelled [] i lt none ns small is = absurd (omega arith)
none_spelled (w ∷ ws) i lt none [] small is = absurd cc
none_spelled (w ∷ ws) zero lt none (n ∷ ns) small is =
    let same : decimal n ≡ w.now = cc in
    none n (small 0 0 (omega arith)) same
none_spelled (w ∷ ws) (suc i) lt none (n ∷ ns) small is =
    let rest : map decimal ns ≡ map (λ w. w.now) ws = cc in
    none_spelled ws i (omega arith) none ns (All-tail (λ n. n < 2 ^ 64) n ns small) rest
