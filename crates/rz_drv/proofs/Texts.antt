-- Words, lines and files as bytes.
use Rattle.std.proofs.Common.{◌≡◌, ◌≢◌, ℕ, ◌<◌, ◌≤◌, ◌^◌, Bool, true, false, cond, not, eqb, List, [], ◌∷◌, ◌++◌, length, get_or, map, All, refl, sym, ap, ◌∙◌, append_assoc, arith, inl, inr}
use Rattle.std.specs.Prelude.{codes, ◌||◌}
use Rattle.std.specs.List.{join_with_byte, slice_split, onto_first, concat, list_any}
use Rattle.std.specs.Str.{bytes_eq}
use Rattle.std.proofs.lemmas.Slice.Eq.{bytes_eq-Decides}
use Rattle.std.proofs.lemmas.Bool.Decides.{not_from_Decides}
use Rattle.std.specs.Fmt.{decimal}
use Rattle.std.proofs.lemmas.Bool.{eqb-true, eqb-false}
use Rattle.std.proofs.lemmas.Bool.Decides.{eqb_tells}
use Rattle.std.proofs.lemmas.List.{append_cancel_right, length-append, get_or_default, get_or_at}
use Rattle.std.proofs.lemmas.List.Splits.{slice_split_none, slice_split_at}
use Rattle.std.proofs.lemmas.List.Elements.{All-head, All-tail, All-cons, All-nil, All-append, All-weaker}
use Rattle.rz_rules.specs.declared.kinds.Kind.{Kind}
use Rattle.rz_rules.specs.declared.kinds.Kind.TheVariants as kinds
use Rattle.rz_rules.specs.declared.judgments.JudgmentKind.{JudgmentKind}
use Rattle.rz_rules.specs.declared.judgments.JudgmentKind.TheVariants as judgments
use Rattle.rz_rules.specs.declared.rows.Row.{Row}
use Rattle.rz_rules.specs.declared.rows.Row.TheVariants as rows
use Rattle.rz_rules.specs.Name.{IsName, is_white}
use Rattle.rz_rules.specs.Form.{form, is_named, word_of_kind}
use Rattle.rz_rules.specs.Table.{word_of_row}
use Rattle.rz_rules.specs.Judgment.{kind_of, ids_of, word_of_judgment_kind}
use Rattle.rz_rules.specs.File.{Item, NodeItem, StepItem, ClaimItem, words_of, numbers_of, name_words, line_of, lines}
use Rattle.rz_drv.specs.Items.{AreSmall, IsItem}
use Rattle.rz_drv.proofs.Decimals.{IsNumeralWord-decimal}
use Rattle.rz_drv.proofs.Grammar.{node_small}

-- a word without white space
abbrev pub IsSolid : List ℕ → Type 0
IsSolid word = All (λ byte. is_white byte ≡ false) word

or_false : (a b : Bool) → (a || b) ≡ false → (a ≡ false) × (b ≡ false)
or_false true b e = absurd cc
or_false false b e = (refl, e)

not_space : (byte : ℕ) → is_white byte ≡ false → eqb byte 32 ≡ false
not_space byte e =
    let p = or_false (eqb byte 32 || eqb byte 9 || eqb byte 10) (eqb byte 13) e in
    let q = or_false (eqb byte 32 || eqb byte 9) (eqb byte 10) p.0 in
    (or_false (eqb byte 32) (eqb byte 9) q.0).0

not_feed : (byte : ℕ) → is_white byte ≡ false → byte ≢ 10
not_feed byte e is =
    let p = or_false (eqb byte 32 || eqb byte 9 || eqb byte 10) (eqb byte 13) e in
    let q = or_false (eqb byte 32 || eqb byte 9) (eqb byte 10) p.0 in
    eqb-false byte 10 q.1 is

other : (a b : ℕ) → a ≢ b → eqb a b ≡ false
other a b ne =
    elim (eqb_tells a b) [
      | inl p ↦ absurd (ne p.1)
      | inr p ↦ p.0
    ]

digit_solid : (byte : ℕ) → 48 ≤ byte → is_white byte ≡ false
digit_solid byte le =
    let a = other byte 32 (λ e. omega arith) in
    let b = other byte 9 (λ e. omega arith) in
    let c = other byte 10 (λ e. omega arith) in
    let d = other byte 13 (λ e. omega arith) in
    rw (a, b, c, d) refl

solid_from : (word : List ℕ) → list_any is_white word ≡ false → IsSolid word
solid_from [] e = All-nil (λ byte. is_white byte ≡ false)
solid_from (b ∷ word) e =
    let p = or_false (is_white b) (list_any is_white word) e in
    All-cons (λ byte. is_white byte ≡ false) b word p.0 (solid_from word p.1)

kind_solid : (kind : Kind) → IsSolid (word_of_kind kind)
kind_solid kinds.CubeOne = solid_from (word_of_kind kinds.CubeOne) refl
kind_solid kind = solid_from (word_of_kind kind) refl

judgment_solid : (kind : JudgmentKind) → IsSolid (word_of_judgment_kind kind)
judgment_solid judgments.Formed = solid_from (word_of_judgment_kind judgments.Formed) refl
judgment_solid kind = solid_from (word_of_judgment_kind kind) refl

row_solid : (row : Row) → IsSolid (word_of_row row)
row_solid rows.ContextNil = solid_from (word_of_row rows.ContextNil) refl
row_solid row = solid_from (word_of_row row) refl

number_solid : (n : ℕ) → n < 2 ^ 64 → IsSolid (decimal n)
number_solid n small k d lt =
    let digit = (IsNumeralWord-decimal n small).digits k lt in
    let same = get_or_default (decimal n) k d 0 lt in
    digit_solid (get_or (decimal n) k d) (omega (arith, digit.0, same))

numbers_solid : (ns : List ℕ) → AreSmall ns → All IsSolid (map decimal ns)
numbers_solid [] h = All-nil IsSolid
numbers_solid (n ∷ ns) h =
    let P : ℕ → Type 0 = λ n. n < 2 ^ 64 in
    All-cons IsSolid (decimal n) (map decimal ns) (number_solid n (All-head P n ns h)) (numbers_solid ns (All-tail P n ns h))

named_solid : (named : Bool) (name : List ℕ) → (named ≡ true → IsName name) → All IsSolid (cond named (name ∷ []) [])
named_solid true name is = All-cons IsSolid name [] (is refl).solid (All-nil IsSolid)
named_solid false name is = All-nil IsSolid

-- the words of an item
pub words_solid : (item : Item) → IsItem item → All IsSolid (words_of item)
words_solid (NodeItem node) is =
    let numerals = numbers_solid (numbers_of node) (node_small node is) in
    let name = named_solid (is_named (form node.kind).role) node.name is.label.named in
    let behind = All-append IsSolid (name_words node) (map decimal (numbers_of node)) name numerals in
    let kind = All-cons IsSolid (word_of_kind node.kind) (name_words node ++ map decimal (numbers_of node)) (kind_solid node.kind) behind in
    All-cons IsSolid (codes "n") (word_of_kind node.kind ∷ name_words node ++ map decimal (numbers_of node)) (solid_from (codes "n") refl) kind
words_solid (StepItem line) is =
    let ids : List (List ℕ) = map decimal (ids_of line.says ++ line.from) in
    let numerals = numbers_solid (ids_of line.says ++ line.from) is.small in
    let head = All-cons IsSolid (word_of_judgment_kind (kind_of line.says)) ids (judgment_solid (kind_of line.says)) numerals in
    let number = All-cons IsSolid (decimal line.number) (word_of_judgment_kind (kind_of line.says) ∷ ids) (number_solid line.number (omega (arith, is.number))) head in
    let row = All-cons IsSolid (word_of_row line.row) (decimal line.number ∷ word_of_judgment_kind (kind_of line.says) ∷ ids) (row_solid line.row) number in
    All-cons IsSolid (codes "s") (word_of_row line.row ∷ decimal line.number ∷ word_of_judgment_kind (kind_of line.says) ∷ ids) (solid_from (codes "s") refl) row
words_solid (ClaimItem name step) is =
    let number = All-cons IsSolid (decimal step) [] (number_solid step is.small) (All-nil IsSolid) in
    let named = All-cons IsSolid name (decimal step ∷ []) is.named.solid number in
    All-cons IsSolid (codes "c") (name ∷ decimal step ∷ []) (solid_from (codes "c") refl) named

-- words that are joined are split again
pub split_join : (word : List ℕ) (words : List (List ℕ)) → All IsSolid (word ∷ words) → slice_split (λ b. eqb b 32) (join_with_byte 32 (word ∷ words)) ≡ word ∷ words
split_join word [] h =
    slice_split_none (λ b. eqb b 32) word (All-weaker (λ b. is_white b ≡ false) (λ b. eqb b 32 ≡ false) not_space word (All-head IsSolid word [] h))
split_join word (next ∷ words) h =
    slice_split_at (λ b. eqb b 32) word 32 (join_with_byte 32 (next ∷ words))
    (All-weaker (λ b. is_white b ≡ false) (λ b. eqb b 32 ≡ false) not_space word (All-head IsSolid word (next ∷ words) h)) refl
    ∙ ap (λ ws. word ∷ ws) (split_join next words (All-tail IsSolid word (next ∷ words) h))

-- no line feed stands in joined words
join_feedless : (words : List (List ℕ)) → All IsSolid words → All (λ b. b ≢ 10) (join_with_byte 32 words)
join_feedless [] h = All-nil (λ b. b ≢ 10)
join_feedless (word ∷ []) h = All-weaker (λ b. is_white b ≡ false) (λ b. b ≢ 10) not_feed word (All-head IsSolid word [] h)
join_feedless (word ∷ next ∷ words) h =
    All-append (λ b. b ≢ 10) word (32 ∷ join_with_byte 32 (next ∷ words))
    (All-weaker (λ b. is_white b ≡ false) (λ b. b ≢ 10) not_feed word (All-head IsSolid word (next ∷ words) h))
    (All-cons (λ b. b ≢ 10) 32 (join_with_byte 32 (next ∷ words)) (λ e. omega arith) (join_feedless (next ∷ words) (All-tail IsSolid word (next ∷ words) h)))

-- the first line of bytes
pub lines_first : (line rest : List ℕ) → All (λ b. b ≢ 10) line → lines (line ++ 10 ∷ rest) ≡ (line ++ 10 ∷ []) ∷ lines rest
lines_first [] rest h = refl
lines_first (b ∷ line) rest h =
    let P : ℕ → Type 0 = λ b. b ≢ 10 in
    let no_feed : eqb b 10 ≡ false = other b 10 (All-head P b line h) in
    let others = lines_first line rest (All-tail P b line h) in
    ap (λ (t : Bool). cond t ((b ∷ []) ∷ lines (line ++ 10 ∷ rest)) (onto_first b (lines (line ++ 10 ∷ rest)))) no_feed
    ∙ ap (onto_first b) others

pub lines_last : (line : List ℕ) → All (λ b. b ≢ 10) line → lines line ≡ line ∷ []
lines_last [] h = refl
lines_last (b ∷ line) h =
    let P : ℕ → Type 0 = λ b. b ≢ 10 in
    let no_feed : eqb b 10 ≡ false = other b 10 (All-head P b line h) in
    ap (λ (t : Bool). cond t ((b ∷ []) ∷ lines line) (onto_first b (lines line))) no_feed ∙ ap (onto_first b) (lines_last line (All-tail P b line h))

pub lines_line : (words : List (List ℕ)) (rest : List ℕ) → All IsSolid words → lines (line_of words ++ rest) ≡ line_of words ∷ lines rest
lines_line words rest h =
    ap lines (append_assoc (join_with_byte 32 words) (10 ∷ []) rest) ∙ lines_first (join_with_byte 32 words) rest (join_feedless words h)

-- the lines of bytes, joined, are the bytes
concat_onto : (b : ℕ) (ls : List (List ℕ)) → concat (onto_first b ls) ≡ b ∷ concat ls
concat_onto b [] = refl
concat_onto b (l ∷ ls) = refl

concat_cond : (t : Bool) (b : ℕ) (ls : List (List ℕ)) → concat (cond t ((b ∷ []) ∷ ls) (onto_first b ls)) ≡ b ∷ concat ls
concat_cond true b ls = refl
concat_cond false b ls = concat_onto b ls

pub concat_lines : (bytes : List ℕ) → concat (lines bytes) ≡ bytes
concat_lines [] = refl
concat_lines (b ∷ bytes) = concat_cond (eqb b 10) b (lines bytes) ∙ ap (λ bs. b ∷ bs) (concat_lines bytes)

pub header_solid : All IsSolid (codes "rzk-derivation" ∷ codes "1" ∷ [])
header_solid = All-cons IsSolid (codes "rzk-derivation") (codes "1" ∷ []) (solid_from (codes "rzk-derivation") refl) (All-cons IsSolid (codes "1") [] (solid_from (codes "1") refl) (All-nil IsSolid))

pub end_solid : All IsSolid (codes "end" ∷ [])
end_solid = All-cons IsSolid (codes "end") [] (solid_from (codes "end") refl) (All-nil IsSolid)

-- a line tells its words
pub split_some : (words : List (List ℕ)) → words ≢ [] → All IsSolid words → slice_split (λ b. eqb b 32) (join_with_byte 32 words) ≡ words
split_some [] some h = absurd (some refl)
split_some (word ∷ words) some h = split_join word words h

pub same_words : (vs ws : List (List ℕ)) → vs ≢ [] → ws ≢ [] → All IsSolid vs → All IsSolid ws → line_of vs ≡ line_of ws → vs ≡ ws
same_words vs ws sv sw hv hw e =
    let joined = append_cancel_right (join_with_byte 32 vs) (join_with_byte 32 ws) (10 ∷ []) e in
    sym (split_some vs sv hv) ∙ ap (slice_split (λ b. eqb b 32)) joined ∙ split_some ws sw hw

-- a line that ends in a line feed has one
pub feedless : (line front : List ℕ) → All (λ b. b ≢ 10) line → line ≡ front ++ 10 ∷ [] → ⊥
feedless line front h e =
    let long = length-append front (10 ∷ []) in
    let at : get_or line (length front) 0 ≡ 10 = ap (λ (bs : List ℕ). get_or bs (length front) 0) e ∙ get_or_at front 10 [] 0 (length front) refl in
    h (length front) 0 (omega (arith, ap length e, long)) at

-- what has no bytes
pub nothing_of : (bytes : List ℕ) → eqb (length bytes) 0 ≡ true → bytes ≡ []
nothing_of [] e = refl
nothing_of (b ∷ bytes) e = let none = eqb-true (length (b ∷ bytes)) 0 e in absurd (omega (arith, none))

pub something_of : (bytes : List ℕ) → eqb (length bytes) 0 ≡ false → bytes ≢ []
something_of bytes e is = eqb-false (length bytes) 0 e (ap length is)

-- bytes that are compared
not_true : (t : Bool) → not t ≡ false → t ≡ true
not_true true e = refl
not_true false e = absurd cc

not_false : (t : Bool) → not t ≡ true → t ≡ false
not_false true e = absurd cc
not_false false e = refl

pub same_bytes : (v w : List ℕ) → not (bytes_eq v w) ≡ false → v ≡ w
same_bytes v w e = (bytes_eq-Decides v w).0 (not_true (bytes_eq v w) e)

pub other_bytes : (v w : List ℕ) → not (bytes_eq v w) ≡ true → v ≢ w
other_bytes v w e = not_from_Decides (bytes_eq v w) (bytes_eq-Decides v w) (not_false (bytes_eq v w) e)
