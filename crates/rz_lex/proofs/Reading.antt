-- How a text is read, piece by piece: there is one way, and it may be continued.
use Rattle.std.proofs.Common.{◌≡◌, ℕ, ◌+◌, ◌-◌, ◌<◌, Bool, true, ◌&&◌, List, [], ◌∷◌, ◌++◌, length, take, drop, Option, Some, None, Result, Ok, Err, refl, sym, ap, subst, ◌∙◌, arith, inl, inr}
use Rattle.std.specs.Prelude.{IfOk, IfErr, is_none}
use Rattle.std.specs.Option.{option_map}
use Rattle.std.specs.List.{cons_option}
use Rattle.std.proofs.lemmas.Bool.{both_ways, cases_order}
use Rattle.std.proofs.lemmas.Option.{same_Some, none-some}
use Rattle.std.proofs.lemmas.List.{drop_all, append-nil, take_rest}
use Rattle.std.proofs.lemmas.List.Folds.{list_all-append}
use Rattle.rz_lex.specs.declared.token.Tok.{Tok}
use Rattle.rz_lex.specs.declared.token.Token.{Token}
use Rattle.rz_lex.specs.declared.token.LexFault.{LexFault}
use Rattle.rz_lex.specs.declared.token.LexFault.TheVariants.{BadToken, OutOfMemory}
use Rattle.rz_lex.specs.declared.piece.Piece.{Piece}
use Rattle.rz_lex.specs.declared.place.Place.{Place}
use Rattle.rz_lex.specs.Places.{IsPlaceOf}
use Rattle.rz_lex.specs.Spelling.{IsLongestToken}
use Rattle.rz_lex.specs.Pieces.{opens_gap, Begins, NothingBegins}
use Rattle.rz_lex.specs.Text.{Covers, token_at, tokens_among, ReadsTo, Lexed, StopsAt, IsBadAt, IsFaultOf, IsReading, UnlessMemory, IsGap, AreSpansOf, line_of, column_of}

-- ---- one piece begins at a place

one_length : (spells : List ℕ → Option Tok) (text : List ℕ) (m n : ℕ) (j k : Tok) → IsLongestToken spells text m j → IsLongestToken spells text n k → m ≡ n
one_length spells text m n j k a b =
    elim (cases_order m n) [
      | inl same ↦ same
      | inr (inl lt) ↦ absurd (none-some k (sym (a.longest n lt b.within) ∙ b.is))
      | inr (inr lt) ↦ absurd (none-some j (sym (b.longest m lt a.within) ∙ a.is))
    ]

one_kind : (spells : List ℕ → Option Tok) (text : List ℕ) (m n : ℕ) (j k : Tok) → IsLongestToken spells text m j → IsLongestToken spells text n k → j ≡ k
one_kind spells text m n j k a b =
    let same : take m text ≡ take n text = ap (λ (i : ℕ). take i text) (one_length spells text m n j k a b) in
    same_Some j k (sym a.is ∙ ap spells same ∙ b.is)

abbrev pub piece : ℕ → Option Tok → Piece
piece len kind = record { len = len; kind = kind }

piece_is : (m n : ℕ) (j k : Option Tok) → m ≡ n → j ≡ k → piece m j ≡ piece n k
piece_is m n j k a b = ap (λ (i : ℕ). piece i j) a ∙ ap (λ (o : Option Tok). piece n o) b

begins_one : (text : List ℕ) (m n : ℕ) (j k : Option Tok) → Begins text (piece m j) → Begins text (piece n k) → piece m j ≡ piece n k
begins_one text m n None None a b = piece_is m n None None (same_Some m n (sym a.1 ∙ b.1)) refl
begins_one text m n None (Some k) a b = absurd (both_ways (opens_gap text) b.0 a.0)
begins_one text m n (Some j) None a b = absurd (both_ways (opens_gap text) a.0 b.0)
begins_one text m n (Some j) (Some k) a b = piece_is m n (Some j) (Some k) (one_length _ text m n j k a.1 b.1) (ap (λ (t : Tok). Some t) (one_kind _ text m n j k a.1 b.1))

nothing_in_nothing : (m : ℕ) (k : Option Tok) → Begins [] (piece m k) → ⊥
unfolding opens_gap
nothing_in_nothing m None a = absurd cc
nothing_in_nothing m (Some k) a = omega (arith, a.1.some, a.1.within)

pub nothing_at_end : (text : List ℕ) → NothingBegins (drop (length text) text)
nothing_at_end text p begins = nothing_in_nothing p.len p.kind (subst (λ (bytes : List ℕ). Begins bytes p) (drop_all (length text) text (omega arith)) begins)

-- ---- one row of pieces

same_head : (p q : Piece) (ps qs : List Piece) → p ≡ q → ps ≡ qs → (p ∷ ps) ≡ (q ∷ qs)
same_head p q ps qs a b = cc

-- Two rows that end where nothing begins are one.
pub covers_once : (text : List ℕ) (ps qs : List Piece) (from a b : ℕ) → Covers text ps from a → Covers text qs from b → NothingBegins (drop a text) → NothingBegins (drop b text) → (ps ≡ qs) × (a ≡ b)
covers_once text [] [] from a b x y na nb = (refl, sym x ∙ y)
covers_once text [] (q ∷ qs) from a b x y na nb = absurd (na q (subst (λ (i : ℕ). Begins (drop i text) q) x y.0))
covers_once text (p ∷ ps) [] from a b x y na nb = absurd (nb p (subst (λ (i : ℕ). Begins (drop i text) p) y x.0))
covers_once text (p ∷ ps) (q ∷ qs) from a b x y na nb =
    let same : p ≡ q = begins_one (drop from text) p.len q.len p.kind q.kind x.0 y.0 in
    let rest : Covers text qs (from + p.len) b = subst (λ (r : Piece). Covers text qs (from + r.len) b) (sym same) y.1 in
    let others = covers_once text ps qs (from + p.len) a b x.1 rest na nb in
    (same_head p q ps qs same others.0, others.1)

pub lexed_once : (text : List ℕ) (ts us : List Token) → Lexed text ts → Lexed text us → ts ≡ us
lexed_once text ts us a b =
    let same = covers_once text a.pieces b.pieces 0 (length text) (length text) a.covers b.covers (nothing_at_end text) (nothing_at_end text) in
    a.are ∙ ap (λ (ps : List Piece). tokens_among text ps 0) same.0 ∙ sym b.are

pub stops_once : (text : List ℕ) (a b : ℕ) → StopsAt text a → StopsAt text b → a ≡ b
stops_once text a b x y = (covers_once text x.reads.pieces y.reads.pieces 0 a b x.reads.covers y.reads.covers x.nothing y.nothing).1

pub lexed_stops : (text : List ℕ) (ts : List Token) (a : ℕ) → Lexed text ts → StopsAt text a → ⊥
lexed_stops text ts a x y =
    let same = (covers_once text x.pieces y.reads.pieces 0 (length text) a x.covers y.reads.covers (nothing_at_end text) y.nothing).1 in
    omega (arith, same, y.inside)

pub bad_once : (text : List ℕ) (l k m n : ℕ) → IsBadAt text l k → IsBadAt text m n → (l ≡ m) × (k ≡ n)
bad_once text l k m n x y =
    let same = stops_once text x.place y.place x.stops y.stops in
    (x.line_is ∙ ap (line_of text) same ∙ sym y.line_is, x.column_is ∙ ap (column_of text) same ∙ sym y.column_is)

-- ---- one more piece

pub covers_push : (text : List ℕ) (ps : List Piece) (p : Piece) (from mid : ℕ) → Covers text ps from mid → Begins (drop mid text) p → Covers text (ps ++ p ∷ []) from (mid + p.len)
covers_push text [] p from mid x begins = (subst (λ (i : ℕ). Begins (drop i text) p) (sym x) begins, ap (λ (i : ℕ). i + p.len) x)
covers_push text (q ∷ ps) p from mid x begins = (x.0, covers_push text ps p (from + q.len) mid x.1 begins)

append_option : (o : Option Token) (ts us : List Token) → cons_option o ts ++ us ≡ cons_option o (ts ++ us)
append_option None ts us = refl
append_option (Some t) ts us = refl

tokens_push : (text : List ℕ) (ps : List Piece) (p : Piece) (from mid : ℕ) → Covers text ps from mid → tokens_among text (ps ++ p ∷ []) from ≡ tokens_among text ps from ++ cons_option (option_map (token_at text mid p.len) p.kind) []
tokens_push text [] p from mid x = ap (λ (i : ℕ). cons_option (option_map (token_at text i p.len) p.kind) []) x
tokens_push text (q ∷ ps) p from mid x =
    ap (λ (ts : List Token). cons_option (option_map (token_at text from q.len) q.kind) ts) (tokens_push text ps p (from + q.len) mid x.1)
    ∙ sym (append_option (option_map (token_at text from q.len) q.kind) (tokens_among text ps (from + q.len)) (cons_option (option_map (token_at text mid p.len) p.kind) []))

reads_piece : (text : List ℕ) (mid : ℕ) (ts : List Token) (p : Piece) → ReadsTo text mid ts → Begins (drop mid text) p → ReadsTo text (mid + p.len) (ts ++ cons_option (option_map (token_at text mid p.len) p.kind) [])
reads_piece text mid ts p x begins = record {
  pieces = x.pieces ++ p ∷ [];
  covers = covers_push text x.pieces p 0 mid x.covers begins;
  are = ap (λ (us : List Token). us ++ cons_option (option_map (token_at text mid p.len) p.kind) []) x.are ∙ sym (tokens_push text x.pieces p 0 mid x.covers);
}

pub reads_nothing : (text : List ℕ) → ReadsTo text 0 []
reads_nothing text = record { pieces = []; covers = refl; are = refl }

pub reads_gap : (text : List ℕ) (mid after : ℕ) (ts : List Token) (p : Piece) → ReadsTo text mid ts → Begins (drop mid text) p → p.kind ≡ None → after ≡ mid + p.len → ReadsTo text after ts
reads_gap text mid after ts p x begins gap e =
    let longer = reads_piece text mid ts p x begins in
    let same : ts ++ cons_option (option_map (token_at text mid p.len) p.kind) [] ≡ ts = ap (λ (o : Option Tok). ts ++ cons_option (option_map (token_at text mid p.len) o) []) gap ∙ append-nil ts in
    subst (λ (i : ℕ). ReadsTo text i ts) (sym e) (subst (λ (us : List Token). ReadsTo text (mid + p.len) us) same longer)

pub reads_token : (text : List ℕ) (mid after : ℕ) (ts : List Token) (p : Piece) (kind : Tok) (token : Token) → ReadsTo text mid ts → Begins (drop mid text) p → p.kind ≡ Some kind → after ≡ mid + p.len → token ≡ token_at text mid p.len kind
    → ReadsTo text after (ts ++ token ∷ [])
reads_token text mid after ts p kind token x begins is e t =
    let longer = reads_piece text mid ts p x begins in
    let same : ts ++ cons_option (option_map (token_at text mid p.len) p.kind) [] ≡ ts ++ token ∷ [] =
    ap (λ (o : Option Tok). ts ++ cons_option (option_map (token_at text mid p.len) o) []) is ∙ ap (λ (u : Token). ts ++ u ∷ []) (sym t) in
    subst (λ (i : ℕ). ReadsTo text i (ts ++ token ∷ [])) (sym e) (subst (λ (us : List Token). ReadsTo text (mid + p.len) us) same longer)

-- the same, for the bytes that are left as the code takes them
pub keeps_gap : (text : List ℕ) (mid after : ℕ) (ts : List Token) (p : Piece) → ReadsTo text mid ts → Begins (take (length text - mid) (drop mid text)) p → p.kind ≡ None → after ≡ mid + p.len → ReadsTo text after ts
keeps_gap text mid after ts p x begins gap e = reads_gap text mid after ts p x (subst (λ (bytes : List ℕ). Begins bytes p) (take_rest text mid) begins) gap e

abbrev token : Tok → ℕ → ℕ → ℕ → ℕ → Token
token kind from to line column = record { kind = kind; from = from; to = to; line = line; column = column }

-- the token that the code makes, with the counts of its place
pub placed : (text : List ℕ) (place : Place) (after len : ℕ) (kind : Tok) → IsPlaceOf text place → after ≡ place.at + len → token kind place.at after (place.line_feeds + 1) (place.characters + 1) ≡ token_at text place.at len kind
placed text place after len kind here e =
    ap (λ (to : ℕ). token kind place.at to (place.line_feeds + 1) (place.characters + 1)) e
    ∙ ap (λ (n : ℕ). token kind place.at (place.at + len) (n + 1) (place.characters + 1)) here.line_feeds_are
    ∙ ap (λ (n : ℕ). token kind place.at (place.at + len) (line_of text place.at) (n + 1)) here.characters_are

pub keeps_token : (text : List ℕ) (place : Place) (after : ℕ) (ts us : List Token) (p : Piece) (kind : Tok) → IsPlaceOf text place → ReadsTo text place.at ts → Begins (take (length text - place.at) (drop place.at text)) p → p.kind ≡ Some kind → after ≡ place.at + p.len
    → us ≡ ts ++ token kind place.at after (place.line_feeds + 1) (place.characters + 1) ∷ [] → ReadsTo text after us
keeps_token text place after ts us p kind here x begins is e u =
    let longer = reads_token text place.at after ts p kind (token kind place.at after (place.line_feeds + 1) (place.characters + 1)) x (subst (λ (bytes : List ℕ). Begins bytes p) (take_rest text place.at) begins) is e (placed text place after p.len kind here e) in
    subst (λ (vs : List Token). ReadsTo text after vs) (sym u) longer

-- ---- spans

no_gap : (text : List ℕ) (at : ℕ) → IsGap text at at
no_gap text at = record { forward = omega arith; gaps = []; no_token = refl; covers = refl }

longer_gap : (text : List ℕ) (start mid n : ℕ) → IsGap text start mid → Begins (drop mid text) (piece n None) → IsGap text start (mid + n)
longer_gap text start mid n gap begins = record {
  forward = omega (arith, gap.forward);
  gaps = gap.gaps ++ piece n None ∷ [];
  no_token = list_all-append (λ (p : Piece). is_none p.kind) gap.gaps (piece n None ∷ []) ∙ ap (λ (b : Bool). b && true) gap.no_token;
  covers = covers_push text gap.gaps (piece n None) start mid gap.covers begins;
}

abbrev SpansAfter : List ℕ → List Piece → ℕ → Type 0
SpansAfter text ps from = (start : ℕ) → IsGap text start from → AreSpansOf text start (tokens_among text ps from)

one_span : (text : List ℕ) (ps : List Piece) (n : ℕ) (k : Option Tok) (from : ℕ) → Begins (drop from text) (piece n k) → SpansAfter text ps (from + n) → SpansAfter text (piece n k ∷ ps) from
one_span text ps n None from begins later start gap = later start (longer_gap text start from n gap begins)
one_span text ps n (Some k) from begins later start gap = (gap, omega (arith, begins.1.some), later (from + n) (no_gap text (from + n)))

spans_after : (text : List ℕ) (ps : List Piece) (from : ℕ) → Covers text ps from (length text) → SpansAfter text ps from
spans_after text [] from x = λ start gap. subst (λ (i : ℕ). IsGap text start i) x gap
spans_after text (p ∷ ps) from x = one_span text ps p.len p.kind from x.0 (spans_after text ps (from + p.len) x.1)

pub spans_rise : (text : List ℕ) (ts : List Token) → Lexed text ts → AreSpansOf text 0 ts
spans_rise text ts x = subst (λ (us : List Token). AreSpansOf text 0 us) (sym x.are) (spans_after text x.pieces 0 x.covers 0 (no_gap text 0))

-- ---- answers

pub is_lexed : (text : List ℕ) (r : Result (List Token) LexFault) → IsReading text r → IfOk r (Lexed text)
is_lexed text (Ok ts) x = x
is_lexed text (Err fault) x = tt

pub has_spans : (text : List ℕ) (r : Result (List Token) LexFault) → IsReading text r → IfOk r (AreSpansOf text 0)
has_spans text (Ok ts) x = spans_rise text ts x
has_spans text (Err fault) x = tt

pub is_fault : (text : List ℕ) (r : Result (List Token) LexFault) → IsReading text r → IfErr r (IsFaultOf text)
is_fault text (Ok ts) x = tt
is_fault text (Err fault) x = x

pub only_tokens : (text : List ℕ) (r : Result (List Token) LexFault) → IsReading text r → (ts : List Token) → Lexed text ts → UnlessMemory r (Ok ts)
only_tokens text (Ok us) x ts y = ap (λ (vs : List Token). Ok vs) (lexed_once text us ts x y)
only_tokens text (Err (BadToken line column)) x ts y = absurd (lexed_stops text ts x.place y x.stops)
only_tokens text (Err OutOfMemory) x ts y = tt

abbrev bad : ℕ → ℕ → Result (List Token) LexFault
bad line column = Err (BadToken line column)

same_bad : (a b c d : ℕ) → a ≡ c → b ≡ d → bad a b ≡ bad c d
same_bad a b c d x y = ap (λ (i : ℕ). bad i b) x ∙ ap (λ (i : ℕ). bad c i) y

pub only_fault : (text : List ℕ) (r : Result (List Token) LexFault) → IsReading text r → (line column : ℕ) → IsBadAt text line column → UnlessMemory r (Err (BadToken line column))
only_fault text (Ok ts) x line column y = absurd (lexed_stops text ts y.place x y.stops)
only_fault text (Err (BadToken l k)) x line column y = let same = bad_once text l k line column x y in same_bad l k line column same.0 same.1
only_fault text (Err OutOfMemory) x line column y = tt

-- a place that was reached, at which nothing begins
pub bad_here : (text : List ℕ) (place line column : ℕ) (ts : List Token) → ReadsTo text place ts → place < length text → NothingBegins (drop place text) → line ≡ line_of text place → column ≡ column_of text place → IsBadAt text line column
bad_here text place line column ts reads inside nothing l c = record {
  place = place;
  stops = record { tokens = ts; reads = reads; inside = inside; nothing = nothing };
  line_is = l;
  column_is = c;
}
