-- The longest token, from the longest name, the longest string and the longest spelling of the table.
use Rattle.std.proofs.Common.{◌≡◌, ℕ, ◌<◌, ◌≤◌, false, List, length, take, Option, Some, None, refl, ap, ◌∙◌, arith}
use Rattle.std.specs.Prelude.{IfSome, IfNone}
use Rattle.std.specs.Option.{option_or}
use Rattle.rz_lex.specs.declared.token.Tok.{Tok}
use Rattle.rz_lex.specs.declared.token.Tok.TheVariants.{Name, Text}
use Rattle.rz_lex.specs.Spelling.{Entry, is_name, is_string, meaning, free_meaning, spelled, IsLongest, IsLongestToken, NoToken}

means_nothing : (bytes : List ℕ) → is_name bytes ≡ false → is_string bytes ≡ false → free_meaning bytes ≡ None
means_nothing bytes name string = rw (name, string) refl

pub string_is_free : (text : List ℕ) (name string : ℕ) → IsLongest is_name text name → IsLongest is_string text string → name < string → IsLongestToken free_meaning text string Text
string_is_free text name string n s lt = record {
  some = omega arith;
  within = s.within;
  is = rw (n.longest string lt s.within, s.best (omega arith)) refl;
  longest = λ other above le. means_nothing (take other text) (n.longest other (omega arith) le) (s.longest other above le);
}

pub name_is_free : (text : List ℕ) (name string : ℕ) → IsLongest is_name text name → IsLongest is_string text string → string ≤ name → 0 < name → IsLongestToken free_meaning text name Name
name_is_free text name string n s le lt = record {
  some = lt;
  within = n.within;
  is = rw (n.best lt) refl;
  longest = λ other above within. means_nothing (take other text) (n.longest other above within) (s.longest other (omega arith) within);
}

pub none_is_free : (text : List ℕ) (name string : ℕ) → IsLongest is_name text name → IsLongest is_string text string → string ≤ name → name ≤ 0 → NoToken free_meaning text
none_is_free text name string n s le zero_long other lt within = means_nothing (take other text) (n.longest other (omega arith) within) (s.longest other (omega arith) within)

-- No front that is longer means anything.
abbrev NoneAbove : (List ℕ → Option Tok) → List ℕ → ℕ → Type 0
NoneAbove spells text len = (other : ℕ) → len < other → other ≤ length text → spells (take other text) ≡ None

spells_nothing : (fixed : List Entry) (bytes : List ℕ) → meaning fixed bytes ≡ None → free_meaning bytes ≡ None → spelled fixed bytes ≡ None
spells_nothing fixed bytes a b = ap (λ (o : Option Tok). option_or o (free_meaning bytes)) a ∙ b

pub fixed_wins : (fixed : List Entry) (text : List ℕ) (len : ℕ) (kind : Tok) → IsLongestToken (meaning fixed) text len kind → NoneAbove free_meaning text len → IsLongestToken (spelled fixed) text len kind
fixed_wins fixed text len kind h above = record {
  some = h.some;
  within = h.within;
  is = ap (λ (o : Option Tok). option_or o (free_meaning (take len text))) h.is;
  longest = λ other lt le. spells_nothing fixed (take other text) (h.longest other lt le) (above other lt le);
}

pub free_wins : (fixed : List Entry) (text : List ℕ) (len low : ℕ) (kind : Tok) → IsLongestToken free_meaning text len kind → low < len → NoneAbove (meaning fixed) text low → IsLongestToken (spelled fixed) text len kind
free_wins fixed text len low kind h below above = record {
  some = h.some;
  within = h.within;
  is = ap (λ (o : Option Tok). option_or o (free_meaning (take len text))) (above len below h.within) ∙ h.is;
  longest = λ other lt le. spells_nothing fixed (take other text) (above other (omega arith) le) (h.longest other lt le);
}

pub neither_wins : (fixed : List Entry) (text : List ℕ) → NoToken (meaning fixed) text → NoToken free_meaning text → NoToken (spelled fixed) text
neither_wins fixed text a b other lt le = spells_nothing fixed (take other text) (a other lt le) (b other lt le)

-- what the two searches found, and which of the two is meant
abbrev Found : Type 0
Found = Option (ℕ × Tok)

pub fixed_chosen : (fixed : List Entry) (text : List ℕ) (a b : Found) (len : ℕ) (kind : Tok) (free_len : ℕ) (free_kind : Tok) → a ≡ Some (len, kind) → b ≡ Some (free_len, free_kind)
    → IfSome a (λ found. IsLongestToken (meaning fixed) text found.0 found.1) → IfSome b (λ found. IsLongestToken free_meaning text found.0 found.1) → free_len ≤ len → IsLongestToken (spelled fixed) text len kind
fixed_chosen fixed text a b len kind free_len free_kind ea eb ha hb le =
    let f = rw ea at ha in
    let g = rw eb at hb in
    fixed_wins fixed text len kind f (λ other lt within. g.longest other (omega arith) within)

pub free_chosen : (fixed : List Entry) (text : List ℕ) (a b : Found) (len : ℕ) (kind : Tok) (free_len : ℕ) (free_kind : Tok) → a ≡ Some (len, kind) → b ≡ Some (free_len, free_kind)
    → IfSome a (λ found. IsLongestToken (meaning fixed) text found.0 found.1) → IfSome b (λ found. IsLongestToken free_meaning text found.0 found.1) → len < free_len → IsLongestToken (spelled fixed) text free_len free_kind
free_chosen fixed text a b len kind free_len free_kind ea eb ha hb lt =
    let f = rw ea at ha in
    let g = rw eb at hb in
    free_wins fixed text free_len len free_kind g lt f.longest

pub fixed_alone : (fixed : List Entry) (text : List ℕ) (a b : Found) (found : ℕ × Tok) → a ≡ Some found → b ≡ None
    → IfSome a (λ found. IsLongestToken (meaning fixed) text found.0 found.1) → IfNone b (NoToken free_meaning text) → IsLongestToken (spelled fixed) text found.0 found.1
fixed_alone fixed text a b found ea eb ha hb =
    let f = rw ea at ha in
    let g = rw eb at hb in
    fixed_wins fixed text found.0 found.1 f (λ other lt within. g other (omega arith) within)

pub free_alone : (fixed : List Entry) (text : List ℕ) (a b : Found) → a ≡ None → IfNone a (NoToken (meaning fixed) text)
    → IfSome b (λ found. IsLongestToken free_meaning text found.0 found.1) → IfSome b (λ found. IsLongestToken (spelled fixed) text found.0 found.1)
free_alone fixed text a None ea ha hb = tt
free_alone fixed text a (Some found) ea ha hb =
    let f = rw ea at ha in
    free_wins fixed text found.0 0 found.1 hb hb.some f

pub none_alone : (fixed : List Entry) (text : List ℕ) (a b : Found) → a ≡ None → IfNone a (NoToken (meaning fixed) text)
    → IfNone b (NoToken free_meaning text) → IfNone b (NoToken (spelled fixed) text)
none_alone fixed text a None ea ha hb =
    let f = rw ea at ha in
    neither_wins fixed text f hb
none_alone fixed text a (Some found) ea ha hb = tt
