-- Pieces with their words, and what the words are read as.
use Rattle.std.proofs.Common.{◌≡◌, ℕ, ◌≤◌, Bool, true, false, List, [], ◌∷◌, ◌++◌, refl, sym, subst, arith, append-nil}
use Rattle.std.proofs.lemmas.Bool.{leb-true}
use Rattle.std.specs.Prelude.{nat_le, if◌then◌else◌}
use Rattle.rz_lex.specs.declared.token.Tok.{Tok}
use Rattle.rz_lex.specs.declared.token.Tok.TheVariants as token
use Rattle.rz_syntax.specs.declared.forms.Raw.{Raw}
use Rattle.rz_syntax.specs.declared.forms.Shape.{Shape}
use Rattle.rz_syntax.specs.declared.forms.Form.{Form}
use Rattle.rz_syntax.specs.declared.grammar.Rule.{Rule}
use Rattle.rz_syntax.specs.declared.grammar.Rule.TheVariants as rule
use Rattle.rz_print.specs.declared.layout.Piece.{Piece}
use Rattle.rz_print.specs.declared.layout.Piece.TheVariants.{Mark, Part}
use Rattle.rz_print.specs.declared.level.Level.{Level}
use Rattle.rz_print.specs.Level.{rank, home}
use Rattle.rz_print.specs.Layout.{layout, bracketed, placed}
use Rattle.rz_print.specs.Text.{Word}
use Rattle.rz_print.specs.Words.{Opens, mark_word, opened, Spells, nothing, writes, opens}
use Rattle.rz_print.specs.Reading.{IsName, HaveNames}
use Rattle.rz_print.specs.Meaning.{Tree}
use Rattle.rz_print.proofs.Stacks.{joins}
use Rattle.rz_print.proofs.Marks.{is_mark}
use Rattle.rz_print.proofs.Terms.{Reads}
use Rattle.rz_print.proofs.Atoms.{in_brackets}
use Rattle.rz_print.proofs.Climbing.{rule_at, rule_of, climbs_to, rank_low}

-- The pieces are these words, and the names among them are names.
pub record Spelt (shapes : List Shape) (forms : List Form) (pieces : List Piece) (words : List Word) : Type 0 where
  pub spells : Spells shapes forms pieces words
  pub names : HaveNames words

-- The pieces have words, which mean this.
pub record Printed (shapes : List Shape) (forms : List Form) (pieces : List Piece) (Means : List Word → Type 0) : Type 0 where
  pub words : List Word
  pub spelt : Spelt shapes forms pieces words
  pub means : Means words

names_join : (xs ys : List Word) → HaveNames xs → HaveNames ys → HaveNames (xs ++ ys)
names_join [] ys a b = b
names_join (x ∷ xs) ys a b = (a.0, names_join xs ys a.1 b)

no_name : (kind : Tok) (bytes : List ℕ) → is_mark kind ≡ true → kind ≡ token.Name → IsName bytes
no_name kind bytes m e =
    let other : is_mark token.Name ≡ true = subst (λ (k : Tok). is_mark k ≡ true) e m in
    absurd (cc)

pub spelt_none : {shapes : List Shape} {forms : List Form} → Spelt shapes forms [] []
spelt_none = record { spells = nothing; names = tt }

-- one list of pieces and then another
pub spelt_then : {shapes : List Shape} {forms : List Form} {ps qs : List Piece} {xs ys : List Word} → Spelt shapes forms ps xs → Spelt shapes forms qs ys → Spelt shapes forms (ps ++ qs) (xs ++ ys)
spelt_then {xs} {ys} a b = record { spells = joins a.spells b.spells; names = names_join xs ys a.names b.names }

-- a mark and then pieces
pub spelt_mark : {shapes : List Shape} {forms : List Form} {qs : List Piece} {ys : List Word} (kind : Tok) → is_mark kind ≡ true → Spelt shapes forms qs ys → Spelt shapes forms (Mark kind ∷ qs) (mark_word kind ∷ ys)
spelt_mark kind m b = record {
  spells = writes (mark_word kind) refl b.spells;
  names = (no_name kind (mark_word kind).bytes m, b.names);
}

pub printed : {shapes : List Shape} {forms : List Form} {ps : List Piece} {M : List Word → Type 0} {xs : List Word} → Spelt shapes forms ps xs → M xs → Printed shapes forms ps M
printed {xs} a m = record { words = xs; spelt = a; means = m }

-- the same words mean more
pub printed_as : {shapes : List Shape} {forms : List Form} {ps : List Piece} {M L : List Word → Type 0} → Printed shapes forms ps M → ((xs : List Word) → M xs → L xs) → Printed shapes forms ps L
printed_as a f = record { words = a.words; spelt = a.spelt; means = f a.words a.means }

-- a piece that is more pieces
pub printed_opened : {shapes : List Shape} {forms : List Form} (M : List Word → Type 0) (piece : Piece) (inner : List Piece) → opened shapes forms piece ≡ Opens inner
    → Printed shapes forms inner M → Printed shapes forms (piece ∷ []) M
printed_opened M piece inner e a =
    let same : a.words ++ [] ≡ a.words = append-nil a.words in
    record {
      words = a.words ++ [];
      spelt = record { spells = opens inner e a.spelt.spells nothing; names = names_join a.words [] a.spelt.names tt };
      means = subst M (sym same) a.means;
    }

abbrev pub Prints : List Shape → List Form → List Piece → Rule → Tree → Type 0
Prints shapes forms pieces rule tree = Printed shapes forms pieces (λ words. Reads rule words tree)

-- At each level the form is read as the tree.
abbrev pub PrintsPart : List Shape → List Form → Raw → Tree → Type 0
PrintsPart shapes forms raw tree = (at : Level) → Prints shapes forms (Part raw at ∷ []) (rule_of at) tree

-- ---- a form at a level

brackets_print : (shapes : List Shape) (forms : List Form) (pieces : List Piece) (tree : Tree) → Prints shapes forms pieces rule.Term tree → Prints shapes forms (bracketed pieces) rule.Atom tree
brackets_print shapes forms pieces tree a =
    printed (spelt_mark token.OpenParen refl (spelt_then a.spelt (spelt_mark token.CloseParen refl spelt_none)))
    (in_brackets (mark_word token.OpenParen).bytes (mark_word token.CloseParen).bytes a.words tree a.means)

either_prints : (stands : Bool) (at written_at : ℕ) (shapes : List Shape) (forms : List Form) (pieces : List Piece) (tree : Tree)
    → (stands ≡ true → at ≤ written_at) → at ≤ 8 → Prints shapes forms pieces (rule_at written_at) tree
    → Prints shapes forms (if stands then pieces else bracketed pieces) (rule_at at) tree
either_prints true at written_at shapes forms pieces tree le low a =
    printed_as a (λ xs r. climbs_to at written_at xs tree (le refl) r)
either_prints false at written_at shapes forms pieces tree le low a =
    printed_as (brackets_print shapes forms pieces tree (printed_as a (λ xs r. climbs_to 0 written_at xs tree (omega arith) r)))
    (λ xs r. climbs_to at 8 xs tree low r)

nat_le_holds : (a b : ℕ) → nat_le a b ≡ true → a ≤ b
nat_le_holds a b e = leb-true a b e

-- What the layout of a form is read as at the form's own level, the form is read as at each level.
pub placed_prints : (shapes : List Shape) (forms : List Form) (at : Level) (written : Form) (tree : Tree) → Prints shapes forms (layout written) (rule_of (home written)) tree
    → Prints shapes forms (placed at written) (rule_of at) tree
placed_prints shapes forms at written tree a =
    either_prints (nat_le (rank at) (rank (home written))) (rank at) (rank (home written)) shapes forms (layout written) tree
    (nat_le_holds (rank at) (rank (home written))) (rank_low at) a
