-- The judgments of a row's text: which ids stand for its letters, and that the last of them follows from the others.
use Rattle.std.proofs.Common.{◌≡◌, ℕ, zero, suc, ◌<◌, ◌&&◌, Bool, true, false, List, [], ◌∷◌, ◌++◌, Option, Some, None, length, get_or, map, All, refl, sym, ap, subst, ◌∙◌, arith}
use Rattle.std.specs.Prelude.{nat_lt, slice_get}
use Rattle.std.specs.List.{list_all}
use Rattle.std.specs.Cmp.{first_so, second_so}
use Rattle.std.proofs.lemmas.List.{map-append}
use Rattle.std.proofs.lemmas.List.Elements.{All-cons, All-nil}
use Rattle.rz_rules.specs.declared.kinds.Sort.{Sort}
use Rattle.rz_rules.specs.declared.kinds.Sort.TheVariants as sort
use Rattle.rz_rules.specs.declared.nodes.Node.{Node}
use Rattle.rz_rules.specs.declared.judgments.Judgment.{Judgment}
use Rattle.rz_rules.specs.declared.judgments.Line.{Line}
use Rattle.rz_rules.specs.declared.rows.Row.{Row}
use Rattle.rz_rules.specs.declared.rows.Row.TheVariants as row
use Rattle.rz_rules.specs.declared.rows.Scheme.{Scheme}
use Rattle.rz_rules.specs.declared.rows.Scheme.TheVariants as scheme
use Rattle.rz_rules.specs.declared.symbols.Letter.{Letter}
use Rattle.rz_rules.specs.declared.symbols.Symbol.{Symbol}
use Rattle.rz_rules.specs.declared.symbols.Symbol.TheVariants as symbol
use Rattle.rz_rules.specs.declared.symbols.TheConstants.{LETTERS}
use Rattle.rz_rules.specs.Tree.{HaveForms, sort_of, tree_of, trees_in}
use Rattle.rz_rules.specs.Judgment.{Statement, statement}
use Rattle.rz_rules.specs.Derivation.{AppliesBy, Follows, IsMet, IsScoped, IsSpelled}
use Rattle.rz_rules.specs.Row.{Assignment, letters_in, spelled}
use Rattle.rz_rules.specs.Table.{rule_of}
use Rattle.rz_rules.specs.Text.{same_sort}
use Rattle.rz_rule_text.specs.Letters.{IsFound, assignment_of, letter_at}
use Rattle.rz_rule_text.specs.Spelling.{AreLetters, IsJudgmentOver}
use Rattle.rz_rule_text.proofs.Over.{IsStatement-over, letters_have_sorts}
use Rattle.rz_pool.specs.Pool.{Grows, IsPool}
use Rattle.rz_log.specs.Log.{IsSoundLog, statements_of, step_of}
use Rattle.rz_log.proofs.Worlds.{statements_grown}
use Rattle.rz_lemmas.proofs.Slots.{at_letter, below}
use Rattle.rz_lemmas.specs.Letters.{Fill, StandFor, letters_at, placed, slots, sort_of_letter}
use Rattle.rz_lemmas.specs.Conclude.{conclusion_in, conclusion_is_scoped, conclusion_of, judgments_at, premises_in, premises_of}

-- ---- the table

-- whether a letter has the sort that its number has in a text
abbrev is_sort : Option Sort → Sort → Bool
is_sort None sort = false
is_sort (Some found) sort = same_sort found sort

abbrev agrees : List Symbol → Letter → Bool
agrees text letter = nat_lt letter.number LETTERS && is_sort (sort_of_letter text letter.number) letter.sort

-- in each text a letter's number tells its sort
letters_agree : (row : Row) → list_all (agrees (rule_of row).text) (letters_in (rule_of row).text) ≡ true
letters_agree row.ContextNil = refl
letters_agree row = refl

-- how many judgments a text has
abbrev count_says : List Symbol → ℕ
count_says [] = 0
count_says (symbol.Says kind ∷ text) = suc (count_says text)
count_says (symbol ∷ text) = count_says text

pub length_said : (text : List Symbol) (a : Assignment) → length (spelled text a).statements ≡ count_says text
length_said [] a = refl
length_said (symbol.Letter letter ∷ text) a = length_said text a
length_said (symbol.Node kind label ∷ text) a = length_said text a
length_said (symbol.Put space ∷ text) a = length_said text a
length_said (symbol.Shift space from ∷ text) a = length_said text a
length_said (symbol.Says kind ∷ text) a = ap suc (length_said text a)

-- each row that is a text says something
rows_say : (row : Row) → (rule_of row).scheme ≡ scheme.Text → nat_lt 0 (count_says (rule_of row).text) ≡ true
rows_say row.Hypothesis e = absurd cc
rows_say row.Variable e = absurd cc
rows_say row.Weakening e = absurd cc
rows_say row.TermCut e = absurd cc
rows_say row.CubeCut e = absurd cc
rows_say row.TopeCut e = absurd cc
rows_say row.ContextOf e = absurd cc
rows_say row.Inversion e = absurd cc
rows_say row.OwnType e = absurd cc
rows_say row e = refl

-- ---- the letters' ids

same_sorts : (left right : Sort) → same_sort left right ≡ true → left ≡ right
same_sorts sort.Cube sort.Cube e = refl
same_sorts sort.Point sort.Point e = refl
same_sorts sort.Tope sort.Tope e = refl
same_sorts sort.Term sort.Term e = refl
same_sorts sort.Context sort.Context e = refl
same_sorts left right e = absurd cc

-- each letter of some that agree has its id
module _ (nodes : List Node) where
  filled : (places : List (Option Sort)) (ids : List ℕ) (number : ℕ) (wanted : Sort) → Fill nodes places ids → get_or places number None ≡ Some wanted
      → (id : ℕ) × (letter_at (placed places ids) number ≡ Some id) × (id < length nodes) × (sort_of (tree_of nodes id) ≡ wanted)
  filled [] [] number wanted fill e = absurd cc
  filled [] (id ∷ ids) number wanted fill e = elim fill [ ]
  filled (Some found ∷ places) [] number wanted fill e = elim fill [ ]
  filled (None ∷ places) ids zero wanted fill e = absurd cc
  filled (None ∷ places) ids (suc number) wanted fill e = filled places ids number wanted fill e
  filled (Some found ∷ places) (id ∷ ids) zero wanted fill e =
      let same : found ≡ wanted = cc in
      (id, refl, fill.0, fill.1 ∙ same)
  filled (Some found ∷ places) (id ∷ ids) (suc number) wanted fill e = filled places ids number wanted fill.2 e

  length_placed : (places : List (Option Sort)) (ids : List ℕ) → length (placed places ids) ≡ length places
  length_placed [] ids = refl
  length_placed (None ∷ places) ids = ap suc (length_placed places ids)
  length_placed (Some wanted ∷ places) [] = ap suc (length_placed places [])
  length_placed (Some wanted ∷ places) (id ∷ ids) = ap suc (length_placed places ids)

  one_sort : (found : Option Sort) (wanted : Sort) → is_sort found wanted ≡ true → found ≡ Some wanted
  one_sort None wanted e = absurd cc
  one_sort (Some found) wanted e = ap Some (same_sorts found wanted e)

  found_letter : (text : List Symbol) (ids : List ℕ) → Fill nodes (slots text) ids → (letter : Letter) → agrees text letter ≡ true
      → IsFound nodes (placed (slots text) ids) letter
  found_letter text ids fill letter e =
      let low : letter.number < LETTERS = below letter.number LETTERS (first_so (nat_lt letter.number LETTERS) (is_sort (sort_of_letter text letter.number) letter.sort) e) in
      let sort = one_sort (sort_of_letter text letter.number) letter.sort (second_so (nat_lt letter.number LETTERS) (is_sort (sort_of_letter text letter.number) letter.sort) e) in
      let found = filled (slots text) ids letter.number letter.sort fill (at_letter text letter.number low ∙ sort) in
      record { id = found.0; there = found.1; live = found.2; sort = found.3 }

  found_letters : (text : List Symbol) (ids : List ℕ) → Fill nodes (slots text) ids → (letters : List Letter) → list_all (agrees text) letters ≡ true
      → All (IsFound nodes (placed (slots text) ids)) letters
  found_letters text ids fill [] e = All-nil (IsFound nodes (placed (slots text) ids))
  found_letters text ids fill (letter ∷ letters) e =
      All-cons (IsFound nodes (placed (slots text) ids)) letter letters
      (found_letter text ids fill letter (first_so (agrees text letter) (list_all (agrees text) letters) e))
      (found_letters text ids fill letters (second_so (agrees text letter) (list_all (agrees text) letters) e))

  pub are_letters : (row : Row) (ids : List ℕ) (name : Option ℕ) → StandFor nodes row ids name
      → AreLetters nodes (rule_of row).text (placed (slots (rule_of row).text) ids) name
  are_letters row ids name h = record {
    count = length_placed (slots (rule_of row).text) ids;
    found = found_letters (rule_of row).text ids h.fill (letters_in (rule_of row).text) (letters_agree row);
    named = h.named;
  }

-- ---- the last judgment and the others

pub premises_push : (said : List Statement) (says : Statement) → premises_in (said ++ says ∷ []) ≡ said
premises_push [] says = refl
premises_push (first ∷ []) says = refl
premises_push (first ∷ next ∷ said) says = ap (λ (ss : List Statement). first ∷ ss) (premises_push (next ∷ said) says)

pub conclusion_push : (said : List Statement) (says : Statement) → conclusion_in (said ++ says ∷ []) ≡ says
conclusion_push [] says = refl
conclusion_push (first ∷ []) says = refl
conclusion_push (first ∷ next ∷ said) says = conclusion_push (next ∷ said) says

-- what a row spells isn't empty
pub row_says : (row : Row) (a : Assignment) → (rule_of row).scheme ≡ scheme.Text → (spelled (rule_of row).text a).statements ≡ [] → ⊥
row_says row a text empty =
    let some : 0 < count_says (rule_of row).text = below 0 (count_says (rule_of row).text) (rows_say row text) in
    omega (arith, some, length_said (rule_of row).text a, ap length empty)

-- what was spelled are the judgments of the row
pub spelled_at : (nodes : List Node) (row : Row) (ids : List ℕ) (name : Option ℕ) (text placed_in : List Symbol) (letters : List (Option ℕ)) (said : List Statement)
    → text ≡ (rule_of row).text → placed_in ≡ (rule_of row).text → letters ≡ placed (slots placed_in) ids
    → (spelled text (assignment_of nodes letters name)).statements ≡ said → judgments_at nodes row ids name ≡ said
spelled_at nodes row ids name text placed_in letters said text_is in_is letters_are e =
    ap (λ (t : List Symbol). (spelled t (assignment_of nodes (placed (slots (rule_of row).text) ids) name)).statements) (sym text_is)
    ∙ (ap (λ (ls : List (Option ℕ)). (spelled text (assignment_of nodes ls name)).statements)
    (sym (letters_are ∙ ap (λ (t : List Symbol). placed (slots t) ids) in_is)) ∙ e)

-- the last judgment of a row that was spelled, behind its premises
pub spelled_last : (nodes new : List Node) (row : Row) (ids : List ℕ) (name : Option ℕ) (said : List Judgment) (says : Judgment)
    → judgments_at nodes row ids name ≡ map (statement (trees_in new)) (said ++ says ∷ [])
    → judgments_at nodes row ids name ≡ premises_of nodes row ids name ++ statement (trees_in new) says ∷ []
spelled_last nodes new row ids name said says e =
    let split : judgments_at nodes row ids name ≡ map (statement (trees_in new)) said ++ statement (trees_in new) says ∷ [] =
    e ∙ map-append (statement (trees_in new)) said (says ∷ []) in
    let premises : premises_of nodes row ids name ≡ map (statement (trees_in new)) said =
    ap premises_in split ∙ premises_push (map (statement (trees_in new)) said) (statement (trees_in new) says) in
    split ∙ ap (λ (ss : List Statement). ss ++ statement (trees_in new) says ∷ []) (sym premises)

-- ---- the line follows

module _ (old new : List Node) (row : Row) (ids : List ℕ) (name : Option ℕ) (says : Judgment)
    (split : judgments_at old row ids name ≡ premises_of old row ids name ++ statement (trees_in new) says ∷ []) where
  pub conclusion_said : conclusion_of old row ids name ≡ statement (trees_in new) says
  conclusion_said = ap conclusion_in split ∙ conclusion_push (premises_of old row ids name) (statement (trees_in new) says)

  module _ (lines : List Line) (from : List ℕ) (forms : HaveForms old) (grows : Grows old new) (pool : IsPool new) (sound : IsSoundLog old lines)
      (text : (rule_of row).scheme ≡ scheme.Text) (letters : StandFor old row ids name)
      (premises : map (slice_get (statements_of old lines)) from ≡ map (λ s. Some s) (premises_of old row ids name))
      (conditions : All (IsMet (letters_at old row ids name)) (rule_of row).conditions)
      (scoped : conclusion_is_scoped old row ids name) (over : IsJudgmentOver new says) where
    spelled_by_row : IsSpelled (rule_of row) (premises_of old row ids name) (statement (trees_in new) says)
    spelled_by_row = record {
      assignment = letters_at old row ids name;
      instance = record {
        letters = letters_have_sorts old forms (placed (slots (rule_of row).text) ids) name (letters_in (rule_of row).text) (are_letters old row ids name letters).found;
        spells = split;
      };
      conditions = conditions;
    }

    pub line_follows : Follows (statements_of new lines) (step_of new (record { row = row; number = 0; says = says; from = from }))
    line_follows = record {
      trees = IsStatement-over new pool.forms says over;
      scoped = subst (λ (s : Statement). IsScoped s.kind s.context s.parts) conclusion_said scoped;
      premises = premises_of old row ids name;
      from = subst (λ (ss : List Statement). map (slice_get ss) from ≡ map (λ s. Some s) (premises_of old row ids name)) (sym (statements_grown old new lines grows sound)) premises;
      applies = subst (λ (s : Scheme). AppliesBy s (rule_of row) 0 (premises_of old row ids name) (statement (trees_in new) says)) (sym text) (refl, spelled_by_row);
    }
