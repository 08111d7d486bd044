-- Instances of a row's text, by what was found.
use Rattle.std.proofs.Common.{◌≡◌, ℕ, ◌≤◌, ◌||◌, Bool, true, false, List, [], ◌∷◌, Some, Option, length, get_or, take, drop, All, refl, sym, ap, subst, ◌∙◌, arith}
use Rattle.std.specs.List.{list_all, list_any}
use Rattle.std.specs.Cmp.{first_so, second_so}
use Rattle.std.proofs.lemmas.List.Elements.{All-cons, All-head, All-nil, All-tail, All-weaker}
use Rattle.std.proofs.lemmas.Map.Views.{Contains-from_any}
use Rattle.rz_rules.specs.declared.nodes.Node.{Node}
use Rattle.rz_rules.specs.declared.rows.Row.{Row}
use Rattle.rz_rules.specs.declared.rows.Row.TheVariants as row
use Rattle.rz_rules.specs.declared.symbols.Letter.{Letter}
use Rattle.rz_rules.specs.declared.symbols.Label.{Label}
use Rattle.rz_rules.specs.declared.symbols.Label.TheVariants.{Plain, Index, RowName}
use Rattle.rz_rules.specs.declared.symbols.Condition.{Condition}
use Rattle.rz_rules.specs.declared.symbols.Condition.TheVariants.{FewLeaves, TopeOver, PointOf}
use Rattle.rz_rules.specs.declared.symbols.Symbol.{Symbol}
use Rattle.rz_rules.specs.declared.symbols.Symbol.TheVariants as symbol
use Rattle.rz_rules.specs.Cube.{leaves, binders_of}
use Rattle.rz_rules.specs.Tope.{IsPointOf, IsTopeOver}
use Rattle.rz_rules.specs.Tree.{Tree, At, trees_of}
use Rattle.rz_rules.specs.declared.kinds.Kind.{Kind}
use Rattle.rz_rules.specs.Form.{form}
use Rattle.rz_rules.specs.Row.{Assignment, Spelling, letters_in, name_of, number_of, spelled, with_symbol}
use Rattle.rz_rules.specs.Derivation.{IsMet}
use Rattle.rz_rules.specs.Table.{rule_of}
use Rattle.rz_rules.specs.Text.{same_letter}
use Rattle.rz_rule_text.specs.Letters.{IsFound, assignment_of, has_name, is_row_name, name_in, tree_for}
use Rattle.rz_rule_text.specs.Finding.{StandsFor, is_determined}
use Rattle.rz_kernel_rows.specs.Line.{letters_of, names_letters}
use Rattle.rz_rule_text.proofs.Found.{one_letter}

-- ---- the table

-- the letters and the name of each text are met outside of substitutions and shifts
pub rows_are_determined : (row : Row) → is_determined (rule_of row).text ≡ true
rows_are_determined row.ContextNil = refl
rows_are_determined row = refl

-- conditions speak of letters of their text
conditions_name_letters : (row : Row) → list_all (names_letters (letters_in (rule_of row).text)) (rule_of row).conditions ≡ true
conditions_name_letters row.ContextNil = refl
conditions_name_letters row = refl

-- ---- what a text spells depends on its letters and its name

abbrev pub SameLetter : Assignment → Assignment → Letter → Type 0
SameLetter a b letter = a.letters letter.number ≡ b.letters letter.number

or_left : (a b : Bool) → a ≡ true → (a || b) ≡ true
or_left true b e = refl
or_left false b e = absurd cc

or_right : (a b : Bool) → b ≡ true → (a || b) ≡ true
or_right true b e = refl
or_right false b e = e

same_name : (label : Label) (n m : List ℕ) → (is_row_name label ≡ true → n ≡ m) → name_of label n ≡ name_of label m
same_name Plain n m h = refl
same_name (Index k) n m h = refl
same_name RowName n m h = h refl

pub spelled-same : (text : List Symbol) (a b : Assignment) → All (SameLetter a b) (letters_in text) → (has_name text ≡ true → a.name ≡ b.name) → spelled text a ≡ spelled text b
spelled-same [] a b letters name = refl
spelled-same (symbol.Letter letter ∷ text) a b letters name =
    let here = All-head (SameLetter a b) letter (letters_in text) letters in
    let behind = spelled-same text a b (All-tail (SameLetter a b) letter (letters_in text) letters) name in
    λ i. record { trees = here i ∷ (behind i).trees; statements = (behind i).statements }
spelled-same (symbol.Node kind label ∷ text) a b letters name =
    let behind = spelled-same text a b letters (λ has. name (or_right (is_row_name label) (has_name text) has)) in
    let named = same_name label a.name b.name (λ is. name (or_left (is_row_name label) (has_name text) is)) in
    λ i. node kind label (named i) (behind i) where
      node : (kind : Kind) → Label → List ℕ → Spelling → Spelling
      node kind label name behind =
          let kids = length (form kind).kids in
          record { trees = At kind (number_of label) name (trees_of (take kids behind.trees)) ∷ drop kids behind.trees; statements = behind.statements }
spelled-same (symbol.Put space ∷ text) a b letters name = ap (with_symbol (symbol.Put space) a) (spelled-same text a b letters name)
spelled-same (symbol.Shift space from ∷ text) a b letters name = ap (with_symbol (symbol.Shift space from) a) (spelled-same text a b letters name)
spelled-same (symbol.Says kind ∷ text) a b letters name = ap (with_symbol (symbol.Says kind) a) (spelled-same text a b letters name)

-- ---- what was found is what each instance has

module _ (nodes : List Node) (text : List Symbol) (letters : List (Option ℕ)) (name : Option ℕ) (found : All (IsFound nodes letters) (letters_in text))
    (named : has_name text ≡ true → (id : ℕ) × (name ≡ Some id)) (a : Assignment) (stands : StandsFor nodes letters name a) where
  found_letter : (letter : Letter) → IsFound nodes letters letter → SameLetter a (assignment_of nodes letters name) letter
  found_letter letter h = stands.trees letter.number h.id h.there ∙ sym (ap (tree_for nodes) h.there)

  pub found_letters : All (SameLetter a (assignment_of nodes letters name)) (letters_in text)
  found_letters = All-weaker (IsFound nodes letters) (SameLetter a (assignment_of nodes letters name)) found_letter (letters_in text) found

  found_name : has_name text ≡ true → a.name ≡ (assignment_of nodes letters name).name
  found_name has = let is = named has in stands.named is.0 is.1 ∙ sym (ap (λ (n : Option ℕ). name_in (tree_for nodes n)) is.1)

  pub same_spelling : spelled text a ≡ spelled text (assignment_of nodes letters name)
  same_spelling = spelled-same text a (assignment_of nodes letters name) found_letters found_name

-- ---- conditions

pub condition_same : (a b : Assignment) (condition : Condition) → All (SameLetter a b) (letters_of condition) → IsMet a condition → IsMet b condition
condition_same a b (FewLeaves cube) h met = subst (λ (t : Tree). leaves t ≤ 64) (h 0 cube (omega arith)) met
condition_same a b (TopeOver context tope) h met =
    let one = h 0 context (omega arith) in
    let two = h 1 context (omega arith) in
    subst (λ (t : Tree). IsTopeOver (binders_of (b.letters context.number)) t) two (subst (λ (t : Tree). IsTopeOver (binders_of t) (a.letters tope.number)) one met)
condition_same a b (PointOf context cube point) h met =
    let one = h 0 context (omega arith) in
    let two = h 1 context (omega arith) in
    let three = h 2 context (omega arith) in
    subst (λ (t : Tree). IsPointOf (binders_of (b.letters context.number)) (b.letters cube.number) t) three
    (subst (λ (t : Tree). IsPointOf (binders_of (b.letters context.number)) t (a.letters point.number)) two
    (subst (λ (t : Tree). IsPointOf (binders_of t) (a.letters cube.number) (a.letters point.number)) one met))

-- what holds of the letters of a text holds of those of its conditions
module _ (P : Letter → Type 0) (letters : List Letter) (all : All P letters) where
  among : (letter : Letter) → list_any (same_letter letter) letters ≡ true → P letter
  among letter e =
      let c = Contains-from_any {eq = same_letter} one_letter letter letters e in
      subst P c.2 (all c.0 letter c.1)

  each_among : (some : List Letter) → list_all (λ letter. list_any (same_letter letter) letters) some ≡ true → All P some
  each_among [] e = All-nil P
  each_among (letter ∷ some) e =
      All-cons P letter some (among letter (first_so (list_any (same_letter letter) letters) _ e)) (each_among some (second_so (list_any (same_letter letter) letters) _ e))

  pub of_conditions : (conditions : List Condition) → list_all (names_letters letters) conditions ≡ true → All (λ condition. All P (letters_of condition)) conditions
  of_conditions [] e = All-nil (λ condition. All P (letters_of condition))
  of_conditions (condition ∷ conditions) e =
      All-cons (λ condition. All P (letters_of condition)) condition conditions (each_among (letters_of condition) (first_so (names_letters letters condition) _ e))
      (of_conditions conditions (second_so (names_letters letters condition) _ e))

pub of_row : (P : Letter → Type 0) (row : Row) → All P (letters_in (rule_of row).text) → All (λ condition. All P (letters_of condition)) (rule_of row).conditions
of_row P row all = of_conditions P (letters_in (rule_of row).text) all (rule_of row).conditions (conditions_name_letters row)

pub conditions_same : (a b : Assignment) (conditions : List Condition) → All (λ condition. All (SameLetter a b) (letters_of condition)) conditions → All (IsMet a) conditions → All (IsMet b) conditions
conditions_same a b conditions same met k d l = condition_same a b (get_or conditions k d) (same k d l) (met k d l)
