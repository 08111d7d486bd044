-- A walk through a whole text.
use Rattle.std.proofs.Common.{◌≡◌, ℕ, zero, suc, ◌<◌, ◌&&◌, Bool, true, false, List, [], ◌∷◌, Some, None, Option, length, get_or, take, drop, map, replicate, All, Contains, IsTrue, refl, sym, ap, subst, ◌∙◌, ◌+◌, add-one, inl, inr, arith}
use Rattle.std.specs.Prelude.{IfSome, IsSome, ◌⊎◌, ◌==◌, nat_lt, if◌then◌else◌, option_and_then}
use Rattle.std.specs.List.{list_all, list_any}
use Rattle.std.proofs.Math.Seq.{drop-cons}
use Rattle.std.proofs.lemmas.List.Elements.{All-cons, All-nil, All-replicate, All-tail}
use Rattle.std.proofs.lemmas.List.{length-replicate}
use Rattle.std.proofs.lemmas.Map.Views.{Contains-from_any}
use Rattle.std.specs.Cmp.{first_so, second_so, unsigned_Decides}
use Rattle.rz_rules.specs.declared.kinds.Sort.{Sort}
use Rattle.rz_rules.specs.declared.kinds.Sort.TheVariants as sort
use Rattle.rz_rules.specs.declared.judgments.Judgment.{Judgment}
use Rattle.rz_rules.specs.declared.nodes.Node.{Node}
use Rattle.rz_rules.specs.declared.symbols.Letter.{Letter}
use Rattle.rz_rules.specs.declared.symbols.Symbol.{Symbol}
use Rattle.rz_rules.specs.declared.symbols.Symbol.TheVariants as symbol
use Rattle.rz_rules.specs.Tree.{Tree, tree_at, trees_in}
use Rattle.rz_rules.specs.Judgment.{ids_of, statement}
use Rattle.rz_rules.specs.Row.{Assignment, IsInstance, spelled}
use Rattle.rz_rules.specs.Text.{Mark, label_fits, marks_of, same_letter, same_sort, starts_with, with_mark}
use Rattle.rz_rules.specs.Form.{form, kid_sorts}
use Rattle.rz_rules.specs.declared.symbols.TheConstants.{LETTERS}
use Rattle.rz_rule_text.specs.declared.letters.Walk.{Walk}
use Rattle.rz_rule_text.specs.Finding.{Agrees, Answers, IsLive, IsPassed, IsRefused, IsWalk, Meets, Passes, Refuses, Remains, SpeaksOf, StandsFor, known, last_words, letters_met, meets_name, symbol_fits}
use Rattle.rz_rule_text.specs.Letters.{HasName, IsFound}
use Rattle.rz_rules.specs.declared.judgments.JudgmentKind.{JudgmentKind}

-- a walk has come to the rest of a text
pub record IsUnderway (nodes : List Node) (text : List Symbol) (start : Walk) (left : List Symbol) (walk : Walk) : Type 0 where
  pub walk_is : IsWalk nodes walk
  pub fits : All (λ symbol. IsTrue (symbol_fits symbol)) left
  pub remains : (a : Assignment) → Remains nodes text a start → Remains nodes left a walk
  pub met : (letter : Letter) → Contains (letters_met (known start) text) letter → IsFound nodes walk.finding.letters.items letter ⊎ Contains (letters_met (known walk) left) letter
  pub met_name : IsTrue (meets_name (known start) text) → IsSome walk.finding.name ⊎ IsTrue (meets_name (known walk) left)

-- the symbols of a complete text fit
if_some : (b : Bool) (x new : List Mark) → (if b then Some x else None) ≡ Some new → b ≡ true
if_some true x new e = refl
if_some false x new e = absurd cc

mark_fits : (symbol : Symbol) (marks new : List Mark) → with_mark symbol marks ≡ Some new → IsTrue (symbol_fits symbol)
mark_fits (symbol.Letter letter) marks new e = if_some (nat_lt letter.number LETTERS) (record { sort = letter.sort; plain = true } ∷ marks) new e
mark_fits (symbol.Node kind label) marks new e =
    let kids = length (form kind).kids in
    first_so (label_fits (form kind).role label) (starts_with (kid_sorts kind) marks)
    (if_some (label_fits (form kind).role label && starts_with (kid_sorts kind) marks)
    (record { sort = (form kind).sort; plain = list_all (λ mark. mark.plain) (take kids marks) } ∷ drop kids marks) new e)
mark_fits (symbol.Put space) marks new e = refl
mark_fits (symbol.Shift space from) marks new e = refl
mark_fits (symbol.Says kind) marks new e = refl

fits_behind : (symbol : Symbol) (text : List Symbol) (marks : List Mark) (before : Option (List Mark))
    → ((inner : List Mark) → before ≡ Some inner → All (λ symbol. IsTrue (symbol_fits symbol)) text) → option_and_then (with_mark symbol) before ≡ Some marks
    → All (λ symbol. IsTrue (symbol_fits symbol)) (symbol ∷ text)
fits_behind symbol text marks None others e = absurd cc
fits_behind symbol text marks (Some before) others e = All-cons (λ symbol. IsTrue (symbol_fits symbol)) symbol text (mark_fits symbol before marks e) (others before refl)

pub symbols_fit : (text : List Symbol) (marks : List Mark) → marks_of text ≡ Some marks → All (λ symbol. IsTrue (symbol_fits symbol)) text
symbols_fit [] marks e = All-nil (λ symbol. IsTrue (symbol_fits symbol))
symbols_fit (symbol ∷ text) marks e = fits_behind symbol text marks (marks_of text) (λ inner is. symbols_fit text inner is) e

-- letters that pass the test are one
one_sort : (s t : Sort) → same_sort s t ≡ true → s ≡ t
one_sort sort.Cube sort.Cube e = refl
one_sort sort.Point sort.Point e = refl
one_sort sort.Tope sort.Tope e = refl
one_sort sort.Term sort.Term e = refl
one_sort sort.Context sort.Context e = refl
one_sort s t e = absurd cc

pub one_letter : (l m : Letter) → same_letter l m ≡ true → l ≡ m
one_letter l m e =
    let number : l.number ≡ m.number = (unsigned_Decides l.number m.number).0 (first_so (l.number == m.number) (same_sort l.sort m.sort) e) in
    let sort : l.sort ≡ m.sort = one_sort l.sort m.sort (second_so (l.number == m.number) (same_sort l.sort m.sort) e) in
    λ i. record { number = number i; sort = sort i }

-- nothing was found yet
none_at : (letters : List (Option ℕ)) (k id : ℕ) → letters ≡ replicate LETTERS None → get_or letters k None ≡ Some id → ⊥
none_at letters k id is e = none_in LETTERS k id (ap (λ (ls : List (Option ℕ)). get_or ls k None) (sym is) ∙ e) where
  none_in : (n k id : ℕ) → get_or (replicate n None) k None ≡ Some id → ⊥
  none_in zero k id e = cc
  none_in (suc n) zero id e = cc
  none_in (suc n) (suc k) id e = none_in n k id e

pub nothing_stands : (nodes : List Node) (letters : List (Option ℕ)) (name : Option ℕ) (a : Assignment) → letters ≡ replicate LETTERS None → name ≡ None → StandsFor nodes letters name a
nothing_stands nodes letters name a is none_is = record {
  trees = λ k id e. absurd (none_at letters k id is e);
  named = λ id e. let wrong = sym none_is ∙ e in absurd cc;
}

-- a walk that has judgments before it, and knows of nothing else
pub from_judgments : (nodes : List Node) (text : List Symbol) (judgments : List Judgment) (walk : Walk) → walk.expected.items ≡ [] → walk.rest.now ≡ judgments
    → walk.finding.letters.items ≡ replicate LETTERS None → walk.finding.name ≡ None → (a : Assignment) → IsInstance text a (map (statement (trees_in nodes)) judgments) → Remains nodes text a walk
from_judgments nodes text judgments walk expected rest letters name a instance = record {
  letters = instance.letters;
  trees = subst (λ (es : List (Option ℕ)). Agrees nodes es (spelled text a).trees) (sym expected) tt;
  statements = instance.spells ∙ ap (map (statement (trees_in nodes))) (sym rest);
  found = nothing_stands nodes walk.finding.letters.items walk.finding.name a letters name;
}

module _ (nodes : List Node) (text : List Symbol) (start : Walk) where
  -- at the start
  pub at_start : IsWalk nodes start → All (λ symbol. IsTrue (symbol_fits symbol)) text → IsUnderway nodes text start text start
  at_start is fits = record { walk_is = is; fits = fits; remains = λ a h. h; met = λ letter met. inr met; met_name = λ met. inr met }

  -- past a symbol
  pub past : (symbol : Symbol) (left : List Symbol) (old new : Walk) → Passes nodes symbol old new × Meets nodes symbol old new → IsWalk nodes new
      → IsUnderway nodes text start (symbol ∷ left) old → IsUnderway nodes text start left new
  past symbol left old new step is h = record {
    walk_is = is;
    fits = All-tail (λ symbol. IsTrue (symbol_fits symbol)) symbol left h.fits;
    remains = λ a r. step.0 left a (h.remains a r);
    met = λ letter met. elim (h.met letter met) as (λ _. IsFound nodes new.finding.letters.items letter ⊎ Contains (letters_met (known new) left) letter) [
      | inl found ↦ inl (step.1.kept letter found)
      | inr later ↦ step.1.met left letter later
    ];
    met_name = λ met. elim (h.met_name met) as (λ _. IsSome new.finding.name ⊎ IsTrue (meets_name (known new) left)) [
      | inl found ↦ inl (step.1.kept_name found)
      | inr later ↦ step.1.met_name left later
    ];
  }

  pub refused : (symbol : Symbol) (left : List Symbol) (old : Walk) → Refuses nodes symbol old → IsUnderway nodes text start (symbol ∷ left) old → IsRefused nodes text start
  refused symbol left old refuses h a r = refuses left a (h.remains a r)

  -- at the end
  pub passed : (walk : Walk) → IsUnderway nodes text start [] walk → IsPassed nodes text start walk
  passed walk h = record {
    remains = h.remains;
    met = λ letter met. elim (h.met letter met) as (λ _. IsFound nodes walk.finding.letters.items letter) [ inl here ↦ here | inr later ↦ absurd (omega (arith, later.1)) ];
    met_name = λ met. elim (h.met_name met) as (λ _. IsSome walk.finding.name) [ inl here ↦ here | inr later ↦ absurd cc ];
  }

  -- all letters that are met at known trees
  pub all_met : (walk : Walk) → IsPassed nodes text start walk → (whole : List Letter) → list_all (λ letter. list_any (same_letter letter) (letters_met (known start) text)) whole ≡ true
      → All (IsFound nodes walk.finding.letters.items) whole
  all_met walk h [] e = All-nil (IsFound nodes walk.finding.letters.items)
  all_met walk h (letter ∷ letters) e =
      let here = first_so (list_any (same_letter letter) (letters_met (known start) text)) _ e in
      let others = second_so (list_any (same_letter letter) (letters_met (known start) text)) _ e in
      All-cons (IsFound nodes walk.finding.letters.items) letter letters
      (h.met letter (Contains-from_any {eq = same_letter} one_letter letter (letters_met (known start) text) here)) (all_met walk h letters others)

-- behind the last judgment no judgment is left
pub rest_over : (nodes : List Node) (walk : Walk) (a : Assignment) → Remains nodes [] a walk → walk.rest.now ≡ []
rest_over nodes walk a h = none_left walk.rest.now h.statements where
  none_left : (rest : List Judgment) → [] ≡ map (statement (trees_in nodes)) rest → rest ≡ []
  none_left [] e = refl
  none_left (says ∷ rest) e = absurd cc

pub name_met : (b c : Bool) → b ≡ true → (if b then c else true) ≡ true → c ≡ true
name_met true c is e = e
name_met false c is e = absurd cc

-- a walk at its start is one, where what it expects is there
pub start_is : (nodes : List Node) (walk : Walk) → All (IsLive nodes) walk.expected.items → All (λ says. All (λ id. id < length nodes) (ids_of says)) walk.rest.now
    → walk.finding.letters.items ≡ replicate LETTERS None → walk.finding.name ≡ None → IsWalk nodes walk
start_is nodes walk expected rest letters name = record {
  expected = expected;
  rest = rest;
  finding = record {
    count = ap length letters ∙ length-replicate {A = Option ℕ} LETTERS None;
    live = subst (All (IsLive nodes)) (sym letters) (All-replicate (IsLive nodes) LETTERS None tt);
    named = subst (λ (n : Option ℕ). IfSome n (HasName nodes)) (sym name) tt;
  };
}

-- a symbol that is no judgment leaves the end of a text as it is
pub no_judgment : (s : Symbol) (end text : List Symbol) → ((kind : JudgmentKind) → s ≡ symbol.Says kind → ⊥) → last_words end (s ∷ text) ≡ last_words end text
no_judgment (symbol.Says kind) end text none_there = absurd (none_there kind refl)
no_judgment (symbol.Letter letter) end text none_there = refl
no_judgment (symbol.Node kind label) end text none_there = refl
no_judgment (symbol.Put space) end text none_there = refl
no_judgment (symbol.Shift space from) end text none_there = refl

-- a walk that expects the context and the term of which the last judgment speaks
pub from_subject : (nodes : List Node) (text : List Symbol) (context term : ℕ) (walk : Walk) → walk.expected.items ≡ Some context ∷ Some term ∷ [] → walk.rest.now ≡ []
    → walk.finding.letters.items ≡ replicate LETTERS None → walk.finding.name ≡ None → (a : Assignment) → SpeaksOf nodes text context term a → Remains nodes (last_words text text) a walk
from_subject nodes text context term walk expected rest letters name a speaks =
    let trees = (spelled (last_words text text) a).trees in
    record {
      letters = speaks.letters;
      trees = subst (λ (es : List (Option ℕ)). Agrees nodes es trees) (sym expected) (speaks.context_is, (second trees ∙ speaks.term_is, tt));
      statements = speaks.last ∙ ap (map (statement (trees_in nodes))) (sym rest);
      found = nothing_stands nodes walk.finding.letters.items walk.finding.name a letters name;
    } where
      second : (trees : List Tree) → tree_at (drop 1 trees) 0 ≡ tree_at trees 1
      second [] = refl
      second (t ∷ []) = refl
      second (t ∷ u ∷ trees) = refl

-- what holds of all symbols of a text holds of its end
pub All-last_words : (P : Symbol → Type 0) (end text : List Symbol) → All P end → All P text → All P (last_words end text)
All-last_words P end [] h all = h
All-last_words P end (symbol.Says kind ∷ text) h all = let rest = All-tail P (symbol.Says kind) text all in All-last_words P text text rest rest
All-last_words P end (symbol.Letter letter ∷ text) h all = All-last_words P end text h (All-tail P (symbol.Letter letter) text all)
All-last_words P end (symbol.Node kind label ∷ text) h all = All-last_words P end text h (All-tail P (symbol.Node kind label) text all)
All-last_words P end (symbol.Put space ∷ text) h all = All-last_words P end text h (All-tail P (symbol.Put space) text all)
All-last_words P end (symbol.Shift space from ∷ text) h all = All-last_words P end text h (All-tail P (symbol.Shift space from) text all)

-- what is left at a place
pub left_at : (text : List Symbol) (i : ℕ) (d : Symbol) → i < length text → drop i text ≡ get_or text i d ∷ drop (i + 1) text
left_at text i d low = rw (add-one, drop-cons text i d) refl

pub answers_passed : (nodes : List Node) (symbol : Symbol) (old new : Walk) (passed : Bool) → passed ≡ true → Answers nodes symbol old new passed → Passes nodes symbol old new × Meets nodes symbol old new
answers_passed nodes symbol old new true e answer = answer
answers_passed nodes symbol old new false e answer = absurd cc
