-- A walk past each symbol.
use Rattle.std.proofs.Common.{◌≡◌, ℕ, ◌&&◌, ◌||◌, Bool, false, List, [], ◌∷◌, ◌++◌, None, Option, length, drop, map, replicate, All, Contains, IsTrue, refl, sym, ap, subst, ◌∙◌, inr}
use Rattle.std.specs.Prelude.{is_some, IsSome, if◌then◌else◌}
use Rattle.std.proofs.lemmas.List.Elements.{All-tail}
use Rattle.rz_rules.specs.declared.kinds.Kind.{Kind}
use Rattle.rz_rules.specs.declared.nodes.Node.{Node}
use Rattle.rz_rules.specs.declared.symbols.Letter.{Letter}
use Rattle.rz_rules.specs.declared.symbols.Label.{Label}
use Rattle.rz_rules.specs.declared.symbols.Symbol.{Symbol}
use Rattle.rz_rules.specs.declared.symbols.Symbol.TheVariants as symbol
use Rattle.rz_rules.specs.Form.{form}
use Rattle.rz_rules.specs.Tree.{trees_in}
use Rattle.rz_rules.specs.Judgment.{statement}
use Rattle.rz_rules.specs.Row.{Assignment, HasLetter, letters_in, spelled}
use Rattle.rz_rule_text.specs.declared.letters.Walk.{Walk}
use Rattle.rz_rule_text.specs.declared.letters.Finding.{Finding}
use Rattle.rz_rule_text.specs.Finding.{Agrees, Meets, Passes, StandsFor, is_known, known, letters_met, meets_name}
use Rattle.rz_rule_text.specs.Letters.{IsFound, is_row_name}
use Rattle.rz_rule_text.proofs.Walks.{Agrees-rest, Agrees-unknown, known-rest, known-unknown}

abbrev pub letters_of : Walk → List (Option ℕ)
letters_of walk = walk.finding.letters.items

-- a symbol at which nothing is known takes one unknown tree and expects others
pub record IsUnknown (symbol : Symbol) (count : ℕ) (ks : List Bool) : Type 0 where
  pub trees : (text : List Symbol) (a : Assignment) → drop 1 (spelled (symbol ∷ text) a).trees ≡ drop count (spelled text a).trees
  pub statements : (text : List Symbol) (a : Assignment) → (spelled (symbol ∷ text) a).statements ≡ (spelled text a).statements
  pub letters : (text : List Symbol) (a : Assignment) → All (HasLetter a) (letters_in (symbol ∷ text)) → All (HasLetter a) (letters_in text)
  pub met : (text : List Symbol) → letters_met ks (symbol ∷ text) ≡ letters_met (replicate count false ++ drop 1 ks) text
  pub named : (text : List Symbol) → meets_name ks (symbol ∷ text) ≡ meets_name (replicate count false ++ drop 1 ks) text

module _ (nodes : List Node) (symbol : Symbol) (count : ℕ) (old new : Walk) (expected : new.expected.items ≡ replicate count None ++ drop 1 old.expected.items)
    (rest : new.rest.now ≡ old.rest.now) (finding : new.finding ≡ old.finding) (shape : IsUnknown symbol count (known old)) where
  known_new : known new ≡ replicate count false ++ drop 1 (known old)
  known_new =
      ap (map is_some) expected ∙ known-unknown count (drop 1 old.expected.items)
      ∙ ap (λ (ks : List Bool). replicate count false ++ ks) (sym (known-rest old.expected.items))

  unknown_passes : Passes nodes symbol old new
  unknown_passes text a h = record {
    letters = shape.letters text a h.letters;
    trees = subst (λ (es : List (Option ℕ)). Agrees nodes es (spelled text a).trees) (sym expected)
        (Agrees-unknown nodes count (drop 1 old.expected.items) (spelled text a).trees
        (subst (Agrees nodes (drop 1 old.expected.items)) (shape.trees text a) (Agrees-rest nodes old.expected.items (spelled (symbol ∷ text) a).trees h.trees)));
    statements = sym (shape.statements text a) ∙ h.statements ∙ ap (map (statement (trees_in nodes))) (sym rest);
    found = subst (λ (f : Finding). StandsFor nodes f.letters.items f.name a) (sym finding) h.found;
  }

  unknown_meets : Meets nodes symbol old new
  unknown_meets = record {
    kept = λ letter found. subst (λ (f : Finding). IsFound nodes f.letters.items letter) (sym finding) found;
    met = λ text letter met. inr (subst (λ (ks : List Bool). Contains (letters_met ks text) letter) (sym known_new) (subst (λ (ls : List Letter). Contains ls letter) (shape.met text) met));
    kept_name = λ some. subst (λ (f : Finding). IsSome f.name) (sym finding) some;
    met_name = λ text met. inr (subst (λ (ks : List Bool). IsTrue (meets_name ks text)) (sym known_new) (subst IsTrue (shape.named text) met));
  }

  pub unknown_step : Passes nodes symbol old new × Meets nodes symbol old new
  unknown_step = (unknown_passes, unknown_meets)

drop_zero : {A : Type 0} (xs : List A) → drop 0 xs ≡ xs
drop_zero [] = refl
drop_zero (x ∷ xs) = refl

pub put_is_unknown : (space : _) (ks : List Bool) → IsUnknown (symbol.Put space) 2 ks
put_is_unknown space ks = record {
  trees = λ text a. refl;
  statements = λ text a. refl;
  letters = λ text a h. h;
  met = λ text. refl;
  named = λ text. refl;
}

pub shift_is_unknown : (space : _) (from : ℕ) (ks : List Bool) → IsUnknown (symbol.Shift space from) 1 ks
shift_is_unknown space from ks = record {
  trees = λ text a. refl;
  statements = λ text a. refl;
  letters = λ text a h. h;
  met = λ text. refl;
  named = λ text. refl;
}

pub letter_is_unknown : (letter : Letter) (ks : List Bool) → is_known ks ≡ false → IsUnknown (symbol.Letter letter) 0 ks
letter_is_unknown letter ks unknown = record {
  trees = λ text a. sym (drop_zero (spelled text a).trees);
  statements = λ text a. refl;
  letters = λ text a h. All-tail (HasLetter a) letter (letters_in text) h;
  met = λ text. ap (λ (b : Bool). (if b then letter ∷ [] else []) ++ letters_met (drop 1 ks) text) unknown;
  named = λ text. refl;
}

pub node_is_unknown : (kind : Kind) (label : Label) (ks : List Bool) → is_known ks ≡ false → IsUnknown (symbol.Node kind label) (length (form kind).kids) ks
node_is_unknown kind label ks unknown = record {
  trees = λ text a. refl;
  statements = λ text a. refl;
  letters = λ text a h. h;
  met = λ text. ap (λ (b : Bool). letters_met (replicate (length (form kind).kids) b ++ drop 1 ks) text) unknown;
  named = λ text. ap (λ (b : Bool). (b && is_row_name label) || meets_name (replicate (length (form kind).kids) b ++ drop 1 ks) text) unknown;
}
