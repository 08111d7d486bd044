-- A whole text, from its end.
use Rattle.std.proofs.Common.{◌≡◌, ℕ, ◌<◌, ◌||◌, Bool, true, false, List, [], ◌∷◌, ◌++◌, Some, None, Option, length, All, refl, sym, ap, subst, ◌∙◌, arith, append_assoc}
use Rattle.std.specs.Prelude.{nat_lt, option_and_then}
use Rattle.std.proofs.lemmas.List.Elements.{All-head, All-tail}
use Rattle.rz_rules.specs.declared.nodes.Node.{Node}
use Rattle.rz_rules.specs.declared.symbols.Letter.{Letter}
use Rattle.rz_rules.specs.declared.symbols.Symbol.{Symbol}
use Rattle.rz_rules.specs.declared.symbols.Symbol.TheVariants as symbol
use Rattle.rz_rules.specs.declared.symbols.TheConstants.{LETTERS}
use borrow.Author.Tests.{ltb-true}
use Rattle.rz_rules.specs.Name.{IsName}
use Rattle.rz_rules.specs.Tree.{sort_of}
use Rattle.rz_rules.specs.Judgment.{IsStatement}
use Rattle.rz_rules.specs.Row.{letters_in, spelled, Assignment}
use Rattle.rz_rules.specs.Text.{IsText, Mark, marks_of, with_mark}
use Rattle.rz_pool.specs.Pool.{Grows, IsPool}
use Rattle.rz_pool.proofs.Nodes.{KeepsTrees-Grows}
use Rattle.rz_rule_text.specs.declared.text.Stack.{Stack}
use Rattle.rz_rule_text.specs.Letters.{IsFound, assignment_of, has_name, is_row_name, letter_at, name_in, tree_for}
use Rattle.rz_rule_text.specs.Spelling.{Answers, AreLetters, CanPut, Fits, HasSpelled, IsNamed, IsTooHigh}
use Rattle.rz_rule_text.proofs.Stacks.{length-Grows}
use Rattle.rz_rule_text.proofs.Putting.{if_some}

-- a text was spelled from its end, up to what is left
pub record IsSpelling (old nodes : List Node) (text left : List Symbol) (letters : List (Option ℕ)) (name : Option ℕ) (stack : Stack) : Type 0 where
  pub grows : Grows old nodes
  pub pool : IsPool nodes
  pub behind : List Symbol
  pub split : text ≡ left ++ behind
  pub has : HasSpelled nodes behind (assignment_of old letters name) stack

-- the end of a text has marks where the text has
marks_some : (symbol : Symbol) (behind : Option (List Mark)) (marks : List Mark) → option_and_then (with_mark symbol) behind ≡ Some marks → (inner : List Mark) × (behind ≡ Some inner)
marks_some symbol None marks e = absurd cc
marks_some symbol (Some inner) marks e = (inner, refl)

pub marks_behind : (left behind : List Symbol) (marks : List Mark) → marks_of (left ++ behind) ≡ Some marks → (inner : List Mark) × (marks_of behind ≡ Some inner)
marks_behind [] behind marks e = (marks, e)
marks_behind (symbol ∷ left) behind marks e =
    let inner = marks_some symbol (marks_of (left ++ behind)) marks e in
    marks_behind left behind inner.0 inner.1

All-behind : {X : Type 0} (P : X → Type 0) (xs ys : List X) → All P (xs ++ ys) → All P ys
All-behind P [] ys h = h
All-behind P (x ∷ xs) ys h = All-behind P xs ys (All-tail P x (xs ++ ys) h)

-- the letters of a text in two parts
pub letters_in-append : (left behind : List Symbol) → letters_in (left ++ behind) ≡ letters_in left ++ letters_in behind
letters_in-append [] behind = refl
letters_in-append (symbol.Letter letter ∷ left) behind = ap (λ (ls : List Letter). letter ∷ ls) (letters_in-append left behind)
letters_in-append (symbol.Node kind label ∷ left) behind = letters_in-append left behind
letters_in-append (symbol.Put space ∷ left) behind = letters_in-append left behind
letters_in-append (symbol.Shift space from ∷ left) behind = letters_in-append left behind
letters_in-append (symbol.Says kind ∷ left) behind = letters_in-append left behind

or_right : (a b : Bool) → b ≡ true → (a || b) ≡ true
or_right true b e = refl
or_right false b e = e

pub has_name-behind : (left behind : List Symbol) → has_name behind ≡ true → has_name (left ++ behind) ≡ true
has_name-behind [] behind e = e
has_name-behind (symbol.Letter letter ∷ left) behind e = has_name-behind left behind e
has_name-behind (symbol.Node kind label ∷ left) behind e = or_right (is_row_name label) (has_name (left ++ behind)) (has_name-behind left behind e)
has_name-behind (symbol.Put space ∷ left) behind e = has_name-behind left behind e
has_name-behind (symbol.Shift space from ∷ left) behind e = has_name-behind left behind e
has_name-behind (symbol.Says kind ∷ left) behind e = has_name-behind left behind e

-- what is said behind is said
pub too_high_behind : (left behind : List Symbol) (a : Assignment) → IsTooHigh behind a → IsTooHigh (left ++ behind) a
too_high_behind [] behind a high = high
too_high_behind (symbol.Letter letter ∷ left) behind a high = too_high_behind left behind a high
too_high_behind (symbol.Node kind label ∷ left) behind a high = too_high_behind left behind a high
too_high_behind (symbol.Put space ∷ left) behind a high = too_high_behind left behind a high
too_high_behind (symbol.Shift space from ∷ left) behind a high = too_high_behind left behind a high
too_high_behind (symbol.Says kind ∷ left) behind a high = λ all. too_high_behind left behind a high (All-tail IsStatement _ (spelled (left ++ behind) a).statements all)

below : (i n : ℕ) → nat_lt i n ≡ true → i < n
below i n e = ltb-true i n e

-- what letters stand for stays where the pool grows
module _ (old nodes : List Node) (grows : Grows old nodes) where
  found_grows : (letters : List (Option ℕ)) (letter : Letter) → IsFound old letters letter → IsFound nodes letters letter
  found_grows letters letter h = record {
    id = h.id;
    there = h.there;
    live = omega (arith, h.live, length-Grows old nodes grows);
    sort = ap sort_of (KeepsTrees-Grows old nodes grows h.id h.live) ∙ h.sort;
  }

  found_tree : (letters : List (Option ℕ)) (letter : Letter) → (h : IsFound old letters letter) → tree_for nodes (letter_at letters letter.number) ≡ tree_for old (letter_at letters letter.number)
  found_tree letters letter h =
      ap (tree_for nodes) h.there ∙ KeepsTrees-Grows old nodes grows h.id h.live ∙ sym (ap (tree_for old) h.there)

  named_grows : (name : Option ℕ) → IsNamed old name → IsNamed nodes name
  named_grows name h = record {
    id = h.id;
    there = h.there;
    has = record {
      live = omega (arith, h.has.live, length-Grows old nodes grows);
      name = subst (λ (t : _). IsName (name_in t)) (sym (KeepsTrees-Grows old nodes grows h.id h.has.live)) h.has.name;
    };
  }

  named_tree : (name : Option ℕ) → (h : IsNamed old name) → name_in (tree_for nodes name) ≡ name_in (tree_for old name)
  named_tree name h =
      ap name_in (ap (tree_for nodes) h.there ∙ KeepsTrees-Grows old nodes grows h.id h.has.live ∙ sym (ap (tree_for old) h.there))

  fits : (left : List Symbol) (symbol : Symbol) (behind : List Symbol) (marks new : List Mark) (letters : List (Option ℕ)) (name : Option ℕ) → AreLetters old (left ++ symbol ∷ behind) letters name
      → with_mark symbol marks ≡ Some new → Fits nodes symbol (assignment_of old letters name) letters name
  fits left (symbol.Letter letter) behind marks new letters name h e =
      let all = subst (All (IsFound old letters)) (letters_in-append left (symbol.Letter letter ∷ behind)) h.found in
      let found = All-head (IsFound old letters) letter (letters_in behind) (All-behind (IsFound old letters) (letters_in left) (letter ∷ letters_in behind) all) in
      let low : nat_lt letter.number LETTERS ≡ true = (if_some (nat_lt letter.number LETTERS) (record { sort = letter.sort; plain = true } ∷ marks) new e).0 in
      (found_grows letters letter found, found_tree letters letter found, below letter.number (length letters) (ap (nat_lt letter.number) h.count ∙ low))
  fits left (symbol.Node kind label) behind marks new letters name h e = λ named.
      let is = h.named (has_name-behind left (symbol.Node kind label ∷ behind) (ap (λ (b : Bool). b || has_name behind) named)) in
      (named_grows name is, named_tree name is)
  fits left (symbol.Put space) behind marks new letters name h e = tt
  fits left (symbol.Shift space from) behind marks new letters name h e = tt
  fits left (symbol.Says kind) behind marks new letters name h e = tt

module _ (old nodes : List Node) (text others : List Symbol) (symbol : Symbol) (letters : List (Option ℕ)) (name : Option ℕ) (stack : Stack) (complete : IsText text) (are : AreLetters old text letters name)
    (h : IsSpelling old nodes text (others ++ symbol ∷ []) letters name stack) where
  split : text ≡ others ++ symbol ∷ h.behind
  split = h.split ∙ append_assoc others (symbol ∷ []) h.behind

  -- the next symbol may be put
  pub can_put : CanPut nodes symbol h.behind (assignment_of old letters name) stack letters name
  can_put =
      let inner = marks_behind others (symbol ∷ h.behind) [] (ap marks_of (sym split) ∙ complete) in
      let step : with_mark symbol h.has.marks ≡ Some inner.0 = sym (ap (option_and_then (with_mark symbol)) h.has.marked) ∙ inner.1 in
      record {
        has = h.has;
        marks = inner.0;
        marked = inner.1;
        fits = fits old nodes h.grows others symbol h.behind h.has.marks inner.0 letters name (subst (λ (t : List Symbol). AreLetters old t letters name) split are) step;
      }

  -- and then it was
  pub was_put : (new : List Node) (after : Stack) (answer : Bool) → Grows nodes new → IsPool new → answer ≡ true → Answers new (symbol ∷ h.behind) (assignment_of old letters name) after answer
      → IsSpelling old new text others letters name after
  was_put new after true grows pool e has = record { grows = both; pool = pool; behind = symbol ∷ h.behind; split = split; has = has } where
    both : Grows old new
    both = record { added = h.grows.added ++ grows.added; is = grows.is ∙ ap (λ (ns : List Node). ns ++ grows.added) h.grows.is ∙ append_assoc old h.grows.added grows.added }
  was_put new after false grows pool e has = absurd cc

  -- or a judgment was too high
  pub was_too_high : (new : List Node) (after : Stack) (answer : Bool) → answer ≡ false → Answers new (symbol ∷ h.behind) (assignment_of old letters name) after answer
      → IsTooHigh text (assignment_of old letters name)
  was_too_high new after true e high = absurd cc
  was_too_high new after false e high = subst (λ (t : List Symbol). IsTooHigh t (assignment_of old letters name)) (sym split) (too_high_behind others (symbol ∷ h.behind) (assignment_of old letters name) high)
