-- An item of a table is found by its word.
use Rattle.std.proofs.Common.{◌≡◌, ℕ, ◌+◌, ◌<◌, ◌≤◌, true, cond, List, ◌∷◌, Option, Some, None, length, get_or, drop, refl, sym, ap, ◌∙◌}
use Rattle.std.specs.Prelude.{find}
use Rattle.std.specs.Str.{bytes_eq}
use Rattle.rz_rules.specs.declared.rows.Row.{Row}
use Rattle.rz_rules.specs.declared.rows.Row.TheVariants as row
use Rattle.rz_rules.specs.Table.{rule_of}
use Rattle.rz_rules.specs.Text.{IsText}
use Rattle.std.proofs.lemmas.List.{at_drop_more, at_drop_all}

-- the first item with a word
abbrev pub with_word : {X : Type 0} → (X → List ℕ) → List ℕ → List X → Option X
with_word word_of word items = find (λ other. bytes_eq (word_of other) word) items

-- what is looked for is what is found
pub found_is : {X : Type 0} (word_of : X → List ℕ) (items : List X) (word : List ℕ) (found : Option X)
    → ((item : X) → with_word word_of (word_of item) items ≡ Some item)
    → with_word word_of word items ≡ found → (item : X) → word_of item ≡ word → found ≡ Some item
found_is word_of items word found again is item same =
    sym is ∙ sym (ap (λ w. with_word word_of w items) same) ∙ again item

-- the item at a place, where no earlier one has the word
pub found_at : {X : Type 0} (word_of : X → List ℕ) (items : List X) (word : List ℕ) (i : ℕ) (x : X)
    → i < length items → x ≡ get_or items i x → bytes_eq (word_of x) word ≡ true
    → with_word word_of word (drop i items) ≡ with_word word_of word items → with_word word_of word items ≡ Some x
found_at word_of items word i x lt is same rest =
    sym rest ∙ at_drop_more (with_word word_of word) items i x lt
    ∙ ap (λ y. with_word word_of word (y ∷ drop (i + 1) items)) (sym is)
    ∙ ap (λ b. cond b (Some x) (with_word word_of word (drop (i + 1) items))) same

-- none, where the list is at its end
pub found_none : {X : Type 0} (word_of : X → List ℕ) (items : List X) (word : List ℕ) (i : ℕ)
    → length items ≤ i → with_word word_of word (drop i items) ≡ with_word word_of word items → with_word word_of word items ≡ None
found_none word_of items word i le rest = sym rest ∙ at_drop_all (with_word word_of word) items i le

-- each text of the table is complete and of the right sorts
pub rows_are_texts : (row : Row) → IsText (rule_of row).text
rows_are_texts row.ContextNil = refl
rows_are_texts row = refl
