-- A walk past a symbol where the tree that is expected is known.
use Rattle.std.proofs.Common.{◌≡◌, ℕ, zero, suc, ◌<◌, ◌&&◌, ◌||◌, Bool, true, false, List, [], ◌∷◌, ◌++◌, Some, None, Option, length, get_or, set, take, drop, map, replicate, All, Contains, IsTrue, refl, sym, ap, subst, ◌∙◌, inl, inr, arith}
use Rattle.std.specs.Prelude.{is_some, IsSome, ◌⊎◌, if◌then◌else◌}
use Rattle.std.proofs.lemmas.List.{get_or_default, get_or-set_same, get_or-set_other, length-map}
use Rattle.std.specs.Bool.{OnTrue}
use Rattle.std.proofs.lemmas.Bool.{cases_eq}
use Rattle.std.proofs.lemmas.List.Elements.{All-head, All-tail, Contains-append_cases}
use Rattle.rz_rules.specs.declared.kinds.Kind.{Kind}
use Rattle.rz_rules.specs.declared.kinds.Sort.{Sort}
use Rattle.rz_rules.specs.declared.judgments.JudgmentKind.{JudgmentKind}
use Rattle.rz_rules.specs.declared.judgments.Judgment.{Judgment}
use Rattle.rz_rules.specs.declared.judgments.Judgment.TheVariants as judgments
use Rattle.rz_rules.specs.declared.nodes.Node.{Node}
use Rattle.rz_rules.specs.declared.symbols.Letter.{Letter}
use Rattle.rz_rules.specs.declared.symbols.Label.{Label}
use Rattle.rz_rules.specs.declared.symbols.Symbol.{Symbol}
use Rattle.rz_rules.specs.declared.symbols.Symbol.TheVariants as symbol
use Rattle.rz_rules.specs.Form.{form}
use Rattle.rz_rules.specs.Tree.{Tree, At, HasForm, IsTree, sort_of, tree_at, tree_of, tree_over, trees_in, trees_of}
use Rattle.rz_rules.specs.Judgment.{Statement, context_of, judgment_form, kind_of, parts_of, statement}
use Rattle.rz_rules.specs.Row.{Assignment, HasLetter, letters_in, name_of, number_of, spelled}
use Rattle.rz_rules.proofs.Trees.{trees_of_injective}
use Rattle.rz_rule_text.specs.declared.letters.Walk.{Walk}
use Rattle.rz_rule_text.specs.declared.letters.Finding.{Finding}
use Rattle.rz_rule_text.specs.Finding.{Agrees, Answers, AnswersLabel, HasLabel, IsLive, Meets, Passes, Refuses, Remains, StandsFor, first_expected, is_known, kind_in, known, letters_met, meets_name, number_in}
use Rattle.rz_rule_text.specs.Letters.{IsFound, is_row_name, letter_at, name_in}
use Rattle.rz_rule_text.proofs.Walks.{Agrees-next, Agrees-rest, Agrees-known, is_known-next, known-rest, known-known}

-- a tree has one sort
pub one_sort : (sort : Sort) (tree : Tree) → IsTree sort tree → sort_of tree ≡ sort
one_sort sort (At kind number name kids) h = h.0

-- a list of one has one element
Contains-one : {X : Type 0} (x y : X) → Contains (x ∷ []) y → x ≡ y
Contains-one x y (zero, lt, e) = e
Contains-one x y (suc k, lt, e) = absurd (omega (arith, lt))

-- what was found for another letter stays
pub letter_at-set_other : (letters : List (Option ℕ)) (k j : ℕ) (id : ℕ) → (k ≡ j → ⊥) → letter_at (set letters k (Some id)) j ≡ letter_at letters j
letter_at-set_other letters k j id differs = get_or-set_other letters k j (Some id) None (λ e. differs (sym e))

module _ (nodes : List Node) (letters : List (Option ℕ)) (name : Option ℕ) (k id : ℕ) where
  pub StandsFor-set : (a : Assignment) → k < length letters → a.letters k ≡ tree_of nodes id → StandsFor nodes letters name a → StandsFor nodes (set letters k (Some id)) name a
  StandsFor-set a low is h = record {
    trees = λ j other e.
        elim (cases_eq k j) as (λ _. a.letters j ≡ tree_of nodes other) [
          | inl same ↦
              let found : letter_at (set letters k (Some id)) k ≡ Some id = get_or-set_same letters k (Some id) None low in
              let here : letter_at (set letters k (Some id)) k ≡ Some other = ap (letter_at (set letters k (Some id))) same ∙ e in
              let ids : id ≡ other = cc in
              ap a.letters (sym same) ∙ is ∙ ap (tree_of nodes) ids
          | inr differs ↦ h.trees j other (sym (letter_at-set_other letters k j id differs) ∙ e)
        ];
    named = h.named;
  }

  -- a letter with another number, or at the same place
  pub IsFound-set : (letter : Letter) → letter_at letters k ≡ None → IsFound nodes letters letter → IsFound nodes (set letters k (Some id)) letter
  IsFound-set letter none found = record {
    id = found.id;
    there =
        elim (cases_eq k letter.number) as (λ _. letter_at (set letters k (Some id)) letter.number ≡ Some found.id) [
          | inl same ↦
              let there : letter_at letters k ≡ Some found.id = ap (letter_at letters) same ∙ found.there in
              absurd cc
          | inr differs ↦ letter_at-set_other letters k letter.number id differs ∙ found.there
        ];
    live = found.live;
    sort = found.sort;
  }

module _ (nodes : List Node) (old : Walk) (id : ℕ) (first : first_expected old.expected.items ≡ Some id) where
  knows : is_known (known old) ≡ true
  knows = is_known-next old.expected.items ∙ ap is_some first

  module _ (letter : Letter) where
    -- the letter stands for the tree
    pub letter_tree : (text : List Symbol) (a : Assignment) → Remains nodes (symbol.Letter letter ∷ text) a old → a.letters letter.number ≡ tree_of nodes id
    letter_tree text a h = Agrees-next nodes old.expected.items (spelled (symbol.Letter letter ∷ text) a).trees id first h.trees

    pub refuses_sort : (sort_of (tree_of nodes id) ≡ letter.sort → ⊥) → Refuses nodes (symbol.Letter letter) old
    refuses_sort differs text a h =
        differs (ap sort_of (sym (letter_tree text a h)) ∙ one_sort letter.sort (a.letters letter.number) (All-head (HasLetter a) letter (letters_in text) h.letters))

    pub refuses_other : (other : ℕ) → letter_at old.finding.letters.items letter.number ≡ Some other → (tree_of nodes other ≡ tree_of nodes id → ⊥) → Refuses nodes (symbol.Letter letter) old
    refuses_other other found differs text a h = differs (sym (h.found.trees letter.number other found) ∙ letter_tree text a h)

    module _ (new : Walk) (expected : new.expected.items ≡ drop 1 old.expected.items) (rest : new.rest.now ≡ old.rest.now) (name : new.finding.name ≡ old.finding.name)
        (stands : (a : Assignment) → a.letters letter.number ≡ tree_of nodes id → StandsFor nodes old.finding.letters.items old.finding.name a
        → StandsFor nodes new.finding.letters.items old.finding.name a)
        (kept : (other : Letter) → IsFound nodes old.finding.letters.items other → IsFound nodes new.finding.letters.items other)
        (found : IsFound nodes new.finding.letters.items letter) where
      known_letter : known new ≡ drop 1 (known old)
      known_letter = ap (map is_some) expected ∙ sym (known-rest old.expected.items)

      pub letter_step : Passes nodes (symbol.Letter letter) old new × Meets nodes (symbol.Letter letter) old new
      letter_step = (
        λ text a h. record {
          letters = All-tail (HasLetter a) letter (letters_in text) h.letters;
          trees = subst (λ (es : List (Option ℕ)). Agrees nodes es (spelled text a).trees) (sym expected) (Agrees-rest nodes old.expected.items (spelled (symbol.Letter letter ∷ text) a).trees h.trees);
          statements = h.statements ∙ ap (map (statement (trees_in nodes))) (sym rest);
          found = subst (λ (n : Option ℕ). StandsFor nodes new.finding.letters.items n a) (sym name) (stands a (letter_tree text a h) h.found);
        },
        record {
          kept = kept;
          met = λ text other met.
              elim (Contains-append_cases (if is_known (known old) then letter ∷ [] else []) (letters_met (drop 1 (known old)) text) other met)
              as (λ _. IsFound nodes new.finding.letters.items other ⊎ Contains (letters_met (known new) text) other) [
                | inl here ↦ inl (let one : Contains (letter ∷ []) other = subst (λ (b : Bool). Contains (if b then letter ∷ [] else []) other) knows here in only_letter other one)
                | inr later ↦ inr (subst (λ (ks : List Bool). Contains (letters_met ks text) other) (sym known_letter) later)
              ];
          kept_name = λ some. subst IsSome (sym name) some;
          met_name = λ text met. inr (subst (λ (ks : List Bool). IsTrue (meets_name ks text)) (sym known_letter) met);
        },
      ) where
        only_letter : (other : Letter) → Contains (letter ∷ []) other → IsFound nodes new.finding.letters.items other
        only_letter other one = subst (IsFound nodes new.finding.letters.items) (Contains-one letter other one) found

  module _ (kind : Kind) (label : Label) (node : Node) (tree : tree_of nodes id ≡ tree_over (trees_in nodes) node) where
    -- the node of the text is the tree
    node_tree : (text : List Symbol) (a : Assignment) → Remains nodes (symbol.Node kind label ∷ text) a old
        → At kind (number_of label) (name_of label a.name) (trees_of (take (length (form kind).kids) (spelled text a).trees)) ≡ tree_of nodes id
    node_tree text a h = Agrees-next nodes old.expected.items (spelled (symbol.Node kind label ∷ text) a).trees id first h.trees

    pub refuses_node : (node.kind ≡ kind → ⊥) → Refuses nodes (symbol.Node kind label) old
    refuses_node differs text a h = differs (sym (ap kind_in (node_tree text a h ∙ tree)))

    has_label : (text : List Symbol) (a : Assignment) → Remains nodes (symbol.Node kind label ∷ text) a old → HasLabel (tree_of nodes id) label a
    has_label text a h = (ap number_in (sym (node_tree text a h)), ap name_in (sym (node_tree text a h)))

    pub refuses_label : ((a : Assignment) → HasLabel (tree_of nodes id) label a → StandsFor nodes old.finding.letters.items old.finding.name a → ⊥) → Refuses nodes (symbol.Node kind label) old
    refuses_label none text a h = none a (has_label text a h) h.found

    module _ (new : Walk) (expected : new.expected.items ≡ map (λ (kid : ℕ). Some kid) node.kids ++ drop 1 old.expected.items) (rest : new.rest.now ≡ old.rest.now)
        (letters : new.finding.letters ≡ old.finding.letters) (count : length node.kids ≡ length (form kind).kids)
        (stands : (a : Assignment) → HasLabel (tree_of nodes id) label a → StandsFor nodes old.finding.letters.items old.finding.name a → StandsFor nodes old.finding.letters.items new.finding.name a)
        (kept : IsSome old.finding.name → IsSome new.finding.name) (noted : IsTrue (is_row_name label) → IsSome new.finding.name) where
      known_kids : known new ≡ replicate (length (form kind).kids) true ++ drop 1 (known old)
      known_kids =
          ap (map is_some) expected ∙ known-known node.kids (length (form kind).kids) (drop 1 old.expected.items) (sym count)
          ∙ ap (λ (ks : List Bool). replicate (length (form kind).kids) true ++ ks) (sym (known-rest old.expected.items))

      kids_are : (text : List Symbol) (a : Assignment) → Remains nodes (symbol.Node kind label ∷ text) a old → take (length (form kind).kids) (spelled text a).trees ≡ map (tree_of nodes) node.kids
      kids_are text a h =
          let whole = node_tree text a h ∙ tree in
          let same : trees_of (take (length (form kind).kids) (spelled text a).trees) ≡ trees_of (map (tree_of nodes) node.kids) = cc in
          trees_of_injective _ _ same

      met_or_noted : (r m : Bool) → IsTrue (r || m) → IsTrue r ⊎ IsTrue m
      met_or_noted true m h = inl refl
      met_or_noted false m h = inr h

      pub node_step : Passes nodes (symbol.Node kind label) old new × Meets nodes (symbol.Node kind label) old new
      node_step = (
        λ text a h. record {
          letters = h.letters;
          trees = subst (λ (es : List (Option ℕ)). Agrees nodes es (spelled text a).trees) (sym expected)
              (Agrees-known nodes node.kids (length (form kind).kids) (drop 1 old.expected.items) (spelled text a).trees (sym count) (kids_are text a h)
              (Agrees-rest nodes old.expected.items (spelled (symbol.Node kind label ∷ text) a).trees h.trees));
          statements = h.statements ∙ ap (map (statement (trees_in nodes))) (sym rest);
          found = subst (λ (ls : _). StandsFor nodes ls new.finding.name a) (ap (λ (v : _). v.items) (sym letters)) (stands a (has_label text a h) h.found);
        },
        record {
          kept = λ letter found. subst (λ (ls : List (Option ℕ)). IsFound nodes ls letter) (ap (λ (v : _). v.items) (sym letters)) found;
          met = λ text letter met. inr
              (subst (λ (ks : List Bool). Contains (letters_met ks text) letter) (sym known_kids)
              (subst (λ (b : Bool). Contains (letters_met (replicate (length (form kind).kids) b ++ drop 1 (known old)) text) letter) knows met));
          kept_name = kept;
          met_name = λ text met.
              let all : IsTrue (is_row_name label || meets_name (replicate (length (form kind).kids) true ++ drop 1 (known old)) text) =
              subst (λ (b : Bool). IsTrue ((b && is_row_name label) || meets_name (replicate (length (form kind).kids) b ++ drop 1 (known old)) text)) knows met in
              elim (met_or_noted (is_row_name label) (meets_name (replicate (length (form kind).kids) true ++ drop 1 (known old)) text) all)
              as (λ _. IsSome new.finding.name ⊎ IsTrue (meets_name (known new) text)) [
                | inl here ↦ inl (noted here)
                | inr later ↦ inr (subst (λ (ks : List Bool). IsTrue (meets_name ks text)) (sym known_kids) later)
              ];
        },
      )

-- a judgment has as many parts as its kind
pub parts_count : (says : Judgment) → length (parts_of says) ≡ length (judgment_form (kind_of says)).parts
parts_count (judgments.Formed c) = refl
parts_count (judgments.Holds c phi) = refl
parts_count (judgments.Has c a of) = refl
parts_count (judgments.Same c a b of) = refl

module _ (nodes : List Node) (old : Walk) (kind : JudgmentKind) where
  pub refuses_end : old.rest.now ≡ [] → Refuses nodes (symbol.Says kind) old
  refuses_end none text a h =
      let wrong = h.statements ∙ ap (map (statement (trees_in nodes))) none in
      absurd cc

  module _ (says : Judgment) (others : List Judgment) (split : old.rest.now ≡ says ∷ others) where
    abbrev first_of : List Statement → Statement
    first_of ss = get_or ss 0 (statement (trees_in nodes) says)

    said : (text : List Symbol) (a : Assignment) → Remains nodes (symbol.Says kind ∷ text) a old
        → (spelled (symbol.Says kind ∷ text) a).statements ≡ statement (trees_in nodes) says ∷ map (statement (trees_in nodes)) others
    said text a h = h.statements ∙ ap (map (statement (trees_in nodes))) split

    pub refuses_judgment : (kind_of says ≡ kind → ⊥) → Refuses nodes (symbol.Says kind) old
    refuses_judgment differs text a h =
        let all = said text a h in
        let same : kind ≡ kind_of says = ap (λ (ss : List Statement). (first_of ss).kind) all in
        differs (sym same)

    module _ (new : Walk) (kind_is : kind_of says ≡ kind) (expected : new.expected.items ≡ Some (context_of says) ∷ (map (λ (part : ℕ). Some part) (parts_of says) ++ old.expected.items))
        (rest : new.rest.now ≡ others) (finding : new.finding ≡ old.finding) where
      count : length (judgment_form kind).parts ≡ length (parts_of says)
      count = ap (λ (k : JudgmentKind). length (judgment_form k).parts) (sym kind_is) ∙ sym (parts_count says)

      known_parts : known new ≡ true ∷ (replicate (length (judgment_form kind).parts) true ++ known old)
      known_parts = ap (map is_some) expected ∙ ap (λ (ks : List Bool). true ∷ ks) (known-known (parts_of says) (length (judgment_form kind).parts) old.expected.items count)

      pub judgment_step : Passes nodes (symbol.Says kind) old new × Meets nodes (symbol.Says kind) old new
      judgment_step = (
        λ text a h.
            let all = said text a h in
            let n = length (judgment_form kind).parts in
            let context : tree_at (spelled text a).trees 0 ≡ tree_of nodes (context_of says) = ap (λ (ss : List Statement). (first_of ss).context) all in
            let parts : take n (drop 1 (spelled text a).trees) ≡ map (tree_of nodes) (parts_of says) = ap (λ (ss : List Statement). (first_of ss).parts) all in
            let later : (spelled text a).statements ≡ map (statement (trees_in nodes)) others = cc in
            record {
              letters = h.letters;
              trees = subst (λ (es : List (Option ℕ)). Agrees nodes es (spelled text a).trees) (sym expected)
                  (context, Agrees-known nodes (parts_of says) n old.expected.items (drop 1 (spelled text a).trees) count parts h.trees);
              statements = later ∙ ap (map (statement (trees_in nodes))) (sym rest);
              found = subst (λ (f : Finding). StandsFor nodes f.letters.items f.name a) (sym finding) h.found;
            },
        record {
          kept = λ letter found. subst (λ (f : Finding). IsFound nodes f.letters.items letter) (sym finding) found;
          met = λ text letter met. inr (subst (λ (ks : List Bool). Contains (letters_met ks text) letter) (sym known_parts) met);
          kept_name = λ some. subst (λ (f : Finding). IsSome f.name) (sym finding) some;
          met_name = λ text met. inr (subst (λ (ks : List Bool). IsTrue (meets_name ks text)) (sym known_parts) met);
        },
      )

-- an answer at a symbol, by its two cases
pub by_cases : (nodes : List Node) (symbol : Symbol) (old new : Walk) (passed : Bool) → (passed ≡ true → Passes nodes symbol old new × Meets nodes symbol old new) → (passed ≡ false → Refuses nodes symbol old)
    → Answers nodes symbol old new passed
by_cases nodes symbol old new true passes refuses = passes refl
by_cases nodes symbol old new false passes refuses = refuses refl

-- what is read at a letter's place
pub letter_read : (letters : List (Option ℕ)) (k : ℕ) (tree : Option ℕ) → k < length letters → tree ≡ get_or letters k tree → letter_at letters k ≡ tree
letter_read letters k tree low e = get_or_default letters k None tree low ∙ sym e

pub letter_live : (nodes : List Node) (letters : List (Option ℕ)) (k id : ℕ) → k < length letters → letter_at letters k ≡ Some id → All (IsLive nodes) letters → id < length nodes
letter_live nodes letters k id low e h = subst (IsLive nodes) e (h k None low)

module _ (nodes : List Node) (tree : Tree) (label : Label) (letters : List (Option ℕ)) (old new : Option ℕ) where
  pub label_passed : (passed : Bool) → passed ≡ true → AnswersLabel nodes tree label letters old new passed
      → (a : Assignment) → HasLabel tree label a → StandsFor nodes letters old a → StandsFor nodes letters new a
  label_passed true e answer = answer
  label_passed false e answer = absurd cc

  pub label_refused : (passed : Bool) → passed ≡ false → AnswersLabel nodes tree label letters old new passed
      → (a : Assignment) → HasLabel tree label a → StandsFor nodes letters old a → ⊥
  label_refused true e answer = absurd cc
  label_refused false e answer = answer

-- what is said where an answer is yes
pub noted_when : (passed : Bool) (P : Type 0) → passed ≡ true → OnTrue passed P → P
noted_when true P e h = h
noted_when false P e h = absurd cc

-- a node has as many kids as its kind has places
pub kid_count : (nodes : List Node) (bound : ℕ) (node : Node) (kind : Kind) → HasForm (trees_in nodes) bound node → node.kind ≡ kind → length node.kids ≡ length (form kind).kids
kid_count nodes bound node kind fine is =
    sym (length-map node.kids (tree_of nodes)) ∙ sym (length-map (map (tree_of nodes) node.kids) sort_of) ∙ ap length fine.sorts ∙ length-map (form node.kind).kids (λ slot. slot.sort)
    ∙ ap (λ (k : Kind). length (form k).kids) is

-- what is expected behind a judgment
pub expected_parts : (new behind old : List (Option ℕ)) (says : Judgment) (context : ℕ) (parts slice : List ℕ) → new ≡ Some context ∷ behind → behind ≡ map (λ (id : ℕ). Some id) slice ++ old
    → context ≡ context_of says → parts ≡ parts_of says → slice ≡ parts → new ≡ Some (context_of says) ∷ (map (λ (id : ℕ). Some id) (parts_of says) ++ old)
expected_parts new behind old says context parts slice e f is are same =
    let whole : behind ≡ map (λ (id : ℕ). Some id) (parts_of says) ++ old = f ∙ ap (λ (ids : List ℕ). map (λ (id : ℕ). Some id) ids ++ old) (same ∙ are) in
    e ∙ (λ i. Some (is i) ∷ whole i)
