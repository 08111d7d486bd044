-- The typing row of a term's former, read for the term.
use Rattle.std.proofs.Common.{◌≡◌, ℕ, ◌<◌, true, List, [], ◌∷◌, ◌++◌, Some, None, Option, length, map, All, refl, sym, ap, subst, ◌∙◌, arith}
use Rattle.std.specs.Prelude.{IsSome, IfSome, IfNone, IfOk, Result, Ok, Err}
use Rattle.std.proofs.lemmas.List.Elements.{All-tail}
use Rattle.rz_rules.specs.declared.kinds.Kind.{Kind}
use Rattle.rz_rules.specs.declared.kinds.Kind.TheVariants as kind
use Rattle.rz_rules.specs.declared.nodes.Node.{Node}
use Rattle.rz_rules.specs.declared.judgments.Judgment.{Judgment}
use Rattle.rz_rules.specs.declared.judgments.Judgment.TheVariants.{Formed, Holds, Has, Same}
use Rattle.rz_rules.specs.declared.rows.Row.{Row}
use Rattle.rz_rules.specs.declared.symbols.Letter.{Letter}
use Rattle.rz_rules.specs.declared.symbols.Symbol.{Symbol}
use Rattle.rz_rules.specs.declared.symbols.Symbol.TheVariants as symbol
use Rattle.rz_rules.specs.Tree.{Tree, kind_at, tree_at, tree_of, trees_in}
use Rattle.rz_rules.specs.Judgment.{IsStatement, Statement, statement}
use Rattle.rz_rules.specs.Row.{Assignment, HasLetter, Spelling, letters_in, spelled}
use Rattle.rz_rules.specs.Structural.{IsTyped, has, formed}
use Rattle.rz_rules.specs.Table.{rule_of, typing_row}
use Rattle.rz_pool.specs.Pool.{Grows, IsPool}
use Rattle.rz_pool.proofs.Nodes.{KeepsTrees-Grows, length-Grows}
use Rattle.rz_kernel_rows.specs.declared.formers.Typing.{Typing}
use Rattle.rz_kernel_rows.proofs.Judged.{has_at}
use Rattle.rz_kernel_rows.proofs.Lists.{All-among, All-front}
use Rattle.std.proofs.lemmas.List.{map-append}
use Rattle.rz_rule_text.specs.Letters.{IsFound, HasName, assignment_of, has_name}
use Rattle.rz_rule_text.specs.Spelling.{AreLetters, IsTooHigh, IsNamed}
use Rattle.rz_rule_text.specs.Finding.{FindsSubject, HasNoSubject, IsFinding, SpeaksOf, last_words, subject_determines}
use Rattle.rz_kernel_rows.specs.Line.{IsJudgmentOver}
use Rattle.rz_kernel_rows.specs.Typing.{AreTyping, HasNoTyping, IsTypingOf}
use Rattle.rz_kernel_rows.proofs.Instances.{same_spelling}
use Rattle.rz_rule_text.proofs.Over.{AreStatements-over, letters_have_sorts}

-- ---- the table

-- what holds of the typing row of a former, where there is one
abbrev AtRow : (Row → Type 0) → Option Row → Type 0
AtRow P (Some row) = P row
AtRow P None = Unit {0}

at_row : (P : Row → Type 0) (o : Option Row) (row : Row) → o ≡ Some row → AtRow P o → P row
at_row P o row e h = subst (AtRow P) e h

-- all letters of a typing row stand in the context and the term of its conclusion
abbrev Determined : Row → Type 0
Determined row = subject_determines (rule_of row).text ≡ true

formers_determine : (k : Kind) → AtRow Determined (typing_row k)
formers_determine kind.Universe = refl
formers_determine kind.Constant = refl
formers_determine kind.Postulate = refl
formers_determine kind.Pi = refl
formers_determine kind.Sigma = refl
formers_determine kind.Lambda = refl
formers_determine kind.Application = refl
formers_determine kind.Pair = refl
formers_determine kind.First = refl
formers_determine kind.Second = refl
formers_determine kind.Identity = refl
formers_determine kind.Reflexivity = refl
formers_determine kind.IdentityInduction = refl
formers_determine kind.UnitType = refl
formers_determine kind.Star = refl
formers_determine kind.Extension = refl
formers_determine kind.ExtensionLambda = refl
formers_determine kind.ExtensionApplication = refl
formers_determine kind.RecOr = refl
formers_determine kind.RecBottom = refl
formers_determine k = tt

pub determines : (k : Kind) (row : Row) → typing_row k ≡ Some row → subject_determines (rule_of row).text ≡ true
determines k row e = at_row Determined (typing_row k) row e (formers_determine k)

-- the last of some judgments
abbrev pub last_of : Statement → List Statement → Statement
last_of says [] = says
last_of says (other ∷ said) = last_of other said

last_push : (first says : Statement) (said : List Statement) → last_of first (said ++ says ∷ []) ≡ says
last_push first says [] = refl
last_push first says (other ∷ said) = last_push other says said

-- a typing row's last judgment says that a term has a type, and behind it no judgment stands
pub record EndsInHas (row : Row) (a : Assignment) : Type 0 where
  pub last : (first : Statement) → last_of first (spelled (rule_of row).text a).statements
      ≡ has (tree_at (spelled (last_words (rule_of row).text (rule_of row).text) a).trees 0) (tree_at (spelled (last_words (rule_of row).text (rule_of row).text) a).trees 1)
      (tree_at (spelled (last_words (rule_of row).text (rule_of row).text) a).trees 2)
  pub none : (spelled (last_words (rule_of row).text (rule_of row).text) a).statements ≡ []

abbrev Ends : Row → Type 0
Ends row = (a : Assignment) → EndsInHas row a

formers_end : (k : Kind) → AtRow Ends (typing_row k)
formers_end kind.Universe = λ a. record { last = λ first. refl; none = refl }
formers_end kind.Constant = λ a. record { last = λ first. refl; none = refl }
formers_end kind.Postulate = λ a. record { last = λ first. refl; none = refl }
formers_end kind.Pi = λ a. record { last = λ first. refl; none = refl }
formers_end kind.Sigma = λ a. record { last = λ first. refl; none = refl }
formers_end kind.Lambda = λ a. record { last = λ first. refl; none = refl }
formers_end kind.Application = λ a. record { last = λ first. refl; none = refl }
formers_end kind.Pair = λ a. record { last = λ first. refl; none = refl }
formers_end kind.First = λ a. record { last = λ first. refl; none = refl }
formers_end kind.Second = λ a. record { last = λ first. refl; none = refl }
formers_end kind.Identity = λ a. record { last = λ first. refl; none = refl }
formers_end kind.Reflexivity = λ a. record { last = λ first. refl; none = refl }
formers_end kind.IdentityInduction = λ a. record { last = λ first. refl; none = refl }
formers_end kind.UnitType = λ a. record { last = λ first. refl; none = refl }
formers_end kind.Star = λ a. record { last = λ first. refl; none = refl }
formers_end kind.Extension = λ a. record { last = λ first. refl; none = refl }
formers_end kind.ExtensionLambda = λ a. record { last = λ first. refl; none = refl }
formers_end kind.ExtensionApplication = λ a. record { last = λ first. refl; none = refl }
formers_end kind.RecOr = λ a. record { last = λ first. refl; none = refl }
formers_end kind.RecBottom = λ a. record { last = λ first. refl; none = refl }
formers_end k = tt

ends : (k : Kind) (row : Row) → typing_row k ≡ Some row → (a : Assignment) → EndsInHas row a
ends k row e = at_row Ends (typing_row k) row e (formers_end k)

-- what holds of the letters of a text holds of those of its end
letters_last : (P : Letter → Type 0) (end text : List Symbol) → All P (letters_in end) → All P (letters_in text) → All P (letters_in (last_words end text))
letters_last P end [] h all = h
letters_last P end (symbol.Says k ∷ text) h all = letters_last P text text all all
letters_last P end (symbol.Letter letter ∷ text) h all = letters_last P end text h (All-tail P letter (letters_in text) all)
letters_last P end (symbol.Node k label ∷ text) h all = letters_last P end text h all
letters_last P end (symbol.Put space ∷ text) h all = letters_last P end text h all
letters_last P end (symbol.Shift space from ∷ text) h all = letters_last P end text h all

-- ---- an instance for a term

same_row : (k : Kind) (row other : Row) → typing_row k ≡ Some row → typing_row k ≡ Some other → other ≡ row
same_row k row other e f = cc

module _ (nodes : List Node) (context term : ℕ) (row : Row) (former : typing_row (kind_at (tree_of nodes term)) ≡ Some row) where
  text : List Symbol
  text = (rule_of row).text

  -- each instance for the term speaks of it
  pub speaks : (type : Tree) (above : List Statement) (typed : IsTyped (tree_of nodes context) (tree_of nodes term) type above) → SpeaksOf nodes (rule_of row).text context term typed.assignment
  speaks type above typed =
      let same = same_row (kind_at (tree_of nodes term)) row typed.row former typed.former in
      let a = typed.assignment in
      let end = ends (kind_at (tree_of nodes term)) row former a in
      let letters = subst (λ (r : Row). All (HasLetter a) (letters_in (rule_of r).text)) same typed.instance.letters in
      let spells = subst (λ (r : Row). (spelled (rule_of r).text a).statements ≡ above ++ has (tree_of nodes context) (tree_of nodes term) type ∷ []) same typed.instance.spells in
      let first = formed (tree_of nodes context) in
      let last : has (tree_at (spelled (last_words (rule_of row).text (rule_of row).text) a).trees 0) (tree_at (spelled (last_words (rule_of row).text (rule_of row).text) a).trees 1)
      (tree_at (spelled (last_words (rule_of row).text (rule_of row).text) a).trees 2) ≡ has (tree_of nodes context) (tree_of nodes term) type =
      sym (end.last first) ∙ ap (last_of first) spells ∙ last_push first (has (tree_of nodes context) (tree_of nodes term) type) above in
      record {
        letters = letters_last (HasLetter a) (rule_of row).text (rule_of row).text letters letters;
        context_is = ap (λ (s : Statement). s.context) last;
        term_is = ap (λ (s : Statement). tree_at s.parts 0) last;
        last = end.none;
      }

  pub no_subject : HasNoSubject nodes (rule_of row).text context term → HasNoTyping nodes context term
  no_subject none_there type above typed = none_there typed.assignment (speaks type above typed)

  -- what was found of the letters
  module _ (letters : List (Option ℕ)) (name : Option ℕ) (finds : FindsSubject nodes (rule_of row).text context term letters name) (are : AreLetters nodes (rule_of row).text letters name) where
    spelled_by : (type : Tree) (above : List Statement) → IsTyped (tree_of nodes context) (tree_of nodes term) type above
        → (spelled (rule_of row).text (assignment_of nodes letters name)).statements ≡ above ++ has (tree_of nodes context) (tree_of nodes term) type ∷ []
    spelled_by type above typed =
        let same = same_row (kind_at (tree_of nodes term)) row typed.row former typed.former in
        let a = typed.assignment in
        let spells = subst (λ (r : Row). (spelled (rule_of r).text a).statements ≡ above ++ has (tree_of nodes context) (tree_of nodes term) type ∷ []) same typed.instance.spells in
        ap (λ (s : Spelling). s.statements) (sym (same_spelling nodes (rule_of row).text letters name are.found (λ has. let h = are.named has in (h.id, h.there)) a (finds a (speaks type above typed)))) ∙ spells

    pub too_high : IsTooHigh (rule_of row).text (assignment_of nodes letters name) → HasNoTyping nodes context term
    too_high high type above typed = high (subst (All IsStatement) (sym (spelled_by type above typed)) typed.trees)

    pub are_typing : IsPool nodes → (new : List Node) → IsPool new → (said : List Judgment) → (spelled (rule_of row).text (assignment_of nodes letters name)).statements ≡ map (statement (trees_in new)) said
        → All (IsJudgmentOver new) said → AreTyping nodes new context term said
    are_typing pool new grown said spells over = record {
      over = over;
      typed = λ type above. (
        λ typed. sym (spelled_by type above typed) ∙ spells,
        λ e. record {
          row = row;
          former = former;
          assignment = assignment_of nodes letters name;
          instance = record { letters = letters_have_sorts nodes pool.forms letters name (letters_in (rule_of row).text) are.found; spells = spells ∙ sym e };
          trees = subst (All IsStatement) (sym e) (AreStatements-over new grown.forms said over);
        },
      );
    }

named : (nodes : List Node) (name : Option ℕ) → IfSome name (HasName nodes) → IsSome name → IsNamed nodes name
named nodes None h some = absurd cc
named nodes (Some id) h some = record { id = id; there = refl; has = h }

-- the letters that were found are those of the row
pub are_letters : (nodes : List Node) (k : Kind) (row : Row) → typing_row k ≡ Some row → (letters : List (Option ℕ)) (name : Option ℕ) → IsFinding nodes letters name
    → (subject_determines (rule_of row).text ≡ true → All (IsFound nodes letters) (letters_in (rule_of row).text))
    → (subject_determines (rule_of row).text ≡ true → has_name (rule_of row).text ≡ true → IsSome name) → AreLetters nodes (rule_of row).text letters name
are_letters nodes k row former letters name there found some =
    let determined = determines k row former in
    record { count = there.count; found = found determined; named = λ has. named nodes name there.named (some determined has) }

-- answers of a call that may want memory
pub said_typed : {E V : Type 0} (r : Result (Option V) E) (P Q R : V → Type 0) → ((v : V) → P v → Q v → R v) → IfOk r (λ answer. IfSome answer P) → IfOk r (λ answer. IfSome answer Q)
    → IfOk r (λ answer. IfSome answer R)
said_typed (Err e) P Q R f g h = tt
said_typed (Ok None) P Q R f g h = tt
said_typed (Ok (Some v)) P Q R f g h = f v g h

pub said_none : {E V : Type 0} (r : Result (Option V) E) (P Q : Type 0) → (P → Q) → IfOk r (λ answer. IfNone answer P) → IfOk r (λ answer. IfNone answer Q)
said_none (Err e) P Q f h = tt
said_none (Ok None) P Q f h = f h
said_none (Ok (Some v)) P Q f h = tt

-- ---- what the judgments of the typing row say

-- an item at a place, read off a list of images
pub map_back : (f : Judgment → Statement) (js : List Judgment) (above : List Statement) (last : Statement) → above ++ last ∷ [] ≡ map f js
    → (front : List Judgment) × (end : Judgment) × (js ≡ front ++ end ∷ []) × (above ≡ map f front) × (last ≡ f end)
map_back f [] [] last e = absurd cc
map_back f [] (s ∷ above) last e = absurd cc
map_back f (j ∷ []) [] last e = ([], j, refl, refl, ap (last_of last) e)
map_back f (j ∷ i ∷ js) [] last e = absurd cc
map_back f (j ∷ []) (s ∷ []) last e = absurd cc
map_back f (j ∷ []) (s ∷ t ∷ above) last e = absurd cc
map_back f (j ∷ i ∷ js) (s ∷ above) last e =
    let first : s ≡ f j = cc in
    let others : above ++ last ∷ [] ≡ map f (i ∷ js) = cc in
    let rest = map_back f (i ∷ js) above last others in
    (j ∷ rest.0, rest.1, ap (λ (js : List Judgment). j ∷ js) rest.2, (λ k. first k ∷ rest.3 k), rest.4)

push_same : (xs ys : List Statement) (x y : Statement) → xs ++ x ∷ [] ≡ ys ++ y ∷ [] → (xs ≡ ys) × (x ≡ y)
push_same [] [] x y e = (refl, ap (last_of x) e)
push_same [] (z ∷ []) x y e = absurd cc
push_same [] (z ∷ w ∷ ys) x y e = absurd cc
push_same (z ∷ []) [] x y e = absurd cc
push_same (z ∷ w ∷ xs) [] x y e = absurd cc
push_same (z ∷ xs) (w ∷ ys) x y e =
    let first : z ≡ w = cc in
    let others : xs ++ x ∷ [] ≡ ys ++ y ∷ [] = cc in
    let rest = push_same xs ys x y others in
    ((λ i. first i ∷ rest.0 i), rest.1)

module _ (old new : List Node) (grows : Grows old new) (pool : IsPool new) (context term : ℕ) (low : context < length old) (term_low : term < length old) where
  has_said : (of : ℕ) → statement (trees_in new) (Has context term of) ≡ has (tree_of old context) (tree_of old term) (tree_of new of)
  has_said of = λ i. has (KeepsTrees-Grows old new grows context low i) (KeepsTrees-Grows old new grows term term_low i) (tree_of new of)

  -- the judgments of the row, with the last apart
  pub typing_of : (said : List Judgment) → AreTyping old new context term said → (typing : Typing) → said ≡ typing.above.items ++ Has context term typing.of ∷ [] → IsTypingOf old new context term typing
  typing_of said are typing is = record {
    over = All-front (IsJudgmentOver new) typing.above.items (Has context term typing.of) whole;
    type_at = (has_at new context term typing.of (All-among (IsJudgmentOver new) typing.above.items (Has context term typing.of) [] whole)).2;
    typed = λ type above. (
      λ typed.
          let e = (are.typed type above).0 typed ∙ all in
          let both = push_same above (map (statement (trees_in new)) typing.above.items) (has (tree_of old context) (tree_of old term) type) (statement (trees_in new) (Has context term typing.of)) e in
          let parts : tree_of old term ∷ type ∷ [] ≡ tree_of old term ∷ tree_of new typing.of ∷ [] = ap (λ (s : Statement). s.parts) (both.1 ∙ has_said typing.of) in
          (both.0, cc),
      λ h.
          let last : has (tree_of old context) (tree_of old term) type ≡ statement (trees_in new) (Has context term typing.of) =
          ap (has (tree_of old context) (tree_of old term)) h.1 ∙ sym (has_said typing.of) in
          (are.typed type above).1 ((λ i. h.0 i ++ last i ∷ []) ∙ sym all),
    );
  } where
    whole : All (IsJudgmentOver new) (typing.above.items ++ Has context term typing.of ∷ [])
    whole = subst (All (IsJudgmentOver new)) is are.over

    all : map (statement (trees_in new)) said ≡ map (statement (trees_in new)) typing.above.items ++ statement (trees_in new) (Has context term typing.of) ∷ []
    all = ap (map (statement (trees_in new))) is ∙ map-append (statement (trees_in new)) typing.above.items (Has context term typing.of ∷ [])

  -- where the last doesn't give the term in the context a type, nothing does
  pub no_typing : (said : List Judgment) → AreTyping old new context term said → ((above : List Judgment) (of : ℕ) → said ≡ above ++ Has context term of ∷ [] → ⊥) → HasNoTyping old context term
  no_typing said are none_there type above typed =
      let back = map_back (statement (trees_in new)) said above (has (tree_of old context) (tree_of old term) type) ((are.typed type above).0 typed) in
      let over = All-among (IsJudgmentOver new) back.0 back.1 [] (subst (All (IsJudgmentOver new)) back.2 are.over) in
      let same = has_ids back.1 over (sym back.4) in
      none_there back.0 same.0 (back.2 ∙ ap (λ (j : Judgment). back.0 ++ j ∷ []) same.1) where
        has_ids : (j : Judgment) → IsJudgmentOver new j → statement (trees_in new) j ≡ has (tree_of old context) (tree_of old term) type → (of : ℕ) × (j ≡ Has context term of)
        has_ids (Formed c) over e = let kinds = ap (λ (s : Statement). s.kind) e in absurd cc
        has_ids (Holds c p) over e = let kinds = ap (λ (s : Statement). s.kind) e in absurd cc
        has_ids (Same c a b t) over e = let kinds = ap (λ (s : Statement). s.kind) e in absurd cc
        has_ids (Has c a t) over e =
            let at = has_at new c a t over in
            let parts : tree_of new a ∷ tree_of new t ∷ [] ≡ tree_of old term ∷ type ∷ [] = ap (λ (s : Statement). s.parts) e in
            let term_tree : tree_of new a ≡ tree_of old term = cc in
            let c_is = pool.shared c context at.0.0 (omega (arith, low, length-Grows old new grows)) (ap (λ (s : Statement). s.context) e ∙ sym (KeepsTrees-Grows old new grows context low)) in
            let a_is = pool.shared a term at.1.0 (omega (arith, term_low, length-Grows old new grows)) (term_tree ∙ sym (KeepsTrees-Grows old new grows term term_low)) in
            (t, λ i. Has (c_is i) (a_is i) t)
