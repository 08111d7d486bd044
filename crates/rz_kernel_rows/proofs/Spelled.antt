-- What is spelled with what was found, against the judgments.
use Rattle.std.proofs.Common.{◌≡◌, ℕ, ◌<◌, Bool, true, List, [], ◌∷◌, Some, None, Option, length, get_or, take, drop, map, All, refl, sym, ap, subst, ◌∙◌, arith}
use Rattle.std.specs.Prelude.{◌↔◌, Result, Ok, Err, IfOk, IfSome, IsSome}
use Rattle.std.proofs.lemmas.List.{take_at}
use Rattle.std.proofs.lemmas.List.Elements.{All-head, All-tail, All-weaker}
use Rattle.rz_rules.specs.declared.judgments.Judgment.{Judgment}
use Rattle.rz_rules.specs.declared.judgments.Judgment.TheVariants.{Formed, Holds, Has, Same}
use Rattle.rz_rules.specs.declared.nodes.Node.{Node}
use Rattle.rz_rules.specs.declared.rows.Row.{Row}
use Rattle.rz_rules.specs.declared.symbols.Symbol.{Symbol}
use Rattle.rz_rules.specs.Tree.{tree_of, trees_in}
use Rattle.rz_rules.specs.Judgment.{IsStatement, Statement, context_of, kind_of, parts_of, statement}
use Rattle.rz_rules.specs.Row.{Assignment, IsInstance, Spelling, letters_in, spelled}
use Rattle.rz_rules.specs.Derivation.{IsMet}
use Rattle.rz_rules.specs.Table.{rule_of}
use Rattle.rz_pool.specs.Pool.{Grows, IsPool, ShareTrees}
use Rattle.rz_rule_text.specs.Letters.{HasName, IsFound, assignment_of, has_name}
use Rattle.rz_rule_text.specs.Spelling.{AreLetters, IsLive, IsNamed, IsTooHigh}
use Rattle.rz_rule_text.proofs.Putting.{statements-Grows}
use Rattle.rz_rule_text.proofs.Stacks.{length-Grows}
use Rattle.rz_rule_text.specs.Finding.{FindsAll, IsFinding, is_determined}
use Rattle.rz_kernel_rows.specs.Line.{IsInstanceOf, IsJudgmentOver, letters_of}
use Rattle.rz_kernel_rows.proofs.Instances.{SameLetter, conditions_same, found_letters, of_row, rows_are_determined, same_spelling}
use Rattle.rz_rule_text.proofs.Over.{AreStatements-over, letters_have_sorts}

-- ---- judgments by their ids

same_ids : (nodes : List Node) → ShareTrees nodes → (is js : List ℕ) → All (λ i. i < length nodes) is → All (λ j. j < length nodes) js → map (tree_of nodes) is ≡ map (tree_of nodes) js → is ≡ js
same_ids nodes shared [] [] hi hj e = refl
same_ids nodes shared [] (j ∷ js) hi hj e = absurd cc
same_ids nodes shared (i ∷ is) [] hi hj e = absurd cc
same_ids nodes shared (i ∷ is) (j ∷ js) hi hj e =
    let P : ℕ → Type 0 = λ i. i < length nodes in
    let trees : tree_of nodes i ≡ tree_of nodes j = cc in
    let others : map (tree_of nodes) is ≡ map (tree_of nodes) js = cc in
    let first : i ≡ j = shared i j (All-head P i is hi) (All-head P j js hj) trees in
    let rest : is ≡ js = same_ids nodes shared is js (All-tail P i is hi) (All-tail P j js hj) others in
    cc

by_parts : (one other : Judgment) → kind_of one ≡ kind_of other → context_of one ≡ context_of other → parts_of one ≡ parts_of other → one ≡ other
by_parts (Formed c) (Formed d) k e f = ap Formed e
by_parts (Holds c p) (Holds d q) k e f = let p_is : p ≡ q = cc in λ i. Holds (e i) (p_is i)
by_parts (Has c a t) (Has d b u) k e f =
    let a_is : a ≡ b = cc in
    let t_is : t ≡ u = cc in
    λ i. Has (e i) (a_is i) (t_is i)
by_parts (Same c a b t) (Same d x y u) k e f =
    let a_is : a ≡ x = cc in
    let b_is : b ≡ y = cc in
    let t_is : t ≡ u = cc in
    λ i. Same (e i) (a_is i) (b_is i) (t_is i)
by_parts one other k e f = absurd cc

pub same_judgment : (nodes : List Node) → ShareTrees nodes → (one other : Judgment) → IsLive nodes one → IsLive nodes other → statement (trees_in nodes) one ≡ statement (trees_in nodes) other → one ≡ other
same_judgment nodes shared one other low also e =
    by_parts one other (ap (λ (s : Statement). s.kind) e)
    (shared (context_of one) (context_of other) (All-head (λ id. id < length nodes) (context_of one) (parts_of one) low) (All-head (λ id. id < length nodes) (context_of other) (parts_of other) also)
    (ap (λ (s : Statement). s.context) e))
    (same_ids nodes shared (parts_of one) (parts_of other) (All-tail (λ id. id < length nodes) (context_of one) (parts_of one) low) (All-tail (λ id. id < length nodes) (context_of other) (parts_of other) also)
    (ap (λ (s : Statement). s.parts) e))

same_judgments : (nodes : List Node) → ShareTrees nodes → (these those : List Judgment) → All (IsLive nodes) these → All (IsLive nodes) those
    → map (statement (trees_in nodes)) these ≡ map (statement (trees_in nodes)) those → these ≡ those
same_judgments nodes shared [] [] h g e = refl
same_judgments nodes shared [] (that ∷ those) h g e = absurd cc
same_judgments nodes shared (this ∷ these) [] h g e = absurd cc
same_judgments nodes shared (this ∷ these) (that ∷ those) h g e =
    let one : statement (trees_in nodes) this ≡ statement (trees_in nodes) that = ap (λ (ss : List Statement). get_or ss 0 (statement (trees_in nodes) this)) e in
    let others : map (statement (trees_in nodes)) these ≡ map (statement (trees_in nodes)) those = ap (drop 1) e in
    let first : this ≡ that = same_judgment nodes shared this that (All-head (IsLive nodes) this these h) (All-head (IsLive nodes) that those g) one in
    let rest : these ≡ those = same_judgments nodes shared these those (All-tail (IsLive nodes) this these h) (All-tail (IsLive nodes) that those g) others in
    λ i. first i ∷ rest i

-- ---- what was found, as the letters of the row

named : (nodes : List Node) (name : Option ℕ) → IfSome name (HasName nodes) → IsSome name → IsNamed nodes name
named nodes None h some = absurd cc
named nodes (Some id) h some = record { id = id; there = refl; has = h }

pub letters_are : (nodes : List Node) (row : Row) (letters : List (Option ℕ)) (name : Option ℕ) → IsFinding nodes letters name
    → (is_determined (rule_of row).text ≡ true → All (IsFound nodes letters) (letters_in (rule_of row).text)) → (is_determined (rule_of row).text ≡ true → has_name (rule_of row).text ≡ true → IsSome name)
    → AreLetters nodes (rule_of row).text letters name
letters_are nodes row letters name there found some = record {
  count = there.count;
  found = found (rows_are_determined row);
  named = λ has. named nodes name there.named (some (rows_are_determined row) has);
}

module _ (old new : List Node) (grows : Grows old new) (pool : IsPool old) (grown : IsPool new) (text : List Symbol) (letters : List (Option ℕ)) (name : Option ℕ) (judgments : List Judgment)
    (are : AreLetters old text letters name) (over : All (IsJudgmentOver old) judgments) where
  live : All (IsLive old) judgments
  live = All-weaker (IsJudgmentOver old) (IsLive old) (λ says h. h.live) judgments over

  in_new : map (statement (trees_in old)) judgments ≡ map (statement (trees_in new)) judgments
  in_new = statements-Grows old new grows judgments live

  also_live : All (IsLive new) judgments
  also_live = All-weaker (IsLive old) (IsLive new) (λ says low k d l. omega (arith, low k d l, length-Grows old new grows)) judgments live

  -- judgments that were spelled
  pub was_spelled : (said : List Judgment) (same : Bool) → (spelled text (assignment_of old letters name)).statements ≡ map (statement (trees_in new)) said → All (IsLive new) said
      → (same ≡ true ↔ (said ≡ judgments)) → (same ≡ true) ↔ IsInstance text (assignment_of old letters name) (map (statement (trees_in old)) judgments)
  was_spelled said same spells low iff = (
    λ is. record {
      letters = letters_have_sorts old pool.forms letters name (letters_in text) are.found;
      spells = spells ∙ ap (map (statement (trees_in new))) (iff.0 is) ∙ sym in_new;
    },
    λ instance. iff.1 (same_judgments new grown.shared said judgments low also_live (sym spells ∙ instance.spells ∙ in_new)),
  )

  -- none were
  pub was_too_high : IsTooHigh text (assignment_of old letters name) → IsInstance text (assignment_of old letters name) (map (statement (trees_in old)) judgments) → ⊥
  was_too_high high instance = high (subst (All IsStatement) (sym instance.spells) (AreStatements-over old pool.forms judgments over))

-- ---- the rule

module _ (nodes : List Node) (row : Row) (letters : List (Option ℕ)) (name : Option ℕ) (judgments : List Judgment) (pool : IsPool nodes) (are : AreLetters nodes (rule_of row).text letters name)
    (finds : FindsAll nodes (rule_of row).text judgments letters name) where
  a0 : Assignment
  a0 = assignment_of nodes letters name

  has : has_name (rule_of row).text ≡ true → (id : ℕ) × (name ≡ Some id)
  has is = let h = are.named is in (h.id, h.there)

  -- an instance is one by what was found
  pub by_found : (a : Assignment) → IsInstance (rule_of row).text a (map (statement (trees_in nodes)) judgments) → IsInstance (rule_of row).text (assignment_of nodes letters name) (map (statement (trees_in nodes)) judgments)
  by_found a instance = record {
    letters = letters_have_sorts nodes pool.forms letters name (letters_in (rule_of row).text) are.found;
    spells = ap (λ (s : Spelling). s.statements) (sym (same_spelling nodes (rule_of row).text letters name are.found has a (finds a instance))) ∙ instance.spells;
  }

  same_for : (a : Assignment) → IsInstance (rule_of row).text a (map (statement (trees_in nodes)) judgments) → All (λ condition. All (SameLetter a (assignment_of nodes letters name)) (letters_of condition)) (rule_of row).conditions
  same_for a instance = of_row (SameLetter a (assignment_of nodes letters name)) row (found_letters nodes (rule_of row).text letters name are.found has a (finds a instance))

  pub not_spelled : (IsInstance (rule_of row).text (assignment_of nodes letters name) (map (statement (trees_in nodes)) judgments) → ⊥) → IsInstanceOf (rule_of row) (map (statement (trees_in nodes)) judgments) → ⊥
  not_spelled none h = none (by_found h.0 h.1)

  pub met_iff : IsInstance (rule_of row).text (assignment_of nodes letters name) (map (statement (trees_in nodes)) judgments)
      → All (IsMet (assignment_of nodes letters name)) (rule_of row).conditions ↔ IsInstanceOf (rule_of row) (map (statement (trees_in nodes)) judgments)
  met_iff instance = (
    λ met. (assignment_of nodes letters name, instance, met),
    λ h. conditions_same h.0 (assignment_of nodes letters name) (rule_of row).conditions (same_for h.0 h.1) h.2,
  )

pub conditions_found : (nodes : List Node) (row : Row) (letters : List (Option ℕ)) (name : Option ℕ) → AreLetters nodes (rule_of row).text letters name
    → All (λ condition. All (IsFound nodes letters) (letters_of condition)) (rule_of row).conditions
conditions_found nodes row letters name are = of_row (IsFound nodes letters) row are.found

-- ---- a pool that was released

pub restored : (old new released : List Node) (mark : ℕ) → mark ≡ length old → Grows old new → released ≡ take mark new → released ≡ old
restored old new released mark is grows e = e ∙ (λ i. take (is i) (grows.is i)) ∙ take_at old grows.added (length old) refl

-- an answer to one question is one to another
pub by_iff : {E P Q : Type 0} (r : Result Bool E) → P ↔ Q → IfOk r (λ answer. (answer ≡ true) ↔ P) → IfOk r (λ answer. (answer ≡ true) ↔ Q)
by_iff (Ok answer) iff h = (λ t. iff.0 (h.0 t), λ q. h.1 (iff.1 q))
by_iff (Err e) iff h = tt
