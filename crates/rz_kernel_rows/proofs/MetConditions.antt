-- Conditions by the ids of their letters.
use Rattle.std.proofs.Common.{◌≡◌, ℕ, zero, suc, Bool, true, List, [], ◌∷◌, Some, Option, Result, Ok, Err, All, map, sym, ap, subst, ◌∙◌, arith}
use Rattle.std.specs.Prelude.{IfOk, ◌↔◌}
use Rattle.rz_rules.specs.declared.judgments.Judgment.{Judgment}
use Rattle.rz_rules.specs.declared.judgments.Judgment.TheVariants.{Holds}
use Rattle.rz_rules.specs.declared.nodes.Node.{Node}
use Rattle.rz_rules.specs.declared.symbols.Letter.{Letter}
use Rattle.rz_rules.specs.declared.symbols.Condition.{Condition}
use Rattle.rz_rules.specs.declared.symbols.Condition.TheVariants.{TopeOver, PointOf}
use Rattle.rz_rules.specs.Cube.{binders_of}
use Rattle.rz_rules.specs.Tope.{IsPointOf, IsTopeOver}
use Rattle.rz_rules.specs.Tree.{Tree, sort_of, tree_of}
use Rattle.std.proofs.lemmas.List.Elements.{All-weaker}
use Rattle.rz_pool.specs.Pool.{Grows}
use Rattle.rz_pool.proofs.Nodes.{KeepsTrees-Grows, length-Grows}
use Rattle.rz_kernel_rows.specs.Line.{letters_of}
use Rattle.rz_kernel_rows.proofs.Instances.{SameLetter, condition_same}
use Rattle.rz_rules.specs.Judgment.{context_of, kind_of, parts_of}
use Rattle.rz_rules.specs.Derivation.{IsMet, IsScoped}
use Rattle.rz_rule_text.specs.Letters.{IsFound, assignment_of, letter_at, tree_for}

module _ (nodes : List Node) (letters : List (Option ℕ)) (name : Option ℕ) {E : Type 0} (r : Result Bool E) where
  pub tope_over : (c t : Letter) (context tope : ℕ) (condition : Condition) → condition ≡ TopeOver c t → letter_at letters c.number ≡ Some context → letter_at letters t.number ≡ Some tope
      → IfOk r (λ answer. (answer ≡ true) ↔ IsTopeOver (binders_of (tree_of nodes context)) (tree_of nodes tope)) → IfOk r (λ answer. (answer ≡ true) ↔ IsMet (assignment_of nodes letters name) condition)
  tope_over c t context tope condition is one two h =
      subst (λ (k : Condition). IfOk r (λ answer. (answer ≡ true) ↔ IsMet (assignment_of nodes letters name) k)) (sym is)
      (subst (λ (x : Tree). IfOk r (λ answer. (answer ≡ true) ↔ IsTopeOver (binders_of x) (tree_for nodes (letter_at letters t.number)))) (sym (ap (tree_for nodes) one))
      (subst (λ (x : Tree). IfOk r (λ answer. (answer ≡ true) ↔ IsTopeOver (binders_of (tree_of nodes context)) x)) (sym (ap (tree_for nodes) two)) h))

  pub point_of : (c i s : Letter) (context cube point : ℕ) (condition : Condition) → condition ≡ PointOf c i s → letter_at letters c.number ≡ Some context → letter_at letters i.number ≡ Some cube → letter_at letters s.number ≡ Some point
      → IfOk r (λ answer. (answer ≡ true) ↔ IsPointOf (binders_of (tree_of nodes context)) (tree_of nodes cube) (tree_of nodes point)) → IfOk r (λ answer. (answer ≡ true) ↔ IsMet (assignment_of nodes letters name) condition)
  point_of c i s context cube point condition is one two three h =
      subst (λ (k : Condition). IfOk r (λ answer. (answer ≡ true) ↔ IsMet (assignment_of nodes letters name) k)) (sym is)
      (subst (λ (x : Tree). IfOk r (λ answer. (answer ≡ true) ↔ IsPointOf (binders_of x) (tree_for nodes (letter_at letters i.number)) (tree_for nodes (letter_at letters s.number)))) (sym (ap (tree_for nodes) one))
      (subst (λ (x : Tree). IfOk r (λ answer. (answer ≡ true) ↔ IsPointOf (binders_of (tree_of nodes context)) x (tree_for nodes (letter_at letters s.number)))) (sym (ap (tree_for nodes) two))
      (subst (λ (x : Tree). IfOk r (λ answer. (answer ≡ true) ↔ IsPointOf (binders_of (tree_of nodes context)) (tree_of nodes cube) x)) (sym (ap (tree_for nodes) three)) h)))

module _ (nodes : List Node) {E : Type 0} (r : Result Bool E) where
  pub holds_scoped : (says : Judgment) (c phi : ℕ) → says ≡ Holds c phi → IfOk r (λ answer. (answer ≡ true) ↔ IsTopeOver (binders_of (tree_of nodes c)) (tree_of nodes phi))
      → IfOk r (λ answer. (answer ≡ true) ↔ IsScoped (kind_of says) (tree_of nodes (context_of says)) (map (tree_of nodes) (parts_of says)))
  holds_scoped says c phi is h =
      subst (λ (j : Judgment). IfOk r (λ answer. (answer ≡ true) ↔ IsScoped (kind_of j) (tree_of nodes (context_of j)) (map (tree_of nodes) (parts_of j)))) (sym is) (one r h) where
        one : {E : Type 0} (r : Result Bool E) → IfOk r (λ answer. (answer ≡ true) ↔ IsTopeOver (binders_of (tree_of nodes c)) (tree_of nodes phi))
            → IfOk r (λ answer. (answer ≡ true) ↔ All (IsTopeOver (binders_of (tree_of nodes c))) (tree_of nodes phi ∷ []))
        one (Ok answer) h = (λ e. single (h.0 e), λ all. h.1 (all 0 (tree_of nodes phi) (omega arith))) where
          single : IsTopeOver (binders_of (tree_of nodes c)) (tree_of nodes phi) → All (IsTopeOver (binders_of (tree_of nodes c))) (tree_of nodes phi ∷ [])
          single t zero d l = t
          single t (suc k) d l = absurd (omega arith)
        one (Err e) h = tt

-- ---- a pool that grows

module _ (old new : List Node) (grows : Grows old new) (letters : List (Option ℕ)) (name : Option ℕ) where
  pub found_grown : (letter : Letter) → IsFound old letters letter → IsFound new letters letter
  found_grown letter found = record {
    id = found.id;
    there = found.there;
    live = omega (arith, found.live, length-Grows old new grows);
    sort = ap sort_of (KeepsTrees-Grows old new grows found.id found.live) ∙ found.sort;
  }

  same_tree : (letter : Letter) → IsFound old letters letter → tree_for new (letter_at letters letter.number) ≡ tree_for old (letter_at letters letter.number)
  same_tree letter found = ap (tree_for new) found.there ∙ KeepsTrees-Grows old new grows found.id found.live ∙ sym (ap (tree_for old) found.there)

  -- a condition is met as before
  pub met_grown : (condition : Condition) → All (IsFound old letters) (letters_of condition) → IsMet (assignment_of new letters name) condition ↔ IsMet (assignment_of old letters name) condition
  met_grown condition found =
      let Old = assignment_of old letters name in
      let New = assignment_of new letters name in (
        condition_same New Old condition (All-weaker (IsFound old letters) (SameLetter New Old) (λ letter is. same_tree letter is) (letters_of condition) found),
        condition_same Old New condition (All-weaker (IsFound old letters) (SameLetter Old New) (λ letter is. sym (same_tree letter is)) (letters_of condition) found),
      )
