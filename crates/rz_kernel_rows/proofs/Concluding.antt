-- The conclusion of a rule, against what a line says.
use Rattle.std.proofs.Common.{◌≡◌, ◌≢◌, ℕ, Bool, true, List, [], ◌∷◌, Option, Some, None, inl, inr, refl, sym, ap, subst, ◌∙◌}
use Rattle.std.specs.Prelude.{◌↔◌, Result, Ok, Err, IfOk, OnOk}
use Rattle.std.proofs.lemmas.Bool.{cases_eq}
use Rattle.std.proofs.lemmas.List.Elements.{All-cons, All-nil}
use Rattle.rz_rules.specs.declared.nodes.Node.{Node}
use Rattle.rz_rules.specs.declared.rows.Scheme.{Scheme}
use Rattle.rz_rules.specs.declared.rows.Scheme.TheVariants as scheme
use Rattle.rz_rules.specs.declared.judgments.Judgment.{Judgment}
use Rattle.rz_rules.specs.declared.judgments.Judgment.TheVariants.{Formed}
use Rattle.rz_rules.specs.Tree.{trees_in}
use Rattle.rz_rules.specs.Judgment.{IsStatement, Statement, context_of, statement}
use Rattle.rz_rules.specs.Structural.{ConcludesBy, IsContextOf, formed}
use Rattle.rz_rules.specs.Table.{Rule}
use Rattle.rz_rules.specs.Derivation.{AppliesBy}
use Rattle.rz_pool.specs.Pool.{Grows, IsPool}
use Rattle.rz_rule_text.proofs.Putting.{over-Grows, statements-Grows}
use Rattle.rz_rule_text.specs.Spelling.{IsLive}
use Rattle.rz_kernel_rows.specs.Line.{IsJudgmentOver}
use Rattle.rz_kernel_rows.specs.Move.{IsConclusion, IsConclusionFor}
use Rattle.rz_kernel_rows.proofs.Spelled.{same_judgment}

-- the only conclusion, asked for one judgment
pub conclusion_for : (nodes : List Node) (says : Statement) (P : Statement → Type 0) (o : Option Judgment) → IsStatement says → IsConclusion nodes P o → IsConclusionFor nodes says P o
conclusion_for nodes says P None is h = h says is
conclusion_for nodes says P (Some made) is h = (h.0, h.1 says)

pub conclusions_for : {E : Type 0} (r : Result (Option Judgment) E) (nodes : List Node) (says : Statement) (P : Statement → Type 0) → IsStatement says → IfOk r (IsConclusion nodes P)
    → IfOk r (IsConclusionFor nodes says P)
conclusions_for (Ok o) nodes says P is h = conclusion_for nodes says P o is h
conclusions_for (Err e) nodes says P is h = tt

-- a rule that has no use for the line's number
zero_number : (nodes : List Node) (says : Statement) (P : Statement → Type 0) (number : ℕ) → number ≡ 0 → (o : Option Judgment) → IsConclusionFor nodes says P o
    → IsConclusionFor nodes says (λ s. (number ≡ 0) × P s) o
zero_number nodes says P number zero None h = λ both. h both.1
zero_number nodes says P number zero (Some made) h = (h.0, (λ both. h.1.0 both.1, λ e. (zero, h.1.1 e)))

pub without_number : (nodes : List Node) (says : Statement) (P : Statement → Type 0) (number : ℕ) (o r : Option Judgment) → (number ≡ 0 → r ≡ o) → (number ≢ 0 → r ≡ None) → IsConclusionFor nodes says P o
    → IsConclusionFor nodes says (λ s. (number ≡ 0) × P s) r
without_number nodes says P number o r same none_there h =
    elim (cases_eq number 0) as (λ _. IsConclusionFor nodes says (λ s. (number ≡ 0) × P s) r) [
      | inl zero ↦ subst (IsConclusionFor nodes says (λ s. (number ≡ 0) × P s)) (sym (same zero)) (zero_number nodes says P number zero o h)
      | inr other ↦ subst (IsConclusionFor nodes says (λ s. (number ≡ 0) × P s)) (sym (none_there other)) (λ both. other both.0)
    ]

-- what the line says is the conclusion
statement-Grows : (old new : List Node) → Grows old new → (says : Judgment) → IsJudgmentOver old says → statement (trees_in old) says ≡ statement (trees_in new) says
statement-Grows old new grows says over =
    let all = statements-Grows old new grows (says ∷ []) (All-cons (IsLive old) says [] over.live (All-nil (IsLive old))) in
    one (statement (trees_in old) says) (statement (trees_in new) says) all where
      one : (s t : Statement) → s ∷ [] ≡ t ∷ [] → s ≡ t
      one s t e = cc

pub said_iff : (old new : List Node) → Grows old new → IsPool new → (says : Judgment) → IsJudgmentOver old says → (C : Statement → Type 0) (o : Option Judgment) (r : Bool)
    → IsConclusionFor new (statement (trees_in old) says) C o → (r ≡ true) ↔ (o ≡ Some says) → (r ≡ true) ↔ C (statement (trees_in old) says)
said_iff old new grows pool says over C None r h iff = (λ yes. let wrong = iff.0 yes in absurd cc, λ concludes. absurd (h concludes))
said_iff old new grows pool says over C (Some made) r h iff = (
  λ yes.
      let same = some_same made says (iff.0 yes) in
      h.1.1 (statement-Grows old new grows says over ∙ ap (statement (trees_in new)) (sym same)),
  λ concludes.
      let e = sym (h.1.0 concludes) ∙ statement-Grows old new grows says over in
      iff.1 (ap (λ (j : Judgment). Some j) (same_judgment new pool.shared made says h.0.live (over-Grows old new grows says over).live e)),
) where
  some_same : (x y : Judgment) → Some x ≡ Some y → x ≡ y
  some_same x y e = cc

-- the context of the one premise
pub context_conclusion : (nodes : List Node) (premise : Judgment) → IsJudgmentOver nodes premise → IsJudgmentOver nodes (Formed (context_of premise))
    → IsConclusion nodes (IsContextOf (statement (trees_in nodes) premise ∷ [])) (Some (Formed (context_of premise)))
context_conclusion nodes premise over formed_over = (
  formed_over,
  λ says. (
    λ h.
        let same : statement (trees_in nodes) premise ≡ h.0 = one (statement (trees_in nodes) premise) h.0 h.1 in
        h.2 ∙ ap (λ (s : Statement). formed s.context) (sym same),
    λ e. (statement (trees_in nodes) premise, refl, e),
  ),
) where
  one : (s t : Statement) → s ∷ [] ≡ t ∷ [] → s ≡ t
  one s t e = cc

-- a scheme that isn't the text
pub by_scheme : (s : Scheme) (rule : Rule) (number : ℕ) (premises : List Statement) (says : Statement) → (s ≡ scheme.Text → ⊥) → AppliesBy s rule number premises says ≡ ConcludesBy s number premises says
by_scheme scheme.Text rule number premises says other = absurd (other refl)
by_scheme scheme.Hypothesis rule number premises says other = refl
by_scheme scheme.Variable rule number premises says other = refl
by_scheme scheme.Weakening rule number premises says other = refl
by_scheme scheme.TermCut rule number premises says other = refl
by_scheme scheme.CubeCut rule number premises says other = refl
by_scheme scheme.TopeCut rule number premises says other = refl
by_scheme scheme.ContextOf rule number premises says other = refl
by_scheme scheme.Inversion rule number premises says other = refl
by_scheme scheme.OwnType rule number premises says other = refl

-- what holds anyway holds where there is an answer
pub anyway : {A E : Type 0} (r : Result A E) (P : Type 0) → P → OnOk r P
anyway (Ok x) P p = p
anyway (Err e) P p = tt
