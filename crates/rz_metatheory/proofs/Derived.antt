-- What is derived is good.
use Rattle.std.proofs.Common.{◌≡◌, ℕ, List, [], ◌∷◌, ◌++◌, map, All, Some, refl, subst}
use Rattle.std.specs.Prelude.{slice_get}
use Rattle.std.proofs.lemmas.List.Elements.{All-head, All-tail}
use Rattle.rz_rules.specs.declared.judgments.JudgmentKind.{JudgmentKind}
use Rattle.rz_rules.specs.declared.judgments.JudgmentKind.TheVariants as says
use Rattle.rz_rules.specs.declared.symbols.Condition.{Condition}
use Rattle.rz_rules.specs.declared.rows.Scheme.{Scheme}
use Rattle.rz_rules.specs.declared.rows.Scheme.TheVariants as scheme
use Rattle.rz_rules.specs.declared.rows.Row.{Row}
use Rattle.rz_rules.specs.Cube.{binders_of}
use Rattle.rz_rules.specs.Derivation.{Step, IsScoped, IsMet, AppliesBy, Follows}
use Rattle.rz_rules.specs.Judgment.{Statement, IsStatement}
use Rattle.rz_rules.specs.Row.{Assignment}
use Rattle.rz_rules.specs.Table.{rule_of}
use Rattle.rz_rules.specs.Tope.{IsTopeOver}
use Rattle.rz_rules.specs.Tree.{Tree}
use Rattle.rz_metatheory.specs.Derivation.{FollowAfter, Derives}
use Rattle.rz_metatheory.specs.Good.{IsGoodStatement}
use Rattle.rz_metatheory.proofs.Keeping.{IsToldOver, Keeps, AreMet, EachGood}
use Rattle.rz_metatheory.proofs.Structural.{each_at, each_append, schemes_keep}
use Rattle.rz_metatheory.proofs.rows.Table.{rows_keep}

met : (letters : Assignment) (conditions : List Condition) → All (IsMet letters) conditions → AreMet letters conditions
met letters [] all = tt
met letters (first ∷ rest) all = (All-head (IsMet letters) first rest all, met letters rest (All-tail (IsMet letters) first rest all))

told_over : (kind : JudgmentKind) (context : Tree) (parts : List Tree) → IsScoped kind context parts → IsToldOver kind context parts
told_over says.Holds context (tope ∷ []) scoped = All-head (IsTopeOver (binders_of context)) tope [] scoped
told_over kind context parts scoped = tt

-- premises that are good give the conclusion
concludes : (premises : List Statement) (conclusion : Statement) → Keeps (premises ++ conclusion ∷ []) → EachGood premises
    → IsStatement conclusion → IsToldOver conclusion.kind conclusion.context conclusion.parts → IsGoodStatement conclusion
concludes [] conclusion keeps all tree over = keeps tree over
concludes (first ∷ []) conclusion keeps all tree over = keeps all.0 tree over
concludes (first ∷ second ∷ rest) conclusion keeps all tree over = concludes (second ∷ rest) conclusion (keeps all.0) all.1 tree over

module _ (row : Row) (number : ℕ) (premises : List Statement) (conclusion : Statement) (all : EachGood premises)
    (tree : IsStatement conclusion) (scoped : IsScoped conclusion.kind conclusion.context conclusion.parts) where
  applies_good : (by : Scheme) → (rule_of row).scheme ≡ by → AppliesBy by (rule_of row) number premises conclusion → IsGoodStatement conclusion
  applies_good scheme.Text e applies =
      let spelled = applies.1 in
      concludes premises conclusion (subst Keeps spelled.instance.spells (rows_keep row e spelled.assignment (met spelled.assignment (rule_of row).conditions spelled.conditions)))
      all tree (told_over conclusion.kind conclusion.context conclusion.parts scoped)
  applies_good by e applies = schemes_keep by number premises conclusion applies all

-- the premises of a line are good
premises_good : (earlier : List Statement) (from : List ℕ) (premises : List Statement) → EachGood earlier
    → map (slice_get earlier) from ≡ map (λ (says : Statement). Some says) premises → EachGood premises
premises_good earlier from [] all e = tt
premises_good earlier [] (premise ∷ premises) all e = absurd cc
premises_good earlier (place ∷ from) (premise ∷ premises) all e =
    let here : slice_get earlier place ≡ Some premise = cc in
    let rest : map (slice_get earlier) from ≡ map (λ (says : Statement). Some says) premises = cc in
    (each_at earlier place premise all here, premises_good earlier from premises all rest)

step_good : (earlier : List Statement) (step : Step) → EachGood earlier → Follows earlier step → IsGoodStatement step.says
step_good earlier step all follows =
    applies_good step.row step.number follows.premises step.says (premises_good earlier step.from follows.premises all follows.from)
    follows.trees follows.scoped (rule_of step.row).scheme refl follows.applies

steps_good : (earlier : List Statement) (steps : List Step) → EachGood earlier → FollowAfter earlier steps → EachGood (map (λ (step : Step). step.says) steps)
steps_good earlier [] all follow = tt
steps_good earlier (step ∷ steps) all follow =
    let here = step_good earlier step all follow.0 in
    (here, steps_good (earlier ++ step.says ∷ []) steps (each_append earlier (step.says ∷ []) all (here, tt)) follow.1)

pub derived_good : (statement : Statement) → Derives statement → IsGoodStatement statement
derived_good statement derives = each_at (map (λ (step : Step). step.says) derives.0) derives.2 statement (steps_good [] derives.0 tt derives.1) derives.3
