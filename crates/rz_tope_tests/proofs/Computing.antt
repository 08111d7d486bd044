-- What is asked of tables, in a form that computes: for tables that are known, the proofs are tuples of `refl`.
use Rattle.std.proofs.Common.{◌≡◌, ℕ, suc, ◌+◌, ◌<◌, List, [], ◌∷◌, ◌++◌, true, false, All, get_or, length, map, sym, subst}
use Rattle.std.specs.List.{list_all}
use Rattle.std.specs.Borrow.{Bor}
use Rattle.std.proofs.Math.Dec.{leb, ltb}
use Rattle.std.proofs.lemmas.Bool.{leb-true, ltb-true}
use Rattle.std.proofs.lemmas.List.Elements.{All-cons, All-nil}
use Rattle.std.proofs.lemmas.List.Sums.{AllPass-from_list_all}
use Rattle.rz_rules.specs.declared.judgments.JudgmentKind.{JudgmentKind}
use Rattle.rz_rules.specs.declared.judgments.JudgmentKind.TheVariants.{Formed, Has, Holds, Same}
use Rattle.rz_rules.specs.declared.kinds.Kind.{Kind}
use Rattle.rz_rules.specs.declared.rows.Row.{Row}
use Rattle.rz_rules.specs.declared.rows.Scheme.TheVariants as scheme
use Rattle.rz_rules.specs.declared.symbols.Condition.{Condition}
use Rattle.rz_rules.specs.declared.symbols.Condition.TheVariants.{FewLeaves, PointOf, TopeOver}
use Rattle.rz_rules.specs.Cube.{binders_of, leaves}
use Rattle.rz_rules.specs.Derivation.{IsMet, IsScoped}
use Rattle.rz_rules.specs.File.{statement_at}
use Rattle.rz_rules.specs.Judgment.{Statement}
use Rattle.rz_rules.specs.Row.{Assignment}
use Rattle.rz_rules.specs.Table.{rule_of}
use Rattle.rz_rules.specs.Tope.{IsTopeOver}
use Rattle.rz_rules.specs.Tree.{Tree, tree_at}
use Rattle.rz_rule_text.specs.Letters.{has_name}
use Rattle.rz_lemmas.specs.Letters.{slots}
use Rattle.rz_lemmas.specs.Conclude.{premises_in}
use Rattle.rz_tope_tests.specs.Bench.{AreConcluded, CanMove, HaveKids, HaveSorts, IsConcluded, IsTrial, concluded, judgments_over, letters_over, said_after, trees_after}

-- places below a count, by a test
pub places_below : (count : ℕ) (places : List ℕ) → list_all (λ place. ltb place count) places ≡ true → All (λ place. place < count) places
places_below count places all =
    λ k d l. ltb-true (get_or places k d) count (AllPass-from_list_all (λ (place : ℕ). ltb place count) places all k d l)

-- each element of a list, one by one
abbrev pub Each : {X : Type 0} → (X → Type 0) → List X → Type 0
Each P [] = Unit {0}
Each P (x ∷ xs) = P x × Each P xs

pub each_all : {X : Type 0} (P : X → Type 0) (xs : List X) → Each P xs → All P xs
each_all P [] each = All-nil P
each_all P (x ∷ xs) each = All-cons P x xs each.0 (each_all P xs each.1)

-- the kids of a table's nodes are there
abbrev pub KidsAreThere : ℕ → List (Kind × ℕ × Bor (List ℕ)) → Type 0
KidsAreThere count [] = Unit {0}
KidsAreThere count (row ∷ rows) =
    (list_all (λ place. ltb place count) row.2.now ≡ true) × (leb (length row.2.now) 7 ≡ true) × KidsAreThere (suc count) rows

pub kids_are_there : (count : ℕ) (rows : List (Kind × ℕ × Bor (List ℕ))) → KidsAreThere count rows → HaveKids count rows
kids_are_there count [] there = tt
kids_are_there count (row ∷ rows) there =
    (places_below count row.2.now there.0, leb-true (length row.2.now) 7 there.1, kids_are_there (suc count) rows there.2)

-- what a condition asks
abbrev pub Meets : Assignment → Condition → Type 0
Meets assignment (FewLeaves cube) = leb (leaves (assignment.letters cube.number)) 64 ≡ true
Meets assignment condition = IsMet assignment condition

pub meets : (assignment : Assignment) (condition : Condition) → Meets assignment condition → IsMet assignment condition
meets assignment (FewLeaves cube) met = leb-true (leaves (assignment.letters cube.number)) 64 met
meets assignment (TopeOver context tope) met = met
meets assignment (PointOf context cube point) met = met

-- the topes of a judgment are over its context
abbrev pub AreScoped : JudgmentKind → Tree → List Tree → Type 0
AreScoped Holds context parts = Each (IsTopeOver (binders_of context)) parts
AreScoped kind context parts = Unit {0}

pub are_scoped : (kind : JudgmentKind) (context : Tree) (parts : List Tree) → AreScoped kind context parts → IsScoped kind context parts
are_scoped Formed context parts scoped = tt
are_scoped Holds context parts scoped = each_all (IsTopeOver (binders_of context)) parts scoped
are_scoped Has context parts scoped = tt
are_scoped Same context parts scoped = tt

-- a step is concluded
pub record Concludes (trees : List Tree) (said : List Statement) (row : Row) (letters premises : List ℕ) : Type 0 where
  pub text : (rule_of row).scheme ≡ scheme.Text
  pub unnamed : has_name (rule_of row).text ≡ false
  pub letters_there : list_all (λ place. ltb place (length trees)) letters ≡ true
  pub premises_there : list_all (λ place. ltb place (length said)) premises ≡ true
  pub sorts : HaveSorts (slots (rule_of row).text) (map (tree_at trees) letters)
  pub premises_are : map (statement_at said) premises ≡ premises_in (judgments_over row (map (tree_at trees) letters))
  pub conditions : Each (Meets (letters_over row (map (tree_at trees) letters))) (rule_of row).conditions
  pub scoped : AreScoped (concluded trees row letters).kind (concluded trees row letters).context (concluded trees row letters).parts

each_met : (assignment : Assignment) (conditions : List Condition) → Each (Meets assignment) conditions → Each (IsMet assignment) conditions
each_met assignment [] each = tt
each_met assignment (condition ∷ conditions) each = (meets assignment condition each.0, each_met assignment conditions each.1)

pub concludes : (trees : List Tree) (said : List Statement) (row : Row) (letters premises : List ℕ)
    → Concludes trees said row letters premises → IsConcluded trees said row letters premises
concludes trees said row letters premises can =
    let assignment = letters_over row (map (tree_at trees) letters) in
    let says = concluded trees row letters in
    record {
      text = can.text;
      unnamed = can.unnamed;
      letters_there = places_below (length trees) letters can.letters_there;
      premises_there = places_below (length said) premises can.premises_there;
      sorts = can.sorts;
      premises_are = can.premises_are;
      conditions = each_all (IsMet assignment) (rule_of row).conditions (each_met assignment (rule_of row).conditions can.conditions);
      scoped = λ other e. subst (λ (s : Statement). IsScoped s.kind s.context s.parts) (sym e) (are_scoped says.kind says.context says.parts can.scoped);
    }

-- each step of a table is concluded
abbrev pub Conclude : List Tree → List Statement → List (Row × Bor (List ℕ) × Bor (List ℕ)) → Type 0
Conclude trees said [] = Unit {0}
Conclude trees said (step ∷ steps) =
    Concludes trees said step.0 step.1.now step.2.now × Conclude trees (said ++ concluded trees step.0 step.1.now ∷ []) steps

pub conclude_all : (trees : List Tree) (said : List Statement) (steps : List (Row × Bor (List ℕ) × Bor (List ℕ)))
    → Conclude trees said steps → AreConcluded trees said steps
conclude_all trees said [] can = tt
conclude_all trees said (step ∷ steps) can =
    (concludes trees said step.0 step.1.now step.2.now can.0, conclude_all trees (said ++ concluded trees step.0 step.1.now ∷ []) steps can.1)

-- a step whose premises, letters and rule compute: what is left are the sorts, the conditions and the topes
pub by_row : {trees : List Tree} {said : List Statement} {row : Row} {letters premises : List ℕ}
    → (rule_of row).scheme ≡ scheme.Text → has_name (rule_of row).text ≡ false
    → list_all (λ place. ltb place (length trees)) letters ≡ true → list_all (λ place. ltb place (length said)) premises ≡ true
    → map (statement_at said) premises ≡ premises_in (judgments_over row (map (tree_at trees) letters))
    → HaveSorts (slots (rule_of row).text) (map (tree_at trees) letters)
    → Each (Meets (letters_over row (map (tree_at trees) letters))) (rule_of row).conditions
    → AreScoped (concluded trees row letters).kind (concluded trees row letters).context (concluded trees row letters).parts
    → Concludes trees said row letters premises
by_row text unnamed letters_there premises_there premises_are sorts conditions scoped = record {
  text = text;
  unnamed = unnamed;
  letters_there = letters_there;
  premises_there = premises_there;
  sorts = sorts;
  premises_are = premises_are;
  conditions = conditions;
  scoped = scoped;
}

-- the steps that are claimed are there
pub claims_below : (count : ℕ) (claims : List (Bor (List ℕ) × ℕ)) → list_all (λ claim. ltb claim.1 count) claims ≡ true → All (λ claim. claim.1 < count) claims
claims_below count claims all =
    λ k d l. ltb-true (get_or claims k d).1 count (AllPass-from_list_all (λ (claim : Bor (List ℕ) × ℕ). ltb claim.1 count) claims all k d l)

-- tables that make steps, and claims of those
pub trial : {nodes : List (Kind × ℕ × Bor (List ℕ))} {steps : List (Row × Bor (List ℕ) × Bor (List ℕ))} {moves : List (ℕ × ℕ × ℕ)}
    {claims : List (Bor (List ℕ) × ℕ)} → KidsAreThere 0 nodes → Conclude (trees_after [] nodes) [] steps
    → Each (λ (row : ℕ × ℕ × ℕ). CanMove (said_after (trees_after [] nodes) [] steps) row.0 row.1 row.2) moves
    → All (λ claim. claim.1 < length steps + length moves) claims → IsTrial nodes steps moves claims
trial {nodes} {steps} {moves} {claims} kids can movable claimed = record {
  kids = kids_are_there 0 nodes kids;
  concluded = conclude_all (trees_after [] nodes) [] steps can;
  movable = each_all (λ (row : ℕ × ℕ × ℕ). CanMove (said_after (trees_after [] nodes) [] steps) row.0 row.1 row.2) moves movable;
  claimed = claimed;
}

pub closed_trial : {nodes : List (Kind × ℕ × Bor (List ℕ))} {steps : List (Row × Bor (List ℕ) × Bor (List ℕ))} {moves : List (ℕ × ℕ × ℕ)}
    {claims : List (Bor (List ℕ) × ℕ)} → KidsAreThere 0 nodes → Conclude (trees_after [] nodes) [] steps
    → Each (λ (row : ℕ × ℕ × ℕ). CanMove (said_after (trees_after [] nodes) [] steps) row.0 row.1 row.2) moves
    → list_all (λ claim. ltb claim.1 (length steps + length moves)) claims ≡ true → IsTrial nodes steps moves claims
closed_trial {nodes} {steps} {moves} {claims} kids can movable claimed = trial kids can movable (claims_below (length steps + length moves) claims claimed)
