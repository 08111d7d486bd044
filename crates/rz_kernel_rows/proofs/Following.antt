-- A line over trees follows exactly where it does by ids.
use Rattle.std.proofs.Common.{◌≡◌, ℕ, zero, suc, ◌+◌, ◌<◌, List, [], ◌∷◌, ◌++◌, length, get_or, take, map, All, arith, Option, Some, None, refl, sym, ap, subst, ◌∙◌}
use Rattle.std.specs.Prelude.{slice_get, option_map, ◌↔◌}
use Rattle.std.proofs.lemmas.List.{map-append, take_more}
use Rattle.rz_rules.specs.declared.rows.Row.{Row}
use Rattle.rz_rules.specs.declared.judgments.Judgment.{Judgment}
use Rattle.rz_rules.specs.Tree.{Tree, tree_at}
use Rattle.rz_rules.specs.Judgment.{IsStatement, Statement, context_of, kind_of, parts_of, statement}
use Rattle.rz_rules.specs.Row.{IsInstance}
use Rattle.rz_rules.specs.Table.{Rule, rule_of}
use Rattle.rz_rules.specs.Derivation.{Applies, Follows, IsScoped, IsSpelled}
use Rattle.rz_kernel_rows.specs.Line.{IsInstanceOf}
use Rattle.rz_kernel_rows.proofs.Lists.{slice_get-map, slice_get_is}
use Rattle.std.proofs.lemmas.List.Elements.{All-cons, All-nil}

-- the premises over trees
premises_are : (f : Judgment → Statement) (says premises : List Judgment) (from : List ℕ) → map (λ j. Some j) premises ≡ map (slice_get says) from
    → map (slice_get (map f says)) from ≡ map (λ s. Some s) (map f premises)
premises_are f says [] [] e = refl
premises_are f says [] (i ∷ from) e = absurd cc
premises_are f says (p ∷ premises) [] e = absurd cc
premises_are f says (p ∷ premises) (i ∷ from) e =
    let first : Some p ≡ slice_get says i = cc in
    let others : map (λ j. Some j) premises ≡ map (slice_get says) from = cc in
    let one : slice_get (map f says) i ≡ Some (f p) = slice_get-map f says i ∙ sym (ap (option_map f) first) in
    let rest = premises_are f says premises from others in
    cc

somes_same : (xs ys : List Statement) → map (λ s. Some s) xs ≡ map (λ s. Some s) ys → xs ≡ ys
somes_same [] [] e = refl
somes_same [] (y ∷ ys) e = absurd cc
somes_same (x ∷ xs) [] e = absurd cc
somes_same (x ∷ xs) (y ∷ ys) e =
    let first : Some x ≡ Some y = cc in
    let one : x ≡ y = cc in
    let others : map (λ s. Some s) xs ≡ map (λ s. Some s) ys = cc in
    let rest : xs ≡ ys = somes_same xs ys others in
    cc

pub spoken : (ts : List Tree) (premises : List Judgment) (says : Judgment) → map (statement ts) (premises ++ says ∷ []) ≡ map (statement ts) premises ++ statement ts says ∷ []
spoken ts premises says = map-append (statement ts) premises (says ∷ [])

-- an instance of a row's text that meets the row's conditions
pub spelled_iff : (rule : Rule) (ts : List Tree) (premises : List Judgment) (says : Judgment) → IsInstanceOf rule (map (statement ts) (premises ++ says ∷ []))
    ↔ IsSpelled rule (map (statement ts) premises) (statement ts says)
spelled_iff rule ts premises says = (
  λ h. record { assignment = h.0; instance = subst (IsInstance rule.text h.0) (spoken ts premises says) h.1; conditions = h.2 },
  λ h. (h.assignment, subst (IsInstance rule.text h.assignment) (sym (spoken ts premises says)) h.instance, h.conditions),
)

-- a line follows exactly where its trees are trees and its rule leads from its premises to what it says
pub step_iff : (ts : List Tree) (row : Row) (number : ℕ) (says : Judgment) (all premises : List Judgment) (from : List ℕ)
    → IsStatement (statement ts says) → map (λ j. Some j) premises ≡ map (slice_get all) from
    → (Applies (rule_of row) number (map (statement ts) premises) (statement ts says) × IsScoped (kind_of says) (tree_at ts (context_of says)) (map (tree_at ts) (parts_of says)))
    ↔ Follows (map (statement ts) all) (record { row = row; number = number; says = statement ts says; from = from })
step_iff ts row number says all premises from trees named =
    let chosen = premises_are (statement ts) all premises from named in (
      λ h. record { trees = trees; scoped = h.1; premises = map (statement ts) premises; from = chosen; applies = h.0 },
      λ h.
          let same : h.premises ≡ map (statement ts) premises = somes_same h.premises (map (statement ts) premises) (sym h.from ∙ chosen) in
          (subst (λ (ps : List Statement). Applies (rule_of row) number ps (statement ts says)) same h.applies, h.scoped),
    )

-- what is there over trees is there by ids
some_back : {A B : Type 0} (f : A → B) (o : Option A) (b : B) → option_map f o ≡ Some b → (a : A) × (o ≡ Some a)
some_back f None b e = absurd cc
some_back f (Some a) b e = (a, refl)

premises_back : (f : Judgment → Statement) (says : List Judgment) (from : List ℕ) (ps : List Statement) → map (slice_get (map f says)) from ≡ map (λ s. Some s) ps
    → (js : List Judgment) × (map (λ j. Some j) js ≡ map (slice_get says) from)
premises_back f says [] ps e = ([], refl)
premises_back f says (i ∷ from) [] e = absurd cc
premises_back f says (i ∷ from) (p ∷ ps) e =
    let first : slice_get (map f says) i ≡ Some p = cc in
    let others : map (slice_get (map f says)) from ≡ map (λ s. Some s) ps = cc in
    let one = some_back f (slice_get says i) p (sym (slice_get-map f says i) ∙ first) in
    let rest = premises_back f says from ps others in
    let here : slice_get says i ≡ Some one.0 = one.1 in
    let there : map (λ j. Some j) rest.0 ≡ map (slice_get says) from = rest.1 in
    (one.0 ∷ rest.0, cc)

-- a line that names a premise that isn't there doesn't follow
pub no_premises : (ts : List Tree) (row : Row) (number : ℕ) (all : List Judgment) (from : List ℕ) (s : Statement)
    → ((premises : List Judgment) → map (λ j. Some j) premises ≡ map (slice_get all) from → ⊥)
    → Follows (map (statement ts) all) (record { row = row; number = number; says = s; from = from }) → ⊥
no_premises ts row number all from s none follows =
    let back = premises_back (statement ts) all from follows.premises follows.from in
    none back.0 back.1

-- premises are among what was said
pub premises_low : (P : Judgment → Type 0) (says premises : List Judgment) (from : List ℕ) → All P says → map (λ j. Some j) premises ≡ map (slice_get says) from → All P premises
premises_low P says [] from h e = All-nil P
premises_low P says (p ∷ premises) [] h e = absurd cc
premises_low P says (p ∷ premises) (f ∷ from) h e =
    let first : Some p ≡ slice_get says f = cc in
    let others : map (λ j. Some j) premises ≡ map (slice_get says) from = cc in
    let at = slice_get_is says f p p (sym first) in
    All-cons P p premises (subst P at.1 (h f p at.0)) (premises_low P says premises from h others)

-- one premise more
pub premise_more : (all : List Judgment) (from : List ℕ) (premises : List Judgment) (i : ℕ) (j : Judgment) → i < length from → Some j ≡ slice_get all (get_or from i 0)
    → map (λ p. Some p) premises ≡ map (slice_get all) (take i from) → map (λ p. Some p) (premises ++ j ∷ []) ≡ map (slice_get all) (take (i + 1) from)
premise_more all from premises i j lt is so_far =
    map-append (λ p. Some p) premises (j ∷ [])
    ∙ ap (λ xs. xs ++ Some j ∷ []) so_far
    ∙ ap (λ x. map (slice_get all) (take i from) ++ x ∷ []) is
    ∙ sym (map-append (slice_get all) (take i from) (get_or from i 0 ∷ []))
    ∙ ap (map (slice_get all)) (sym (take_more from i 0 lt))

-- no list of premises has one that isn't there
pub premise_none : (all : List Judgment) (from : List ℕ) (i : ℕ) → i < length from → None ≡ slice_get all (get_or from i 0)
    → (premises : List Judgment) → map (λ p. Some p) premises ≡ map (slice_get all) from → ⊥
premise_none all [] i lt none premises e = absurd (omega arith)
premise_none all (f ∷ from) i lt none [] e = absurd cc
premise_none all (f ∷ from) zero lt none (p ∷ premises) e =
    let first : Some p ≡ slice_get all f = cc in
    let wrong : Some p ≡ None = first ∙ sym none in
    absurd cc
premise_none all (f ∷ from) (suc i) lt none (p ∷ premises) e =
    let others : map (λ p. Some p) premises ≡ map (slice_get all) from = cc in
    premise_none all from i (omega arith) none premises others
