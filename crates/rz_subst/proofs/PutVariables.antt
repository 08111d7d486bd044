-- What becomes of one variable where a value is put, as the code answers it.
use Rattle.std.proofs.Common.{◌≡◌, ℕ, ◌+◌, ◌-◌, ◌<◌, ◌^◌, true, false, List, refl, sym, subst, ◌∙◌, true≢false, length, arith}
use Rattle.std.proofs.lemmas.Bool.Decides.{nat_tests}
use denote.Enum.Bare.{sameb}
use Rattle.rz_rules.specs.contracts.kinds.Space.{the_type}
use Rattle.rz_rules.specs.declared.kinds.Space.{Space}
use Rattle.rz_rules.specs.declared.kinds.Space.TheVariants.{Points, Terms}
use Rattle.rz_rules.specs.declared.nodes.Node.{Node}
use Rattle.rz_rules.specs.Tree.{Tree, tree_of}
use Rattle.rz_rules.specs.Substitution.{Depth, total, Replaced, weakened, same_space, putting, IndicesBelow}
use Rattle.rz_rules.proofs.SubstitutionVariables.{put_change, put_below, putting_here, putting_apart}
use Rattle.rz_subst.specs.declared.walk.Change.TheVariants as answers
use Rattle.rz_subst.specs.Walk.{IsChange, FitsChange}
use Rattle.rz_subst.specs.Within.{put_above}

pub same_spaces : (s x : Space) → sameb the_type s x ≡ same_space s x
same_spaces Points Points = refl
same_spaces Points Terms = refl
same_spaces Terms Points = refl
same_spaces Terms Terms = refl

pub one_space : (s x : Space) → same_space s x ≡ true → s ≡ x
one_space Points Points e = refl
one_space Points Terms e = absurd (true≢false (sym e))
one_space Terms Points e = absurd (true≢false (sym e))
one_space Terms Terms e = refl

put_at : (place : ℕ) (value : Tree) (number : ℕ) → place ≡ number → put_change place value number ≡ Replaced value
put_at place value number h = grind (arith, nat_tests)

module _ (nodes : List Node) (s x : Space) (at depth : Depth) (value : Tree) (number : ℕ) where
  abbrev raised : Tree
  raised = weakened (total at depth) value

  pub in_another_space : same_space s x ≡ false → number < 2 ^ 32 → IsChange nodes (answers.Renumbered number) (putting s at value x depth number)
  in_another_space e low = subst (IsChange nodes (answers.Renumbered number)) (sym (putting_apart s x at value depth number e)) (refl, low)

  module _ (same : s ≡ x) where
    here : putting s at value x depth number ≡ put_change (at x + depth x) raised number
    here = subst (λ (o : Space). putting s at value o depth number ≡ put_change (at o + depth o) raised number) same (putting_here s at value depth number)

    pub before_it : number < at x + depth x → number < 2 ^ 32 → IsChange nodes (answers.Renumbered number) (putting s at value x depth number)
    before_it h low = subst (IsChange nodes (answers.Renumbered number)) (sym (here ∙ put_below (at x + depth x) raised number h)) (refl, low)

    pub behind_it : at x + depth x < number → number < 2 ^ 32 → IsChange nodes (answers.Renumbered (number - 1)) (putting s at value x depth number)
    behind_it h low = subst (IsChange nodes (answers.Renumbered (number - 1))) (sym (here ∙ put_above (at x + depth x) raised number h)) (refl, omega arith)

    pub in_its_place : (id : ℕ) → at x + depth x ≡ number → (id < length nodes) × (tree_of nodes id ≡ raised)
        → IsChange nodes (answers.Replaced id) (putting s at value x depth number)
    in_its_place id h is = subst (IsChange nodes (answers.Replaced id)) (sym (here ∙ put_at (at x + depth x) raised number h)) is

    pub too_large : at x + depth x ≡ number → ¬ (IndicesBelow (2 ^ 32) raised) → ¬ (FitsChange (putting s at value x depth number))
    too_large h large fits = large (subst FitsChange (here ∙ put_at (at x + depth x) raised number h) fits)
