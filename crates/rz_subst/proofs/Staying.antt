-- A tree stays as it is where none of its variables is reached.
use Rattle.std.proofs.Common.{◌≡◌, ℕ, ◌+◌, ◌<◌, List, Option, None, Some, IfSome, refl, ap, subst, ◌∙◌, add_assoc}
use Rattle.rz_rules.specs.declared.kinds.Kind.{Kind}
use Rattle.rz_rules.specs.declared.kinds.Role.{Role}
use Rattle.rz_rules.specs.declared.kinds.Role.TheVariants.{Variable, Declared, Former}
use Rattle.rz_rules.specs.declared.kinds.Slot.{Slot}
use Rattle.rz_rules.specs.declared.kinds.Space.{Space}
use Rattle.rz_rules.specs.declared.nodes.Node.{Node}
use Rattle.rz_rules.specs.Form.{form, bound}
use Rattle.rz_rules.specs.Tree.{Tree, Trees, At, Nil, And, tree_of}
use Rattle.rz_rules.specs.Substitution.{Depth, total, Changes, changed_variable, changed_node, changed, changed_kids, first_slot, other_slots, NoneFromHere, NoneFrom, NoneInKids}
use Rattle.rz_rules.proofs.SubstitutionVariables.{same_here}
use Rattle.rz_subst.specs.declared.walk.Extent.{Extent}
use Rattle.rz_subst.specs.declared.walk.Place.{Place}
use Rattle.rz_pool.specs.Counts.{depth_of}
use Rattle.rz_subst.specs.Walk.{answer, IsBeyond, IsWithin}

pub under : (o : Option ℕ) (P Q : ℕ → Type 0) → ((n : ℕ) → P n → Q n) → IfSome o P → IfSome o Q
under None P Q f h = h
under (Some n) P Q f h = f n h

module _ (reach : Space → Extent) (changes : Changes) (within : IsWithin reach changes) where
  beyond_node : (depth : Depth) (role : Role) (kind : Kind) (number : ℕ) (name : List ℕ) (kids new : Trees) (NoneThere : Space → ℕ → Type 0)
      → ((s : Space) → IfSome (reach s).start (λ start. NoneFromHere s (start + depth s) role number (NoneThere s (start + depth s))))
      → (((s : Space) → IfSome (reach s).start (λ start. NoneThere s (start + depth s))) → new ≡ kids)
      → changed_node changes depth role kind number name kids new ≡ At kind number name kids
  beyond_node depth (Variable x) kind number name kids new NoneThere free kept =
      let low : IfSome (reach x).start (λ start. number < start + depth x) =
      under (reach x).start (λ start. NoneFromHere x (start + depth x) (Variable x) number (NoneThere x (start + depth x))) (λ start. number < start + depth x)
      (λ start f. f.0 (same_here x)) (free x) in
      let others : (s : Space) → IfSome (reach s).start (λ start. NoneThere s (start + depth s)) = λ s.
      under (reach s).start (λ start. NoneFromHere s (start + depth s) (Variable x) number (NoneThere s (start + depth s))) (λ start. NoneThere s (start + depth s))
      (λ start f. f.1) (free s) in
      ap (λ change. changed_variable change kind name new) (within x depth number low) ∙ ap (At kind number name) (kept others)
  beyond_node depth Declared kind number name kids new NoneThere free kept = refl
  beyond_node depth Former kind number name kids new NoneThere free kept = ap (At kind number name) (kept free)

  mutual
    beyond_tree : (depth : Depth) (t : Tree) → ((s : Space) → IfSome (reach s).start (λ start. NoneFrom s (start + depth s) t)) → changed changes depth t ≡ t
    beyond_tree depth (At kind number name kids) free =
        beyond_node depth (form kind).role kind number name kids (changed_kids changes depth (form kind).kids kids)
        (λ s limit. NoneInKids s limit (form kind).kids kids) free (beyond_kids depth (form kind).kids kids)

    beyond_kids : (depth : Depth) (slots : List Slot) (ts : Trees) → ((s : Space) → IfSome (reach s).start (λ start. NoneInKids s (start + depth s) slots ts))
        → changed_kids changes depth slots ts ≡ ts
    beyond_kids depth slots Nil free = refl
    beyond_kids depth slots (And t ts) free =
        let more = bound (first_slot slots) in
        let Both : Space → ℕ → Type 0 = λ s start. NoneFrom s (start + depth s + more s) t × NoneInKids s (start + depth s) (other_slots slots) ts in
        let first = beyond_tree (total depth more) t (λ s.
        under (reach s).start (Both s) (λ start. NoneFrom s (start + (depth s + more s)) t)
        (λ start f. subst (λ limit. NoneFrom s limit t) (add_assoc start (depth s) (more s)) f.0) (free s)) in
        let rest = beyond_kids depth (other_slots slots) ts (λ s.
        under (reach s).start (Both s) (λ start. NoneInKids s (start + depth s) (other_slots slots) ts) (λ start f. f.1) (free s)) in
        λ i. And (first i) (rest i)

  -- nothing changes at a place beyond which nothing is reached
  pub answer-beyond : (nodes : List Node) (place : Place) → IsBeyond reach nodes place → answer changes nodes place ≡ tree_of nodes place.id
  answer-beyond nodes place beyond = beyond_tree (depth_of place.depth) (tree_of nodes place.id) beyond
