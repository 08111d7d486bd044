-- Sorts stay, whatever becomes of the variables, and a value stays what it is in a pool that grows. These are lemmas with their
-- proofs, by which the two changes meet the laws of their trait; no contract speaks in them.
use Rattle.std.proofs.Common.{◌≡◌, ℕ, ◌+◌, ◌-◌, ◌==◌, Bool, true, false, if◌then◌else◌, nat_lt, List, [], refl, sym, ap, ◌∙◌, arith}
use Rattle.rz_rules.specs.declared.kinds.Sort.{Sort}
use Rattle.rz_rules.specs.declared.kinds.Space.{Space}
use Rattle.rz_rules.specs.declared.kinds.Space.TheVariants.{Points, Terms}
use Rattle.rz_rules.specs.declared.kinds.Role.{Role}
use Rattle.rz_rules.specs.declared.kinds.Role.TheVariants.{Variable, Declared, Former}
use Rattle.rz_rules.specs.declared.kinds.Kind.{Kind}
use Rattle.rz_rules.specs.declared.kinds.Kind.TheVariants.{PointVariable, TermVariable}
use Rattle.rz_rules.specs.declared.nodes.Node.{Node}
use Rattle.rz_rules.specs.Form.{form}
use Rattle.rz_rules.specs.Tree.{Tree, Trees, At, sort_of, tree_of}
use Rattle.rz_rules.specs.Substitution.{Depth, none, total, Change, Renumbered, Replaced, Changes, changed, changed_variable, changed_node, changed_kids, raising, weakened, putting}
use Rattle.rz_pool.specs.declared.counts.Counts.{Counts}
use Rattle.rz_pool.specs.Counts.{depth_of}
use Rattle.rz_pool.specs.Pool.{Grows}
use Rattle.rz_pool.proofs.Nodes.{length-Grows, KeepsTrees-Grows}
use Rattle.rz_pool.specs.Asking.{changes_by, NamesNodes}
use Rattle.rz_subst.specs.Walk.{sort_in, HasSort, KeepsSorts, IsValue, putting_reach, put_change}

-- a variable has the sort of its space, and no kids
pub variable_form : (kind : Kind) (space : Space) → (form kind).role ≡ Variable space → ((form kind).sort ≡ sort_in space) × ((form kind).kids ≡ [])
variable_form PointVariable space e = let same : Points ≡ space = cc in (ap sort_in same, refl)
variable_form TermVariable space e = let same : Terms ≡ space = cc in (ap sort_in same, refl)
variable_form kind space e = absurd cc

pub KeepsSorts-raising : (from by : Depth) → KeepsSorts (raising from by)
KeepsSorts-raising from by space depth number = tt

pub sort_changed : (changes : Changes) → KeepsSorts changes → (depth : Depth) (tree : Tree) → sort_of (changed changes depth tree) ≡ sort_of tree
sort_changed changes keeps depth (At kind number name kids) = by (form kind).role refl
  where
    new : Trees
    new = changed_kids changes depth (form kind).kids kids

    of : (space : Space) (change : Change) → (form kind).role ≡ Variable space → HasSort (sort_in space) change → sort_of (changed_variable change kind name new) ≡ (form kind).sort
    of space (Renumbered n) e h = refl
    of space (Replaced tree) e h = h ∙ sym (variable_form kind space e).0

    by : (role : Role) → (form kind).role ≡ role → sort_of (changed_node changes depth role kind number name kids new) ≡ (form kind).sort
    by (Variable space) e = of space (changes space depth number) e (keeps space depth number)
    by Declared e = refl
    by Former e = refl

choice : (a b : Bool) (sort : Sort) (tree : Tree) (n m : ℕ) → sort_of tree ≡ sort → HasSort sort (if a then Renumbered n else if b then Replaced tree else Renumbered m)
choice true b sort tree n m h = tt
choice false true sort tree n m h = h
choice false false sort tree n m h = tt

pub KeepsSorts-putting : (space : Space) (at : Depth) (value : Tree) → sort_of value ≡ sort_in space → KeepsSorts (putting space at value)
KeepsSorts-putting space at value h other depth number = by space other h
  where
    raised : (sort : Sort) → sort_of value ≡ sort → sort_of (weakened (total at depth) value) ≡ sort
    raised sort h = sort_changed (raising none (total at depth)) (KeepsSorts-raising none (total at depth)) none value ∙ h

    by : (space other : Space) → sort_of value ≡ sort_in space → HasSort (sort_in other) (putting space at value other depth number)
    by Points Points h = choice (nat_lt number (at Points + depth Points)) (number == at Points + depth Points) (sort_in Points) (weakened (total at depth) value) number (number - 1) (raised (sort_in Points) h)
    by Points Terms h = tt
    by Terms Points h = tt
    by Terms Terms h = choice (nat_lt number (at Terms + depth Terms)) (number == at Terms + depth Terms) (sort_in Terms) (weakened (total at depth) value) number (number - 1) (raised (sort_in Terms) h)

pub kept-putting : (space : Space) (at : Counts) (value : ℕ) (old new : List Node) → IsValue space value old → Grows old new
    → IsValue space value new × (putting space (depth_of at) (tree_of new value) ≡ putting space (depth_of at) (tree_of old value))
    × (putting_reach space at (tree_of new value) ≡ putting_reach space at (tree_of old value))
kept-putting space at value old new (live, sort) grows =
    let same : tree_of new value ≡ tree_of old value = KeepsTrees-Grows old new grows value live in
    ((omega (arith, length-Grows old new grows), ap sort_of same ∙ sort), ap (putting space (depth_of at)) same, ap (putting_reach space at) same)

pub asks-putting : (space : Space) (at : Counts) (value : ℕ) (nodes : List Node) → IsValue space value nodes
    → NamesNodes nodes (put_change space at value) × (changes_by nodes (put_change space at value) ≡ putting space (depth_of at) (tree_of nodes value))
asks-putting Points at value nodes (live, sort) = (live, refl)
asks-putting Terms at value nodes (live, sort) = (live, refl)
