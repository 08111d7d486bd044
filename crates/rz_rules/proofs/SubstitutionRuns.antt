-- Changes of variables, one after the other.
use Rattle.std.proofs.Common.{◌≡◌, ℕ, List, refl, sym, ap, ◌∙◌, add_assoc, add-zero}
use Rattle.rz_rules.specs.declared.kinds.Space.{Space}
use Rattle.rz_rules.specs.declared.kinds.Role.{Role}
use Rattle.rz_rules.specs.declared.kinds.Role.TheVariants.{Variable, Declared, Former}
use Rattle.rz_rules.specs.declared.kinds.Slot.{Slot}
use Rattle.rz_rules.specs.declared.kinds.Kind.{Kind}
use Rattle.rz_rules.specs.Form.{form, bound}
use Rattle.rz_rules.specs.Tree.{Tree, Trees, At, Nil, And}
use Rattle.rz_rules.specs.Substitution.{Depth, none, total, Change, Renumbered, Replaced, Changes, changed_variable, changed_node, first_slot, other_slots, changed, changed_kids}

-- changes that are alike at each variable are alike on trees
pub changed_alike : (f g : Changes) → ((space : Space) (depth : Depth) (number : ℕ) → f space depth number ≡ g space depth number)
    → (depth : Depth) (t : Tree) → changed f depth t ≡ changed g depth t
changed_alike f g h depth t = λ i. changed (λ space d number. h space d number i) depth t

-- so are runs that start at depths that are alike
pub changed_at_alike : (f : Changes) (d e : Depth) → ((space : Space) → d space ≡ e space) → (t : Tree) → changed f d t ≡ changed f e t
changed_at_alike f d e h t = λ i. changed f (λ space. h space i) t

-- each variable stays as it is
abbrev pub staying : Changes
staying space depth number = Renumbered number

staying_node : (depth : Depth) (role : Role) (kind : Kind) (number : ℕ) (name : List ℕ) (kids new : Trees)
    → new ≡ kids → changed_node staying depth role kind number name kids new ≡ At kind number name kids
staying_node depth (Variable space) kind number name kids new e = ap (At kind number name) e
staying_node depth Declared kind number name kids new e = refl
staying_node depth Former kind number name kids new e = ap (At kind number name) e

-- then the tree does
mutual
  pub changed_staying : (depth : Depth) (t : Tree) → changed staying depth t ≡ t
  changed_staying depth (At kind number name kids) =
      staying_node depth (form kind).role kind number name kids (changed_kids staying depth (form kind).kids kids)
      (kids_staying depth (form kind).kids kids)

  kids_staying : (depth : Depth) (slots : List Slot) (ts : Trees) → changed_kids staying depth slots ts ≡ ts
  kids_staying depth slots Nil = refl
  kids_staying depth slots (And t ts) =
      λ i. And (changed_staying (total depth (bound (first_slot slots))) t i) (kids_staying depth (other_slots slots) ts i)

-- the changes that a run makes which starts deeper
abbrev pub deeper : Changes → Depth → Changes
deeper f d space depth number = f space (total d depth) number

deeper_node : (f : Changes) (d e : Depth) (role : Role) (kind : Kind) (number : ℕ) (name : List ℕ) (kids new newer : Trees)
    → new ≡ newer → changed_node f (total d e) role kind number name kids new ≡ changed_node (deeper f d) e role kind number name kids newer
deeper_node f d e (Variable space) kind number name kids new newer p = ap (changed_variable (f space (total d e) number) kind name) p
deeper_node f d e Declared kind number name kids new newer p = refl
deeper_node f d e Former kind number name kids new newer p = ap (At kind number name) p

mutual
  pub changed_deeper : (f : Changes) (d e : Depth) (t : Tree) → changed f (total d e) t ≡ changed (deeper f d) e t
  changed_deeper f d e (At kind number name kids) =
      deeper_node f d e (form kind).role kind number name kids
      (changed_kids f (total d e) (form kind).kids kids) (changed_kids (deeper f d) e (form kind).kids kids)
      (kids_deeper f d e (form kind).kids kids)

  kids_deeper : (f : Changes) (d e : Depth) (slots : List Slot) (ts : Trees)
      → changed_kids f (total d e) slots ts ≡ changed_kids (deeper f d) e slots ts
  kids_deeper f d e slots Nil = refl
  kids_deeper f d e slots (And t ts) =
      let more = bound (first_slot slots) in
      let first = changed_at_alike f (total (total d e) more) (total d (total e more)) (λ space. add_assoc (d space) (e space) (more space)) t
      ∙ changed_deeper f d (total e more) t in
      λ i. And (first i) (kids_deeper f d e (other_slots slots) ts i)

-- a run from any depth is a run from the start
pub changed_from : (f : Changes) (d : Depth) (t : Tree) → changed f d t ≡ changed (deeper f d) none t
changed_from f d t = changed_at_alike f d (total d none) (λ space. sym (add-zero (d space))) t ∙ changed_deeper f d none t

-- what becomes of a variable of which that has become
abbrev pub change_after : Changes → Space → Depth → Change → Change
change_after g space depth (Renumbered number) = g space depth number
change_after g space depth (Replaced t) = Replaced (changed g depth t)

-- one change after the other
abbrev pub after : Changes → Changes → Changes
after g f space depth number = change_after g space depth (f space depth number)

after_variable : (g : Changes) (depth : Depth) (space : Space) (change : Change) (kind : Kind) (name : List ℕ) (new newer : Trees)
    → (form kind).role ≡ Variable space → changed_kids g depth (form kind).kids new ≡ newer
    → changed g depth (changed_variable change kind name new) ≡ changed_variable (change_after g space depth change) kind name newer
after_variable g depth space (Renumbered number) kind name new newer role e =
    ap (λ r. changed_node g depth r kind number name new (changed_kids g depth (form kind).kids new)) role
    ∙ ap (changed_variable (g space depth number) kind name) e
after_variable g depth space (Replaced t) kind name new newer role e = refl

after_node : (g f : Changes) (depth : Depth) (role : Role) (kind : Kind) (number : ℕ) (name : List ℕ) (kids new newer : Trees)
    → (form kind).role ≡ role → changed_kids g depth (form kind).kids new ≡ newer
    → changed g depth (changed_node f depth role kind number name kids new) ≡ changed_node (after g f) depth role kind number name kids newer
after_node g f depth (Variable space) kind number name kids new newer role e =
    after_variable g depth space (f space depth number) kind name new newer role e
after_node g f depth Declared kind number name kids new newer role e =
    ap (λ r. changed_node g depth r kind number name kids (changed_kids g depth (form kind).kids kids)) role
after_node g f depth Former kind number name kids new newer role e =
    ap (λ r. changed_node g depth r kind number name new (changed_kids g depth (form kind).kids new)) role ∙ ap (At kind number name) e

-- two runs are one run
mutual
  pub changed-changed : (g f : Changes) (depth : Depth) (t : Tree) → changed g depth (changed f depth t) ≡ changed (after g f) depth t
  changed-changed g f depth (At kind number name kids) =
      after_node g f depth (form kind).role kind number name kids
      (changed_kids f depth (form kind).kids kids) (changed_kids (after g f) depth (form kind).kids kids)
      refl (kids-changed g f depth (form kind).kids kids)

  kids-changed : (g f : Changes) (depth : Depth) (slots : List Slot) (ts : Trees)
      → changed_kids g depth slots (changed_kids f depth slots ts) ≡ changed_kids (after g f) depth slots ts
  kids-changed g f depth slots Nil = refl
  kids-changed g f depth slots (And t ts) =
      λ i. And (changed-changed g f (total depth (bound (first_slot slots))) t i) (kids-changed g f depth (other_slots slots) ts i)

-- where the first renumbers a variable
pub renumbered_then : (g f : Changes) (space : Space) (depth : Depth) (number m : ℕ) (change : Change)
    → f space depth number ≡ Renumbered m → g space depth m ≡ change → after g f space depth number ≡ change
renumbered_then g f space depth number m change first then = ap (change_after g space depth) first ∙ then

-- so what two runs make is told by what becomes of one variable
pub runs_one : (g f h : Changes) → ((space : Space) (depth : Depth) (number : ℕ) → after g f space depth number ≡ h space depth number)
    → (depth : Depth) (t : Tree) → changed g depth (changed f depth t) ≡ changed h depth t
runs_one g f h e depth t = changed-changed g f depth t ∙ changed_alike (after g f) h e depth t

pub runs_alike : (g f k h : Changes)
    → ((space : Space) (depth : Depth) (number : ℕ) → after g f space depth number ≡ after k h space depth number)
    → (depth : Depth) (t : Tree) → changed g depth (changed f depth t) ≡ changed k depth (changed h depth t)
runs_alike g f k h e depth t = runs_one g f (after k h) e depth t ∙ sym (changed-changed k h depth t)

pub runs_nothing : (g f : Changes) → ((space : Space) (depth : Depth) (number : ℕ) → after g f space depth number ≡ Renumbered number)
    → (depth : Depth) (t : Tree) → changed g depth (changed f depth t) ≡ t
runs_nothing g f e depth t = runs_one g f staying e depth t ∙ changed_staying depth t
