-- A list of sorts in the place of the trees that have them.
use Rattle.std.proofs.Common.{◌≡◌, ℕ, zero, suc, ◌+◌, ◌<◌, false, List, [], ◌∷◌, ◌++◌, length, get_or, take, map, All, Some, refl, sym, ap, ◌∙◌, arith}
use Rattle.std.specs.Prelude.{slice_get}
use Rattle.std.proofs.lemmas.List.{nil_from_length, length-map, map-append, take_more, get_or-map}
use Rattle.std.proofs.lemmas.List.Elements.{All-head, All-tail, All-cons, All-nil}
use Rattle.std.proofs.lemmas.Option.{slice_get_within, slice_get-get_or, get_or_from_slice_get}
use Rattle.rz_rules.specs.declared.kinds.Slot.{Slot}
use Rattle.rz_rules.specs.declared.kinds.Sort.{Sort}
use Rattle.rz_rules.specs.declared.nodes.Node.{Node}
use Rattle.rz_rules.specs.Form.{form}
use Rattle.rz_rules.specs.Tree.{Tree, blank, sort_of, tree_at}
use Rattle.rz_rules.specs.File.{FileState, NodeFits}
use Rattle.rz_drv.specs.declared.outlines.Outline.{Outline}
use Rattle.rz_drv.specs.Items.{IsNode}
use Rattle.rz_drv.specs.Outline.{IsOutline}

-- two lists are alike in one place
pub same_at : {A B C : Type 0} (f : A → C) (g : B → C) (xs : List A) (ys : List B) (i : ℕ) (a : A) (b : B) → i < length xs → map f xs ≡ map g ys → f (get_or xs i a) ≡ g (get_or ys i b)
same_at f g [] ys i a b lt e = absurd (omega arith)
same_at f g (x ∷ xs) [] i a b lt e = absurd cc
same_at f g (x ∷ xs) (y ∷ ys) zero a b lt e = cc
same_at f g (x ∷ xs) (y ∷ ys) (suc i) a b lt e =
    let rest : map f xs ≡ map g ys = cc in
    same_at f g xs ys i a b (omega arith) rest

-- and in one place more
pub same_more : {A B C : Type 0} (f : A → C) (g : B → C) (xs : List A) (ys : List B) (i : ℕ) (a : A) (b : B) → i < length xs → i < length ys
    → map f (take i xs) ≡ map g (take i ys) → f (get_or xs i a) ≡ g (get_or ys i b) → map f (take (i + 1) xs) ≡ map g (take (i + 1) ys)
same_more f g xs ys i a b lx ly before here =
    ap (map f) (take_more xs i a lx) ∙ map-append f (take i xs) (get_or xs i a ∷ [])
    ∙ (λ j. before j ++ here j ∷ [])
    ∙ sym (ap (map g) (take_more ys i b ly) ∙ map-append g (take i ys) (get_or ys i b ∷ []))

-- the sort of a tree that is there
pub sort_there : (trees : List Tree) (id : ℕ) (sort : Sort) → slice_get (map sort_of trees) id ≡ Some sort → (id < length trees) × (sort_of (tree_at trees id) ≡ sort)
sort_there trees id sort e =
    let within : id < length trees = omega (arith, slice_get_within (map sort_of trees) id sort e, length-map trees sort_of) in
    (within, sym (get_or-map sort_of trees id blank sort within) ∙ get_or_from_slice_get (map sort_of trees) id sort sort e)

pub there_sort : (trees : List Tree) (id : ℕ) (sort : Sort) → id < length trees → sort_of (tree_at trees id) ≡ sort → slice_get (map sort_of trees) id ≡ Some sort
there_sort trees id sort within e =
    slice_get-get_or (map sort_of trees) id sort (omega (arith, within, length-map trees sort_of))
    ∙ ap (λ s. Some s) (get_or-map sort_of trees id blank sort within ∙ e)

-- the sorts of trees that are there
pub sorts_there : {A : Type 0} (sort : A → Sort) (trees : List Tree) (ids : List ℕ) (asked : List A) → map (slice_get (map sort_of trees)) ids ≡ map (λ a. Some (sort a)) asked
    → All (λ id. id < length trees) ids × (map sort_of (map (tree_at trees) ids) ≡ map sort asked)
sorts_there sort trees [] [] e = (All-nil (λ id. id < length trees), refl)
sorts_there sort trees [] (a ∷ asked) e = absurd cc
sorts_there sort trees (id ∷ ids) [] e = absurd cc
sorts_there sort trees (id ∷ ids) (a ∷ asked) e =
    let first : slice_get (map sort_of trees) id ≡ Some (sort a) = cc in
    let others : map (slice_get (map sort_of trees)) ids ≡ map (λ a. Some (sort a)) asked = cc in
    let one = sort_there trees id (sort a) first in
    let rest = sorts_there sort trees ids asked others in
    (All-cons (λ id. id < length trees) id ids one.0 rest.0, λ i. one.1 i ∷ rest.1 i)

pub there_sorts : {A : Type 0} (sort : A → Sort) (trees : List Tree) (ids : List ℕ) (asked : List A) → All (λ id. id < length trees) ids
    → map sort_of (map (tree_at trees) ids) ≡ map sort asked → map (slice_get (map sort_of trees)) ids ≡ map (λ a. Some (sort a)) asked
there_sorts sort trees [] [] h e = refl
there_sorts sort trees [] (a ∷ asked) h e = absurd cc
there_sorts sort trees (id ∷ ids) [] h e = absurd cc
there_sorts sort trees (id ∷ ids) (a ∷ asked) h e =
    let P : ℕ → Type 0 = λ id. id < length trees in
    let first : sort_of (tree_at trees id) ≡ sort a = cc in
    let others : map sort_of (map (tree_at trees) ids) ≡ map sort asked = cc in
    let one = there_sort trees id (sort a) (All-head P id ids h) first in
    let rest = there_sorts sort trees ids asked (All-tail P id ids h) others in
    λ i. one i ∷ rest i

-- a node fits where its kids have the sorts of their places
module _ (known : FileState) (outline : Outline) (node : Node) (ids : List ℕ) (slots : List Slot) (is : IsOutline known outline) (same : ids ≡ node.kids) (places : slots ≡ (form node.kind).kids) where
  abbrev Asked : Type 0
  Asked = map (slice_get outline.sorts.items) ids ≡ map (λ slot. Some slot.sort) slots

  moved : Asked → map (slice_get (map sort_of known.trees)) node.kids ≡ map (λ slot. Some slot.sort) (form node.kind).kids
  moved e = sym (λ i. map (slice_get (is.sorts i)) (same i)) ∙ e ∙ ap (map (λ slot. Some slot.sort)) places

  pub node_fits : IsNode node → outline.steps ≡ 0 → outline.claimed ≡ false → Asked → NodeFits known node
  node_fits item steps unclaimed e =
      let told = sorts_there (λ slot. slot.sort) known.trees node.kids (form node.kind).kids (moved e) in
      record {
        steps = nil_from_length known.statements (sym is.steps ∙ steps);
        claims = is.unclaimed unclaimed;
        form = record { kids = told.0; sorts = told.1; label = item.label };
      }

  pub fitting_node : NodeFits known node → Asked
  fitting_node fits =
      (λ i. map (slice_get (is.sorts i)) (same i)) ∙ there_sorts (λ slot. slot.sort) known.trees node.kids (form node.kind).kids fits.form.kids fits.form.sorts
      ∙ ap (map (λ slot. Some slot.sort)) (sym places)
