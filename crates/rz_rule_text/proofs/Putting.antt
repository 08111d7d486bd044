-- A symbol in front of what a stack has.
use Rattle.std.proofs.Common.{◌≡◌, ℕ, ◌<◌, ◌&&◌, Bool, true, false, List, [], ◌∷◌, Some, None, Option, length, take, drop, map, All, Contains, IsTrue, refl, sym, ap, subst, ◌∙◌, arith}
use Rattle.std.specs.Prelude.{nat_lt, if◌then◌else◌, option_and_then, IfSome, IfNone}
use Rattle.std.specs.List.{list_all}
use Rattle.std.specs.Cmp.{first_so, second_so}
use Rattle.std.proofs.lemmas.List.{append-nil, length-map}
use Rattle.std.proofs.lemmas.List.Elements.{All-head, All-tail, All-weaker}
use Rattle.rz_rules.specs.declared.kinds.Kind.{Kind}
use Rattle.rz_rules.specs.declared.judgments.Judgment.{Judgment}
use Rattle.rz_rules.specs.declared.nodes.Node.{Node}
use Rattle.rz_rules.specs.declared.symbols.Letter.{Letter}
use Rattle.rz_rules.specs.declared.symbols.Label.{Label}
use Rattle.rz_rules.specs.declared.symbols.Label.TheVariants.{Plain, Index, RowName}
use Rattle.rz_rules.specs.declared.symbols.Symbol.{Symbol}
use Rattle.rz_rules.specs.declared.symbols.Symbol.TheVariants as symbol
use Rattle.rz_rules.specs.declared.symbols.TheConstants.{LETTERS}
use Rattle.rz_rules.specs.Form.{form, kid_sorts}
use Rattle.rz_rules.specs.Tree.{Tree, At, sort_of, tree_of, trees_in, trees_of}
use Rattle.rz_rules.specs.Judgment.{ids_of, context_of, kind_of, parts_of, statement}
use Rattle.rz_rules.specs.Row.{Assignment, name_of, number_of, spelled}
use Rattle.rz_rules.specs.Text.{Mark, label_fits, starts_with, with_mark}
use Rattle.rz_pool.specs.Pool.{Grows}
use Rattle.rz_pool.proofs.Nodes.{KeepsTrees-Grows}
use Rattle.rz_rule_text.specs.declared.text.Stack.{Stack}
use Rattle.rz_rule_text.specs.Letters.{is_row_name, letter_at, name_in, tree_for}
use Rattle.rz_rule_text.specs.Spelling.{CanMake, CanPut, HasSpelled, IsJudgmentOver, IsLive, IsMadeOf, Stands, StandsAt}
use Rattle.rz_rule_text.proofs.Stacks.{Stands-drop, Stands-grows, enough, length-Grows, top_known, top_none}

pub if_some : {A : Type 0} (b : Bool) (x new : A) → (if b then Some x else None) ≡ Some new → (b ≡ true) × (x ≡ new)
if_some true x new e = (refl, cc)
if_some false x new e = absurd cc

module _ (nodes : List Node) (symbol : Symbol) (behind : List Symbol) (a : Assignment) (stack : Stack) (letters : List (Option ℕ)) (name : Option ℕ) (can : CanPut nodes symbol behind a stack letters name) where
  -- the marks with the symbol in front
  pub marked : with_mark symbol can.has.marks ≡ Some can.marks
  marked = sym (ap (option_and_then (with_mark symbol)) can.has.marked) ∙ can.marked

-- the judgments of a grown pool say what they said
pub live-over : (nodes : List Node) (said : List Judgment) → All (IsJudgmentOver nodes) said → All (IsLive nodes) said
live-over nodes said h = All-weaker (IsJudgmentOver nodes) (IsLive nodes) (λ says over. over.live) said h

pub statements-Grows : (old new : List Node) → Grows old new → (said : List Judgment) → All (IsLive old) said → map (statement (trees_in old)) said ≡ map (statement (trees_in new)) said
statements-Grows old new grows [] h = refl
statements-Grows old new grows (says ∷ said) h =
    let live = All-head (IsLive old) says said h in
    let low = λ (id : ℕ) (l : id < length old). sym (KeepsTrees-Grows old new grows id l) in
    let here : statement (trees_in old) says ≡ statement (trees_in new) says =
    λ i. record {
      kind = kind_of says;
      context = low (context_of says) (All-head (λ id. id < length old) (context_of says) (parts_of says) live) i;
      parts = same (parts_of says) (All-tail (λ id. id < length old) (context_of says) (parts_of says) live) i;
    } in
    λ i. here i ∷ statements-Grows old new grows said (All-tail (IsLive old) says said h) i where
      same : (ids : List ℕ) → All (λ id. id < length old) ids → map (tree_of old) ids ≡ map (tree_of new) ids
      same [] h = refl
      same (id ∷ ids) h = λ i. sym (KeepsTrees-Grows old new grows id (All-head (λ id. id < length old) id ids h)) i ∷ same ids (All-tail (λ id. id < length old) id ids h) i

-- what is over nodes is over them in a grown pool
pub over-Grows : (old new : List Node) → Grows old new → (says : Judgment) → IsJudgmentOver old says → IsJudgmentOver new says
over-Grows old new grows says h = record {
  live = λ k d l. omega (arith, h.live k d l, length-Grows old new grows);
  sorts = same (ids_of says) h.live ∙ h.sorts;
} where
  same : (ids : List ℕ) → All (λ id. id < length old) ids → map sort_of (map (tree_of new) ids) ≡ map sort_of (map (tree_of old) ids)
  same [] h = refl
  same (id ∷ ids) h =
      λ i. sort_of (KeepsTrees-Grows old new grows id (All-head (λ id. id < length old) id ids h) i) ∷ same ids (All-tail (λ id. id < length old) id ids h) i

pub all_over-Grows : (old new : List Node) → Grows old new → (said : List Judgment) → All (IsJudgmentOver old) said → All (IsJudgmentOver new) said
all_over-Grows old new grows said h = All-weaker (IsJudgmentOver old) (IsJudgmentOver new) (over-Grows old new grows) said h

-- with one tree more, and the same judgments
module _ (old new : List Node) (grows : Grows old new) (symbol : Symbol) (behind : List Symbol) (a : Assignment) (before after : Stack) (letters : List (Option ℕ)) (name : Option ℕ)
    (can : CanPut old symbol behind a before letters name) (said : after.said ≡ before.said) (same : (spelled (symbol ∷ behind) a).statements ≡ (spelled behind a).statements) where
  pub with_tree : Stands new after.trees.items (spelled (symbol ∷ behind) a).trees can.marks → HasSpelled new (symbol ∷ behind) a after
  with_tree trees = record {
    marks = can.marks;
    marked = can.marked;
    trees = trees;
    statements = same ∙ can.has.statements ∙ statements-Grows old new grows before.said.items (live-over old before.said.items can.has.over) ∙ ap (λ (s : _). map (statement (trees_in new)) s.items) (sym said);
    over = subst (λ (s : _). All (IsJudgmentOver new) s.items) (sym said) (all_over-Grows old new grows before.said.items can.has.over);
  }

-- a letter
pub letter_put : (nodes : List Node) (letter : Letter) (behind : List Symbol) (a : Assignment) (before after : Stack) (letters : List (Option ℕ)) (name : Option ℕ)
    → CanPut nodes (symbol.Letter letter) behind a before letters name → after.trees.items ≡ letter_at letters letter.number ∷ before.trees.items → after.said ≡ before.said
    → HasSpelled nodes (symbol.Letter letter ∷ behind) a after
letter_put nodes letter behind a before after letters name can trees said =
    let step = if_some (nat_lt letter.number LETTERS) (record { sort = letter.sort; plain = true } ∷ can.has.marks) can.marks (marked nodes (symbol.Letter letter) behind a before letters name can) in
    let found = can.fits.0 in
    let tree : tree_of nodes found.id ≡ a.letters letter.number = sym (ap (tree_for nodes) found.there) ∙ can.fits.1 in
    let at : StandsAt nodes (Some found.id) (a.letters letter.number) (record { sort = letter.sort; plain = true }) = (found.live, tree, sym (ap sort_of tree) ∙ found.sort) in
    with_tree nodes nodes (record { added = []; is = sym (append-nil nodes) }) (symbol.Letter letter) behind a before after letters name can said refl
    (subst (Stands nodes after.trees.items (a.letters letter.number ∷ (spelled behind a).trees)) step.1
    (subst (λ (ids : List (Option ℕ)). Stands nodes ids (a.letters letter.number ∷ (spelled behind a).trees) (record { sort = letter.sort; plain = true } ∷ can.has.marks))
    (sym (trees ∙ ap (λ (id : Option ℕ). id ∷ before.trees.items) found.there)) (at, can.has.trees)))

-- a node
module _ (old : List Node) (kind : Kind) (label : Label) (behind : List Symbol) (a : Assignment) (before : Stack) (letters : List (Option ℕ)) (name : Option ℕ)
    (can : CanPut old (symbol.Node kind label) behind a before letters name) where
  abbrev mark : Mark
  mark = record { sort = (form kind).sort; plain = list_all (λ mark. mark.plain) (take (length (form kind).kids) can.has.marks) }

  node_step : ((label_fits (form kind).role label && starts_with (kid_sorts kind) can.has.marks) ≡ true) × (mark ∷ drop (length (form kind).kids) can.has.marks ≡ can.marks)
  node_step = if_some (label_fits (form kind).role label && starts_with (kid_sorts kind) can.has.marks) (mark ∷ drop (length (form kind).kids) can.has.marks) can.marks
      (marked old (symbol.Node kind label) behind a before letters name can)

  fitting : label_fits (form kind).role label ≡ true
  fitting = first_so (label_fits (form kind).role label) (starts_with (kid_sorts kind) can.has.marks) node_step.0

  kids_fit : starts_with (kid_sorts kind) can.has.marks ≡ true
  kids_fit = second_so (label_fits (form kind).role label) (starts_with (kid_sorts kind) can.has.marks) node_step.0

  count : length (kid_sorts kind) ≡ length (form kind).kids
  count = length-map (form kind).kids (λ slot. slot.sort)

  pub node_ready : CanMake old before.trees.items kind label name
  node_ready = record {
    enough = omega (arith, count, enough old (kid_sorts kind) before.trees.items (spelled behind a).trees can.has.marks can.has.trees kids_fit);
    kids = λ kids top. let are = top_known old (kid_sorts kind) kids before.trees.items (spelled behind a).trees can.has.marks can.has.trees kids_fit (ap (λ (n : ℕ). take n before.trees.items) count ∙ top) in
        (are.live, are.sorts_are);
    label_is = fitting;
    named = λ is. (can.fits is).0;
  }

  name_same : (label : Label) (n m : List ℕ) → (IsTrue (is_row_name label) → n ≡ m) → name_of label n ≡ name_of label m
  name_same Plain n m h = refl
  name_same (Index k) n m h = refl
  name_same RowName n m h = h refl

  pub node_put : (new : List Node) → Grows old new → (after : Stack) (made : Option ℕ) → after.trees.items ≡ made ∷ drop (length (form kind).kids) before.trees.items → after.said ≡ before.said
      → IfSome made (IsMadeOf old new before.trees.items kind label (name_in (tree_for old name))) → IfNone made (Contains (take (length (form kind).kids) before.trees.items) None)
      → HasSpelled new (symbol.Node kind label ∷ behind) a after
  node_put new grows after made trees said makes fails =
      with_tree old new grows (symbol.Node kind label) behind a before after letters name can said refl
      (subst (Stands new after.trees.items (node ∷ drop (length (form kind).kids) (spelled behind a).trees)) node_step.1
      (subst (λ (ids : List (Option ℕ)). Stands new ids (node ∷ drop (length (form kind).kids) (spelled behind a).trees) (mark ∷ drop (length (form kind).kids) can.has.marks)) (sym trees)
      (at made makes fails, Stands-grows old new grows _ _ _ (Stands-drop old (length (form kind).kids) before.trees.items (spelled behind a).trees can.has.marks can.has.trees)))) where
        node : Tree
        node = At kind (number_of label) (name_of label a.name) (trees_of (take (length (form kind).kids) (spelled behind a).trees))

        at : (made : Option ℕ) → IfSome made (IsMadeOf old new before.trees.items kind label (name_in (tree_for old name))) → IfNone made (Contains (take (length (form kind).kids) before.trees.items) None)
            → StandsAt new made node mark
        at (Some id) makes fails =
            let are = top_known old (kid_sorts kind) makes.kids before.trees.items (spelled behind a).trees can.has.marks can.has.trees kids_fit (ap (λ (n : ℕ). take n before.trees.items) count ∙ makes.on_top) in
            let kids : map (tree_of old) makes.kids ≡ take (length (form kind).kids) (spelled behind a).trees = sym are.trees_are ∙ ap (λ (n : ℕ). take n (spelled behind a).trees) count in
            let named : name_of label (name_in (tree_for old name)) ≡ name_of label a.name = name_same label _ _ (λ is. (can.fits is).1) in
            (makes.live, makes.tree ∙ (λ i. At kind (number_of label) (named i) (trees_of (kids i))), refl)
        at None makes fails =
            let low = top_none old (length (form kind).kids) before.trees.items (spelled behind a).trees can.has.marks can.has.trees fails in
            (low.0, λ below. low.1 below.1)
