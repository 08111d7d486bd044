-- What the entries of a context give, over trees.
use Rattle.std.proofs.Common.{◌≡◌, ℕ, ◌<◌, List, [], ◌∷◌, length, Option, Some, None, refl, sym, ap, subst, ◌∙◌}
use Rattle.std.specs.Prelude.{◌↔◌, Result, Ok, Err, IfOk}
use Rattle.rz_rules.specs.declared.kinds.Sort.{Sort}
use Rattle.rz_rules.specs.declared.kinds.Sort.TheVariants as sort
use Rattle.rz_rules.specs.declared.kinds.Space.TheVariants.{Terms}
use Rattle.rz_rules.specs.declared.kinds.Kind.{Kind}
use Rattle.rz_rules.specs.declared.kinds.Kind.TheVariants.{TermVariable}
use Rattle.rz_rules.specs.declared.nodes.Node.{Node}
use Rattle.rz_rules.specs.Form.{form, is_named}
use Rattle.rz_rules.specs.declared.judgments.Judgment.TheVariants.{Has}
use Rattle.rz_rules.specs.Tree.{Tree, At, Nil, HasForm, HaveForms, IsTree, sort_of, tree_of, tree_over, trees_in}
use Rattle.rz_rules.specs.Substitution.{Depth, none, only, total, weakened}
use Rattle.rz_rules.specs.Context.{Entry, OfTope, OfType, depth_of, with_entries, with_entry}
use Rattle.rz_rules.specs.Judgment.{Statement, statement}
use Rattle.rz_rules.specs.Structural.{IsHypothesis, IsVariable, TypesVariable, formed, has, holds, term_variable}
use Rattle.rz_rules.proofs.Contexts.{with_entries-same, with_entry-same, with_type-same}
use Rattle.rz_pool.specs.Pool.{Grows}
use Rattle.rz_pool.proofs.Nodes.{KeepsTrees-Grows}
use Rattle.rz_pool.proofs.WellFormed.{tree_of-is}
use Rattle.rz_subst.specs.Sorts.{KeepsSorts-raising, sort_changed}
use Rattle.rz_subst.specs.Walk.{IsAnswerOf}
use Rattle.rz_rule_text.proofs.Stacks.{IndicesBelow-IsTree}
use Rattle.rz_pool.specs.declared.entries.Entry.{Entry as PoolEntry}
use Rattle.rz_pool.specs.declared.entries.Entry.TheVariants as entry
use Rattle.rz_kernel_rows.specs.Context.{IsAt, NoSplit, NoTermSplit, entry_over}
use Rattle.rz_kernel_rows.specs.Move.{IsTypeFor}
use Rattle.rz_kernel_rows.proofs.Nodes.{kids_as, tree_as}
use Rattle.std.proofs.lemmas.List.{nil_from_length}

-- a tree further in has its sort
pub sort_weakened : (depth : Depth) (t : Tree) → sort_of (weakened depth t) ≡ sort_of t
sort_weakened depth t = sort_changed _ (KeepsSorts-raising none depth) none t

-- ---- the tope of an entry

module _ (number : ℕ) (context : Tree) where
  same_context : (says : Statement) → IsHypothesis number (formed context ∷ []) says → says.context ≡ context
  same_context says h = let e = h.premises_are in one e where
    one : formed context ∷ [] ≡ formed says.context ∷ [] → says.context ≡ context
    one e = let same : formed context ≡ formed says.context = cc in sym (ap (λ (s : Statement). s.context) same)

  cut_here : (says : Statement) (h : IsHypothesis number (formed context ∷ []) says) → context ≡ with_entries (with_entry h.outer (OfTope h.tope)) h.inner
  cut_here says h = sym (same_context says h) ∙ h.context

  pub no_entry : NoSplit context number → (says : Statement) → IsHypothesis number (formed context ∷ []) says → ⊥
  no_entry none_there says h = none_there h.outer (OfTope h.tope) h.inner h.count (cut_here says h)

  module _ (outer : Tree) (e : Entry) (inner : List Entry) (is : context ≡ with_entries (with_entry outer e) inner) (count : length inner ≡ number) where
    here : (says : Statement) (h : IsHypothesis number (formed context ∷ []) says) → (OfTope h.tope ≡ e) × (h.inner ≡ inner)
    here says h =
        let same = with_entries-same (with_entry h.outer (OfTope h.tope)) (with_entry outer e) h.inner inner (h.count ∙ sym count) (sym (cut_here says h) ∙ is) in
        ((with_entry-same h.outer outer (OfTope h.tope) e same.0).1, same.1)

    pub no_tope : ((tope : Tree) → e ≡ OfTope tope → ⊥) → (says : Statement) → IsHypothesis number (formed context ∷ []) says → ⊥
    no_tope none_there says h = none_there h.tope (sym (here says h).0)

    pub hypothesis_iff : (tope : Tree) → e ≡ OfTope tope → (says : Statement) → IsHypothesis number (formed context ∷ []) says ↔ (says ≡ holds context (weakened (depth_of inner) tope))
    hypothesis_iff tope entry says = (
      λ h.
          let at = here says h in
          let topes : OfTope h.tope ≡ OfTope tope = at.0 ∙ entry in
          let tope_is : h.tope ≡ tope = cc in
          h.says ∙ (λ i. holds (same_context says h i) (weakened (depth_of (at.1 i)) (tope_is i))),
      λ said.
          let there = ap (λ (s : Statement). s.context) said in
          record {
            outer = outer;
            tope = tope;
            inner = inner;
            count = count;
            context = there ∙ is ∙ ap (λ (x : Entry). with_entries (with_entry outer x) inner) entry;
            premises_are = λ i. formed (sym there i) ∷ [];
            says = said ∙ (λ i. holds (sym there i) (weakened (depth_of inner) tope));
          },
    )

-- ---- the type of a variable

index_is : (n m : ℕ) → term_variable n ≡ term_variable m → n ≡ m
index_is n m e = cc

module _ (context term : Tree) (index : ℕ) (term_is : term ≡ term_variable index) where
  counts : (type : Tree) (v : IsVariable context term type) → depth_of v.inner Terms ≡ index
  counts type v = index_is (depth_of v.inner Terms) index (sym v.term_is ∙ term_is)

  pub no_variable : NoTermSplit context index → (type : Tree) → IsVariable context term type → ⊥
  no_variable none_there type v = none_there v.outer v.stated v.inner (counts type v) v.context_is

  pub variable_iff : (outer stated : Tree) (inner : List Entry) → context ≡ with_entries (with_entry outer (OfType stated)) inner → depth_of inner Terms ≡ index
      → (type : Tree) → IsVariable context term type ↔ (type ≡ weakened (total (depth_of inner) (only Terms 1)) stated)
  variable_iff outer stated inner is count type = (
    λ v.
        let same = with_type-same v.outer outer v.stated stated v.inner inner (counts type v ∙ sym count) (sym v.context_is ∙ is) in
        v.type_is ∙ (λ i. weakened (total (depth_of (same.2 i)) (only Terms 1)) (same.1 i)),
    λ e. record { outer = outer; stated = stated; inner = inner; context_is = is; term_is = term_is ∙ ap term_variable (sym count); type_is = e },
  )

-- an answer as the only type
pub type_for : {E : Type 0} (r : Result (Option ℕ) E) (nodes : List Node) (Types : Tree → Type 0) (tree : Tree) → sort_of tree ≡ sort.Term → ((type : Tree) → Types type ↔ (type ≡ tree))
    → IfOk r (IsAnswerOf nodes tree) → IfOk r (IsTypeFor nodes Types)
type_for (Err e) nodes Types tree sorted iff h = tt
type_for (Ok None) nodes Types tree sorted iff h = λ type is types. h (IndicesBelow-IsTree sort.Term tree (subst (IsTree sort.Term) ((iff type).0 types) is))
type_for (Ok (Some id)) nodes Types tree sorted iff h =
    ((h.0, ap sort_of h.1 ∙ sorted), λ type. (λ types. (iff type).0 types ∙ sym h.1, λ e. (iff type).1 (e ∙ h.1)))

-- ---- by ids

-- an entry that is no tope
pub no_tope_over : (nodes : List Node) (e : PoolEntry) → ((id : ℕ) → e ≡ entry.Tope id → ⊥) → (tope : Tree) → entry_over nodes e ≡ OfTope tope → ⊥
no_tope_over nodes (entry.Tope id) none_there tope same = none_there id refl
no_tope_over nodes (entry.Cube id) none_there tope same = absurd cc
no_tope_over nodes (entry.Term id) none_there tope same = absurd cc

-- a node of the kind of term variables
pub variable_tree : (nodes : List Node) (id : ℕ) (n : Node) → tree_of nodes id ≡ tree_over (trees_in nodes) n → HasForm (trees_in nodes) id n → n.kind ≡ TermVariable
    → tree_of nodes id ≡ term_variable n.number
variable_tree nodes id n is fine kind =
    let kids : n.kids ≡ [] = nil_from_length n.kids (kids_as nodes id n TermVariable fine kind) in
    let name : n.name ≡ [] = fine.label.unnamed (ap (λ (k : Kind). is_named (form k).role) kind) in
    tree_as nodes id n TermVariable [] is kind kids ∙ ap (λ (name : List ℕ). At TermVariable n.number name Nil) name

-- what a variable has in a formed context
module _ (context : Tree) (says : Statement) where
  variable_context : TypesVariable (formed context ∷ []) says → says.context ≡ context
  variable_context h = one h.3 where
    one : formed context ∷ [] ≡ formed says.context ∷ [] → says.context ≡ context
    one e = let same : formed context ≡ formed says.context = cc in sym (ap (λ (s : Statement). s.context) same)

  pub variable_said : (Types : Tree → Tree → Type 0) → ((term type : Tree) → IsVariable context term type → Types term type) → (h : TypesVariable (formed context ∷ []) says)
      → (says ≡ has context h.0 h.1) × Types h.0 h.1
  variable_said Types by h =
      let there = variable_context h in
      (h.4 ∙ ap (λ (c : Tree). has c h.0 h.1) there, by h.0 h.1 (subst (λ (c : Tree). IsVariable c h.0 h.1) there h.2))

  pub types_variable : (term type : Tree) → IsVariable context term type → says ≡ has context term type → TypesVariable (formed context ∷ []) says
  types_variable term type v e =
      let there = ap (λ (s : Statement). s.context) e in
      (term, type, subst (λ (c : Tree). IsVariable c term type) (sym there) v, (λ i. formed (sym there i) ∷ []), e ∙ ap (λ (c : Tree). has c term type) (sym there))

has_parts : (c a t d b u : Tree) → has c a t ≡ has d b u → (a ≡ b) × (t ≡ u)
has_parts c a t d b u e =
    let parts : a ∷ t ∷ [] ≡ b ∷ u ∷ [] = ap (λ (s : Statement). s.parts) e in
    (cc, cc)

-- by ids: whether what is said of a variable is that it has its type
module _ (ns new : List Node) (grows : Grows ns new) (context said a of type : ℕ) (low : context < length ns) (a_low : a < length ns)
    (typed : (t : Tree) → IsVariable (tree_of ns context) (tree_of ns a) t ↔ (t ≡ tree_of new type)) where
  made : statement (trees_in new) (Has context a type) ≡ has (tree_of ns context) (tree_of ns a) (tree_of new type)
  made = λ i. has (KeepsTrees-Grows ns new grows context low i) (KeepsTrees-Grows ns new grows a a_low i) (tree_of new type)

  pub variable_for : TypesVariable (formed (tree_of ns context) ∷ []) (statement (trees_in ns) (Has said a of)) ↔ (statement (trees_in ns) (Has said a of) ≡ statement (trees_in new) (Has context a type))
  variable_for = (
    λ h.
        let is = variable_said (tree_of ns context) (statement (trees_in ns) (Has said a of)) (IsVariable (tree_of ns context)) (λ term t v. v) h in
        let parts = has_parts (tree_of ns said) (tree_of ns a) (tree_of ns of) (tree_of ns context) h.0 h.1 is.0 in
        let here : h.1 ≡ tree_of new type = (typed h.1).0 (subst (λ (t : Tree). IsVariable (tree_of ns context) t h.1) (sym parts.0) is.1) in
        is.0 ∙ (λ i. has (tree_of ns context) (sym parts.0 i) (here i)) ∙ sym made,
    λ e. types_variable (tree_of ns context) (statement (trees_in ns) (Has said a of)) (tree_of ns a) (tree_of new type) ((typed (tree_of new type)).1 refl) (e ∙ made),
  )

pub no_variable_for : (ns : List Node) (context said a of : ℕ) → (IsVariable (tree_of ns context) (tree_of ns a) (tree_of ns of) → ⊥)
    → TypesVariable (formed (tree_of ns context) ∷ []) (statement (trees_in ns) (Has said a of)) → ⊥
no_variable_for ns context said a of never h =
    let is = variable_said (tree_of ns context) (statement (trees_in ns) (Has said a of)) (IsVariable (tree_of ns context)) (λ term t v. v) h in
    let parts = has_parts (tree_of ns said) (tree_of ns a) (tree_of ns of) (tree_of ns context) h.0 h.1 is.0 in
    never (subst (λ (t : Tree). IsVariable (tree_of ns context) (tree_of ns a) t) (sym parts.1) (subst (λ (t : Tree). IsVariable (tree_of ns context) t h.1) (sym parts.0) is.1))

-- a tree of its sort
pub IsTree-at : (ns : List Node) → HaveForms ns → (id : ℕ) → IsAt ns sort.Term id → IsTree sort.Term (tree_of ns id)
IsTree-at ns forms id at = subst (λ (s : Sort). IsTree s (tree_of ns id)) at.1 (tree_of-is ns forms id at.0)
