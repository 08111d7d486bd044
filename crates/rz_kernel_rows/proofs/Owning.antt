-- What a term's former tells, as conclusions.
use Rattle.std.proofs.Common.{◌≡◌, ℕ, ◌<◌, List, [], ◌∷◌, length, map, Option, Some, None, inl, inr, refl, sym, ap, subst, ◌∙◌}
use Rattle.std.specs.Prelude.{◌↔◌, Result, Ok, Err, IfOk, IfSome, IfNone, option_map, slice_get}
use Rattle.rz_rules.specs.declared.kinds.Sort.TheVariants as sort
use Rattle.rz_rules.specs.declared.kinds.Kind.TheVariants.{TermVariable}
use Rattle.rz_rules.specs.declared.nodes.Node.{Node}
use Rattle.rz_rules.specs.declared.judgments.Judgment.{Judgment}
use Rattle.rz_rules.specs.declared.judgments.Judgment.TheVariants.{Has, Same}
use Rattle.rz_rules.specs.Tree.{Tree, IsTree, kind_at, tree_of, trees_in}
use Rattle.rz_rules.specs.Judgment.{IsStatement, Statement, statement}
use Rattle.rz_rules.specs.Structural.{IsInversion, IsOwnType, IsTyped, IsVariable, SameAsOwn, has, same, universe}
use Rattle.rz_rules.specs.Table.{typing_row}
use Rattle.rz_pool.specs.Pool.{Grows}
use Rattle.rz_pool.proofs.Nodes.{Grows-trans, KeepsTrees-Grows}
use Rattle.rz_kernel_rows.specs.declared.formers.Typing.{Typing}
use Rattle.rz_kernel_rows.specs.Line.{IsJudgmentOver}
use Rattle.rz_kernel_rows.specs.Move.{IsConclusion, IsTypeFor}
use Rattle.rz_kernel_rows.specs.Typing.{HasFormerType, HasNoTyping, IsTypingOf}
use Rattle.rz_kernel_rows.proofs.Lists.{slice_get-map, slice_get_is}

-- the parts of the one premise
same_premise : (c a t d b u : Tree) → has c a t ∷ [] ≡ has d b u ∷ [] → (c ≡ d) × (a ≡ b) × (t ≡ u)
same_premise c a t d b u e =
    let one : has c a t ≡ has d b u = cc in
    let parts : a ∷ t ∷ [] ≡ b ∷ u ∷ [] = ap (λ (s : Statement). s.parts) one in
    (ap (λ (s : Statement). s.context) one, cc, cc)

-- ---- the premises of the row

module _ (ns : List Node) (c a of number : ℕ) where
  here : (says : Statement) (h : IsInversion number (statement (trees_in ns) (Has c a of) ∷ []) says) → IsTyped (tree_of ns c) (tree_of ns a) h.type h.above
  here says h =
      let parts = same_premise (tree_of ns c) (tree_of ns a) (tree_of ns of) h.context h.term h.stated h.premises_are in
      subst (λ (t : Tree). IsTyped (tree_of ns c) t h.type h.above) (sym parts.1) (subst (λ (t : Tree). IsTyped t h.term h.type h.above) (sym parts.0) h.typed)

  pub no_inversion : HasNoTyping ns c a → (says : Statement) → IsInversion number (statement (trees_in ns) (Has c a of) ∷ []) says → ⊥
  no_inversion never says h = never h.type h.above (here says h)

  module _ (new : List Node) (typing : Typing) (is : IsTypingOf ns new c a typing) where
    f : Judgment → Statement
    f = statement (trees_in new)

    said : (says : Statement) → IsInversion number (statement (trees_in ns) (Has c a of) ∷ []) says → option_map (statement (trees_in new)) (slice_get typing.above.items number) ≡ Some says
    said says h =
        let both = (is.typed h.type h.above).0 (here says h) in
        sym (slice_get-map (statement (trees_in new)) typing.above.items number) ∙ ap (λ (ss : List Statement). slice_get ss number) (sym both.0) ∙ h.says

    pub inversion_conclusion : (result : Option Judgment) → result ≡ slice_get typing.above.items number → IsConclusion new (IsInversion number (statement (trees_in ns) (Has c a of) ∷ [])) result
    inversion_conclusion None e = λ says statement_is h. let wrong : None ≡ Some says = ap (option_map (statement (trees_in new))) e ∙ said says h in absurd cc
    inversion_conclusion (Some j) e = (
      (let at = slice_get_is typing.above.items number j j (sym e) in subst (IsJudgmentOver new) at.1 (is.over number j at.0)),
      λ says. (
        λ h. let one : Some (statement (trees_in new) j) ≡ Some says = ap (option_map (statement (trees_in new))) e ∙ said says h in some_same (statement (trees_in new) j) says one,
        λ same. record {
          context = tree_of ns c;
          term = tree_of ns a;
          stated = tree_of ns of;
          type = tree_of new typing.of;
          above = map (statement (trees_in new)) typing.above.items;
          premises_are = refl;
          typed = (is.typed (tree_of new typing.of) (map (statement (trees_in new)) typing.above.items)).1 (refl, refl);
          says = slice_get-map (statement (trees_in new)) typing.above.items number ∙ ap (option_map (statement (trees_in new))) (sym e) ∙ ap (λ (s : Statement). Some s) (sym same);
        },
      ),
    ) where
      some_same : (s t : Statement) → Some s ≡ Some t → t ≡ s
      some_same s t e = cc

-- ---- the type of the row

pub former_type_is : (ns new : List Node) (c a : ℕ) (typing : Typing) → IsTypingOf ns new c a typing → IsTypeFor new (HasFormerType (tree_of ns c) (tree_of ns a)) (Some typing.of)
former_type_is ns new c a typing is = (
  is.type_at,
  λ type. (
    λ h. ((is.typed type h.0).0 h.1).1,
    λ same. (map (statement (trees_in new)) typing.above.items, (is.typed type (map (statement (trees_in new)) typing.above.items)).1 (refl, same)),
  ),
)

-- a question with the same answers
type_alike : (nodes : List Node) (P Q : Tree → Type 0) → ((type : Tree) → P type ↔ Q type) → (o : Option ℕ) → IsTypeFor nodes P o → IsTypeFor nodes Q o
type_alike nodes P Q iff None h = λ type is q. h type is ((iff type).1 q)
type_alike nodes P Q iff (Some id) h = (h.0, λ type. (λ q. (h.1 type).0 ((iff type).1 q), λ e. (iff type).0 ((h.1 type).1 e)))

pub types_alike : {E : Type 0} (r : Result (Option ℕ) E) (nodes : List Node) (P Q : Tree → Type 0) → ((type : Tree) → P type ↔ Q type) → IfOk r (IsTypeFor nodes P) → IfOk r (IsTypeFor nodes Q)
types_alike (Ok o) nodes P Q iff h = type_alike nodes P Q iff o h
types_alike (Err e) nodes P Q iff h = tt

pub own_variable : (context term : Tree) → kind_at term ≡ TermVariable → (type : Tree) → IsVariable context term type ↔ IsOwnType context term type
own_variable context term kind type = (
  λ v. inr v,
  λ own. elim own as (λ _. IsVariable context term type) [
    | inl former ↦ let wrong : typing_row TermVariable ≡ Some former.1.row = ap typing_row (sym kind) ∙ former.1.former in absurd cc
    | inr v ↦ v
  ],
)

pub own_former : (context term : Tree) → (kind_at term ≡ TermVariable → ⊥) → (type : Tree) → HasFormerType context term type ↔ IsOwnType context term type
own_former context term kind type = (
  λ h. inl h,
  λ own. elim own as (λ _. HasFormerType context term type) [ inl former ↦ former | inr v ↦ absurd (kind (ap kind_at v.term_is)) ],
)

-- ---- the equation of the types

module _ (ns mid new : List Node) (grows : Grows ns mid) (more : Grows mid new) (c a of own u : ℕ) (c_low : c < length ns) (of_low : of < length ns) (own_low : own < length mid)
    (typed : (type : Tree) → IsOwnType (tree_of ns c) (tree_of ns a) type ↔ (type ≡ tree_of mid own)) (u_is : tree_of new u ≡ universe) where
  made : statement (trees_in new) (Same c of own u) ≡ same (tree_of ns c) (tree_of ns of) (tree_of mid own) universe
  made = λ i. same (old c c_low i) (old of of_low i) (KeepsTrees-Grows mid new more own own_low i) (u_is i) where
    old : (id : ℕ) → id < length ns → tree_of new id ≡ tree_of ns id
    old id low = KeepsTrees-Grows ns new (Grows-trans ns mid new grows more) id low

  pub own_iff : (says : Statement) → SameAsOwn (statement (trees_in ns) (Has c a of) ∷ []) says ↔ (says ≡ statement (trees_in new) (Same c of own u))
  own_iff says = (
    λ h.
        let parts = same_premise (tree_of ns c) (tree_of ns a) (tree_of ns of) h.context h.term h.stated h.premises_are in
        let own_here = subst (λ (t : Tree). IsOwnType (tree_of ns c) t h.type) (sym parts.1) (subst (λ (t : Tree). IsOwnType t h.term h.type) (sym parts.0) h.own) in
        let type = (typed h.type).0 own_here in
        h.says ∙ (λ i. same (sym parts.0 i) (sym parts.2 i) (type i) universe) ∙ sym made,
    λ e. record {
      context = tree_of ns c;
      term = tree_of ns a;
      stated = tree_of ns of;
      type = tree_of mid own;
      premises_are = refl;
      own = (typed (tree_of mid own)).1 refl;
      says = e ∙ made;
    },
  )

pub no_own : (ns : List Node) (c a of : ℕ) → ((type : Tree) → IsTree sort.Term type → IsOwnType (tree_of ns c) (tree_of ns a) type → ⊥) → (says : Statement) → IsStatement says
    → SameAsOwn (statement (trees_in ns) (Has c a of) ∷ []) says → ⊥
no_own ns c a of never says is h =
    let parts = same_premise (tree_of ns c) (tree_of ns a) (tree_of ns of) h.context h.term h.stated h.premises_are in
    let own_here = subst (λ (t : Tree). IsOwnType (tree_of ns c) t h.type) (sym parts.1) (subst (λ (t : Tree). IsOwnType t h.term h.type) (sym parts.0) h.own) in
    let whole = subst IsStatement h.says is in
    never h.type whole.parts.1.0 own_here

-- what is read of the row is what its former tells, where there is something to read
pub read_some : (old new : List Node) (c a : ℕ) (o : Option Typing) (P : Typing → Type 0) → ((typing : Typing) → P typing → IsTypingOf old new c a typing) → IfSome o P → IfSome o (IsTypingOf old new c a)
read_some old new c a None P f h = tt
read_some old new c a (Some typing) P f h = f typing h

pub read_none : (old : List Node) (c a : ℕ) (o : Option Typing) (P : Type 0) → (P → HasNoTyping old c a) → IfNone o P → IfNone o (HasNoTyping old c a)
read_none old c a None P f h = f h
read_none old c a (Some typing) P f h = tt
