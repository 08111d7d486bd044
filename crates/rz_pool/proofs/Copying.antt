-- The copies of a tree's parts, while they are made.
use Rattle.std.proofs.Common.{◌≡◌, ℕ, ◌<◌, ◌≤◌, Bool, true, false, cond, List, [], ◌∷◌, ◌++◌, Option, Some, Result, Ok, Err, IfOk, OnErr, length, get_or, map, All, Contains, slice_get, unwrap_or, nat_eq, refl, sym, ap, subst, ◌∙◌, ◌⊎◌, inl, inr, arith}
use Rattle.std.proofs.lemmas.List.{length_push, get_or_append_left, get_or_push}
use Rattle.std.proofs.lemmas.List.Elements.{All-head, All-tail, All-map, All-weaker, Contains-push_cases}
use Rattle.std.proofs.lemmas.Bool.{cases_lt}
use Rattle.std.specs.Cmp.{unsigned_Decides}
use Rattle.rz_rules.specs.declared.nodes.Node.{Node}
use Rattle.rz_rules.specs.Name.{IsName}
use Rattle.rz_rules.specs.Tree.{Tree, At, trees_of, sort_of, trees_in, tree_over, tree_of}
use Rattle.rz_pool.specs.Part.{IsPart}
use Rattle.rz_pool.specs.Pool.{Makes, Adds}
use Rattle.rz_rules.specs.Tree.{HasForm}
use Rattle.rz_pool.specs.Copy.{AreSettled, StandForParts, ListsParts, IsCopied}
use Rattle.rz_pool.proofs.Nodes.{Grows-same, Grows-trans, length-Grows, KeepsTrees-Grows}

-- nothing is added
pub Adds-same : (Allows : Tree → Type 0) (old new : List Node) → new ≡ old → Adds Allows old new
Adds-same Allows old new e = record { grows = Grows-same old new e; allowed = λ id le l. absurd (omega (arith, ap length e)) }

-- one addition after another
pub Adds-trans : (Allows : Tree → Type 0) (a b c : List Node) → Adds Allows a b → Adds Allows b c → Adds Allows a c
Adds-trans Allows a b c ab bc = record { grows = Grows-trans a b c ab.grows bc.grows; allowed = allowed } where
  allowed : (id : ℕ) → length a ≤ id → id < length c → Allows (tree_of c id)
  allowed id le l = elim (cases_lt id (length b)) [
    | inl within ↦ subst Allows (sym (KeepsTrees-Grows b c bc.grows id within)) (ab.allowed id le within)
    | inr from ↦ bc.allowed id from l
  ]

pub Adds-weaker : (Allows More : Tree → Type 0) → ((tree : Tree) → Allows tree → More tree) → (old new : List Node) → Adds Allows old new → Adds More old new
Adds-weaker Allows More all old new adds = record { grows = adds.grows; allowed = λ id le l. all (tree_of new id) (adds.allowed id le l) }

-- a node that is made adds its own tree at most
pub Adds-Makes : (old : List Node) (n : Node) (new : List Node) (id : ℕ) (tree : Tree) → Makes old n new id → tree_of new id ≡ tree → Adds (λ t. t ≡ tree) old new
Adds-Makes old n new id tree makes is = elim makes [
  | inl there ↦ Adds-same (λ t. t ≡ tree) old new there.0
  | inr last ↦ record {
    grows = record { added = n ∷ []; is = last.0 };
    allowed = λ i le l.
        let same : i ≡ id = omega (arith, last.1, ap length last.0, length_push old n) in
        ap (tree_of new) same ∙ is;
  }
]

pub Adds-made : {E : Type 0} (r : Result ℕ E) (old : List Node) (n : Node) (new : List Node) (tree : Tree)
    → IfOk r (Makes old n new) → IfOk r (λ id. tree_of new id ≡ tree) → OnErr r (new ≡ old) → Adds (λ t. t ≡ tree) old new
Adds-made (Ok id) old n new tree makes is same = Adds-Makes old n new id tree makes is
Adds-made (Err e) old n new tree makes is same = Adds-same (λ t. t ≡ tree) old new same

-- the copy of a node whose kids have copies
module _ (from to : List Node) (copies : ℕ → Option ℕ) where
  abbrev pub copy_of : ℕ → ℕ
  copy_of id = unwrap_or (copies id) 0

  copy_of-IsCopied : (id : ℕ) → (copied : IsCopied copies from to id) → copy_of id ≡ copied.0
  copy_of-IsCopied id copied = ap (λ (o : Option ℕ). unwrap_or o 0) copied.1

  pub copied_trees : (ids : List ℕ) → All (IsCopied copies from to) ids → map (tree_of to) (map copy_of ids) ≡ map (tree_of from) ids
  copied_trees [] h = refl
  copied_trees (id ∷ ids) h =
      let copied = All-head (IsCopied copies from to) id ids h in
      let first : tree_of to (copy_of id) ≡ tree_of from id = ap (tree_of to) (copy_of-IsCopied id copied) ∙ copied.3 in
      let rest : map (tree_of to) (map copy_of ids) ≡ map (tree_of from) ids = copied_trees ids (All-tail (IsCopied copies from to) id ids h) in
      cc

  copied_live : (id : ℕ) → IsCopied copies from to id → copy_of id < length to
  copied_live id copied = omega (arith, copy_of-IsCopied id copied, copied.2)

  module _ (node : Node) (copied : All (IsCopied copies from to) node.kids) (name kids : List ℕ) (same : name ≡ node.name) (moved : kids ≡ map copy_of node.kids) where
    trees : map (tree_of to) kids ≡ map (tree_of from) node.kids
    trees = ap (map (tree_of to)) moved ∙ copied_trees node.kids copied

    pub HasForm-copy : (bound : ℕ) → HasForm (trees_in from) bound node → HasForm (trees_in to) (length to) (record { kind = node.kind; number = node.number; name = name; kids = kids })
    HasForm-copy bound form = record {
      kids = subst (All (λ id. id < length to)) (sym moved) (All-map (λ id. id < length to) copy_of node.kids (All-weaker (IsCopied copies from to) (λ id. copy_of id < length to) copied_live node.kids copied));
      sorts = ap (map sort_of) trees ∙ form.sorts;
      label = record {
        small = form.label.small;
        unnumbered = form.label.unnumbered;
        unnamed = λ e. same ∙ form.label.unnamed e;
        named = λ e. subst IsName (sym same) (form.label.named e);
      };
    }

    -- what is made of it has the tree of the node
    pub tree_of-copy : {E : Type 0} (r : Result ℕ E) (new : List Node) (tree : Tree) (number : ℕ) → number ≡ node.number → tree ≡ tree_over (trees_in from) node
        → IfOk r (λ copy. tree_of new copy ≡ tree_over (trees_in to) (record { kind = node.kind; number = number; name = name; kids = kids }))
        → IfOk r (λ copy. tree_of new copy ≡ tree)
    tree_of-copy (Ok copy) new tree number counted is made = made ∙ ((λ i. At node.kind (counted i) (same i) (trees_of (trees i))) ∙ sym is)
    tree_of-copy (Err e) new tree number counted is made = made

-- some ids are still to be copied, each after its kids, and the others have copies
pub record IsCopying (from : List Node) (id : ℕ) (copies : ℕ → Option ℕ) (old to : List Node) (ids : List ℕ) : Type 0 where
  pub top : Contains ids id ⊎ IsCopied copies from to id
  pub parts : StandForParts from id ids
  pub settled : AreSettled from ids (IsCopied copies from to)
  pub adds : Adds (IsPart (tree_of from id)) old to

pub IsCopying-start : (from : List Node) (id : ℕ) (copies : ℕ → Option ℕ) (old : List Node) (ids : List ℕ) → ListsParts from id ids → IsCopying from id copies old old ids
IsCopying-start from id copies old ids lists = record {
  top = inl lists.top;
  parts = lists.parts;
  settled = λ place node l at k d m. elim (lists.settled place node l at k d m) [ inl after ↦ inl after | inr never ↦ absurd never ];
  adds = Adds-same (IsPart (tree_of from id)) old old refl;
}

pub IsCopying-end : (from : List Node) (id : ℕ) (copies : ℕ → Option ℕ) (old to : List Node) (ids : List ℕ) → IsCopying from id copies old to ids → length ids ≡ 0 → IsCopied copies from to id
IsCopying-end from id copies old to ids copying none = elim copying.top [ inl listed ↦ absurd (omega (arith, listed.1)) | inr copied ↦ copied ]

-- the last of the ids
module _ (from : List Node) (id : ℕ) (copies : ℕ → Option ℕ) (old to : List Node) (ids : List ℕ) (part : ℕ) (copying : IsCopying from id copies old to (ids ++ part ∷ [])) where
  at_last : get_or (ids ++ part ∷ []) (length ids) 0 ≡ part
  at_last = get_or_push ids part 0 (length ids) refl

  pub last_part : (part < length from) × IsPart (tree_of from id) (tree_of from part)
  last_part = subst (λ p. (p < length from) × IsPart (tree_of from id) (tree_of from p)) at_last (copying.parts (length ids) 0 (omega (arith, length_push ids part)))

  pub last_kids : (node : Node) → slice_get from part ≡ Some node → All (IsCopied copies from to) node.kids
  last_kids node at k d l =
      elim (copying.settled (length ids) node (omega (arith, length_push ids part)) (ap (slice_get from) at_last ∙ at) k d l) [
        | inl after ↦ absurd (omega (arith, after.1, after.2, length_push ids part))
        | inr copied ↦ copied
      ]

  pub Adds-copy : (new : List Node) → Adds (λ t. t ≡ tree_of from part) to new → Adds (IsPart (tree_of from id)) old new
  Adds-copy new adds =
      Adds-trans (IsPart (tree_of from id)) old to new copying.adds
      (Adds-weaker (λ t. t ≡ tree_of from part) (IsPart (tree_of from id)) (λ t e. subst (IsPart (tree_of from id)) (sym e) last_part.1) to new adds)

  -- it is copied
  module _ (more : ℕ → Option ℕ) (new : List Node) (copy : ℕ) (within : copy < length new) (tree : tree_of new copy ≡ tree_of from part)
      (adds : Adds (λ t. t ≡ tree_of from part) to new)
      (updates : (q : ℕ) → more q ≡ cond (nat_eq part q) (Some copy) (copies q)) where
    copied_here : IsCopied more from new part
    copied_here = (copy, updates part ∙ ap (λ b. cond b (Some copy) (copies part)) ((unsigned_Decides part part).1 refl), within, tree)

    copied_more : (q : ℕ) → IsCopied copies from to q → IsCopied more from new q
    copied_more q copied = by (nat_eq part q) refl
      where
        by : (b : Bool) → nat_eq part q ≡ b → IsCopied more from new q
        by true e =
            let same : part ≡ q = (unsigned_Decides part q).0 e in
            subst (IsCopied more from new) same copied_here
        by false e = (
          copied.0,
          updates q ∙ (ap (λ b. cond b (Some copy) (copies q)) e ∙ copied.1),
          omega (arith, copied.2, length-Grows to new adds.grows),
          KeepsTrees-Grows to new adds.grows copied.0 copied.2 ∙ copied.3,
        )

    pub IsCopying-pop : IsCopying from id more old new ids
    IsCopying-pop = record { top = top; parts = parts; settled = settled; adds = Adds-copy new adds } where
      top : Contains ids id ⊎ IsCopied more from new id
      top = elim copying.top [
        | inl listed ↦ elim (Contains-push_cases ids part id listed) [
          | inl before ↦ inl before
          | inr last ↦ inr (subst (IsCopied more from new) last copied_here)
        ]
        | inr copied ↦ inr (copied_more id copied)
      ]

      before : (place d : ℕ) → place < length ids → get_or (ids ++ part ∷ []) place d ≡ get_or ids place d
      before place d l = get_or_append_left ids (part ∷ []) d place l

      parts : StandForParts from id ids
      parts k d l =
          subst (λ p. (p < length from) × IsPart (tree_of from id) (tree_of from p)) (before k d l) (copying.parts k d (omega (arith, length_push ids part)))

      settled : AreSettled from ids (IsCopied more from new)
      settled place node l at k d m =
          elim (copying.settled place node (omega (arith, length_push ids part)) (ap (slice_get from) (before place 0 l) ∙ at) k d m) [
            | inl after ↦ elim (cases_lt after.0 (length ids)) [
              | inl within' ↦ inl (after.0, after.1, within', sym (before after.0 0 within') ∙ after.3)
              | inr from' ↦
                  let here : get_or (ids ++ part ∷ []) after.0 0 ≡ part = get_or_push ids part 0 after.0 (omega (arith, after.2, length_push ids part)) in
                  inr (subst (IsCopied more from new) (sym here ∙ after.3) copied_here)
            ]
            | inr copied ↦ inr (copied_more (get_or node.kids k d) copied)
          ]
