-- Judgments that are made anew, part by part.
use Rattle.std.proofs.Common.{◌≡◌, ℕ, zero, suc, ◌+◌, ◌<◌, ◌^◌, List, [], ◌∷◌, ◌++◌, length, get_or, map, take, All, Option, Some, None, refl, sym, ap, subst, ◌∙◌, arith}
use Rattle.std.specs.Prelude.{Result, Ok, Err, IfOk, ◌↔◌}
use Rattle.std.proofs.lemmas.List.{length-map, map-append, take_more}
use Rattle.std.proofs.lemmas.List.Elements.{All-cons, All-head, All-nil, All-tail}
use Rattle.rz_rules.specs.declared.kinds.Sort.TheVariants as sort
use Rattle.rz_rules.specs.declared.nodes.Node.{Node}
use Rattle.rz_rules.specs.declared.judgments.Judgment.{Judgment}
use Rattle.rz_rules.specs.declared.judgments.Judgment.TheVariants.{Formed, Holds, Has, Same}
use Rattle.rz_rules.specs.Tree.{Tree, IsTree, AreTrees, sort_of, tree_of, trees_in, trees_of}
use Rattle.rz_rules.specs.Judgment.{IsJudgmentOf, IsStatement, Statement, context_of, ids_of, judgment_form, kind_of, parts_of, sorts_of, statement}
use Rattle.rz_rules.specs.Substitution.{Changes, Depth, IndicesBelow, AllIndicesBelow, changed, none, only}
use Rattle.rz_rules.specs.Structural.{changed_statement, formed}
use Rattle.rz_rules.specs.Context as meaning
use Rattle.rz_rules.specs.Context.{changed_entries, depth_of, with_entries}
use Rattle.rz_pool.specs.Pool.{Grows}
use Rattle.rz_pool.proofs.Nodes.{length-Grows}
use Rattle.rz_subst.specs.Sorts.{KeepsSorts-putting, KeepsSorts-raising, sort_changed}
use Rattle.rz_subst.specs.Walk.{KeepsSorts}
use Rattle.rz_rule_text.proofs.Stacks.{AllIndicesBelow-AreTrees}
use Rattle.rz_kernel_rows.specs.declared.moves.Change.{Change}
use Rattle.rz_kernel_rows.specs.declared.moves.Change.TheVariants.{Nothing, Opens, Puts}
use Rattle.rz_kernel_rows.specs.Context.{IsAt}
use Rattle.rz_kernel_rows.specs.Line.{IsJudgmentOver}
use Rattle.rz_kernel_rows.specs.Move.{IsConclusion, IsJudgmentFor, IsThere, changes_of}
use Rattle.rz_context.proofs.Growing.{same_trees}

-- the parts of a judgment are there
pub IsJudgmentOver-parts : (nodes : List Node) (says : Judgment) → IsJudgmentOver nodes says → All (λ id. id < length nodes) (parts_of says)
IsJudgmentOver-parts nodes says over = All-tail (λ id. id < length nodes) (context_of says) (parts_of says) over.live

pub parts_live : (old new : List Node) → Grows old new → (says : Judgment) → IsJudgmentOver old says → All (λ id. id < length new) (parts_of says)
parts_live old new grows says over k d l = omega (arith, IsJudgmentOver-parts old says over k d l, length-Grows old new grows)

-- what becomes of variables keeps the sorts of trees
pub keeps_sorts : (nodes : List Node) (change : Change) → IsThere nodes change → KeepsSorts (changes_of nodes change)
keeps_sorts nodes Nothing there = KeepsSorts-raising none none
keeps_sorts nodes (Opens space) there = KeepsSorts-raising none (only space 1)
keeps_sorts nodes (Puts space value) there = KeepsSorts-putting space none (tree_of nodes value) there.1

-- ---- the parts

-- one part more
pub part_more : (F : Tree → Tree) (old now mid : List Node) → Grows now mid → (parts made : List ℕ) (i tree : ℕ) → i < length parts → All (λ id. id < length now) made
    → map (tree_of now) made ≡ map F (map (tree_of old) (take i parts)) → tree_of mid tree ≡ F (tree_of old (get_or parts i 0))
    → map (tree_of mid) (made ++ tree ∷ []) ≡ map F (map (tree_of old) (take (i + 1) parts))
part_more F old now mid grows parts made i tree low live so_far is =
    map-append (tree_of mid) made (tree ∷ [])
    ∙ (λ j. (same_trees now mid grows made live ∙ so_far) j ++ is j ∷ [])
    ∙ sym (map-append F (map (tree_of old) (take i parts)) (tree_of old (get_or parts i 0) ∷ []))
    ∙ ap (map F) (sym (map-append (tree_of old) (take i parts) (get_or parts i 0 ∷ [])))
    ∙ ap (λ (ids : List ℕ). map F (map (tree_of old) ids)) (sym (take_more parts i 0 low))

-- a part with an index that is too large
pub part_high : (F : Tree → Tree) (old : List Node) (parts : List ℕ) (i : ℕ) → i < length parts → (IndicesBelow (2 ^ 32) (F (tree_of old (get_or parts i 0))) → ⊥)
    → All (IndicesBelow (2 ^ 32)) (map F (map (tree_of old) parts)) → ⊥
part_high F old (p ∷ parts) zero low high all = high (All-head (IndicesBelow (2 ^ 32)) (F (tree_of old p)) (map F (map (tree_of old) parts)) all)
part_high F old (p ∷ parts) (suc i) low high all = part_high F old parts i (omega arith) high (All-tail (IndicesBelow (2 ^ 32)) (F (tree_of old p)) (map F (map (tree_of old) parts)) all)
part_high F old [] i low high all = absurd (omega arith)

-- ---- the judgment

pub made_anew : (says : Judgment) (context : ℕ) (parts : List ℕ) → length parts ≡ length (parts_of says) → (made : Judgment) × IsJudgmentOf (kind_of says) context parts made
made_anew (Formed c) context [] n = (Formed context, record { kind_is = refl; context_is = refl; parts_are = refl })
made_anew (Holds c p) context (a ∷ []) n = (Holds context a, record { kind_is = refl; context_is = refl; parts_are = refl })
made_anew (Has c a t) context (b ∷ u ∷ []) n = (Has context b u, record { kind_is = refl; context_is = refl; parts_are = refl })
made_anew (Same c a b t) context (x ∷ y ∷ u ∷ []) n = (Same context x y u, record { kind_is = refl; context_is = refl; parts_are = refl })
made_anew says context parts n = absurd (omega arith)

sorts_stay : (changes : Changes) → KeepsSorts changes → (depth : Depth) (trees : List Tree) → map sort_of (map (changed changes depth) trees) ≡ map sort_of trees
sorts_stay changes keeps depth [] = refl
sorts_stay changes keeps depth (t ∷ ts) = λ i. sort_changed changes keeps depth t i ∷ sorts_stay changes keeps depth ts i

module _ (old new : List Node) (change : Change) (there : IsThere old change) (outer : Tree) (inner : List meaning.Entry) (says : Judgment) (over : IsJudgmentOver old says)
    (context : ℕ) (context_at : IsAt new sort.Context context) (context_is : tree_of new context ≡ with_entries outer (changed_entries (changes_of old change) inner))
    (parts : List ℕ) (live : All (λ id. id < length new) parts)
    (trees : map (tree_of new) parts ≡ map (changed (changes_of old change) (depth_of inner)) (map (tree_of old) (parts_of says))) where
  count : length parts ≡ length (parts_of says)
  count =
      let F = changed (changes_of old change) (depth_of inner) in
      sym (length-map parts (tree_of new)) ∙ ap length trees ∙ length-map (map (tree_of old) (parts_of says)) F ∙ length-map (parts_of says) (tree_of old)

  abbrev moved : Judgment
  moved = (made_anew says context parts count).0

  is_moved : IsJudgmentOf (kind_of says) context parts moved
  is_moved = (made_anew says context parts count).1

  sorts : map sort_of (map (tree_of new) (context ∷ parts)) ≡ map sort_of (map (tree_of old) (ids_of says))
  sorts =
      let first : sort_of (tree_of new context) ≡ sort_of (tree_of old (context_of says)) = context_at.1 ∙ sym (head_sort over.sorts) in
      let rest : map sort_of (map (tree_of new) parts) ≡ map sort_of (map (tree_of old) (parts_of says)) =
      ap (map sort_of) trees ∙ sorts_stay (changes_of old change) (keeps_sorts old change there) (depth_of inner) (map (tree_of old) (parts_of says)) in
      λ i. first i ∷ rest i where
        head_sort : map sort_of (map (tree_of old) (ids_of says)) ≡ sorts_of (kind_of says) → sort_of (tree_of old (context_of says)) ≡ sort.Context
        head_sort e = cc

  -- the judgment with these parts is what becomes of the other
  pub moved_answer : (result : Option Judgment) → ((made : Judgment) → IsJudgmentOf (kind_of says) context parts made → result ≡ Some made)
      → IsJudgmentFor new (changed_statement (changes_of old change) outer inner (statement (trees_in old) says)) result
  moved_answer result only = subst (IsJudgmentFor new _) (sym (only moved is_moved)) (over_new, is) where
    ids : ids_of moved ≡ context ∷ parts
    ids = λ i. is_moved.context_is i ∷ is_moved.parts_are i

    over_new : IsJudgmentOver new moved
    over_new = record {
      live = subst (All (λ id. id < length new)) (sym ids) (All-cons (λ id. id < length new) context parts context_at.0 live);
      sorts = ap (λ (ids : List ℕ). map sort_of (map (tree_of new) ids)) ids ∙ sorts ∙ over.sorts ∙ ap sorts_of (sym is_moved.kind_is);
    }

    is : statement (trees_in new) moved ≡ changed_statement (changes_of old change) outer inner (statement (trees_in old) says)
    is = λ i. record {
      kind = is_moved.kind_is i;
      context = (ap (tree_of new) is_moved.context_is ∙ context_is) i;
      parts = (ap (map (tree_of new)) is_moved.parts_are ∙ trees) i;
    }

-- where a part has an index that is too large there is no judgment
below : (sorts : List _) (trees : List Tree) → AreTrees sorts (trees_of trees) → All (IndicesBelow (2 ^ 32)) trees
below sorts trees h = each trees (AllIndicesBelow-AreTrees sorts (trees_of trees) h) where
  each : (ts : List Tree) → AllIndicesBelow (2 ^ 32) (trees_of ts) → All (IndicesBelow (2 ^ 32)) ts
  each [] h = All-nil (IndicesBelow (2 ^ 32))
  each (t ∷ ts) h = All-cons (IndicesBelow (2 ^ 32)) t ts h.0 (each ts h.1)

pub no_parts : (says : Statement) → (All (IndicesBelow (2 ^ 32)) says.parts → ⊥) → IsStatement says → ⊥
no_parts says high is = high (below (judgment_form says.kind).parts says.parts is.parts)

pub no_context : (says : Statement) → (IsTree sort.Context says.context → ⊥) → IsStatement says → ⊥
no_context says none_there is = none_there is.context

-- the only conclusion of a rule, where it is what becomes of a judgment
pub concluded : {E : Type 0} (r : Result (Option Judgment) E) (nodes : List Node) (Concludes : Statement → Type 0) (becomes : Statement) → ((says : Statement) → Concludes says ↔ (says ≡ becomes))
    → IfOk r (IsJudgmentFor nodes becomes) → IfOk r (IsConclusion nodes Concludes)
concluded (Err e) nodes Concludes becomes iff h = tt
concluded (Ok None) nodes Concludes becomes iff h = λ says is concludes. h (subst IsStatement ((iff says).0 concludes) is)
concluded (Ok (Some made)) nodes Concludes becomes iff h =
    (h.0, λ says. (λ concludes. (iff says).0 concludes ∙ sym h.1, λ is. (iff says).1 (is ∙ h.1)))

-- ---- judgments by their kinds

pub not_formed : (ts : List Tree) (says : Judgment) (context : Tree) → ((c : ℕ) → says ≡ Formed c → ⊥) → formed context ≡ statement ts says → ⊥
not_formed ts (Formed c) context none_there e = none_there c refl
not_formed ts (Holds c p) context none_there e = let kinds = ap (λ (s : Statement). s.kind) e in absurd cc
not_formed ts (Has c a t) context none_there e = let kinds = ap (λ (s : Statement). s.kind) e in absurd cc
not_formed ts (Same c a b t) context none_there e = let kinds = ap (λ (s : Statement). s.kind) e in absurd cc

pub context_at : (nodes : List Node) (c : ℕ) → IsJudgmentOver nodes (Formed c) → IsAt nodes sort.Context c
context_at nodes c over = (over.live 0 c (omega arith), head over.sorts) where
  head : map sort_of (map (tree_of nodes) (c ∷ [])) ≡ sort.Context ∷ [] → sort_of (tree_of nodes c) ≡ sort.Context
  head e = cc

-- judgments of ids that are there
pub holds_over : (nodes : List Node) (c p : ℕ) → IsAt nodes sort.Context c → IsAt nodes sort.Tope p → IsJudgmentOver nodes (Holds c p)
holds_over nodes c p context tope =
    let P : ℕ → Type 0 = λ id. id < length nodes in record {
      live = All-cons P c (p ∷ []) context.0 (All-cons P p [] tope.0 (All-nil P));
      sorts = λ i. context.1 i ∷ tope.1 i ∷ [];
    }

pub has_over : (nodes : List Node) (c a t : ℕ) → IsAt nodes sort.Context c → IsAt nodes sort.Term a → IsAt nodes sort.Term t → IsJudgmentOver nodes (Has c a t)
has_over nodes c a t context term type =
    let P : ℕ → Type 0 = λ id. id < length nodes in record {
      live = All-cons P c (a ∷ t ∷ []) context.0 (All-cons P a (t ∷ []) term.0 (All-cons P t [] type.0 (All-nil P)));
      sorts = λ i. context.1 i ∷ term.1 i ∷ type.1 i ∷ [];
    }

pub same_over : (nodes : List Node) (c a b t : ℕ) → IsAt nodes sort.Context c → IsAt nodes sort.Term a → IsAt nodes sort.Term b → IsAt nodes sort.Term t → IsJudgmentOver nodes (Same c a b t)
same_over nodes c a b t context left right type =
    let P : ℕ → Type 0 = λ id. id < length nodes in record {
      live = All-cons P c (a ∷ b ∷ t ∷ []) context.0 (All-cons P a (b ∷ t ∷ []) left.0 (All-cons P b (t ∷ []) right.0 (All-cons P t [] type.0 (All-nil P))));
      sorts = λ i. context.1 i ∷ left.1 i ∷ right.1 i ∷ type.1 i ∷ [];
    }

-- the ids of a judgment that says that a term has a type
pub has_at : (nodes : List Node) (c a t : ℕ) → IsJudgmentOver nodes (Has c a t) → IsAt nodes sort.Context c × IsAt nodes sort.Term a × IsAt nodes sort.Term t
has_at nodes c a t over =
    ((over.live 0 c (omega arith), first over.sorts), (over.live 1 c (omega arith), second over.sorts), (over.live 2 c (omega arith), third over.sorts)) where
      first : map sort_of (map (tree_of nodes) (c ∷ a ∷ t ∷ [])) ≡ sort.Context ∷ sort.Term ∷ sort.Term ∷ [] → sort_of (tree_of nodes c) ≡ sort.Context
      first e = cc

      second : map sort_of (map (tree_of nodes) (c ∷ a ∷ t ∷ [])) ≡ sort.Context ∷ sort.Term ∷ sort.Term ∷ [] → sort_of (tree_of nodes a) ≡ sort.Term
      second e = cc

      third : map sort_of (map (tree_of nodes) (c ∷ a ∷ t ∷ [])) ≡ sort.Context ∷ sort.Term ∷ sort.Term ∷ [] → sort_of (tree_of nodes t) ≡ sort.Term
      third e = cc

-- that the context of a judgment is formed
pub formed_over : (nodes : List Node) (says : Judgment) → IsJudgmentOver nodes says → IsJudgmentOver nodes (Formed (context_of says))
formed_over nodes says over = record {
  live = All-cons (λ id. id < length nodes) (context_of says) [] (All-head (λ id. id < length nodes) (context_of says) (parts_of says) over.live) (All-nil (λ id. id < length nodes));
  sorts = λ i. head over.sorts i ∷ [];
} where
  head : map sort_of (map (tree_of nodes) (ids_of says)) ≡ sorts_of (kind_of says) → sort_of (tree_of nodes (context_of says)) ≡ sort.Context
  head e = cc
