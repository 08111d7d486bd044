-- What a table of nodes and their spans tells about the list of its nodes.
use Rattle.std.proofs.Common.{◌≡◌, ℕ, suc, ◌+◌, ◌<◌, Bool, true, false, cond, not, ◌||◌, List, [], ◌∷◌, ◌++◌, Option, None, Some, length, get_or, take, Contains, slice_get, refl, sym, ap, subst, ◌∙◌, inl, inr, true≢false, if◌then◌else◌, nat_lt, arith}
use Rattle.std.specs.List.{list_any, position_or_len, position}
use Rattle.std.proofs.lemmas.Bool.Decides.{nat_tests}
use Rattle.std.proofs.lemmas.Option.{slice_get_within}
use Rattle.std.specs.Map.{keys_of, values_of, lookup}
use Rattle.std.specs.Option.{option_map}
use Rattle.std.proofs.lemmas.List.{map-append, length-map, take-map}
use Rattle.std.proofs.lemmas.List.Folds.{list_any_at}
use Rattle.std.proofs.lemmas.List.Sums.{position_or_len_is}
use Rattle.std.proofs.lemmas.Option.{slice_get-map}
use Rattle.indexmap.specs.IndexMap.{insert_entry}
use Rattle.rz_rules.specs.declared.nodes.Node.{Node}
use Rattle.rz_rules.specs.contracts.nodes.NodePartialEq.TheImpl.{eq-value}
use Rattle.rz_rules.proofs.Equal.{nodes_Decides}
use Rattle.rz_rules.specs.Tree.{trees_in, tree_over, tree_of}
use Rattle.rz_pool.specs.declared.questions.Question.{Question}
use Rattle.rz_pool.specs.declared.spans.Spans.{Spans}
use Rattle.rz_pool.specs.Free.{AreSpansOf, HaveSpans}
use Rattle.rz_rules.specs.Tree.{HasForm}
use Rattle.rz_pool.specs.Pool.{IsPool, Grows, Makes}
use Rattle.rz_pool.specs.Kept.{AreRight}
use Rattle.rz_pool.proofs.Asking.{AreRight-Grows}
use Rattle.rz_pool.proofs.Nodes.{tree_of_place, IsPool-take, IsPool-Makes, tree_of-Makes, Grows-Makes}
use Rattle.rz_pool.proofs.KeptSpans.{same_spans, HaveSpans-push, HaveSpans-take}

abbrev pub Entries : Type 0
Entries = List (Node × Spans)

pub length-keys : (es : Entries) → length (keys_of es) ≡ length (values_of es)
length-keys es = length-map es (λ (e : Node × Spans). e.0) ∙ sym (length-map es (λ (e : Node × Spans). e.1))

pub keys-take : (es : Entries) (k : ℕ) → keys_of (take k es) ≡ take k (keys_of es)
keys-take es k = sym (take-map (λ (e : Node × Spans). e.0) k es)

pub values-take : (es : Entries) (k : ℕ) → values_of (take k es) ≡ take k (values_of es)
values-take es k = sym (take-map (λ (e : Node × Spans). e.1) k es)

-- the node and the spans of an entry
pub key_at : (es : Entries) (id : ℕ) (n : Node) (b : Spans) → slice_get es id ≡ Some (n, b) → slice_get (keys_of es) id ≡ Some n
key_at es id n b at = slice_get-map (λ (e : Node × Spans). e.0) es id ∙ ap (option_map (λ (e : Node × Spans). e.0)) at

value_at : (es : Entries) (id : ℕ) (n : Node) (b : Spans) → slice_get es id ≡ Some (n, b) → slice_get (values_of es) id ≡ Some b
value_at es id n b at = slice_get-map (λ (e : Node × Spans). e.1) es id ∙ ap (option_map (λ (e : Node × Spans). e.1)) at

module _ (n : Node) where
  abbrev is_it : Node → Bool
  is_it = eq-value.it n

  pub absent_node : (ns : List Node) → list_any is_it ns ≡ false → ¬ (Contains ns n)
  absent_node ns none (k, l, e) =
      true≢false (sym (list_any_at is_it ns k n l ((nodes_Decides n (get_or ns k n)).1 (sym e))) ∙ none)

  other_node : (ns : List Node) → list_any is_it ns ≡ false → (k : ℕ) → k < length ns → is_it (get_or ns k n) ≡ false
  other_node ns none k l = by (is_it (get_or ns k n)) refl
    where
      by : (b : Bool) → is_it (get_or ns k n) ≡ b → b ≡ false
      by false e = refl
      by true e = absurd (true≢false (sym (list_any_at is_it ns k n l e) ∙ none))

  -- a node that a look-up doesn't find
  absent_key : (es : Entries) → lookup is_it es ≡ None → list_any is_it (keys_of es) ≡ false
  absent_key [] none = refl
  absent_key (e ∷ es) none = by (is_it e.0) refl (absent_key es)
    where
      by : (t : Bool) → is_it e.0 ≡ t → (lookup is_it es ≡ None → list_any is_it (keys_of es) ≡ false) → list_any is_it (keys_of (e ∷ es)) ≡ false
      by true is later =
          let found : Some e.1 ≡ None = sym (ap (λ t. cond t (Some e.1) (lookup is_it es)) is) ∙ none in
          absurd cc
      by false is later =
          ap (λ t. t || list_any is_it (keys_of es)) is ∙ later (sym (ap (λ t. cond t (Some e.1) (lookup is_it es)) is) ∙ none)

  pub new_node : (es : Entries) (old : List Node) → keys_of es ≡ old → lookup is_it es ≡ None → ¬ (Contains old n)
  new_node es old same none = subst (λ (ns : List Node). ¬ (Contains ns n)) same (absent_node (keys_of es) (absent_key es none))

  -- the first equal node is the node
  found_at : (ns : List Node) → list_any is_it ns ≡ true → slice_get ns (position_or_len is_it ns) ≡ Some n
  found_at [] h = absurd (true≢false (sym h))
  found_at (x ∷ xs) h = by (is_it x) refl (found_at xs)
    where
      by : (b : Bool) → is_it x ≡ b → (list_any is_it xs ≡ true → slice_get xs (position_or_len is_it xs) ≡ Some n)
          → slice_get (x ∷ xs) (position_or_len is_it (x ∷ xs)) ≡ Some n
      by true e later =
          let first : position_or_len is_it (x ∷ xs) ≡ 0 = ap (λ b. cond (not b) (1 + position_or_len is_it xs) 0) e in
          ap (slice_get (x ∷ xs)) first ∙ ap Some (sym ((nodes_Decides n x).0 e))
      by false e later =
          let one : 1 + position_or_len is_it xs ≡ suc (position_or_len is_it xs) = omega arith in
          let next : position_or_len is_it (x ∷ xs) ≡ suc (position_or_len is_it xs) = ap (λ b. cond (not b) (1 + position_or_len is_it xs) 0) e ∙ one in
          ap (slice_get (x ∷ xs)) next ∙ later (sym (ap (λ b. b || list_any is_it xs) e) ∙ h)

  -- what a look-up finds
  pub found_here : (ns : List Node) (id : ℕ) → position is_it ns ≡ Some id → slice_get ns id ≡ Some n
  found_here ns id e = by (list_any is_it ns) refl
    where
      place : ℕ
      place = position_or_len is_it ns

      is_place : place < length ns → place ≡ id
      is_place l =
          let below : nat_lt place (length ns) ≡ true = grind (arith, nat_tests) in
          let same : Some place ≡ Some id = sym (ap (λ t. cond t (Some place) None) below) ∙ e in
          cc

      nowhere : place ≡ length ns → slice_get ns id ≡ Some n
      nowhere last =
          let above : nat_lt place (length ns) ≡ false = grind (arith, nat_tests) in
          let same : None ≡ Some id = sym (ap (λ t. cond t (Some place) None) above) ∙ e in
          absurd cc

      by : (b : Bool) → list_any is_it ns ≡ b → slice_get ns id ≡ Some n
      by true there =
          let at = found_at ns there in
          ap (slice_get ns) (sym (is_place (slice_get_within ns place n at))) ∙ at
      by false none = nowhere (position_or_len_is is_it ns (length ns) n (omega arith) (other_node ns none) (λ l. absurd (omega arith)))

  module _ (b : Spans) where
    -- a new node goes last
    insert_absent : (es : Entries) → list_any is_it (keys_of es) ≡ false → insert_entry eq-value.it es n b ≡ es ++ (n, b) ∷ []
    insert_absent [] none = refl
    insert_absent (e ∷ es) none = by (is_it e.0) refl (insert_absent es)
      where
        by : (t : Bool) → is_it e.0 ≡ t → (list_any is_it (keys_of es) ≡ false → insert_entry eq-value.it es n b ≡ es ++ (n, b) ∷ [])
            → insert_entry eq-value.it (e ∷ es) n b ≡ e ∷ es ++ (n, b) ∷ []
        by true is later = absurd (true≢false (sym (ap (λ t. t || list_any is_it (keys_of es)) is) ∙ none))
        by false is later =
            let rest = later (sym (ap (λ t. t || list_any is_it (keys_of es)) is) ∙ none) in
            ap (λ t. if t then (e.0, b) ∷ es else e ∷ insert_entry eq-value.it es n b) is ∙ ap (λ (others : Entries). e ∷ others) rest

    -- where the node is there with these spans nothing changes
    insert_present : (es : Entries) → ((id : ℕ) (e : Node × Spans) → slice_get es id ≡ Some e → is_it e.0 ≡ true → e.1 ≡ b)
        → list_any is_it (keys_of es) ≡ true → insert_entry eq-value.it es n b ≡ es
    insert_present [] has there = absurd (true≢false (sym there))
    insert_present (e ∷ es) has there = by (is_it e.0) refl (insert_present es (λ id x at same. has (suc id) x at same))
      where
        by : (t : Bool) → is_it e.0 ≡ t → (list_any is_it (keys_of es) ≡ true → insert_entry eq-value.it es n b ≡ es) → insert_entry eq-value.it (e ∷ es) n b ≡ e ∷ es
        by true is later =
            ap (λ t. if t then (e.0, b) ∷ es else e ∷ insert_entry eq-value.it es n b) is
            ∙ ap (λ (c : Spans). (e.0, c) ∷ es) (sym (has 0 e refl is))
        by false is later =
            let rest = later (sym (ap (λ t. t || list_any is_it (keys_of es)) is) ∙ there) in
            ap (λ t. if t then (e.0, b) ∷ es else e ∷ insert_entry eq-value.it es n b) is ∙ ap (λ (others : Entries). e ∷ others) rest

-- what a pool has once a node is made
pub record IsMade (old : List Node) (n : Node) (new : Entries) (id : ℕ) : Type 0 where
  pub makes : Makes old n (keys_of new) id
  pub tree : tree_of (keys_of new) id ≡ tree_over (trees_in old) n
  pub grows : Grows old (keys_of new)
  pub kept : IsPool (keys_of new) × HaveSpans (keys_of new) (values_of new)

-- the table's insertion makes the node
module _ (es : Entries) (n : Node) (b : Spans) (pool : IsPool (keys_of es)) (kept : HaveSpans (keys_of es) (values_of es))
    (fine : HasForm (trees_in (keys_of es)) (length (keys_of es)) n) (here : AreSpansOf (tree_over (trees_in (keys_of es)) n) b) where
  abbrev ns : List Node
  ns = keys_of es

  has : (id : ℕ) (e : Node × Spans) → slice_get es id ≡ Some e → is_it n e.0 ≡ true → e.1 ≡ b
  has id e at same =
      let node : slice_get ns id ≡ Some e.0 = key_at es id e.0 e.1 at in
      let spans : slice_get (values_of es) id ≡ Some e.1 = value_at es id e.0 e.1 at in
      let tree : tree_of ns id ≡ tree_over (trees_in ns) n = tree_of_place ns pool.forms id e.0 node ∙ ap (tree_over (trees_in ns)) (sym ((nodes_Decides n e.0).0 same)) in
      same_spans (tree_over (trees_in ns) n) e.1 b (subst (λ t. AreSpansOf t e.1) tree (kept id e.1 spans)) here

  module _ (new : Entries) (id : ℕ) (stored : new ≡ insert_entry eq-value.it es n b) (index : id ≡ position_or_len (is_it n) ns) where
    made : Makes ns n (keys_of new) id × HaveSpans (keys_of new) (values_of new)
    made = by (list_any (is_it n) ns) refl
      where
        by : (t : Bool) → list_any (is_it n) ns ≡ t → Makes ns n (keys_of new) id × HaveSpans (keys_of new) (values_of new)
        by true there =
            let same : new ≡ es = stored ∙ insert_present n b es has there in (
              inl (ap keys_of same, ap (slice_get ns) index ∙ found_at n ns there),
              subst (λ (xs : Entries). HaveSpans (keys_of xs) (values_of xs)) (sym same) kept,
            )
        by false none =
            let more : new ≡ es ++ (n, b) ∷ [] = stored ∙ insert_absent n b es none in
            let nodes : keys_of new ≡ ns ++ n ∷ [] = ap keys_of more ∙ map-append (λ (e : Node × Spans). e.0) es ((n, b) ∷ []) in
            let values : values_of new ≡ values_of es ++ b ∷ [] = ap values_of more ∙ map-append (λ (e : Node × Spans). e.1) es ((n, b) ∷ []) in
            let last : id ≡ length ns = index ∙ position_or_len_is (is_it n) ns (length ns) n (omega arith) (other_node n ns none) (λ l. absurd (omega arith)) in
            let pushed : HaveSpans (ns ++ n ∷ []) (values_of es ++ b ∷ []) = HaveSpans-push ns (values_of es) n b pool fine (length-keys es) kept here in (
              inr (nodes, last, absent_node n ns none),
              subst (HaveSpans (keys_of new)) (sym values) (subst (λ (xs : List Node). HaveSpans xs (values_of es ++ b ∷ [])) (sym nodes) pushed),
            )

    made_here : IsMade ns n new id
    made_here = record {
      makes = made.0;
      tree = tree_of-Makes ns n (keys_of new) id pool fine made.0;
      grows = Grows-Makes ns n (keys_of new) id pool fine made.0;
      kept = (IsPool-Makes ns n (keys_of new) id pool fine made.0, made.1);
    }

-- and likewise where the table's keys are the old nodes, and the id is the place that the table tells
pub IsMade-insert : (es : Entries) (old : List Node) (n : Node) (b : Spans) (new : Entries) (place id : ℕ) → place ≡ id → keys_of es ≡ old
    → IsPool (keys_of es) × HaveSpans (keys_of es) (values_of es) → HasForm (trees_in old) (length old) n → AreSpansOf (tree_over (trees_in old) n) b
    → new ≡ insert_entry eq-value.it es n b → place ≡ position_or_len (eq-value.it n) (keys_of es) → IsMade old n new id
IsMade-insert es old n b new place id same_id before kept =
    subst (λ (ns : List Node). HasForm (trees_in ns) (length ns) n → AreSpansOf (tree_over (trees_in ns) n) b → new ≡ insert_entry eq-value.it es n b
    → place ≡ position_or_len (eq-value.it n) (keys_of es) → IsMade ns n new id) before
    (λ fine here stored index. made_here es n b kept.0 kept.1 fine here new id stored (sym same_id ∙ index))

-- what a pool keeps: its nodes with their spans, and answers
abbrev pub Holds : Entries → List (Question × Option ℕ) → Type 0
Holds es pairs = IsPool (keys_of es) × HaveSpans (keys_of es) (values_of es) × AreRight (keys_of es) pairs

-- and likewise with the answers
pub Holds-made : (es : Entries) (old : List Node) (n : Node) (new : Entries) (id : ℕ) (pairs : List (Question × Option ℕ)) → keys_of es ≡ old
    → Holds es pairs → IsMade old n new id → Holds new pairs
Holds-made es old n new id pairs same holds is = (
  is.kept.0,
  is.kept.1,
  AreRight-Grows old (keys_of new) is.grows pairs (subst (λ (ns : List Node). AreRight ns pairs) same holds.2),
)

-- fewer entries
pub IsKept-take : (es : Entries) (k : ℕ) → IsPool (keys_of es) × HaveSpans (keys_of es) (values_of es)
    → IsPool (keys_of (take k es)) × HaveSpans (keys_of (take k es)) (values_of (take k es))
IsKept-take es k kept = (
  subst IsPool (sym (keys-take es k)) (IsPool-take (keys_of es) k kept.0),
  subst (HaveSpans (keys_of (take k es))) (sym (values-take es k))
      (subst (λ (ns : List Node). HaveSpans ns (take k (values_of es))) (sym (keys-take es k))
      (HaveSpans-take (keys_of es) (values_of es) k (length-keys es) kept.1)),
)
