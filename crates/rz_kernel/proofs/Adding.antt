-- Nodes and judgments of the file over the ids of their nodes in the pool, and the state after one item more.
use Rattle.std.proofs.Common.{◌≡◌, ℕ, ◌<◌, ◌≤◌, List, [], ◌∷◌, ◌++◌, length, get_or, map, All, refl, sym, ap, subst, ◌∙◌, arith}
use Rattle.std.proofs.lemmas.List.{length-map, map-append, get_or-map}
use Rattle.std.proofs.lemmas.List.Elements.{All-head, All-tail, All-map, All-push}
use Rattle.rz_rules.specs.declared.nodes.Node.{Node}
use Rattle.rz_rules.specs.declared.judgments.Judgment.{Judgment}
use Rattle.rz_rules.specs.declared.judgments.Line.{Line}
use Rattle.rz_rules.specs.Tree.{Tree, At, HasForm, trees_of, blank, sort_of, tree_at, tree_of, tree_over, trees_in}
use Rattle.rz_rules.specs.Judgment.{Statement, kind_of, ids_of, context_of, parts_of, statement}
use Rattle.rz_rules.proofs.Trees.{trees_of-append}
use Rattle.rz_pool.specs.Pool.{Grows}
use Rattle.rz_pool.proofs.Nodes.{length-Grows}
use Rattle.rz_rules.specs.Derivation.{Step}
use Rattle.rz_rules.specs.File.{StepFits, StepItem, extended, statement_at, step_over}
use Rattle.rz_kernel_rows.specs.Line.{IsJudgmentOver, statements_in, step_of}
use Rattle.rz_kernel.specs.declared.state.KernelState.{KernelState}
use Rattle.rz_kernel.specs.State.{file_state, claims_of, with_tree, IsKernelState}

-- the trees of ids of the file are those of their ids in the pool
pub placed_trees : (ts : List Tree) (places ids : List ℕ) → All (λ id. id < length places) ids
    → map (tree_at (map (tree_at ts) places)) ids ≡ map (tree_at ts) (map (λ id. get_or places id 0) ids)
placed_trees ts places [] h = refl
placed_trees ts places (id ∷ ids) h =
    let P : ℕ → Type 0 = λ id. id < length places in
    let first : tree_at (map (tree_at ts) places) id ≡ tree_at ts (get_or places id 0) = get_or-map (tree_at ts) places id 0 blank (All-head P id ids h) in
    let rest = placed_trees ts places ids (All-tail P id ids h) in
    cc

pub places_low : (places ids : List ℕ) (limit : ℕ) → All (λ p. p < limit) places → All (λ id. id < length places) ids → All (λ p. p < limit) (map (λ id. get_or places id 0) ids)
places_low places ids limit low there = All-map (λ p. p < limit) (λ id. get_or places id 0) ids (λ k d lt. low (get_or ids k d) 0 (there k d lt))

-- a node of the file has the form of its kind where it has it over the pool
module _ (ns : List Node) (places : List ℕ) (low : All (λ p. p < length ns) places) (node placed : Node)
    (kind : placed.kind ≡ node.kind) (number : placed.number ≡ node.number) (name : placed.name ≡ node.name)
    (there : All (λ id. id < length places) node.kids) (kids : placed.kids ≡ map (λ id. get_or places id 0) node.kids) where
  abbrev moved : Node
  moved = record { kind = node.kind; number = node.number; name = node.name; kids = map (λ id. get_or places id 0) node.kids }

  moved_is : placed ≡ moved
  moved_is = λ i. record { kind = kind i; number = number i; name = name i; kids = kids i }

  trees : map (tree_at (map (tree_of ns) places)) node.kids ≡ map (tree_of ns) (map (λ id. get_or places id 0) node.kids)
  trees = placed_trees (trees_in ns) places node.kids there

  pub node_tree : tree_over (trees_in ns) placed ≡ tree_over (map (tree_of ns) places) node
  node_tree = ap (tree_over (trees_in ns)) moved_is ∙ ap (λ (ts : List Tree). At node.kind node.number node.name (trees_of ts)) (sym trees)

  pub form_in_pool : HasForm (map (tree_of ns) places) (length (map (tree_of ns) places)) node → HasForm (trees_in ns) (length ns) placed
  form_in_pool h = subst (HasForm (trees_in ns) (length ns)) (sym moved_is) (record {
    kids = places_low places node.kids (length ns) low there;
    sorts = ap (map sort_of) (sym trees) ∙ h.sorts;
    label = h.label;
  })

-- what was said stays
pub same_trees : (ns ms : List Node) → Grows ns ms → (ids : List ℕ) → All (λ id. id < length ns) ids → map (tree_of ms) ids ≡ map (tree_of ns) ids
same_trees ns ms grows ids low = ap (λ (ns : List Node). map (tree_of ns) ids) grows.is ∙ trees_of-append ns grows.added ids low

same_statement : (ns ms : List Node) → Grows ns ms → (says : Judgment) → IsJudgmentOver ns says → statement (trees_in ms) says ≡ statement (trees_in ns) says
same_statement ns ms grows says over =
    let all : map (tree_of ms) (ids_of says) ≡ map (tree_of ns) (ids_of says) = same_trees ns ms grows (ids_of says) over.live in
    let context : tree_of ms (context_of says) ≡ tree_of ns (context_of says) = cc in
    let parts : map (tree_of ms) (parts_of says) ≡ map (tree_of ns) (parts_of says) = cc in
    λ i. record { kind = kind_of says; context = context i; parts = parts i }

pub same_said : (ns ms : List Node) → Grows ns ms → (judgments : List Judgment) → All (IsJudgmentOver ns) judgments → statements_in ms judgments ≡ statements_in ns judgments
same_said ns ms grows [] over = refl
same_said ns ms grows (says ∷ judgments) over =
    let first = same_statement ns ms grows says (All-head (IsJudgmentOver ns) says judgments over) in
    let rest : statements_in ms judgments ≡ statements_in ns judgments = same_said ns ms grows judgments (All-tail (IsJudgmentOver ns) says judgments over) in
    joined first rest where
      joined : {x y : Statement} {xs ys : List Statement} → x ≡ y → xs ≡ ys → x ∷ xs ≡ y ∷ ys
      joined p q = cc

-- what a judgment is over stays
over_more : (ns ms : List Node) → Grows ns ms → length ns ≤ length ms → (says : Judgment) → IsJudgmentOver ns says → IsJudgmentOver ms says
over_more ns ms grows longer says over = record {
  live = λ k d lt. omega (arith, longer, over.live k d lt);
  sorts = ap (map sort_of) (same_trees ns ms grows (ids_of says) over.live) ∙ over.sorts;
}

pub all_over : (ns ms : List Node) → Grows ns ms → length ns ≤ length ms → (judgments : List Judgment) → All (IsJudgmentOver ns) judgments → All (IsJudgmentOver ms) judgments
all_over ns ms grows longer judgments over k d lt = over_more ns ms grows longer (get_or judgments k d) (over k d lt)

-- one step more
pub said_more : (ns : List Node) (judgments : List Judgment) (says : Judgment) → statements_in ns (judgments ++ says ∷ []) ≡ statements_in ns judgments ++ statement (trees_in ns) says ∷ []
said_more ns judgments says = map-append (statement (trees_in ns)) judgments (says ∷ [])

pub claims_count : (statements : List Statement) (claims : List (List ℕ × ℕ)) → length (claims_of statements claims) ≡ length claims
claims_count statements claims = length-map claims (λ (claim : List ℕ × ℕ). record { name = claim.0; says = statement_at statements claim.1 })

no_claims : (statements more : List Statement) (claims : List (List ℕ × ℕ)) → claims_of statements claims ≡ [] → claims_of more claims ≡ claims_of statements claims
no_claims statements more [] e = refl
no_claims statements more (claim ∷ claims) e = absurd cc

-- ---- the state after an item

-- after a node
pub state_with_tree : (state : KernelState) (ms : List Node) (place : ℕ) (node : Node) → Grows state.pool.nodes ms → IsKernelState state
    → tree_of ms place ≡ tree_over (trees_in state.pool.nodes) node → (places : List ℕ) → places ≡ state.places.items ++ place ∷ []
    → record { trees = map (tree_of ms) places; statements = statements_in ms state.said.items; claims = claims_of (statements_in ms state.said.items) state.claims.items }
    ≡ with_tree state node
state_with_tree state ms place node grows is tree places are =
    λ i. record { trees = trees i; statements = said i; claims = claims_of (said i) state.claims.items } where
      ns : List Node
      ns = state.pool.nodes

      said : statements_in ms state.said.items ≡ statements_in state.pool.nodes state.said.items
      said = same_said state.pool.nodes ms grows state.said.items is.said

      trees : map (tree_of ms) places ≡ map (tree_of state.pool.nodes) state.places.items ++ tree_over (trees_in state.pool.nodes) node ∷ []
      trees = ap (map (tree_of ms)) are ∙ map-append (tree_of ms) state.places.items (place ∷ [])
          ∙ ap (λ (ts : List Tree). ts ++ tree_of ms place ∷ []) (same_trees state.pool.nodes ms grows state.places.items is.places)
          ∙ ap (λ (t : Tree). map (tree_of state.pool.nodes) state.places.items ++ t ∷ []) tree

-- after a step
pub state_more : (state : KernelState) (ms : List Node) → Grows state.pool.nodes ms → IsKernelState state → (placed line : Line) → IsJudgmentOver state.pool.nodes placed.says
    → step_of state.pool.nodes placed ≡ step_over (file_state state).trees line → StepFits (file_state state) line
    → (judgments : List Judgment) → judgments ≡ state.said.items ++ placed.says ∷ []
    → record { trees = map (tree_of ms) state.places.items; statements = statements_in ms judgments; claims = claims_of (statements_in ms judgments) state.claims.items }
    ≡ extended (file_state state) (StepItem line)
state_more state ms grows is placed line over step fits judgments are =
    λ i. record { trees = trees i; statements = said i; claims = claims i } where
      trees : map (tree_of ms) state.places.items ≡ map (tree_of state.pool.nodes) state.places.items
      trees = same_trees state.pool.nodes ms grows state.places.items is.places

      says : statement (trees_in ms) placed.says ≡ statement (file_state state).trees line.says
      says = same_statement state.pool.nodes ms grows placed.says over ∙ ap (λ (s : Step). s.says) step

      said : statements_in ms judgments ≡ (file_state state).statements ++ statement (file_state state).trees line.says ∷ []
      said = ap (statements_in ms) are ∙ said_more ms state.said.items placed.says
          ∙ (λ i. same_said state.pool.nodes ms grows state.said.items is.said i ++ says i ∷ [])

      claims : claims_of (statements_in ms judgments) state.claims.items ≡ claims_of (file_state state).statements state.claims.items
      claims = no_claims (file_state state).statements (statements_in ms judgments) state.claims.items fits.claims

pub over_nodes : (state : KernelState) (ms : List Node) → Grows state.pool.nodes ms → (placed : Line) → IsJudgmentOver state.pool.nodes placed.says → IsKernelState state
    → (judgments : List Judgment) → judgments ≡ state.said.items ++ placed.says ∷ []
    → (All (λ place. place < length ms) state.places.items) × All (IsJudgmentOver ms) judgments
over_nodes state ms grows placed over is judgments are =
    let longer = length-Grows state.pool.nodes ms grows in (
      λ k d lt. omega (arith, longer, is.places k d lt),
      all_over state.pool.nodes ms grows longer judgments
          (subst (λ (js : List Judgment). All (IsJudgmentOver state.pool.nodes) js) (sym are) (All-push (IsJudgmentOver state.pool.nodes) state.said.items placed.says is.said over)),
    )
