-- What steps of a sound world say.
use Rattle.std.proofs.Common.{◌≡◌, ℕ, zero, suc, ◌<◌, List, [], ◌∷◌, length, take, Option, Some, None, refl, sym, ap, ◌∙◌, subst, arith}
use Rattle.std.specs.Prelude.{All, slice_get, IfSome, option_map}
use Rattle.std.proofs.Math.Seq.{take-append_seam}
use Rattle.std.proofs.lemmas.List.{append-nil}
use Rattle.std.proofs.lemmas.List.Elements.{All-head, All-tail}
use Rattle.std.specs.List.{slice_index_or}
use Rattle.std.proofs.lemmas.Option.{slice_get-map, slice_get_within}
use Rattle.rz_rules.specs.declared.judgments.Judgment.{Judgment}
use Rattle.rz_rules.specs.declared.judgments.Line.{Line}
use Rattle.rz_rules.specs.declared.nodes.Node.{Node}
use Rattle.rz_rules.specs.Tree.{Tree, IsTree, blank, sort_of, tree_of, trees_in}
use Rattle.rz_rules.specs.Judgment.{IsStatement, Statement, context_of, parts_of, statement}
use Rattle.rz_rules.specs.Structural.{formed}
use Rattle.rz_rules.specs.File.{statement_at}
use Rattle.rz_pool.specs.Pool.{Contents, Grows, IsPool}
use Rattle.rz_pool.proofs.Nodes.{Grows-same}
use Rattle.rz_pool.proofs.WellFormed.{tree_of-is}
use Rattle.rz_log.specs.declared.world.Mark.{Mark}
use Rattle.rz_log.specs.declared.world.World.{World}
use Rattle.rz_log.specs.Index.{IsFirst}
use Rattle.rz_log.specs.Log.{IsLineOver, judgments_of}
use Rattle.rz_log.specs.World as world
use Rattle.rz_log.specs.World.{IsSound, Says, context_at, statements_in}
use Rattle.rz_log.proofs.Logs.{length_statements}
use Rattle.rz_log.proofs.Worlds.{statements_grown}

-- what holds of all items holds of one that is there
pub item_all : {A : Type 0} (P : A → Type 0) (list : List A) (k : ℕ) (x : A) → All P list → slice_get list k ≡ Some x → P x
item_all P [] k x all h = let wrong : None ≡ Some x = h in absurd cc
item_all P (y ∷ list) zero x all h = let one : Some y ≡ Some x = h in let same : y ≡ x = cc in subst P same (All-head P y list all)
item_all P (y ∷ list) (suc k) x all h = item_all P list k x (All-tail P y list all) h

-- what a line says of trees is what its step says
line_says : (w : World) (step : ℕ) (line : Line) (says : Statement) → slice_get w.log step ≡ Some line → Says w step says
    → statement (trees_in w.pool.nodes) line.says ≡ says
line_says w step line says at there =
    let here : slice_get (statements_in w) step ≡ Some (statement (trees_in w.pool.nodes) line.says) =
    slice_get-map (statement (trees_in w.pool.nodes)) (judgments_of w.log) step
    ∙ ap (option_map (statement (trees_in w.pool.nodes))) (slice_get-map (λ (l : Line). l.says) w.log step ∙ ap (option_map (λ (l : Line). l.says)) at) in
    let one : Some (statement (trees_in w.pool.nodes) line.says) ≡ Some says = sym here ∙ there in
    cc

-- what a step says has its form
pub said_is : (w : World) (step : ℕ) (says : Statement) → IsSound w → Says w step says → IsStatement says
said_is w step says sound there = at (slice_get w.log step) refl where
  at : (found : Option Line) → slice_get w.log step ≡ found → IsStatement says
  at (Some line) e = subst IsStatement (line_says w step line says e there) (sound.log.follow step line e).trees
  at None e =
      let none : slice_get (statements_in w) step ≡ None = slice_get-map (statement (trees_in w.pool.nodes)) (judgments_of w.log) step
      ∙ ap (option_map (statement (trees_in w.pool.nodes))) (slice_get-map (λ (l : Line). l.says) w.log step ∙ ap (option_map (λ (l : Line). l.says)) e) in
      let wrong : None ≡ Some says = sym none ∙ there in
      absurd cc

-- an item that is there
item_is : {A : Type 0} (list : List A) (k : ℕ) (x d : A) → slice_get list k ≡ Some x → slice_index_or list k d ≡ x
item_is [] k x d h = let wrong : None ≡ Some x = h in absurd cc
item_is (y ∷ list) zero x d h = let one : Some y ≡ Some x = h in cc
item_is (y ∷ list) (suc k) x d h = item_is list k x d h

-- what a step says, as it is looked up
pub statement_is : (w : World) (step : ℕ) (says : Statement) → Says w step says → statement_at (statements_in w) step ≡ says
statement_is w step says there = item_is (statements_in w) step says (formed blank) there

-- the context of a step that says it to be formed
pub context_is : (w : World) (step : ℕ) (context : Tree) → Says w step (formed context) → context_at w step ≡ context
context_is w step context there = ap (λ (s : Statement). s.context) (statement_is w step (formed context) there)

-- a step that says something is there
pub said_within : (w : World) (step : ℕ) (says : Statement) → Says w step says → step < length w.log
said_within w step says there =
    let within = slice_get_within (statements_in w) step says there in
    omega (within, length_statements w.pool.nodes w.log, arith)

-- a step that is found says what was looked for
pub found_says : (w : World) (says : Judgment) (found : Option ℕ) → IsFirst (judgments_of w.log) says found
    → IfSome found (λ step. Says w step (statement (trees_in w.pool.nodes) says))
found_says w says (Some step) first =
    slice_get-map (statement (trees_in w.pool.nodes)) (judgments_of w.log) step ∙ ap (option_map (statement (trees_in w.pool.nodes))) first.0
found_says w says None first = tt

-- the tree of an id whose sort is known
pub tree_is : (nodes : List Node) (id : ℕ) (t : Tree) → IsPool nodes → id < length nodes → tree_of nodes id ≡ t → IsTree (sort_of t) t
tree_is nodes id t is live e = subst (λ (x : Tree). IsTree (sort_of x) x) e (tree_of-is nodes is.forms id live)

-- the context that a step says to be formed, as a node
pub context_of_line : (w : World) (step : ℕ) (line : Line) (context : Tree) (id : ℕ) → IsSound w → slice_get w.log step ≡ Some line
    → Says w step (formed context) → id ≡ context_of line.says → (id < length w.pool.nodes) × (tree_of w.pool.nodes id ≡ context)
context_of_line w step line context id sound at says is =
    let over = item_all (IsLineOver w.pool.nodes) w.log step line sound.log.over at in
    let live = All-head (λ k. k < length w.pool.nodes) (context_of line.says) (parts_of line.says) over.live in (
      subst (λ k. k < length w.pool.nodes) (sym is) live,
      ap (tree_of w.pool.nodes) is ∙ ap (λ (s : Statement). s.context) (line_says w step line (formed context) at says),
    )

-- the context of a step stays as the pool grows
pub context_kept : (w : World) (contents : Contents) (step : ℕ) → Grows w.pool.nodes contents.nodes → IsSound w
    → context_at (record { pool = contents; log = w.log }) step ≡ context_at w step
context_kept w contents step grows sound =
    ap (λ (ss : List Statement). (statement_at ss step).context) (statements_grown w.pool.nodes contents.nodes w.log grows sound.log)

-- a world that grew in its pool alone and is taken back is as it was
pub back_again : (w later after : World) (mark : Mark) → Grows w.pool.nodes later.pool.nodes → mark.nodes ≡ length w.pool.nodes → mark.lines ≡ length w.log
    → after.pool.nodes ≡ take mark.nodes later.pool.nodes → after.log ≡ take mark.lines w.log → IsSound after → world.Grows w after
back_again w later after mark grows nodes lines nodes_are lines_are sound = record {
  nodes = Grows-same w.pool.nodes after.pool.nodes
      (nodes_are ∙ (ap (λ n. take n later.pool.nodes) nodes ∙ (ap (take (length w.pool.nodes)) grows.is ∙ take-append_seam w.pool.nodes grows.added)));
  added = [];
  lines = (lines_are ∙ (ap (λ n. take n w.log) lines ∙ whole)) ∙ sym (append-nil w.log);
  sound = sound;
} where
  whole : take (length w.log) w.log ≡ w.log
  whole = ap (take (length w.log)) (sym (append-nil w.log)) ∙ take-append_seam w.log []
