-- Worlds that grow, and such that are taken back.
use Rattle.std.proofs.Common.{◌≡◌, ℕ, ◌<◌, ◌≤◌, List, [], ◌∷◌, ◌++◌, Some, length, take, map, All, slice_get, refl, sym, ap, subst, ◌∙◌, append_assoc, arith}
use Rattle.std.proofs.lemmas.List.{append-nil, length-take, map-append, take-append-le}
use Rattle.std.proofs.lemmas.List.Elements.{All-head, All-tail, All-take}
use Rattle.std.proofs.lemmas.Option.{slice_get_within, get_or_from_slice_get}
use Rattle.rz_rules.specs.declared.nodes.Node.{Node}
use Rattle.rz_rules.specs.declared.judgments.Judgment.{Judgment}
use Rattle.rz_rules.specs.declared.judgments.Line.{Line}
use Rattle.rz_rules.specs.Tree.{tree_of, trees_in}
use Rattle.rz_rules.specs.Judgment.{Statement, context_of, kind_of, parts_of, statement}
use Rattle.rz_rules.specs.Derivation.{Follows, Step}
use Rattle.rz_pool.specs.Pool as pool
use Rattle.rz_pool.specs.Pool.{Contents, IsPool}
use Rattle.rz_pool.proofs.Nodes.{Grows-same, Grows-trans, KeepsTrees-Grows, KeepsTrees-take, length-Grows, slice_get-append}
use Rattle.rz_log.specs.declared.world.Mark.{Mark}
use Rattle.rz_log.specs.declared.world.World.{World}
use Rattle.rz_log.proofs.Firsts.{at_end}
use Rattle.rz_log.proofs.Logs.{length_statements, sound_take}
use Rattle.rz_log.specs.Log.{AreBelow, IsBelow, IsSoundLog, judgments_of, statements_of, step_of}
use Rattle.rz_log.specs.World.{EndsBelow, Grows, IsSound, Says}

module _ (old new : List Node) (bound : ℕ) (same : (id : ℕ) → id < bound → tree_of new id ≡ tree_of old id) where
  -- the trees of some ids
  trees_kept : (ids : List ℕ) → All (λ id. id < bound) ids → map (tree_of new) ids ≡ map (tree_of old) ids
  trees_kept [] live = refl
  trees_kept (id ∷ ids) live =
      let first : tree_of new id ≡ tree_of old id = same id (All-head (λ i. i < bound) id ids live) in
      let others : map (tree_of new) ids ≡ map (tree_of old) ids = trees_kept ids (All-tail (λ i. i < bound) id ids live) in
      cc

  -- what is said of ids that keep their trees is said still
  pub statement_kept : (says : Judgment) → IsBelow bound says → statement (trees_in new) says ≡ statement (trees_in old) says
  statement_kept says live =
      let context : tree_of new (context_of says) ≡ tree_of old (context_of says) = same (context_of says) (All-head (λ i. i < bound) (context_of says) (parts_of says) live) in
      let parts : map (tree_of new) (parts_of says) ≡ map (tree_of old) (parts_of says) = trees_kept (parts_of says) (All-tail (λ i. i < bound) (context_of says) (parts_of says) live) in
      λ i. record { kind = kind_of says; context = context i; parts = parts i }

  pub step_kept : (line : Line) → IsBelow bound line.says → step_of new line ≡ step_of old line
  step_kept line live =
      let says = statement_kept line.says live in
      λ i. record { row = line.row; number = line.number; says = says i; from = line.from }

  pub statements_kept : (lines : List Line) → AreBelow bound lines → statements_of new lines ≡ statements_of old lines
  statements_kept [] live = refl
  statements_kept (line ∷ lines) live =
      let first : statement (trees_in new) line.says ≡ statement (trees_in old) line.says =
      statement_kept line.says (All-head (λ (l : Line). IsBelow bound l.says) line lines live) in
      let others : statements_of new lines ≡ statements_of old lines =
      statements_kept lines (All-tail (λ (l : Line). IsBelow bound l.says) line lines live) in
      cc

  pub sound_kept : (lines : List Line) → bound ≤ length new → AreBelow bound lines → IsSoundLog old lines → IsSoundLog new lines
  sound_kept lines within live sound = record {
    over = λ k d l. record {
      live = λ i e m. omega (arith, within, live k d l i e m);
      number = (sound.over k d l).number;
    };
    follow = λ step line at.
        let front : statements_of new (take step lines) ≡ statements_of old (take step lines) = statements_kept (take step lines) (All-take (λ (l : Line). IsBelow bound l.says) step lines live) in
        let here : step_of new line ≡ step_of old line = step_kept line (subst (λ (l : Line). IsBelow bound l.says) (get_or_from_slice_get lines step line line at) (live step line (slice_get_within lines step line at))) in
        subst (λ (s : Step). Follows (statements_of new (take step lines)) s) (sym here)
        (subst (λ (ss : List Statement). Follows ss (step_of old line)) (sym front) (sound.follow step line at));
  }

-- a sound log in a pool that grows
below_length : (nodes : List Node) (lines : List Line) → IsSoundLog nodes lines → AreBelow (length nodes) lines
below_length nodes lines sound k d l = (sound.over k d l).live

pub sound_grown : (old new : List Node) (lines : List Line) → pool.Grows old new → IsSoundLog old lines → IsSoundLog new lines
sound_grown old new lines grows sound =
    sound_kept old new (length old) (KeepsTrees-Grows old new grows) lines (length-Grows old new grows) (below_length old lines sound) sound

pub statements_grown : (old new : List Node) (lines : List Line) → pool.Grows old new → IsSoundLog old lines → statements_of new lines ≡ statements_of old lines
statements_grown old new lines grows sound =
    statements_kept old new (length old) (KeepsTrees-Grows old new grows) lines (below_length old lines sound)

-- a world whose pool grows
pub sound_pool : (w : World) (contents : Contents) → pool.Grows w.pool.nodes contents.nodes → IsPool contents.nodes → IsSound w → IsSound (record { pool = contents; log = w.log })
sound_pool w contents grows is sound = record { pool = is; log = sound_grown w.pool.nodes contents.nodes w.log grows sound.log }

pub grows_pool : (w : World) (contents : Contents) → pool.Grows w.pool.nodes contents.nodes → IsPool contents.nodes → IsSound w → Grows w (record { pool = contents; log = w.log })
grows_pool w contents grows is sound = record { nodes = grows; added = []; lines = sym (append-nil w.log); sound = sound_pool w contents grows is sound }

-- a world grows by nothing, and by what two calls add
pub grows_same : (w : World) → IsSound w → Grows w w
grows_same w sound = record { nodes = Grows-same w.pool.nodes w.pool.nodes refl; added = []; lines = sym (append-nil w.log); sound = sound }

pub grows_trans : (a b c : World) → Grows a b → Grows b c → Grows a c
grows_trans a b c ab bc = record {
  nodes = Grows-trans a.pool.nodes b.pool.nodes c.pool.nodes ab.nodes bc.nodes;
  added = ab.added ++ bc.added;
  lines = bc.lines ∙ (ap (λ (ls : List Line). ls ++ bc.added) ab.lines ∙ append_assoc a.log ab.added bc.added);
  sound = bc.sound;
}

pub statements_append : (nodes : List Node) (lines more : List Line) → statements_of nodes (lines ++ more) ≡ statements_of nodes lines ++ statements_of nodes more
statements_append nodes lines more =
    ap (map (statement (trees_in nodes))) (map-append (λ (l : Line). l.says) lines more)
    ∙ map-append (statement (trees_in nodes)) (judgments_of lines) (judgments_of more)

-- what the last of some lines says
pub said_last : (nodes : List Node) (lines : List Line) (line : Line) (step : ℕ) → step ≡ length lines
    → slice_get (statements_of nodes (lines ++ line ∷ [])) step ≡ Some (statement (trees_in nodes) line.says)
said_last nodes lines line step last =
    ap (λ (ss : List Statement). slice_get ss step) (statements_append nodes lines (line ∷ []))
    ∙ (ap (slice_get (statements_of nodes lines ++ statements_of nodes (line ∷ []))) (last ∙ sym (length_statements nodes lines))
    ∙ at_end (statements_of nodes lines) (statement (trees_in nodes) line.says))

-- a step says what it said
pub says_grown : (old new : World) → IsSound old → Grows old new → (step : ℕ) (says : Statement) → Says old step says → Says new step says
says_grown old new sound grows step says there =
    ap (λ (ss : List Statement). slice_get ss step)
    (ap (statements_of new.pool.nodes) grows.lines ∙ statements_append new.pool.nodes old.log grows.added)
    ∙ slice_get-append (statements_of new.pool.nodes old.log) (statements_of new.pool.nodes grows.added) step says
    (ap (λ (ss : List Statement). slice_get ss step) (statements_grown old.pool.nodes new.pool.nodes old.log grows.nodes sound.log) ∙ there)

-- a tree of an id stays
pub tree_grown : (old new : World) → Grows old new → (id : ℕ) → id < length old.pool.nodes → tree_of new.pool.nodes id ≡ tree_of old.pool.nodes id
tree_grown old new grows id live = KeepsTrees-Grows old.pool.nodes new.pool.nodes grows.nodes id live

-- a world that is taken back to a mark
pub sound_released : (nodes : List Node) (lines : List Line) (bound count : ℕ) → bound ≤ length nodes → AreBelow bound (take count lines)
    → IsSoundLog nodes lines → IsSoundLog (take bound nodes) (take count lines)
sound_released nodes lines bound count within below sound =
    sound_kept nodes (take bound nodes) bound (KeepsTrees-take nodes bound bound (omega arith) within) (take count lines)
    (omega (arith, length-take bound nodes)) below (sound_take nodes lines count sound)

-- a mark of a world stays one as the world grows
pub mark_stays : (old new : World) (mark : Mark) → Grows old new → mark.lines ≤ length old.log → EndsBelow old mark → EndsBelow new mark
mark_stays old new mark grows within below =
    subst (AreBelow mark.nodes) (sym (ap (take mark.lines) grows.lines ∙ take-append-le mark.lines old.log grows.added within)) below
