use Rattle.std.proofs.Common.{◌≡◌, ℕ, ◌<◌, ◌++◌, ◌∷◌, [], List, All, length, map, sym, ap, subst, ◌∙◌, arith}
use Rattle.std.proofs.lemmas.List.{length-map, map-append}
use Rattle.std.proofs.lemmas.List.Elements.{All-push}
use Rattle.rz_rules.specs.Tree.{At, blank, tree_of, trees_of}
use Rattle.rz_pool.proofs.Nodes.{length-Grows}
use Rattle.rz_log.proofs.Worlds.{grows_pool, sound_pool}
use Rattle.rz_tope_tests.specs.Bench.{node_tree}
use Rattle.rz_tope_tests.proofs.Picking.{picked, picked_values, said_kept, trees_kept}
use Rattle.rz_tope_tests.proofs.bench.Bench.node.Goals as goal

pub returns-clause-bench : goal.returns-clause-bench
returns-clause-bench c made =
    let w = c.args.self.now.w in
    let new = c.make.new.self.nodes in
    let more = length-Grows w.pool.nodes new c.make.ensures.grows in
    record {
      sound = sound_pool w c.make.new.self c.make.ensures.grows c.make.ensures.pool c.requires.bench.sound;
      ids = subst (All (λ id. id < length new)) (sym c.in_ok-push.ensures.items)
          (All-push (λ id. id < length new) c.args.self.now.ids.items c.in_ok-id.id
          (λ k d l. omega (arith, c.requires.bench.ids k d l, more)) c.in_ok-id.ensures.within);
      steps = c.requires.bench.steps;
    }

pub returns-clause-trees : goal.returns-clause-trees
returns-clause-trees c made =
    let w = c.args.self.now.w in
    let old = w.pool.nodes in
    let new = c.make.new.self.nodes in
    let ids = c.args.self.now.ids.items in
    let row = c.args.row.now in
    let there : All (λ place. place < length ids) row.2.now = λ k d l. omega (arith, c.requires.there k d l, length-map ids (tree_of old)) in
    let kids = c.from_slice.ensures ∙ c.deref-2.ensures.value ∙ c.in_ok-kids.ensures ∙ ap (λ (numbers : List ℕ). picked numbers row.2.now) c.deref.ensures.value in
    let kid_trees = ap (map (tree_of old)) kids ∙ picked_values (tree_of old) blank ids row.2.now there in
    let tree : tree_of new c.in_ok-id.id ≡ node_tree (map (tree_of old) ids) row =
    c.in_ok-id.ensures.tree ∙ (λ i. At row.0 row.1 (c.new.ensures i) (trees_of (kid_trees i))) in
    let before = trees_kept old new c.make.ensures.grows ids c.requires.bench.ids in
    ap (map (tree_of new)) c.in_ok-push.ensures.items ∙ map-append (tree_of new) ids (c.in_ok-id.id ∷ []) ∙ (λ i. before i ++ tree i ∷ [])

pub returns-clause-said : goal.returns-clause-said
returns-clause-said c made =
    let w = c.args.self.now.w in
    said_kept w (record { pool = c.make.new.self; log = w.log }) c.requires.bench.sound (grows_pool w c.make.new.self c.make.ensures.grows c.make.ensures.pool c.requires.bench.sound)
    c.args.self.now.steps.items c.requires.bench.steps
