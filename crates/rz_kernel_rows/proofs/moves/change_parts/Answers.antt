use Rattle.std.proofs.Common.{ℕ, ◌<◌, ◌^◌, All, get_or, length, map, ap, sym, subst, ◌∙◌, arith}
use Rattle.std.proofs.lemmas.List.{length_push}
use Rattle.std.proofs.lemmas.List.Elements.{All-push, All-weaker}
use Rattle.rz_rules.specs.Tree.{Tree, tree_of}
use Rattle.rz_rules.specs.Substitution.{IndicesBelow, changed}
use Rattle.rz_pool.specs.Counts.{depth_of}
use Rattle.rz_pool.proofs.Nodes.{Grows-trans, length-Grows}
use Rattle.rz_kernel_rows.specs.Move.{changes_of}
use Rattle.rz_kernel_rows.proofs.Extending.{IsThere-Grows, same_change}
use Rattle.rz_kernel_rows.proofs.Judged.{part_high, part_more}
use Rattle.rz_kernel_rows.proofs.moves.change_parts.Goals as goal

pub change_tree-requires-clause-change : goal.change_tree-requires-clause-change
change_tree-requires-clause-change c = IsThere-Grows c.args.pool.now.nodes c.loop-part.pool.nodes c.loop-part.invariant.grows c.args.change c.requires.change

pub returns-in_default-clause-parts : goal.returns-in_default-clause-parts
returns-in_default-clause-parts c =
    let now = c.loop-part.pool.nodes in
    let old = c.args.pool.now.nodes in
    let high = rw c.in_default.is at c.in_ok-tree.ensures.answer in
    part_high (changed (changes_of old c.args.change) (depth_of c.args.depth)) old c.args.parts.now c.loop-part.part-index c.loop-part-test.true
    (subst (λ (t : Tree). IndicesBelow (2 ^ 32) t → ⊥) (same_change old now c.loop-part.invariant.grows c.args.change c.requires.change (depth_of c.args.depth) (get_or c.args.parts.now c.loop-part.part-index 0) (c.requires.live c.loop-part.part-index 0 c.loop-part-test.true)) high)

pub loop-part-preserved : goal.loop-part-preserved
loop-part-preserved c =
    let now = c.loop-part.pool.nodes in
    let mid = c.change_tree.new.pool.nodes in
    let old = c.args.pool.now.nodes in
    let inv = c.loop-part.invariant in
    let facts = c.in_ok-tree.ensures in
    let P : ℕ → Type 0 = λ id. id < length mid in
    let answer = rw c.in-Some.is at facts.answer in
    record {
      grows = Grows-trans old now mid inv.grows facts.grows;
      pool = facts.pool;
      live = subst (All P) (sym c.push.ensures) (All-push P c.loop-part.changed c.in-Some.tree (All-weaker (λ id. id < length now) P (λ id low. omega (arith, low, length-Grows now mid facts.grows)) c.loop-part.changed inv.live) answer.0);
      count = omega (arith, ap length c.push.ensures, length_push c.loop-part.changed c.in-Some.tree, inv.count);
      trees = ap (map (tree_of mid)) c.push.ensures
          ∙ part_more (changed (changes_of old c.args.change) (depth_of c.args.depth)) old now mid facts.grows c.args.parts.now c.loop-part.changed c.loop-part.part-index c.in-Some.tree c.loop-part-test.true inv.live inv.trees
          (answer.1 ∙ (same_change old now c.loop-part.invariant.grows c.args.change c.requires.change (depth_of c.args.depth) (get_or c.args.parts.now c.loop-part.part-index 0) (c.requires.live c.loop-part.part-index 0 c.loop-part-test.true)));
    }
