use Rattle.std.proofs.Common.{ℕ, sym, ap, ◌∙◌}
use Rattle.rz_rules.specs.Tree.{tree_of}
use Rattle.rz_rules.specs.Substitution.{changed, shift}
use Rattle.rz_rules.proofs.Depths.{changed_nothing, changed_opened, changed_put}
use Rattle.rz_pool.specs.Counts.{depth_of}
use Rattle.rz_kernel_rows.specs.declared.moves.Change.{Change}
use Rattle.rz_kernel_rows.specs.Move.{changes_of}
use Rattle.rz_kernel_rows.proofs.Changing.{answered}
use Rattle.rz_kernel_rows.proofs.moves.change_tree.Goals as goal

pub returns-in-Nothing-clause-answer : goal.returns-in-Nothing-clause-answer
returns-in-Nothing-clause-answer c =
    let ns = c.args.pool.now.nodes in
    let t = tree_of ns c.args.id in
    let same = ap (λ (change : Change). changed (changes_of ns change) (depth_of c.args.depth) t) c.in-Nothing.is ∙ changed_nothing (depth_of c.args.depth) t in
    (c.requires.live, sym same)

pub returns-in-Opens-clause-answer : goal.returns-in-Opens-clause-answer
returns-in-Opens-clause-answer c =
    let ns = c.args.pool.now.nodes in
    let t = tree_of ns c.args.id in
    let space = c.in-Opens.space in
    let same = ap (λ (change : Change). changed (changes_of ns change) (depth_of c.args.depth) t) c.in-Opens.is
    ∙ changed_opened space (depth_of c.args.depth) t ∙ ap (λ (from : ℕ). shift space from 1 t) (sym c.of.ensures) in
    answered c.shift.result c.shift.new.pool.nodes _ _ (sym same) c.shift.ensures.fits c.shift.ensures.within c.shift.ensures.tree

pub returns-in-Puts-clause-answer : goal.returns-in-Puts-clause-answer
returns-in-Puts-clause-answer c =
    let ns = c.args.pool.now.nodes in
    let t = tree_of ns c.args.id in
    let same = ap (λ (change : Change). changed (changes_of ns change) (depth_of c.args.depth) t) c.in-Puts.is
    ∙ changed_put c.in-Puts.space (depth_of c.args.depth) (tree_of ns c.in-Puts.value) t in
    answered c.put.result c.put.new.pool.nodes _ _ (sym same) c.put.ensures.fits c.put.ensures.within c.put.ensures.tree
