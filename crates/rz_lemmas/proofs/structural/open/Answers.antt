use Rattle.std.proofs.Common.{ℕ, Option, IfSome, sym, ap, subst, ◌≡◌, ◌∙◌}
use Rattle.rz_rules.specs.Tree.{tree_of}
use Rattle.rz_rules.specs.Substitution.{shift}
use Rattle.rz_rules.proofs.Depths.{changed_opened}
use Rattle.rz_pool.specs.Counts.{depth_of}
use Rattle.rz_lemmas.proofs.structural.open.Goals as goal

pub returns-in-Some-clause-tree : goal.returns-in-Some-clause-tree
returns-in-Some-clause-tree c =
    let t = tree_of c.args.pool.now.nodes c.args.id in
    let space = c.args.space in
    let tree = subst (λ (o : Option ℕ). IfSome o (λ id. tree_of c.shift.new.pool.nodes id ≡ shift space c.of-from.result 1 t)) c.in-Some.is c.in_ok-new.ensures.tree in
    tree ∙ ap (λ (from : ℕ). shift space from 1 t) c.of-from.ensures ∙ sym (changed_opened space (depth_of c.args.depth) t)
