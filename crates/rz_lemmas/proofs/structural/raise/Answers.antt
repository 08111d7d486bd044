use Rattle.std.proofs.Common.{IfOk, sym, ap, subst, ◌≡◌, ◌∙◌}
use Rattle.rz_rules.specs.Tree.{tree_of}
use Rattle.rz_rules.specs.Substitution.{changed, none, raising}
use Rattle.rz_rules.proofs.Depths.{changed_nothing}
use Rattle.rz_pool.specs.Counts.{depth_of}
use Rattle.rz_pool.specs.declared.entries.Entry.{Entry}
use Rattle.rz_lemmas.specs.Behind.{bound_in}
use Rattle.rz_lemmas.proofs.structural.raise.Goals as goal

pub returns-in-Cube-clause-tree : goal.returns-in-Cube-clause-tree
returns-in-Cube-clause-tree c =
    let t = tree_of c.args.pool.now.nodes c.args.id in
    subst (λ (e : Entry). IfOk c.open.result (λ new. tree_of c.open.new.pool.nodes new ≡ changed (raising none (bound_in e)) (depth_of c.args.behind.depth) t))
    (sym c.in-Cube.is) c.open.ensures.tree

pub returns-in-Term-clause-tree : goal.returns-in-Term-clause-tree
returns-in-Term-clause-tree c =
    let t = tree_of c.args.pool.now.nodes c.args.id in
    subst (λ (e : Entry). IfOk c.open-in-Term.result (λ new. tree_of c.open-in-Term.new.pool.nodes new ≡ changed (raising none (bound_in e)) (depth_of c.args.behind.depth) t))
    (sym c.in-Term.is) c.open-in-Term.ensures.tree

pub returns-in-Tope-clause-tree : goal.returns-in-Tope-clause-tree
returns-in-Tope-clause-tree c =
    let t = tree_of c.args.pool.now.nodes c.args.id in
    let depth = depth_of c.args.behind.depth in
    sym (ap (λ (e : Entry). changed (raising none (bound_in e)) depth t) c.in-Tope.is ∙ changed_nothing depth t)
