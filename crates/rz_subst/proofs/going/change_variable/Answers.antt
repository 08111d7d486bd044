use Rattle.std.proofs.Common.{◌≡◌, Some, Option, ap, sym, subst, ◌∙◌}
use Rattle.rz_rules.specs.declared.kinds.Role.TheVariants.{Variable}
use Rattle.rz_rules.specs.Form.{form}
use Rattle.rz_rules.specs.Tree.{Tree, kind_at}
use Rattle.rz_pool.specs.Counts.{depth_of}
use Rattle.rz_subst.specs.declared.walk.Change.{Change}
use Rattle.rz_subst.specs.Walk.{IsAnswer}
use Rattle.rz_subst.proofs.Making.{IsNodeAt-copy, variable_fits, renumbered_form, renumbered_tree, replaced_answer}
use Rattle.rz_subst.proofs.going.change_variable.Goals as goal

pub make-requires : goal.make-requires
make-requires g c =
    let nodes = c.args.pool.now.nodes in
    let node = c.in_ok-node.node in
    let space = c.args.space in
    let changes = g.C.Changing.changes c.args.changing.now nodes in
    let known = IsNodeAt-copy nodes c.args.place c.node.result.now node c.node.ensures.node c.node.ensures.tree c.node.ensures.form c.in_ok-node.ensures in
    let role : (form node.kind).role ≡ Variable space = ap (λ (t : Tree). (form (kind_at t)).role) (sym known.tree) ∙ c.requires.variable in
    let new = c.variable.new.pool.nodes in
    let is = subst (λ (a : Option Change). IsAnswer new a (changes space (depth_of c.args.place.depth) node.number))
    (c.in-Some-Renumbered.is ∙ ap Some c.in-Some-Renumbered.field-0-is) c.in_ok-variable.ensures.change in
    renumbered_form changes nodes c.args.place node known space role new c.in-Some-Renumbered.number is

pub returns-in-None-clause-look : goal.returns-in-None-clause-look
returns-in-None-clause-look g c fits =
    let nodes = c.args.pool.now.nodes in
    let node = c.in_ok-node.node in
    let space = c.args.space in
    let changes = g.C.Changing.changes c.args.changing.now nodes in
    let known = IsNodeAt-copy nodes c.args.place c.node.result.now node c.node.ensures.node c.node.ensures.tree c.node.ensures.form c.in_ok-node.ensures in
    let role : (form node.kind).role ≡ Variable space = ap (λ (t : Tree). (form (kind_at t)).role) (sym known.tree) ∙ c.requires.variable in
    let large = subst (λ (a : Option Change). IsAnswer c.variable.new.pool.nodes a (changes space (depth_of c.args.place.depth) node.number))
    c.in-None.is c.in_ok-variable.ensures.change in
    large (variable_fits changes nodes c.args.place node known space role fits)

pub returns-in_ok-make-in-Some-Renumbered-clause-look : goal.returns-in_ok-make-in-Some-Renumbered-clause-look
returns-in_ok-make-in-Some-Renumbered-clause-look g c =
    let nodes = c.args.pool.now.nodes in
    let node = c.in_ok-node.node in
    let space = c.args.space in
    let changes = g.C.Changing.changes c.args.changing.now nodes in
    let known = IsNodeAt-copy nodes c.args.place c.node.result.now node c.node.ensures.node c.node.ensures.tree c.node.ensures.form c.in_ok-node.ensures in
    let role : (form node.kind).role ≡ Variable space = ap (λ (t : Tree). (form (kind_at t)).role) (sym known.tree) ∙ c.requires.variable in
    let new = c.variable.new.pool.nodes in
    let is = subst (λ (a : Option Change). IsAnswer new a (changes space (depth_of c.args.place.depth) node.number))
    (c.in-Some-Renumbered.is ∙ ap Some c.in-Some-Renumbered.field-0-is) c.in_ok-variable.ensures.change in
    let same = renumbered_tree changes nodes c.args.place node known space role new c.in-Some-Renumbered.number is in
    (c.in_ok-make-in-Some-Renumbered.ensures.within, c.in_ok-make-in-Some-Renumbered.ensures.tree ∙ same)

pub returns-in-Some-Replaced-clause-look : goal.returns-in-Some-Replaced-clause-look
returns-in-Some-Replaced-clause-look g c =
    let nodes = c.args.pool.now.nodes in
    let node = c.in_ok-node.node in
    let space = c.args.space in
    let changes = g.C.Changing.changes c.args.changing.now nodes in
    let known = IsNodeAt-copy nodes c.args.place c.node.result.now node c.node.ensures.node c.node.ensures.tree c.node.ensures.form c.in_ok-node.ensures in
    let role : (form node.kind).role ≡ Variable space = ap (λ (t : Tree). (form (kind_at t)).role) (sym known.tree) ∙ c.requires.variable in
    let new = c.variable.new.pool.nodes in
    let is = subst (λ (a : Option Change). IsAnswer new a (changes space (depth_of c.args.place.depth) node.number))
    (c.in-Some-Replaced.is ∙ ap Some c.in-Some-Replaced.field-0-is) c.in_ok-variable.ensures.change in
    replaced_answer changes nodes c.args.place node known space role new c.in-Some-Replaced.id is
