use Rattle.rz_rules.specs.Tree.{tree_of}
use Rattle.rz_tope_normal.proofs.TopeParts.{first_among, first_known, second_among, second_known, two_made}
use Rattle.rz_tope_normal.proofs.reader.Reader.form.Goals as goal

pub side-left-requires-clause-known : goal.side-left-requires-clause-known
side-left-requires-clause-known c =
    first_known c.args.pool.now.nodes (tree_of c.args.pool.now.nodes c.args.setting.now.context) c.args.list.now c.args.setting.now c.args.proof.now
    c.args.self.now c.requires.reader c.args.id c.requires.id c.node-node.result.now c.node-node.ensures.node c.node-node.ensures.tree
    c.node-node.ensures.form
    c.requires.kids c.requires.fine
    c.two_kids-first-in-AtMost.result.0 c.two_kids-first-in-AtMost.result.1 c.two_kids-first-in-AtMost.ensures c.in-AtMost.is

pub side-left-requires-clause-among : goal.side-left-requires-clause-among
side-left-requires-clause-among c =
    first_among c.args.pool.now.nodes (tree_of c.args.pool.now.nodes c.args.setting.now.context) c.args.list.now c.args.setting.now c.args.proof.now
    c.args.self.now c.requires.reader c.args.id c.requires.id c.node-node.result.now c.node-node.ensures.node c.node-node.ensures.tree
    c.node-node.ensures.form
    c.requires.kids c.requires.fine
    c.two_kids-first-in-AtMost.result.0 c.two_kids-first-in-AtMost.result.1 c.two_kids-first-in-AtMost.ensures c.in-AtMost.is

pub side-right-requires-clause-known : goal.side-right-requires-clause-known
side-right-requires-clause-known c =
    second_known c.args.pool.now.nodes (tree_of c.args.pool.now.nodes c.args.setting.now.context) c.args.list.now c.args.setting.now c.args.proof.now
    c.args.self.now c.requires.reader c.args.id c.requires.id c.node-node.result.now c.node-node.ensures.node c.node-node.ensures.tree
    c.node-node.ensures.form
    c.requires.kids c.requires.fine
    c.two_kids-first-in-AtMost.result.0 c.two_kids-first-in-AtMost.result.1 c.two_kids-first-in-AtMost.ensures c.in-AtMost.is

pub side-right-requires-clause-among : goal.side-right-requires-clause-among
side-right-requires-clause-among c =
    second_among c.args.pool.now.nodes (tree_of c.args.pool.now.nodes c.args.setting.now.context) c.args.list.now c.args.setting.now c.args.proof.now
    c.args.self.now c.requires.reader c.args.id c.requires.id c.node-node.result.now c.node-node.ensures.node c.node-node.ensures.tree
    c.node-node.ensures.form
    c.requires.kids c.requires.fine
    c.two_kids-first-in-AtMost.result.0 c.two_kids-first-in-AtMost.result.1 c.two_kids-first-in-AtMost.ensures c.in-AtMost.is

pub returns-in-Conjunction-clause-made : goal.returns-in-Conjunction-clause-made
returns-in-Conjunction-clause-made c =
    two_made c.args.pool.now.nodes (tree_of c.args.pool.now.nodes c.args.setting.now.context) c.args.list.now c.args.setting.now c.args.proof.now
    c.args.self.now c.requires.reader c.args.id c.requires.id c.node-node.result.now c.node-node.ensures.node c.node-node.ensures.tree
    c.node-node.ensures.form
    c.requires.kids c.requires.fine
    c.two_kids-first.result.0 c.two_kids-first.result.1 c.two_kids-first.ensures
    c.index-left.result.now c.index-right.result.now c.index-left.ensures c.index-right.ensures

pub returns-in-Disjunction-clause-made : goal.returns-in-Disjunction-clause-made
returns-in-Disjunction-clause-made c =
    two_made c.args.pool.now.nodes (tree_of c.args.pool.now.nodes c.args.setting.now.context) c.args.list.now c.args.setting.now c.args.proof.now
    c.args.self.now c.requires.reader c.args.id c.requires.id c.node-node.result.now c.node-node.ensures.node c.node-node.ensures.tree
    c.node-node.ensures.form
    c.requires.kids c.requires.fine
    c.two_kids-first-in-Disjunction.result.0 c.two_kids-first-in-Disjunction.result.1 c.two_kids-first-in-Disjunction.ensures
    c.index-left-in-Disjunction.result.now c.index-right-in-Disjunction.result.now c.index-left-in-Disjunction.ensures
    c.index-right-in-Disjunction.ensures
