use Rattle.std.proofs.Common.{nat_eq, refl, arith}
use Rattle.std.specs.HashMap.{get}
use Rattle.rz_rules.specs.Tree.{tree_of}
use Rattle.rz_pool.proofs.Copying.{HasForm-copy, tree_of-copy, Adds-made}
use Rattle.rz_pool.proofs.pool.Pool.copy_node.Goals as goal

pub copied_kids-requires : goal.copied_kids-requires
copied_kids-requires c k d l = let h = c.requires.kids c.node-node.result.now c.node-node.ensures.node k d l in rw h.1 refl

pub make-requires : goal.make-requires
make-requires c =
    let form =
    HasForm-copy c.args.self.now.nodes c.args.to.now.nodes (get nat_eq c.args.copies.now) c.node-node.result.now
    (c.requires.kids c.node-node.result.now c.node-node.ensures.node) c.in_ok-copy.field-0 c.copied_kids.result c.in_ok-copy.ensures c.copied_kids.ensures
    c.args.id c.node-node.ensures.form in
    record {
      kids = form.kids;
      sorts = form.sorts;
      label = record {
        small = omega (arith, form.label.small);
        unnumbered = λ e. omega (arith, form.label.unnumbered e);
        unnamed = form.label.unnamed;
        named = form.label.named;
      };
    }

pub returns-clause-tree : goal.returns-clause-tree
returns-clause-tree c =
    tree_of-copy c.args.self.now.nodes c.args.to.now.nodes (get nat_eq c.args.copies.now) c.node-node.result.now
    (c.requires.kids c.node-node.result.now c.node-node.ensures.node) c.in_ok-copy.field-0 c.copied_kids.result c.in_ok-copy.ensures c.copied_kids.ensures
    c.make.result c.make.new.self.nodes (tree_of c.args.self.now.nodes c.args.id) _ (omega arith) c.node-node.ensures.tree c.make.ensures.tree

pub returns-clause-adds : goal.returns-clause-adds
returns-clause-adds c =
    Adds-made c.make.result c.args.to.now.nodes _ c.make.new.self.nodes (tree_of c.args.self.now.nodes c.args.id) c.make.ensures.makes
    (tree_of-copy c.args.self.now.nodes c.args.to.now.nodes (get nat_eq c.args.copies.now) c.node-node.result.now
    (c.requires.kids c.node-node.result.now c.node-node.ensures.node) c.in_ok-copy.field-0 c.copied_kids.result c.in_ok-copy.ensures c.copied_kids.ensures
    c.make.result c.make.new.self.nodes (tree_of c.args.self.now.nodes c.args.id) _ (omega arith) c.node-node.ensures.tree c.make.ensures.tree)
    c.make.ensures.err
