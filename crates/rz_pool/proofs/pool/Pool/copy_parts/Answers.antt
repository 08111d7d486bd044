use Rattle.std.proofs.Common.{nat_eq, subst}
use Rattle.std.specs.HashMap.{get}
use Rattle.rz_pool.proofs.Copying.{IsCopying, IsCopying-start, last_kids, Adds-copy, IsCopying-pop}
use Rattle.rz_pool.proofs.pool.Pool.copy_parts.Goals as goal

pub loop-part-init : goal.loop-part-init
loop-part-init c = IsCopying-start c.args.self.now.nodes c.args.id (get nat_eq c.with_hasher-copies.result) c.args.to.now.nodes c.args.parts.items c.requires

pub copy_node-requires-clause-kids : goal.copy_node-requires-clause-kids
copy_node-requires-clause-kids c =
    let from = c.args.self.now.nodes in
    let copies = get nat_eq c.loop-part.copies in
    let old = c.args.to.now.nodes in
    let to = c.loop-part.to.nodes in
    last_kids from c.args.id copies old to c.pop.new.self.items c.in-Some.part
    (subst (IsCopying from c.args.id copies old to) c.in-Some.ensures.items c.loop-part.invariant)

pub returns-in_err-copy-clause-adds : goal.returns-in_err-copy-clause-adds
returns-in_err-copy-clause-adds c =
    let from = c.args.self.now.nodes in
    let copies = get nat_eq c.loop-part.copies in
    let old = c.args.to.now.nodes in
    let to = c.loop-part.to.nodes in
    Adds-copy from c.args.id copies old to c.pop.new.self.items c.in-Some.part
    (subst (IsCopying from c.args.id copies old to) c.in-Some.ensures.items c.loop-part.invariant)
    c.copy_node.new.to.nodes c.in_err-copy.ensures.adds

pub loop-part-preserved : goal.loop-part-preserved
loop-part-preserved c =
    let from = c.args.self.now.nodes in
    let copies = get nat_eq c.loop-part.copies in
    let old = c.args.to.now.nodes in
    let to = c.loop-part.to.nodes in
    IsCopying-pop from c.args.id copies old to c.pop.new.self.items c.in-Some.part
    (subst (IsCopying from c.args.id copies old to) c.in-Some.ensures.items c.loop-part.invariant)
    (get nat_eq c.insert.new.self) c.copy_node.new.to.nodes c.in_ok-copy.copy
    c.in_ok-copy.ensures.within c.in_ok-copy.ensures.tree c.in_ok-copy.ensures.adds c.in_ok-insert.ensures.updates.0

pub returns-in_err-insert-clause-adds : goal.returns-in_err-insert-clause-adds
returns-in_err-insert-clause-adds c =
    let from = c.args.self.now.nodes in
    let copies = get nat_eq c.loop-part.copies in
    let old = c.args.to.now.nodes in
    let to = c.loop-part.to.nodes in
    Adds-copy from c.args.id copies old to c.pop.new.self.items c.in-Some.part
    (subst (IsCopying from c.args.id copies old to) c.in-Some.ensures.items c.loop-part.invariant)
    c.copy_node.new.to.nodes c.in_ok-copy.ensures.adds
