use Rattle.std.proofs.Common.{refl, sym, ap, inl, subst}
use Rattle.std.proofs.lemmas.Result.{err_from_is_err_and}
use Rattle.rz_pool.specs.Kept.{pairs_of}
use Rattle.rz_pool.specs.Pool.{Contents}
use Rattle.rz_pool.proofs.Nodes.{tree_of_place}
use Rattle.rz_pool.proofs.Sets.{Entries, Holds, Holds-made, new_node, IsMade, IsMade-insert}
use Rattle.rz_pool.proofs.pool.Pool.make.Goals as goal
use Rattle.rz_pool.proofs.pool.Pool.make.Goals.{In_ok-id}

pub returns-in-Some-clause-makes : goal.returns-in-Some-clause-makes
returns-in-Some-clause-makes c = inl (refl, c.in-Some.ensures.found)

pub returns-in-Some-clause-tree : goal.returns-in-Some-clause-tree
returns-in-Some-clause-tree c = tree_of_place c.args.self.now.nodes c.in-Some.ensures.pool.forms c.in-Some.id c.args.node c.in-Some.ensures.found

-- what the table's insertion made
made : (c : In_ok-id) → IsMade c.args.self.now.nodes c.args.node c.insert_full.new.self.entries c.in_ok-id.id
made c =
    IsMade-insert c.self.inside.nodes.entries c.args.self.now.nodes c.args.node c.spans_of-spans.result c.insert_full.new.self.entries c.in_ok-id.id c.in_ok-id.id refl
    (ap (λ (v : Contents). v.nodes) c.self.view_is) (c.self.invariant.0, c.self.invariant.1) c.requires c.spans_of-spans.ensures c.in_ok-id.ensures.entries c.in_ok-id.ensures.index

pub returns-clause-makes : goal.returns-clause-makes
returns-clause-makes c = (made c).makes

pub returns-clause-tree : goal.returns-clause-tree
returns-clause-tree c = (made c).tree

pub returns-clause-grows : goal.returns-clause-grows
returns-clause-grows c = (made c).grows

pub returns-clause-pool : goal.returns-clause-pool
returns-clause-pool c = (made c).kept.0

pub invariant_of-self : goal.invariant_of-self
invariant_of-self c = subst (λ (es : Entries). Holds es (pairs_of c.self.inside.kept.table)) (sym c.in_err-id.ensures.err) c.self.invariant

pub invariant_of-self-2 : goal.invariant_of-self-2
invariant_of-self-2 c =
    Holds-made c.self.inside.nodes.entries c.args.self.now.nodes c.args.node c.insert_full.new.self.entries c.in_ok-id.id (pairs_of c.self.inside.kept.table)
    (ap (λ (v : Contents). v.nodes) c.self.view_is) c.self.invariant (made c)

pub returns-in_err-id-clause-absent : goal.returns-in_err-id-clause-absent
returns-in_err-id-clause-absent c =
    let p = err_from_is_err_and c.from_residual.result c.from_residual.ensures.1 in
    rw p.1 (new_node c.args.node c.self.inside.nodes.entries c.args.self.now.nodes (ap (λ (v : Contents). v.nodes) c.self.view_is) c.in_err-id.ensures.absent)
