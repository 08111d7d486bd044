use Rattle.rz_lemmas.proofs.Walking.{has_entry, walk_on}
use Rattle.rz_lemmas.proofs.places.cut.Goals as goal

pub unreachable-requires : goal.unreachable-requires
unreachable-requires c =
    has_entry c.args.pool.now.nodes c.args.context c.args.number c.loop-left.found c.loop-left.left c.loop-left.invariant c.loop-left-test.true
    c.requires.enough.0 c.requires.enough.1 c.requires.enough.2 c.in_default.ensures.none

pub loop-left-preserved : goal.loop-left-preserved
loop-left-preserved c =
    walk_on c.args.pool.now.nodes c.args.context c.args.number c.loop-left.found c.loop-left.left c.loop-left.invariant c.loop-left-test.true
    c.in-Some.last c.in-Some.ensures.last c.in_ok-deeper.field-0 c.in_ok-deeper.ensures
