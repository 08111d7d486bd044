use Rattle.std.proofs.Common.{refl, sym}
use Rattle.rz_subst.specs.Walk.{reach_of}
use Rattle.rz_subst.proofs.Staying.{answer-beyond}
use Rattle.rz_subst.proofs.going.look_at.Goals as goal

pub returns-then-is_beyond-clause-look : goal.returns-then-is_beyond-clause-look
returns-then-is_beyond-clause-look g c =
    let nodes = c.args.pool.now.nodes in
    (c.requires.live, sym (answer-beyond (reach_of c.args.walk.now.reach) (g.C.Changing.changes c.args.changing.now nodes) c.requires.keeps.within nodes c.args.place (c.if-is_beyond.ensures.beyond.0 refl)))

pub returns-in-Some-clause-look : goal.returns-in-Some-clause-look
returns-in-Some-clause-look g c =
    let was = c.requires.made c.args.place c.in-Some.id c.in-Some.ensures in
    (was.within, was.tree)
