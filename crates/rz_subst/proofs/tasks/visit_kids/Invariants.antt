use Rattle.std.proofs.Common.{◌≡◌, ◌++◌, ◌∷◌, map, take}
use Rattle.rz_subst.specs.declared.tasks.Task.TheVariants.{Visit, Make}
use Rattle.rz_subst.specs.Walk.{kid_places, reach_of, shared_place}
use Rattle.rz_subst.proofs.tasks.visit_kids.Given as goal

abbrev pub invariant-loop-i : goal.invariant-loop-i
invariant-loop-i l =
    l.tasks.items ≡ l.fn.tasks.items ++ Make l.place ∷ map Visit (map (shared_place (reach_of l.reach) l.pool.nodes) (kid_places l.place l.slots (take l.i l.kids)))
