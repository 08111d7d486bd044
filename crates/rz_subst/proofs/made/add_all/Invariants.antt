use Rattle.std.proofs.Common.{ℕ, Contains, ◌⊎◌, take}
use Rattle.rz_subst.specs.declared.walk.Place.{Place}
use Rattle.rz_subst.specs.Made.{IsIn, answered}
use Rattle.rz_subst.proofs.made.add_all.Given as goal

abbrev pub invariant-loop-answered : goal.invariant-loop-answered
invariant-loop-answered l =
    (place : Place) (id : ℕ) → IsIn l.many place id → IsIn l.initial.many place id ⊎ Contains (take l.answered-index l.few) (answered place id)
