use Rattle.std.proofs.Common.{◌≡◌, Some, map, take}
use Rattle.std.specs.Prelude.{slice_get}
use Rattle.rz_drv.proofs.outlines.Outline.have_slots.Given as goal

-- the sorts so far are those that are asked for
abbrev pub invariant-loop-i : goal.invariant-loop-i
invariant-loop-i l = map (slice_get l.self.sorts.items) (take l.i l.ids) ≡ map (λ slot. Some slot.sort) (take l.i l.slots)
