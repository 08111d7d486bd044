use Rattle.std.proofs.Common.{◌≡◌, drop}
use Rattle.rz_io.specs.Device.{told_by}
use Rattle.rz_io.proofs.lookup.find.Given as goal

-- the files that are left tell what all tell
abbrev pub invariant-loop-file : goal.invariant-loop-file
invariant-loop-file l = told_by (drop l.file-index l.files) l.name ≡ told_by l.files l.name
