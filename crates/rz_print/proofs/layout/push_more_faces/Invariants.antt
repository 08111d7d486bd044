use Rattle.std.proofs.Common.{◌≡◌, ◌++◌, drop}
use Rattle.rz_print.specs.Layout.{more_faces}
use Rattle.rz_print.proofs.layout.push_more_faces.Given as goal

abbrev pub invariant-loop-face : goal.invariant-loop-face
invariant-loop-face l =
    l.pieces ++ more_faces (drop l.face-index l.faces) ≡ l.initial.pieces ++ more_faces l.faces
