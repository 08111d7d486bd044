-- Where a term steps within eliminators around it.
use Rattle.std.specs.Prelude.{◌≡◌, List, [], ◌∷◌, None}
use Rattle.rz_rules.specs.Tree.{Tree}
use Rattle.rz_rules.specs.Validity.{Invalid, entailment}
use Rattle.rz_reduction.specs.Terms.{put_point}
use Rattle.rz_reduction.specs.Views.{Eliminator, AppliedAt, whole, introduction}
use Rattle.rz_reduction.specs.Step.{meeting, Step, New, Ask, Split, Clash, NoStep}

-- where a function on a shape is applied to a point, the face is asked for the point, and is invalid: neither valid nor too wide
abbrev pub IsOffFace : Tree → Eliminator → Type 0
IsOffFace C (AppliedAt I psi A phi a s) = entailment C (put_point s phi) ≡ Invalid
IsOffFace C e = Unit {0}

abbrev pub AreOffFaces : Tree → List Eliminator → Type 0
AreOffFaces C [] = Unit {0}
AreOffFaces C (e ∷ es) = IsOffFace C e × AreOffFaces C es

-- the innermost of the eliminators around a term doesn't meet it
abbrev pub DoesNotMeet : Tree → Tree → List Eliminator → Type 0
DoesNotMeet C t [] = Unit {0}
DoesNotMeet C t (e ∷ es) = meeting C e (introduction t) ≡ None

-- the step of a term as the step of what eliminators make of it
abbrev pub step_inside : List Eliminator → Step → Step
step_inside es (New tree) = New (whole tree es)
step_inside es (Ask q) = Ask q
step_inside es (Split phi psi) = Split phi psi
step_inside es (Clash left right) = Clash left right
step_inside es (Step.Over count) = Step.Over count
step_inside es NoStep = NoStep
