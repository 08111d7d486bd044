-- A step inside eliminators is the step of the term within, while no face holds and nothing meets.
use Rattle.std.proofs.Common.{◌≡◌, ℕ, List, [], ◌∷◌, Some, None, refl, ap, ◌∙◌}
use Rattle.rz_rules.specs.Tree.{Tree}
use Rattle.rz_reduction.specs.Terms.{put_point}
use Rattle.rz_reduction.specs.Views.{Eliminator, Applied, FirstOf, SecondOf, Induced, AppliedAt, elimination, introduction, whole}
use Rattle.rz_reduction.specs.Step.{Redex, Normal, Contracts, Splits, redex, meeting, inside, or_inside, where_valid, Next, AllAgree, Compare, Disagree, PointsDisagree, next_piece, step_by_next, step_by_redex, step}
use Rattle.rz_reduction.specs.Place.{IsOffFace, AreOffFaces, DoesNotMeet, step_inside}

-- an eliminated term is no introduction
nothing_meets : (C : Tree) (e e' : Eliminator) (t : Tree) → meeting C e (introduction (elimination e' t)) ≡ None
nothing_meets C (Applied A B a) (Applied A' B' a') t = refl
nothing_meets C (Applied A B a) e' t = refl
nothing_meets C (FirstOf A B) (Applied A' B' a') t = refl
nothing_meets C (FirstOf A B) e' t = refl
nothing_meets C (SecondOf A B) (Applied A' B' a') t = refl
nothing_meets C (SecondOf A B) e' t = refl
nothing_meets C (Induced A a M d b) (Applied A' B' a') t = refl
nothing_meets C (Induced A a M d b) e' t = refl
nothing_meets C (AppliedAt I psi A phi a s) (Applied A' B' a') t = refl
nothing_meets C (AppliedAt I psi A phi a s) e' t = refl

pub elimination_does_not_meet : (C t : Tree) (e : Eliminator) (es : List Eliminator) → DoesNotMeet C (elimination e t) es
elimination_does_not_meet C t e [] = tt
elimination_does_not_meet C t e (e' ∷ es) = nothing_meets C e' e t

-- one eliminator
redex_inside : (C : Tree) (e : Eliminator) (t : Tree) → IsOffFace C e
    → redex C (elimination e t) ≡ or_inside (meeting C e (introduction t)) e (redex C t)
redex_inside C (AppliedAt I psi A phi a s) t off =
    let e = AppliedAt I psi A phi a s in
    ap (λ x. where_valid x (put_point s a) (or_inside (meeting C e (introduction t)) e (redex C t))) off
redex_inside C (Applied A B a) t off = refl
redex_inside C e t off = refl

inside_none : (redex : Redex) → redex ≡ inside [] redex
inside_none Normal = refl
inside_none (Contracts pieces tree) = refl
inside_none (Splits phi psi) = refl
inside_none (Redex.Over count) = refl

inside_more : (e : Eliminator) (es : List Eliminator) (redex : Redex) → inside es (inside (e ∷ []) redex) ≡ inside (e ∷ es) redex
inside_more e es Normal = refl
inside_more e es (Contracts pieces tree) = refl
inside_more e es (Splits phi psi) = refl
inside_more e es (Redex.Over count) = refl

pub redex_at_place : (C t : Tree) (es : List Eliminator) → AreOffFaces C es → DoesNotMeet C t es → redex C (whole t es) ≡ inside es (redex C t)
redex_at_place C t [] off free = inside_none (redex C t)
redex_at_place C t (e ∷ es) off free =
    redex_at_place C (elimination e t) es off.1 (elimination_does_not_meet C t e es)
    ∙ ap (inside es) (redex_inside C e t off.0 ∙ ap (λ m. or_inside m e (redex C t)) free)
    ∙ inside_more e es (redex C t)

pub redex_at_meeting : (C t : Tree) (e : Eliminator) (es : List Eliminator) (found : Redex) → AreOffFaces C (e ∷ es)
    → meeting C e (introduction t) ≡ Some found → redex C (whole t (e ∷ es)) ≡ inside es found
redex_at_meeting C t e es found off meets =
    redex_at_place C (elimination e t) es off.1 (elimination_does_not_meet C t e es)
    ∙ ap (inside es) (redex_inside C e t off.0 ∙ ap (λ m. or_inside m e (redex C t)) meets)

next_inside : (next : Next) (tree : Tree) (es : List Eliminator) → step_by_next next (whole tree es) ≡ step_inside es (step_by_next next tree)
next_inside AllAgree tree es = refl
next_inside (Compare q) tree es = refl
next_inside (Disagree piece) tree es = refl
next_inside (PointsDisagree piece) tree es = refl
next_inside (Next.Over count) tree es = refl

step_of_inside : (redex : Redex) (es : List Eliminator) (answered : ℕ)
    → step_by_redex (inside es redex) answered ≡ step_inside es (step_by_redex redex answered)
step_of_inside Normal es answered = refl
step_of_inside (Contracts pieces tree) es answered = next_inside (next_piece answered pieces) tree es
step_of_inside (Splits phi psi) es answered = refl
step_of_inside (Redex.Over count) es answered = refl

pub step_at_place : (C t : Tree) (es : List Eliminator) (answered : ℕ) → AreOffFaces C es → DoesNotMeet C t es
    → step C (whole t es) answered ≡ step_inside es (step C t answered)
step_at_place C t es answered off free =
    ap (λ r. step_by_redex r answered) (redex_at_place C t es off free) ∙ step_of_inside (redex C t) es answered
