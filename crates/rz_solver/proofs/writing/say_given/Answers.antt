use Rattle.std.proofs.Common.{◌≡◌, ℕ, ◌+◌, ap, ◌∙◌, subst, length}
use Rattle.rz_log.specs.World.{Says}
use Rattle.rz_lemmas.specs.Moves.{HasTope, hypothesis_of}
use Rattle.rz_solver.proofs.writing.say_given.Goals as goal

pub returns-clause-says : goal.returns-clause-says
returns-clause-says c =
    let w = c.args.w.now in
    let step = c.args.place.now.formed in
    let number : c.in-Some.number ≡ c.args.number + length c.args.place.now.assumed.items = c.in-Some.ensures.1 ∙ ap (λ l. c.args.number + length l) c.as_slice.ensures.value in
    subst (λ (n : ℕ). (tope : HasTope w step n) → Says c.hypothesis.new.w c.in_ok-step.step (hypothesis_of w step n tope)) number c.in_ok-step.ensures.says
