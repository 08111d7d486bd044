use Rattle.std.proofs.Common.{[], ◌∷◌, ◌++◌, List, ap, ◌∙◌}
use Rattle.rz_subst.specs.declared.tasks.Task.{Task}
use Rattle.rz_subst.specs.declared.tasks.Task.TheVariants.{Visit}
use Rattle.rz_subst.specs.declared.walk.Place.{Place}
use Rattle.rz_subst.proofs.Steps.{IsWalking-start}
use Rattle.rz_subst.proofs.going.Walk.new.Goals as goal

pub returns : goal.returns
returns c changes nodes keeps live =
    IsWalking-start changes nodes c.args.id _
    (c.in_ok-push.ensures.items ∙ (ap (λ (ts : List Task). ts ++ Visit c.top.result ∷ []) c.new-tasks.ensures.items ∙ ap (λ (p : Place). Visit p ∷ []) c.top.ensures))
    c.new.ensures.items c.new-2.ensures keeps live
