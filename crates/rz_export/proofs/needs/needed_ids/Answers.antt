use Rattle.std.proofs.Common.{◌<◌, ℕ, List, length, All, sym, subst, ◌∙◌}
use Rattle.std.specs.Prelude.{◌↔◌, Contains, IfOk}
use Rattle.rz_export.specs.Needs.{IsNeeded}
use Rattle.rz_export.proofs.Needing.{named_live}
use Rattle.rz_export.proofs.needs.needed_ids.Goals as goal

pub parts_of-requires : goal.parts_of-requires
parts_of-requires c =
    subst (All (λ id. id < length c.args.w.now.pool.nodes)) (sym (c.as_slice.ensures ∙ c.in_ok-named.ensures))
    (named_live c.args.w.now c.requires.sound c.args.steps.now)

pub returns-clause-exact : goal.returns-clause-exact
returns-clause-exact c =
    subst (λ (named : List ℕ). IfOk c.parts_of.result (λ ids. (id : ℕ) → Contains ids id ↔ IsNeeded c.args.w.now.pool.nodes named id))
    (c.as_slice.ensures ∙ c.in_ok-named.ensures) c.parts_of.ensures.exact
