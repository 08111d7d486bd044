use Rattle.std.proofs.Common.{◌≡◌, ℕ, List, Some, None, reverse, sym, ap, ◌∙◌}
use Rattle.rz_syntax.specs.declared.forms.Form.TheVariants as form
use Rattle.rz_tope_query.specs.Sequent.{place_of}
use Rattle.rz_tope_query.proofs.Naming.{bound_is}
use Rattle.rz_tope_query.proofs.names.bound_form.Goals as goal

pub returns-in-Some : goal.returns-in-Some
returns-in-Some c names has =
    let key = c.as_str.result.now in
    let found : Some c.in-Some.up ≡ place_of key (reverse names) = sym c.in-Some.is ∙ (c.copied.ensures ∙ (c.get.ensures.value ∙ has key)) in
    ap (λ (path : List ℕ). form.Bound c.in-Some.up path) c.new.ensures
    ∙ bound_is names c.in-Named.name key c.args.form (Some c.in-Some.up) c.in-Named.is c.as_str.ensures.value found

pub returns-in-None : goal.returns-in-None
returns-in-None c names has =
    let key = c.as_str.result.now in
    let found : None ≡ place_of key (reverse names) = sym c.in-None.is ∙ (c.copied.ensures ∙ (c.get.ensures.value ∙ has key)) in
    bound_is names c.in-Named.name key c.args.form None c.in-Named.is c.as_str.ensures.value found
