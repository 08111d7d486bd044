use Rattle.std.proofs.Common.{◌≡◌, ◌<◌, length, refl, sym, ap, subst, ◌∙◌}
use Rattle.rz_rules.specs.Tree.{tree_of}
use Rattle.rz_rules.specs.Context.{OfTope, with_entry}
use Rattle.rz_rules.specs.Substitution.{weakened}
use Rattle.rz_pool.specs.declared.entries.Entry.{Entry}
use Rattle.rz_pool.specs.Entry.{IsEntryAt, entry_over}
use Rattle.rz_tope_normal.proofs.Passing.{past_point, past_term, past_tope, walk_stays}
use Rattle.rz_tope_normal.proofs.Staying.{live_stays, tree_stays}
use Rattle.rz_tope_normal.proofs.hypotheses.pass.Goals as goal

pub returns-in_ok-points-in-Cube-clause-walk : goal.returns-in_ok-points-in-Cube-clause-walk
returns-in_ok-points-in-Cube-clause-walk c whole is topes =
    let ns = c.args.pool.now.nodes in
    let last = c.requires.last in
    past_point ns whole c.args.walk is c.args.last.before last.before.0 c.in_ok-number.number c.in_ok-number.ensures
    (record { points = c.in_ok-points-in-Cube.points; terms = c.args.walk.behind.terms }) (tree_of ns c.in-Cube.field-0)
    (last.tree ∙ ap (λ (e : Entry). with_entry (tree_of ns c.args.last.before) (entry_over ns e)) c.in-Cube.is) c.in_ok-points-in-Cube.ensures refl

pub returns-in_ok-terms-in-Term-clause-walk : goal.returns-in_ok-terms-in-Term-clause-walk
returns-in_ok-terms-in-Term-clause-walk c whole is topes =
    let ns = c.args.pool.now.nodes in
    let last = c.requires.last in
    past_term ns whole c.args.walk is c.args.last.before last.before.0 c.in_ok-number.number c.in_ok-number.ensures
    (record { points = c.args.walk.behind.points; terms = c.in_ok-terms-in-Term.terms }) (tree_of ns c.in-Term.field-0)
    (last.tree ∙ ap (λ (e : Entry). with_entry (tree_of ns c.args.last.before) (entry_over ns e)) c.in-Term.is) refl c.in_ok-terms-in-Term.ensures

pub returns-in_ok-push-in-Tope-clause-walk : goal.returns-in_ok-push-in-Tope-clause-walk
returns-in_ok-push-in-Tope-clause-walk c whole is topes =
    let old = c.args.pool.now.nodes in
    let new = c.deepen.new.pool.nodes in
    let made = c.in_ok-tope-in-Tope.ensures in
    let grows = made.grows in
    let last = c.requires.last in
    let before = c.args.last.before in
    let stated = c.in-Tope.stated in
    let here = subst (λ (e : Entry). IsEntryAt old e) c.in-Tope.is last.entry in
    let live : before < length old = last.before.0 in
    let tree : tree_of new c.args.walk.at ≡ with_entry (tree_of new before) (OfTope (tree_of new stated)) =
    tree_stays old new grows c.args.walk.at c.requires.live ∙ last.tree ∙ ap (λ (e : Entry). with_entry (tree_of old before) (entry_over old e)) c.in-Tope.is
    ∙ (λ i. with_entry (sym (tree_stays old new grows before live) i) (OfTope (sym (tree_stays old new grows stated here.0) i))) in
    past_tope new whole c.args.walk (record { at = before; number = c.in_ok-number.number; behind = c.args.walk.behind; list = c.push.new.self })
    (walk_stays old new grows whole c.args.walk is) (live_stays old new grows before live) c.in_ok-number.ensures refl stated
    c.in_ok-tope-in-Tope.tope made.within tree
    (made.tree ∙ ap (weakened _) (sym (tree_stays old new grows stated here.0))) topes c.in_ok-push-in-Tope.ensures.items
