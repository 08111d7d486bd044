use Rattle.std.proofs.Common.{◌≡◌, true, get_or, map, refl, sym, ap, subst, ◌∙◌, arith}
use Rattle.rz_rules.specs.declared.judgments.Line.{Line}
use Rattle.rz_rules.specs.Judgment.{ids_of}
use Rattle.rz_rules.specs.Derivation.{Step, Follows}
use Rattle.rz_kernel_rows.specs.Line.{statements_in}
use Rattle.rz_pool.proofs.Nodes.{length-Grows}
use Rattle.rz_kernel.proofs.Adding.{all_over, over_nodes, state_more}
use Rattle.rz_kernel.proofs.Judgments.{placed_over, placed_step}
use Rattle.rz_kernel.proofs.state.KernelState.take_step.Goals as goal

pub follows_with-requires-clause-line : goal.follows_with-requires-clause-line
follows_with-requires-clause-line c =
    placed_over c.args.self.now c.requires.state c.args.line c.requires.fits c.judgment_at-says.result c.judgment_at-says.ensures.kind (c.judgment_at-says.ensures.ids ∙ ap (λ places. map (λ id. get_or places id 0) (ids_of c.args.line.says)) c.deref.ensures.value)

pub returns-then-not-branch-clause-follows : goal.returns-then-not-branch-clause-follows
returns-then-not-branch-clause-follows c =
    let state = c.args.self.now in
    let step = placed_step state c.requires.state c.args.line c.requires.fits c.judgment_at-says.result c.judgment_at-says.ensures.kind (c.judgment_at-says.ensures.ids ∙ ap (λ places. map (λ id. get_or places id 0) (ids_of c.args.line.says)) c.deref.ensures.value) in
    let said = statements_in state.pool.nodes state.said.items in
    let tells = rw c.deref-2.ensures.value at c.in_ok-follows_with.ensures.follows in (
      λ h. absurd cc,
      λ follows. let sure : c.in_ok-follows_with.field-0 ≡ true = tells.1 (subst (λ (step : Step). Follows said step) (sym step) follows) in
          let no = c.if-not-branch.true in absurd cc,
    )

pub returns-clause-follows : goal.returns-clause-follows
returns-clause-follows c =
    let state = c.args.self.now in
    let step = placed_step state c.requires.state c.args.line c.requires.fits c.judgment_at-says.result c.judgment_at-says.ensures.kind (c.judgment_at-says.ensures.ids ∙ ap (λ places. map (λ id. get_or places id 0) (ids_of c.args.line.says)) c.deref.ensures.value) in
    let said = statements_in state.pool.nodes state.said.items in
    let tells = rw c.deref-2.ensures.value at c.in_ok-follows_with.ensures.follows in (
      λ h. subst (λ (step : Step). Follows said step) step (tells.0 c.if-not-branch.false),
      λ follows. refl,
    )

pub returns-clause-known : goal.returns-clause-known
returns-clause-known c =
    let state = c.args.self.now in
    let placed : Line = record { row = c.args.line.row; number = c.args.line.number; says = c.judgment_at-says.result; from = c.args.line.from } in
    let step = placed_step state c.requires.state c.args.line c.requires.fits c.judgment_at-says.result c.judgment_at-says.ensures.kind (c.judgment_at-says.ensures.ids ∙ ap (λ places. map (λ id. get_or places id 0) (ids_of c.args.line.says)) c.deref.ensures.value) in
    let over = placed_over state c.requires.state c.args.line c.requires.fits c.judgment_at-says.result c.judgment_at-says.ensures.kind (c.judgment_at-says.ensures.ids ∙ ap (λ places. map (λ id. get_or places id 0) (ids_of c.args.line.says)) c.deref.ensures.value) in
    state_more state c.follows_with.new.pool.nodes c.in_ok-follows_with.ensures.grows c.requires.state placed c.args.line over step c.requires.fits c.push.new.self.items c.in_ok-push.ensures.items

pub returns-clause-state : goal.returns-clause-state
returns-clause-state c =
    let state = c.args.self.now in
    let placed : Line = record { row = c.args.line.row; number = c.args.line.number; says = c.judgment_at-says.result; from = c.args.line.from } in
    let over = placed_over state c.requires.state c.args.line c.requires.fits c.judgment_at-says.result c.judgment_at-says.ensures.kind (c.judgment_at-says.ensures.ids ∙ ap (λ places. map (λ id. get_or places id 0) (ids_of c.args.line.says)) c.deref.ensures.value) in
    let is = over_nodes state c.follows_with.new.pool.nodes c.in_ok-follows_with.ensures.grows placed over c.requires.state c.push.new.self.items c.in_ok-push.ensures.items in
    record { places = is.0; said = is.1; known = c.in_ok-follows_with.ensures.known }

pub returns-then-not-branch-clause-state : goal.returns-then-not-branch-clause-state
returns-then-not-branch-clause-state c =
    let state = c.args.self.now in
    let new = c.follows_with.new.pool.nodes in
    let grows = c.in_ok-follows_with.ensures.grows in
    let longer = length-Grows state.pool.nodes new grows in
    record {
      places = λ k d lt. omega (arith, longer, c.requires.state.places k d lt);
      said = all_over state.pool.nodes new grows longer state.said.items c.requires.state.said;
      known = c.in_ok-follows_with.ensures.known;
    }
