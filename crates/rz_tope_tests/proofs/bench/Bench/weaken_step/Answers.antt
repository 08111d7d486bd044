use Rattle.std.proofs.Common.{◌≡◌, ◌<◌, ◌++◌, ◌∷◌, [], All, length, map, sym, ap, subst, ◌∙◌, arith}
use Rattle.std.proofs.lemmas.List.{length-append, map-append}
use Rattle.std.proofs.lemmas.List.Elements.{All-push}
use Rattle.std.proofs.lemmas.Option.{get_or_from_slice_get}
use Rattle.rz_rules.specs.declared.judgments.JudgmentKind.TheVariants.{Formed}
use Rattle.rz_rules.specs.File.{statement_at}
use Rattle.rz_rules.specs.Tree.{blank}
use Rattle.rz_pool.proofs.Nodes.{length-Grows}
use Rattle.rz_log.specs.World.{statements_in}
use Rattle.rz_tope_tests.specs.Bench.{moved, said}
use Rattle.rz_tope_tests.proofs.Picking.{can_weaken, said_kept, step_within, trees_kept}
use Rattle.rz_tope_tests.proofs.bench.Bench.weaken_step.Goals as goal

pub weaken-requires-clause-can : goal.weaken-requires-clause-can
weaken-requires-clause-can c =
    let self = c.args.self.now in
    let row = c.args.row.now in
    can_weaken self.w self.steps.items c.requires.bench.steps row.0 row.1 row.2 c.index-step.result.now c.index-formed.result.now
    c.index-step.ensures c.index-formed.ensures c.requires.can

pub returns-clause-bench : goal.returns-clause-bench
returns-clause-bench c =
    let self = c.args.self.now in
    let row = c.args.row.now in
    let grows = c.in_ok-new.ensures.grows in
    let new = c.weaken.new.w in
    let nodes = length-Grows self.w.pool.nodes new.pool.nodes grows.nodes in
    let lines = ap length grows.lines ∙ length-append self.w.log grows.added in
    let can = can_weaken self.w self.steps.items c.requires.bench.steps row.0 row.1 row.2 c.index-step.result.now c.index-formed.result.now
    c.index-step.ensures c.index-formed.ensures c.requires.can in
    record {
      sound = grows.sound;
      ids = λ k d l. omega (arith, c.requires.bench.ids k d l, nodes);
      steps = subst (All (λ step. step < length new.log)) (sym c.in_ok-push.ensures.items)
          (All-push (λ step. step < length new.log) self.steps.items c.in_ok-new.new
          (λ k d l. omega (arith, c.requires.bench.steps k d l, lines))
          (step_within new c.in_ok-new.new (moved (said self) row.0 row.1 row.2 c.requires.can) (c.in_ok-new.ensures.says can)));
    }

pub returns-clause-trees : goal.returns-clause-trees
returns-clause-trees c =
    let self = c.args.self.now in
    trees_kept self.w.pool.nodes c.weaken.new.w.pool.nodes c.in_ok-new.ensures.grows.nodes self.ids.items c.requires.bench.ids

pub returns-clause-said : goal.returns-clause-said
returns-clause-said c can =
    let self = c.args.self.now in
    let row = c.args.row.now in
    let new = c.weaken.new.w in
    let before = said_kept self.w new c.requires.bench.sound c.in_ok-new.ensures.grows self.steps.items c.requires.bench.steps in
    let here : statement_at (statements_in new) c.in_ok-new.new ≡ moved (said self) row.0 row.1 row.2 can =
    get_or_from_slice_get (statements_in new) c.in_ok-new.new (moved (said self) row.0 row.1 row.2 can) (record { kind = Formed; context = blank; parts = [] })
    (c.in_ok-new.ensures.says (can_weaken self.w self.steps.items c.requires.bench.steps row.0 row.1 row.2 c.index-step.result.now c.index-formed.result.now
    c.index-step.ensures c.index-formed.ensures can)) in
    ap (map (statement_at (statements_in new))) c.in_ok-push.ensures.items ∙ map-append (statement_at (statements_in new)) self.steps.items (c.in_ok-new.new ∷ [])
    ∙ (λ i. before i ++ here i ∷ [])
