use Rattle.std.proofs.Common.{◌≡◌, ℕ, ◌+◌, ◌<◌, arith, ap, ◌∙◌, sym, refl, List, [], length, take, slice_get, subst}
use Rattle.std.proofs.lemmas.Bool.{eqb-true, eqb-false}
use Rattle.rz_syntax.specs.declared.action.Step.{Step}
use Rattle.rz_syntax.specs.declared.engine.Thread.{Thread}
use Rattle.rz_syntax.specs.Grammar.{Gives, kinds_of}
use Rattle.rz_syntax.specs.Threads.{way_at, live_ways, Way, Reaches}
use Rattle.rz_syntax.proofs.Weaving.{ways-length, no_ways, no_item, first_way}
use Rattle.rz_syntax.proofs.Reading.{reaches_start, reaches_next, stops_here, stops_at_end, gives_at_end}
use Rattle.rz_syntax.proofs.engine.read.Goals as goal

pub loop-number-init : goal.loop-number-init
loop-number-init c = record {
  sound = c.in_ok-begin.ensures.sound;
  idle = c.in_ok-begin.ensures.idle;
  alive = omega (arith, ap length c.in_ok-begin.ensures.live, ways-length c.begin.new.self);
  reaches = subst (λ (ws : List Way). Reaches c.args.rule [] ws) (sym c.in_ok-begin.ensures.live) (reaches_start c.args.rule);
}

pub returns-then-is_empty-clause-stop : goal.returns-then-is_empty-clause-stop
returns-then-is_empty-clause-stop c =
    stops_here c.args.rule c.args.tokens.now c.loop-number.number _ (live_ways c.loop-number.engine) (live_ways c.settle.new.self) c.loop-number-test.true c.loop-number.invariant.reaches
    (omega (arith, ways-length c.loop-number.engine, c.loop-number.invariant.alive)) c.in_ok-settle.ensures.keeps (no_ways c.settle.new.self (omega (arith, eqb-true _ _ (sym c.is_empty.ensures ∙ c.if-is_empty.true), c.settle.new.self.live.ok.0)))

pub loop-number-preserved : goal.loop-number-preserved
loop-number-preserved c =
    let some : 0 < length c.settle.new.self.live.items = omega (arith, eqb-false _ _ (sym c.is_empty.ensures ∙ c.if-is_empty.false), c.settle.new.self.live.ok.0) in
    let same = c.in_ok-forget.ensures.live in
    record {
      sound = c.in_ok-forget.ensures.sound;
      idle = c.in_ok-forget.ensures.idle;
      alive = omega (arith, some, ap length same, ways-length c.settle.new.self, ways-length c.forget.new.self);
      reaches = subst (λ (ws : List Way). Reaches c.args.rule (kinds_of (take (c.loop-number.number + 1) c.args.tokens.now)) ws) (sym same)
          (reaches_next c.args.rule c.args.tokens.now c.loop-number.number _ (live_ways c.loop-number.engine) (live_ways c.settle.new.self) c.loop-number-test.true c.loop-number.invariant.reaches c.in_ok-settle.ensures.keeps);
    }

pub returns-in-None-clause-stop : goal.returns-in-None-clause-stop
returns-in-None-clause-stop c =
    let whole : c.loop-number.number ≡ length c.args.tokens.now = omega (arith, c.loop-number-test.false, c.loop-number.auto.number-end) in
    let reaches : Reaches c.args.rule (kinds_of (take (length c.args.tokens.now) c.args.tokens.now)) (live_ways c.loop-number.engine) =
    subst (λ (n : ℕ). Reaches c.args.rule (kinds_of (take n c.args.tokens.now)) (live_ways c.loop-number.engine)) whole c.loop-number.invariant.reaches in
    stops_at_end c.args.rule c.args.tokens.now (length c.args.tokens.now) (live_ways c.loop-number.engine) (live_ways c.settle-2.new.self) refl reaches
    (omega (arith, ways-length c.loop-number.engine, c.loop-number.invariant.alive)) c.in_ok-settle-2.ensures.keeps
    (no_ways c.settle-2.new.self (ap length (sym c.deref.ensures.value ∙ no_item c.deref.result.now c.in-None.ensures.value)))

pub returns-clause-steps : goal.returns-clause-steps
returns-clause-steps c =
    let whole : c.loop-number.number ≡ length c.args.tokens.now = omega (arith, c.loop-number-test.false, c.loop-number.auto.number-end) in
    let first = first_way (way_at c.settle-2.new.self.symbols c.settle-2.new.self.steps) c.settle-2.new.self.live.items c.in-Some.thread.now (ap (λ (ts : List Thread). slice_get ts 0) (sym c.deref.ensures.value) ∙ sym c.in-Some.ensures.value) in
    subst (λ (steps : List Step). Gives c.args.rule (kinds_of c.args.tokens.now) steps) (sym c.in_ok-script-in-Some.ensures)
    (gives_at_end c.args.rule c.args.tokens.now c.loop-number.number (live_ways c.loop-number.engine) (live_ways c.settle-2.new.self) _ _ whole c.loop-number.invariant.reaches c.in_ok-settle-2.ensures.keeps (c.in_ok-settle-2.ensures.ended refl) first)
