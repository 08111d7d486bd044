use Rattle.std.proofs.Common.{◌≡◌, ap, ◌∙◌, sym, true, List}
use Rattle.rz_syntax.specs.declared.grammar.Symbol.{Symbol}
use Rattle.rz_syntax.specs.Lists.{list_at}
use Rattle.rz_syntax.specs.Threads.{begins}
use Rattle.rz_syntax.proofs.Linking.{grows_not}
use Rattle.rz_syntax.proofs.Weaving.{are_in_grow, are_in_pushed, ways-grow, ways-pushed}
use Rattle.rz_syntax.proofs.engine.Engine.open_one.Goals as goal

pub returns-in_ok-push-clause-sound : goal.returns-in_ok-push-clause-sound
returns-in_ok-push-clause-sound c = record {
  pending = are_in_pushed _ _ _ _ _ _ _ c.in_ok-symbols.ensures.grows (grows_not _) c.requires.sound.pending (record { symbols_in = c.in_ok-symbols.ensures.within; steps_in = c.requires.within.steps_in }) c.in_ok-push.ensures.items;
  live = are_in_grow _ _ _ _ _ c.in_ok-symbols.ensures.grows (grows_not _) c.requires.sound.live;
}

pub returns-in_ok-push-clause-live : goal.returns-in_ok-push-clause-live
returns-in_ok-push-clause-live c = ways-grow _ _ _ _ _ c.in_ok-symbols.ensures.grows (grows_not _) c.requires.sound.live

pub returns-in_ok-push-clause-pending : goal.returns-in_ok-push-clause-pending
returns-in_ok-push-clause-pending c =
    let e : begins c.args.one.now c.args.ahead ≡ true = sym c.may_begin.ensures ∙ c.if-may_begin.true in
    rw e (ways-pushed _ _ _ _ _ _ _ _ c.in_ok-symbols.ensures.grows (grows_not _) c.requires.sound.pending c.in_ok-push.ensures.items
    (ap (λ (l : List Symbol). (l, list_at c.args.self.now.steps c.args.thread.steps)) c.in_ok-symbols.ensures.added))
