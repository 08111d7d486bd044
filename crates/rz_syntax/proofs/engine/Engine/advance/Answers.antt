use Rattle.std.proofs.Common.{◌≡◌, ◌+◌, ap, ◌∙◌, sym, refl, arith, List, [], ◌∷◌, ◌++◌, map, not, append-nil, subst}
use Rattle.rz_syntax.specs.declared.action.Step.{Step}
use Rattle.rz_syntax.specs.declared.action.Step.TheVariants.{Take, Act}
use Rattle.rz_syntax.specs.declared.grammar.Symbol.{Symbol}
use Rattle.rz_syntax.specs.declared.grammar.Symbol.TheVariants.{Sub}
use Rattle.rz_syntax.specs.Lists.{list_at}
use Rattle.rz_syntax.specs.Threads.{cost, costs, opened, way_at, pending_ways, live_ways, AreEnded}
use Rattle.rz_syntax.specs.Grammar.{alternatives}
use Rattle.rz_syntax.proofs.Linking.{grows_not, grows_one, list_at-last, last_in}
use Rattle.rz_syntax.proofs.Ways.{keeps_way, ended_way, left_way, taken_way, missed_way, does_way, replaced_way}
use Rattle.rz_syntax.proofs.Weaving.{are_in_grow, are_in_pushed, ways-grow, ways-pushed, costs-append, ended-push}
use Rattle.rz_syntax.proofs.Costs.{costs-rule}
use Rattle.rz_syntax.proofs.engine.Engine.advance.Goals as goal

pub returns-in_ok-push-clause-sound : goal.returns-in_ok-push-clause-sound
returns-in_ok-push-clause-sound c = record {
  pending = c.requires.sound.pending;
  live = are_in_pushed _ _ _ _ _ _ _ (grows_not _) (grows_not _) c.requires.sound.live c.requires.within c.in_ok-push.ensures.items;
}

pub returns-in_ok-push-clause-keeps : goal.returns-in_ok-push-clause-keeps
returns-in_ok-push-clause-keeps c =
    let way = way_at c.args.self.now.symbols c.args.self.now.steps c.args.thread in
    keeps_way c.args.ahead way (pending_ways c.args.self.now) (live_ways c.args.self.now) [] (way ∷ []) _ _
    (ended_way c.args.ahead way c.in_default.ensures.none (c.is_none.ensures ∙ ap not c.if-is_none.true))
    (sym (append-nil (pending_ways c.args.self.now)))
    (ways-pushed _ _ _ _ _ _ _ _ (grows_not _) (grows_not _) c.requires.sound.live c.in_ok-push.ensures.items refl)

pub returns-else-is_none-clause-keeps : goal.returns-else-is_none-clause-keeps
returns-else-is_none-clause-keeps c =
    let way = way_at c.args.self.now.symbols c.args.self.now.steps c.args.thread in
    keeps_way c.args.ahead way (pending_ways c.args.self.now) (live_ways c.args.self.now) [] [] _ _
    (left_way c.args.ahead way c.in_default.ensures.none (c.is_none.ensures ∙ ap not c.if-is_none.false))
    (sym (append-nil (pending_ways c.args.self.now))) (sym (append-nil (live_ways c.args.self.now)))

pub returns-in_ok-push-in-One-clause-sound : goal.returns-in_ok-push-in-One-clause-sound
returns-in_ok-push-in-One-clause-sound c =
    let added = c.in_ok-steps-in-One.ensures.added in
    let grown = grows_one _ _ _ added in
    let inside = last_in _ _ _ added in
    record {
      pending = are_in_grow _ _ _ _ _ (grows_not _) grown c.requires.sound.pending;
      live = are_in_pushed _ _ _ _ _ _ _ (grows_not _) grown c.requires.sound.live (record { symbols_in = omega (arith, c.in-Some.ensures.before, c.requires.within.symbols_in); steps_in = omega (arith, inside, c.in_ok-steps-in-One.ensures.number) }) c.in_ok-push-in-One.ensures.items;
    }

pub returns-in_ok-push-in-One-clause-keeps : goal.returns-in_ok-push-in-One-clause-keeps
returns-in_ok-push-in-One-clause-keeps c =
    let way = way_at c.args.self.now.symbols c.args.self.now.steps c.args.thread in
    let added = c.in_ok-steps-in-One.ensures.added in
    let grown = grows_one _ _ _ added in
    keeps_way c.args.ahead way (pending_ways c.args.self.now) (live_ways c.args.self.now) [] ((list_at c.args.self.now.symbols c.in-Some.symbols, Take ∷ way.1) ∷ []) _ _
    (taken_way c.args.ahead way c.in-One.kind (list_at c.args.self.now.symbols c.in-Some.symbols) (c.in-Some.ensures.some ∙ ap (λ (x : Symbol). x ∷ list_at c.args.self.now.symbols c.in-Some.symbols) c.in-One.is) (sym c.is_ahead.ensures ∙ c.if-is_ahead.true))
    (ways-grow _ _ _ _ _ (grows_not _) grown c.requires.sound.pending ∙ sym (append-nil (pending_ways c.args.self.now)))
    (ways-pushed _ _ _ _ _ _ _ _ (grows_not _) grown c.requires.sound.live c.in_ok-push-in-One.ensures.items
    (ap (λ (l : List Step). (list_at c.args.self.now.symbols c.in-Some.symbols, l)) (ap (list_at c.push-then-is_ahead.new.self) c.in_ok-steps-in-One.ensures.number ∙ list_at-last _ _ _ added)))

pub returns-in_ok-push-in-One-clause-less : goal.returns-in_ok-push-in-One-clause-less
returns-in_ok-push-in-One-clause-less c =
    let grown = grows_one _ _ _ c.in_ok-steps-in-One.ensures.added in
    let same : costs (pending_ways c.args.self.now) ≡ costs (map (way_at c.args.self.now.symbols c.push-then-is_ahead.new.self) c.args.self.now.pending.items) = ap costs (sym (ways-grow _ _ _ _ _ (grows_not _) grown c.requires.sound.pending)) in
    let one : cost (list_at c.args.self.now.symbols c.args.thread.symbols) ≡ 1 = ap cost (c.in-Some.ensures.some ∙ ap (λ (x : Symbol). x ∷ list_at c.args.self.now.symbols c.in-Some.symbols) c.in-One.is) in
    omega (arith, same, one)

pub returns-else-is_ahead-clause-keeps : goal.returns-else-is_ahead-clause-keeps
returns-else-is_ahead-clause-keeps c =
    let way = way_at c.args.self.now.symbols c.args.self.now.steps c.args.thread in
    keeps_way c.args.ahead way (pending_ways c.args.self.now) (live_ways c.args.self.now) [] [] _ _
    (missed_way c.args.ahead way c.in-One.kind (list_at c.args.self.now.symbols c.in-Some.symbols) (c.in-Some.ensures.some ∙ ap (λ (x : Symbol). x ∷ list_at c.args.self.now.symbols c.in-Some.symbols) c.in-One.is) (sym c.is_ahead.ensures ∙ c.if-is_ahead.false))
    (sym (append-nil (pending_ways c.args.self.now))) (sym (append-nil (live_ways c.args.self.now)))

pub returns-in_ok-push-in-Do-clause-sound : goal.returns-in_ok-push-in-Do-clause-sound
returns-in_ok-push-in-Do-clause-sound c =
    let added = c.in_ok-steps-in-Do.ensures.added in
    let grown = grows_one _ _ _ added in
    let inside = last_in _ _ _ added in
    record {
      pending = are_in_pushed _ _ _ _ _ _ _ (grows_not _) grown c.requires.sound.pending (record { symbols_in = omega (arith, c.in-Some.ensures.before, c.requires.within.symbols_in); steps_in = omega (arith, inside, c.in_ok-steps-in-Do.ensures.number) }) c.in_ok-push-in-Do.ensures.items;
      live = are_in_grow _ _ _ _ _ (grows_not _) grown c.requires.sound.live;
    }

pub returns-in_ok-push-in-Do-clause-keeps : goal.returns-in_ok-push-in-Do-clause-keeps
returns-in_ok-push-in-Do-clause-keeps c =
    let way = way_at c.args.self.now.symbols c.args.self.now.steps c.args.thread in
    let added = c.in_ok-steps-in-Do.ensures.added in
    let grown = grows_one _ _ _ added in
    keeps_way c.args.ahead way (pending_ways c.args.self.now) (live_ways c.args.self.now) ((list_at c.args.self.now.symbols c.in-Some.symbols, Act c.in-Do.action ∷ way.1) ∷ []) [] _ _
    (does_way c.args.ahead way c.in-Do.action (list_at c.args.self.now.symbols c.in-Some.symbols) (c.in-Some.ensures.some ∙ ap (λ (x : Symbol). x ∷ list_at c.args.self.now.symbols c.in-Some.symbols) c.in-Do.is))
    (ways-pushed _ _ _ _ _ _ _ _ (grows_not _) grown c.requires.sound.pending c.in_ok-push-in-Do.ensures.items
    (ap (λ (l : List Step). (list_at c.args.self.now.symbols c.in-Some.symbols, l)) (ap (list_at c.push-in-Do.new.self) c.in_ok-steps-in-Do.ensures.number ∙ list_at-last _ _ _ added)))
    (ways-grow _ _ _ _ _ (grows_not _) grown c.requires.sound.live ∙ sym (append-nil (live_ways c.args.self.now)))

pub returns-in_ok-push-in-Do-clause-less : goal.returns-in_ok-push-in-Do-clause-less
returns-in_ok-push-in-Do-clause-less c =
    let added = c.in_ok-steps-in-Do.ensures.added in
    let grown = grows_one _ _ _ added in
    let rest = list_at c.args.self.now.symbols c.in-Some.symbols in
    let pushed : pending_ways (record c.args.self.now { steps = c.push-in-Do.new.self; pending = c.push-in-Do-2.new.self }) ≡ pending_ways c.args.self.now ++ (rest, Act c.in-Do.action ∷ list_at c.args.self.now.steps c.args.thread.steps) ∷ [] =
    ways-pushed _ _ _ _ _ _ _ _ (grows_not _) grown c.requires.sound.pending c.in_ok-push-in-Do.ensures.items
    (ap (λ (l : List Step). (rest, l)) (ap (list_at c.push-in-Do.new.self) c.in_ok-steps-in-Do.ensures.number ∙ list_at-last _ _ _ added)) in
    let one : cost (list_at c.args.self.now.symbols c.args.thread.symbols) ≡ 1 + cost rest = ap cost (c.in-Some.ensures.some ∙ ap (λ (x : Symbol). x ∷ rest) c.in-Do.is) in
    omega (arith, one, ap costs pushed, costs-append (pending_ways c.args.self.now) ((rest, Act c.in-Do.action ∷ list_at c.args.self.now.steps c.args.thread.steps) ∷ []))

pub open-requires-clause-within : goal.open-requires-clause-within
open-requires-clause-within c = record { symbols_in = omega (arith, c.in-Some.ensures.before, c.requires.within.symbols_in); steps_in = c.requires.within.steps_in }

pub returns-in_ok-open-in-Sub-clause-keeps : goal.returns-in_ok-open-in-Sub-clause-keeps
returns-in_ok-open-in-Sub-clause-keeps c =
    let way = way_at c.args.self.now.symbols c.args.self.now.steps c.args.thread in
    let rest = list_at c.args.self.now.symbols c.in-Some.symbols in
    keeps_way c.args.ahead way (pending_ways c.args.self.now) (live_ways c.args.self.now) (opened (alternatives c.in-Sub.rule) c.args.ahead (rest, way.1)) [] _ _
    (replaced_way c.args.ahead way c.in-Sub.rule rest (c.in-Some.ensures.some ∙ ap (λ (x : Symbol). x ∷ rest) c.in-Sub.is))
    c.in_ok-open-in-Sub.ensures.pending (c.in_ok-open-in-Sub.ensures.live ∙ sym (append-nil (live_ways c.args.self.now)))

pub returns-in_ok-open-in-Sub-clause-less : goal.returns-in_ok-open-in-Sub-clause-less
returns-in_ok-open-in-Sub-clause-less c =
    let rest = list_at c.args.self.now.symbols c.in-Some.symbols in
    let done = list_at c.args.self.now.steps c.args.thread.steps in
    let one : cost (list_at c.args.self.now.symbols c.args.thread.symbols) ≡ cost (Sub c.in-Sub.rule ∷ rest) = ap cost (c.in-Some.ensures.some ∙ ap (λ (x : Symbol). x ∷ rest) c.in-Sub.is) in
    let parts : costs (pending_ways c.open.new.self) ≡ costs (pending_ways c.args.self.now) + costs (opened (alternatives c.in-Sub.rule) c.args.ahead (rest, done)) =
    ap costs c.in_ok-open-in-Sub.ensures.pending ∙ costs-append (pending_ways c.args.self.now) (opened (alternatives c.in-Sub.rule) c.args.ahead (rest, done)) in
    omega (arith, one, parts, costs-rule c.in-Sub.rule c.args.ahead rest done)

pub returns-in_ok-push-clause-ended : goal.returns-in_ok-push-clause-ended
returns-in_ok-push-clause-ended c = λ _ h.
    let way = way_at c.args.self.now.symbols c.args.self.now.steps c.args.thread in
    subst AreEnded (sym (ways-pushed _ _ _ _ _ _ _ _ (grows_not _) (grows_not _) c.requires.sound.live c.in_ok-push.ensures.items refl)) (ended-push (live_ways c.args.self.now) way h c.in_default.ensures.none)

pub returns-in_ok-push-in-Do-clause-ended : goal.returns-in_ok-push-in-Do-clause-ended
returns-in_ok-push-in-Do-clause-ended c = λ _ h. subst AreEnded (sym (ways-grow _ _ _ _ _ (grows_not _) (grows_one _ _ _ c.in_ok-steps-in-Do.ensures.added) c.requires.sound.live)) h
