use Rattle.std.proofs.Common.{ap, ◌∙◌, List, [], ◌∷◌, ◌++◌, map, get_or}
use Rattle.rz_syntax.specs.declared.grammar.Symbol.{Symbol}
use Rattle.rz_syntax.specs.declared.engine.Thread.{Thread}
use Rattle.rz_syntax.specs.Lists.{list_at}
use Rattle.rz_syntax.specs.Threads.{way_at}
use Rattle.rz_syntax.proofs.Weaving.{ways-alone}
use Rattle.rz_syntax.proofs.engine.Engine.forget.Goals as goal

pub returns-clause-live : goal.returns-clause-live
returns-clause-live c =
    let old = c.as_slice-live.result.now in
    ways-alone c.args.self.now.symbols c.push_all.new.self c.args.self.now.steps old c.push.new.self.items (record { symbols = 0; steps = 0 }) c.in_ok-items.items.items c.in_ok-symbols.symbols
    c.if-live-ne1.false c.in_ok-items.ensures
    (c.in_ok-symbols.ensures.added ∙ ap (λ (xs : List Symbol). xs ++ list_at c.new-kept.result 0) c.as_slice.ensures.value ∙ ap (λ (ls : List (List Symbol)). c.in_ok-items.items.items ++ list_at ls 0) c.new-kept.ensures)
    (c.in_ok-push.ensures.items ∙ ap (λ (ts : List Thread). ts ++ record { symbols = c.in_ok-symbols.symbols; steps = (get_or old 0 (record { symbols = 0; steps = 0 })).steps } ∷ []) c.clear.ensures.items)
    ∙ ap (map (way_at c.args.self.now.symbols c.args.self.now.steps)) c.as_slice-live.ensures.value
