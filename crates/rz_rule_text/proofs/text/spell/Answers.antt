use Rattle.std.proofs.Common.{List, subst}
use Rattle.rz_rules.specs.declared.symbols.Symbol.{Symbol}
use Rattle.rz_rule_text.specs.Letters.{assignment_of}
use Rattle.rz_rule_text.proofs.Whole.{IsSpelling, can_put, was_put, was_too_high}
use Rattle.rz_rule_text.proofs.text.spell.Goals as goal

pub put_symbol-requires-clause-ready : goal.put_symbol-requires-clause-ready
put_symbol-requires-clause-ready c =
    let a = assignment_of c.args.pool.now.nodes c.args.letters.now c.args.name in
    let h = subst (λ (left : List Symbol). IsSpelling c.args.pool.now.nodes c.loop-symbol.pool.nodes c.args.text.now left c.args.letters.now c.args.name c.loop-symbol.stack)
    c.in-Some.ensures.cases.0 c.loop-symbol.invariant in (
      h.behind,
      a,
      can_put c.args.pool.now.nodes c.loop-symbol.pool.nodes c.args.text.now c.in-Some.others.now c.in-Some.symbol.now c.args.letters.now c.args.name c.loop-symbol.stack
          c.requires.text c.requires.letters h,
    )

pub returns-then-not-branch-clause-none : goal.returns-then-not-branch-clause-none
returns-then-not-branch-clause-none c =
    let old = c.args.pool.now.nodes in
    let nodes = c.loop-symbol.pool.nodes in
    let a = assignment_of old c.args.letters.now c.args.name in
    let h = subst (λ (left : List Symbol). IsSpelling old nodes c.args.text.now left c.args.letters.now c.args.name c.loop-symbol.stack) c.in-Some.ensures.cases.0 c.loop-symbol.invariant in
    let can = can_put old nodes c.args.text.now c.in-Some.others.now c.in-Some.symbol.now c.args.letters.now c.args.name c.loop-symbol.stack c.requires.text c.requires.letters h in
    was_too_high old nodes c.args.text.now c.in-Some.others.now c.in-Some.symbol.now c.args.letters.now c.args.name c.loop-symbol.stack c.requires.text c.requires.letters h
    c.put_symbol.new.pool.nodes c.put_symbol.new.stack c.in_ok-put_symbol.field-0 c.if-not-branch.true (c.in_ok-put_symbol.ensures.puts h.behind a can)

pub loop-symbol-preserved : goal.loop-symbol-preserved
loop-symbol-preserved c =
    let old = c.args.pool.now.nodes in
    let nodes = c.loop-symbol.pool.nodes in
    let a = assignment_of old c.args.letters.now c.args.name in
    let h = subst (λ (left : List Symbol). IsSpelling old nodes c.args.text.now left c.args.letters.now c.args.name c.loop-symbol.stack) c.in-Some.ensures.cases.0 c.loop-symbol.invariant in
    let can = can_put old nodes c.args.text.now c.in-Some.others.now c.in-Some.symbol.now c.args.letters.now c.args.name c.loop-symbol.stack c.requires.text c.requires.letters h in
    was_put old nodes c.args.text.now c.in-Some.others.now c.in-Some.symbol.now c.args.letters.now c.args.name c.loop-symbol.stack c.requires.text c.requires.letters h
    c.put_symbol.new.pool.nodes c.put_symbol.new.stack c.in_ok-put_symbol.field-0 c.in_ok-put_symbol.ensures.grows c.in_ok-put_symbol.ensures.pool c.if-not-branch.false (c.in_ok-put_symbol.ensures.puts h.behind a can)
