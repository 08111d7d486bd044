use Rattle.rz_lex.proofs.Fronts.{from_start, from_next, string_ends, string_breaks, string_runs_out}
use Rattle.rz_lex.proofs.piece.string_body_len.Goals as goal

pub loop-i-init : goal.loop-i-init
loop-i-init c = from_start c.args.body.now

pub loop-i-preserved : goal.loop-i-preserved
loop-i-preserved c = from_next c.args.body.now c.loop-i.i c.loop-i-test.true c.if-byte-eq-QUOTE.false c.if-byte-eq-LINE_FEED.false c.loop-i.invariant

pub returns-then-byte-eq-QUOTE : goal.returns-then-byte-eq-QUOTE
returns-then-byte-eq-QUOTE c = string_ends c.args.body.now c.loop-i.i c.loop-i-test.true c.if-byte-eq-QUOTE.true c.loop-i.invariant

pub returns-then-byte-eq-LINE_FEED : goal.returns-then-byte-eq-LINE_FEED
returns-then-byte-eq-LINE_FEED c = string_breaks c.args.body.now c.loop-i.i c.loop-i-test.true c.if-byte-eq-LINE_FEED.true c.loop-i.invariant

pub returns : goal.returns
returns c = string_runs_out c.args.body.now c.loop-i.i c.loop-i-test.false c.loop-i.invariant
