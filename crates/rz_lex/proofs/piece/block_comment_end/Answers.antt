use Rattle.rz_lex.proofs.Gaps.{end_from_start, end_from_next, end_found, no_end}
use Rattle.rz_lex.proofs.piece.block_comment_end.Goals as goal

pub loop-i-init : goal.loop-i-init
loop-i-init c = end_from_start c.args.bytes.now

pub loop-i-preserved : goal.loop-i-preserved
loop-i-preserved c = end_from_next c.args.bytes.now c.loop-i.i c.starts_with.result c.loop-i-test.true c.starts_with.ensures.value c.if-starts_with.false c.loop-i.invariant

pub returns-then-starts_with-clause-value : goal.returns-then-starts_with-clause-value
returns-then-starts_with-clause-value c = end_found c.args.bytes.now c.loop-i.i c.starts_with.result c.loop-i-test.true c.starts_with.ensures.value c.if-starts_with.true c.loop-i.invariant

pub returns-clause-value : goal.returns-clause-value
returns-clause-value c = no_end c.args.bytes.now c.loop-i.i c.loop-i-test.false c.loop-i.invariant
