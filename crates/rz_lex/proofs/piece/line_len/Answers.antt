use Rattle.std.proofs.Common.{eqb, sym, arith}
use Rattle.std.proofs.lemmas.Bool.{eq-eqb}
use Rattle.std.proofs.lemmas.List.Sums.{position_or_len_is}
use Rattle.rz_lex.proofs.piece.line_len.Goals as goal

pub returns-then-next-eq-LINE_FEED-clause-value : goal.returns-then-next-eq-LINE_FEED-clause-value
returns-then-next-eq-LINE_FEED-clause-value c = sym (position_or_len_is (λ b. eqb b 10) c.args.rest.now c.loop-len.len 0 (omega arith) c.loop-len.invariant (λ lt. eq-eqb _ _ c.if-next-eq-LINE_FEED.true))

pub returns-clause-value : goal.returns-clause-value
returns-clause-value c = sym (position_or_len_is (λ b. eqb b 10) c.args.rest.now _ 0 (omega arith) (λ k lt. c.loop-len.invariant k (omega arith)) (λ lt. absurd (omega arith)))
