use Rattle.std.proofs.Common.{inl, inr, sym, ◌∙◌}
use Rattle.rz_lex.proofs.Fixed.{lent_better, lent_no_better}
use Rattle.rz_lex.proofs.piece.longest_fixed.Goals as goal
use Rattle.rz_lex.proofs.piece.longest_fixed.Goals.{then-len-spelling+then-starts_with, else-len-spelling, else-len-spelling-via-then-len-spelling+else-starts_with, else-len-spelling-via-else-len-spelling}

pub loop-spelling-preserved : goal.loop-spelling-preserved
loop-spelling-preserved c =
    elim c.if-len-spelling.branch [
      | then-len-spelling+then-starts_with w ↦ rw (w.best-is, w.len-is)
          (lent_better c.args.fixed.now c.loop-spelling.spelling-index _ c.as_bytes-spelling.result.now c.args.rest.now c.loop-spelling.len c.loop-spelling.best w.starts_with.result c.loop-spelling-test.true c.as_bytes-spelling.ensures.value
          c.loop-spelling.invariant w.if-len-spelling.true (w.starts_with.ensures.bound w.if-starts_with.true) w.starts_with.ensures.value w.if-starts_with.true)
      | else-len-spelling w ↦ rw (w.best-is, w.len-is)
          (lent_no_better c.args.fixed.now c.loop-spelling.spelling-index _ c.as_bytes-spelling.result.now c.args.rest.now c.loop-spelling.len c.loop-spelling.best c.loop-spelling-test.true c.as_bytes-spelling.ensures.value
          c.loop-spelling.invariant
          (elim w.else-len-spelling.branch [
            | else-len-spelling-via-then-len-spelling+else-starts_with v ↦ inr (sym v.starts_with.ensures.value ∙ v.if-starts_with.false)
            | else-len-spelling-via-else-len-spelling v ↦ inl v.if-len-spelling.false
          ]))
    ]
