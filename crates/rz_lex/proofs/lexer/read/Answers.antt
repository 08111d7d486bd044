use Rattle.std.proofs.Common.{refl, arith}
use Rattle.rz_lex.proofs.Counts.{counts_below, starts}
use Rattle.rz_lex.proofs.Reading.{reads_nothing, keeps_gap, keeps_token}
use Rattle.rz_lex.proofs.lexer.read.Goals as goal

pub loop-place-init : goal.loop-place-init
loop-place-init c = record { reads = rw c.new-tokens.ensures (reads_nothing c.args.text.now); here = starts c.args.text.now _ refl refl refl }

pub overflow_add-line : goal.overflow_add-line
overflow_add-line c = omega (arith, counts_below c.args.text.now c.loop-place.place c.loop-place.invariant.here)

pub overflow_add-column : goal.overflow_add-column
overflow_add-column c = omega (arith, counts_below c.args.text.now c.loop-place.place c.loop-place.invariant.here)

pub loop-place-preserved-in_ok-push : goal.loop-place-preserved-in_ok-push
loop-place-preserved-in_ok-push c = record {
  reads = keeps_token c.args.text.now c.loop-place.place c.place_after-end.result.at c.loop-place.tokens c.push.new.self c.in-Some.piece c.in-Some-kind.kind c.loop-place.invariant.here c.loop-place.invariant.reads c.in-Some.ensures.begins c.in-Some-kind.is
      c.place_after-end.ensures.at c.in_ok-push.ensures.ok;
  here = c.place_after-end.ensures.place;
}

pub loop-place-preserved : goal.loop-place-preserved
loop-place-preserved c = record {
  reads = keeps_gap c.args.text.now c.loop-place.place.at c.place_after-end.result.at c.loop-place.tokens c.in-Some.piece c.loop-place.invariant.reads c.in-Some.ensures.begins c.in_default-kind.is c.place_after-end.ensures.at;
  here = c.place_after-end.ensures.place;
}
