use Rattle.std.proofs.Common.{◌≡◌, ◌≤◌, [], length}
use Rattle.rz_io.proofs.Sinks.{Split, Offered}
use Rattle.rz_io.proofs.sink.write_all.Given as goal

-- what is not left was offered and taken
abbrev pub invariant-loop-left : goal.invariant-loop-left
invariant-loop-left g l =
    let taken = g.S.Sink.taken in
    let offers = g.S.Sink.offers in
    let count = g.S.Sink.count in
    record {
      split : Split (taken l.fn.out) (taken l.out) l.bytes l.left;
      offered : Offered (offers l.fn.out) (offers l.out) l.bytes l.left;
      count : count l.fn.out ≤ count l.out;
      empty : l.bytes ≡ [] → l.out ≡ l.fn.out;
    }

abbrev pub decreases-loop-left : goal.decreases-loop-left
decreases-loop-left g l = length l.left
