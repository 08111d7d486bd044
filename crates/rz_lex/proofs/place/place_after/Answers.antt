use Rattle.std.proofs.Common.{arith}
use Rattle.rz_lex.proofs.Counts.{counts_below, next_place}
use Rattle.rz_lex.proofs.place.place_after.Goals as goal

pub behind-after-requires-clause-line_feeds : goal.behind-after-requires-clause-line_feeds
behind-after-requires-clause-line_feeds c = (counts_below c.args.text.now c.loop-i.after c.loop-i.invariant.place).0

pub behind-after-requires-clause-characters : goal.behind-after-requires-clause-characters
behind-after-requires-clause-characters c = (counts_below c.args.text.now c.loop-i.after c.loop-i.invariant.place).1

pub loop-i-preserved : goal.loop-i-preserved
loop-i-preserved c = record {
  place = next_place c.args.text.now c.loop-i.after c.behind-after.result c.loop-i.i c.loop-i.invariant.place c.loop-i.invariant.here (omega arith) c.behind-after.ensures.at c.behind-after.ensures.line_feeds c.behind-after.ensures.characters;
  here = omega arith;
}
