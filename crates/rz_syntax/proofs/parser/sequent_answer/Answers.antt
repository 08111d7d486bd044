use Rattle.rz_syntax.proofs.Spans.{spans_of}
use Rattle.rz_syntax.proofs.parser.sequent_answer.Goals as goal

pub build_sequent-requires : goal.build_sequent-requires
build_sequent-requires c = spans_of c.args.text.now c.args.tokens.now c.utf8.text c.requires
