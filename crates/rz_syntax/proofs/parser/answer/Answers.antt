use Rattle.rz_syntax.proofs.Spans.{spans_of}
use Rattle.rz_syntax.proofs.parser.answer.Goals as goal

pub build-requires : goal.build-requires
build-requires c = spans_of c.args.text.now c.args.tokens.now c.utf8.text c.requires
