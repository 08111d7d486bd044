use Rattle.rz_lex.proofs.Cuts.{answer_is_whole}
use Rattle.rz_lex.proofs.Reading.{has_spans, only_tokens, only_fault}
use Rattle.rz_lex.proofs.lexer.tokens.Goals as goal

pub returns-clause-spans : goal.returns-clause-spans
returns-clause-spans c = has_spans c.args.text.now c.read.result (rw c.as_bytes.ensures.value at c.read.ensures)

pub returns-clause-only : goal.returns-clause-only
returns-clause-only c = only_tokens c.args.text.now c.read.result (rw c.as_bytes.ensures.value at c.read.ensures)

pub returns-clause-refused : goal.returns-clause-refused
returns-clause-refused c = only_fault c.args.text.now c.read.result (rw c.as_bytes.ensures.value at c.read.ensures)

pub returns-clause-whole : goal.returns-clause-whole
returns-clause-whole c = answer_is_whole c.args.text.now c.read.result (rw c.as_bytes.ensures.value at c.as_bytes.ensures.utf8) (rw c.as_bytes.ensures.value at c.read.ensures)
