use Rattle.rz_syntax.proofs.Faults.{only_file, only_refusal}
use Rattle.rz_syntax.proofs.parser.parse.Goals as goal

pub returns-clause-only : goal.returns-clause-only
returns-clause-only c = only_file c.args.text.now c.args.tokens.now c.answer.result (record { file = c.answer.ensures.file; shallow = c.answer.ensures.shallow; fault = c.answer.ensures.fault })

pub returns-clause-refused : goal.returns-clause-refused
returns-clause-refused c = only_refusal c.args.text.now c.args.tokens.now c.answer.result (record { file = c.answer.ensures.file; shallow = c.answer.ensures.shallow; fault = c.answer.ensures.fault })
