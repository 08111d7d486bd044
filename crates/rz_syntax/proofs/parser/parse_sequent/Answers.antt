use Rattle.rz_syntax.proofs.Faults.{only_sequent, only_sequent_refusal}
use Rattle.rz_syntax.proofs.parser.parse_sequent.Goals as goal

pub returns-clause-only : goal.returns-clause-only
returns-clause-only c = only_sequent c.args.text.now c.args.tokens.now c.sequent_answer.result (record { sequent = c.sequent_answer.ensures.sequent; shallow = c.sequent_answer.ensures.shallow; fault = c.sequent_answer.ensures.fault })

pub returns-clause-refused : goal.returns-clause-refused
returns-clause-refused c = only_sequent_refusal c.args.text.now c.args.tokens.now c.sequent_answer.result (record { sequent = c.sequent_answer.ensures.sequent; shallow = c.sequent_answer.ensures.shallow; fault = c.sequent_answer.ensures.fault })
