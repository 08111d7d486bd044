use Rattle.std.proofs.Common.{subst}
use Rattle.rz_lex.specs.Text.{IsFaultOf}
use Rattle.rz_tope_query.proofs.text.tokens.Goals as goal

pub returns-in-Err-BadToken-clause-none : goal.returns-in-Err-BadToken-clause-none
returns-in-Err-BadToken-clause-none c tokens lexed =
    let bad = c.in-Err-BadToken in
    c.one_ending.ensures.apart c.args.text.now tokens bad.field-0-0 bad.field-0-1 lexed (subst (IsFaultOf c.args.text.now) bad.field-0-is bad.ensures.fault)
