use Rattle.std.proofs.Common.{List, sym, subst}
use Rattle.rz_lex.specs.declared.token.Token.{Token}
use Rattle.rz_syntax.specs.Grammar.{kinds_of}
use Rattle.rz_syntax.specs.Levels.{IsShallow}
use Rattle.rz_syntax.specs.Source.{IsSequent}
use Rattle.rz_tope_query.proofs.Once.{refused_none}
use Rattle.rz_tope_query.proofs.text.parse.Goals as goal

pub returns-in_ok-unless_memory-in-Err-clause-none : goal.returns-in_ok-unless_memory-in-Err-clause-none
returns-in_ok-unless_memory-in-Err-clause-none c raw shallow is =
    refused_none c.parse_sequent.result c.in-Err.fault raw c.in-Err.is c.in_ok-unless_memory-in-Err.ensures
    (c.parse_sequent.ensures.only raw (subst (λ (ts : List Token). IsShallow (kinds_of ts)) (sym c.as_slice.ensures) shallow)
    (subst (λ (ts : List Token). IsSequent c.args.text.now ts raw) (sym c.as_slice.ensures) is))
