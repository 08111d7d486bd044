use Rattle.std.proofs.Common.{List, subst}
use Rattle.std.specs.Prelude.{IfNone, IfSome}
use Rattle.rz_lex.specs.declared.token.Token.{Token}
use Rattle.rz_lex.specs.Text.{Lexed}
use Rattle.rz_lex.proofs.Reading.{lexed_once}
use Rattle.rz_syntax.specs.declared.forms.RawSequent.{RawSequent}
use Rattle.rz_syntax.specs.Grammar.{kinds_of}
use Rattle.rz_syntax.specs.Levels.{IsShallow}
use Rattle.rz_syntax.specs.Source.{IsSequent}
use Rattle.rz_tope_query.specs.Parts.{IsRawOf}
use Rattle.rz_tope_query.proofs.Once.{none_weaker}
use Rattle.rz_tope_query.proofs.text.raw_sequent.Goals as goal

pub returns-in_default-clause-none : goal.returns-in_default-clause-none
returns-in_default-clause-none c raw is =
    let none = subst (λ o. IfNone o ((tokens : List Token) → Lexed c.args.text.now tokens → ⊥)) c.in_default.is c.in_ok-tokens.ensures.none in
    none is.tokens is.lexed

pub returns-clause-none : goal.returns-clause-none
returns-clause-none c =
    let text = c.args.text.now in
    let tokens = c.in-Some.tokens in
    let lexed = subst (λ o. IfSome o (Lexed text)) c.in-Some.is c.in_ok-tokens.ensures.lexed in
    none_weaker ((raw : RawSequent) → IsShallow (kinds_of tokens) → IsSequent text tokens raw → ⊥) ((raw : RawSequent) → IsRawOf text raw → ⊥) c.in_ok-raw.raw
    (λ none raw is.
    let same = lexed_once text is.tokens tokens is.lexed lexed in
    none raw (subst (λ (ts : List Token). IsShallow (kinds_of ts)) same is.shallow) (subst (λ (ts : List Token). IsSequent text ts raw) same is.parsed))
    c.in_ok-raw.ensures.none
