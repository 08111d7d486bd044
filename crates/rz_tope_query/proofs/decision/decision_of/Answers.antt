use Rattle.std.proofs.Common.{[], ◌∷◌, refl, sym, subst}
use Rattle.std.specs.Prelude.{codes}
use Rattle.rz_rules.specs.Cube.{binders_of}
use Rattle.rz_rules.specs.File.{IsFile}
use Rattle.rz_rules.specs.Judgment.{Statement}
use Rattle.rz_rules.specs.Structural.{holds}
use Rattle.rz_rules.specs.Tope.{IsTopeOver}
use Rattle.rz_rules.specs.Tree.{Tree, tree_of}
use Rattle.rz_log.specs.Entail.{IsEntailed}
use Rattle.rz_log.proofs.Entailing.{of_no, of_silent, of_yes}
use Rattle.rz_log.proofs.Saying.{context_is, said_within, statement_is}
use Rattle.rz_tope_query.proofs.Deciding.{entailed_in}
use Rattle.rz_tope_query.proofs.decision.decision_of.Goals as goal

pub entail-requires-clause-over : goal.entail-requires-clause-over
entail-requires-clause-over c =
    let w = c.args.w in
    let context = tree_of w.pool.nodes c.args.question.context in
    let tope = tree_of w.pool.nodes c.args.question.goal in
    subst (λ (t : Tree). IsTopeOver (binders_of t) tope) (sym (context_is w c.args.question.at context c.requires.asked.1.formed_is))
    c.requires.asked.1.over

pub file_of_step-requires-clause-there : goal.file_of_step-requires-clause-there
file_of_step-requires-clause-there c =
    let w = c.args.w in
    let context = tree_of w.pool.nodes c.args.question.context in
    let tope = tree_of w.pool.nodes c.args.question.goal in
    let new = c.entail.new.w in
    let all = entailed_in w new c.args.question.at context tope c.in_ok-entailed.entailed c.requires.asked.1.formed_is c.in_ok-entailed.ensures.entailed in
    let is = subst (IsEntailed new context tope) c.in-Yes.is all in
    said_within new c.in-Yes.step (holds context tope) is.1

pub returns-in-Yes-clause-decided : goal.returns-in-Yes-clause-decided
returns-in-Yes-clause-decided c =
    let w = c.args.w in
    let context = tree_of w.pool.nodes c.args.question.context in
    let tope = tree_of w.pool.nodes c.args.question.goal in
    let new = c.entail.new.w in
    let all = entailed_in w new c.args.question.at context tope c.in_ok-entailed.entailed c.requires.asked.1.formed_is c.in_ok-entailed.ensures.entailed in
    let is = subst (IsEntailed new context tope) c.in-Yes.is all in
    let valid = of_yes new context tope c.in-Yes.step is in (
      valid.0,
      valid.1,
      subst (λ (s : Statement). IsFile c.in_ok-bytes-in-Yes.bytes (record { name = codes "tope"; says = s } ∷ []))
          (statement_is new c.in-Yes.step (holds context tope) is.1) c.in_ok-bytes-in-Yes.ensures.file,
    )

pub returns-in-No-clause-decided : goal.returns-in-No-clause-decided
returns-in-No-clause-decided c =
    let w = c.args.w in
    let context = tree_of w.pool.nodes c.args.question.context in
    let tope = tree_of w.pool.nodes c.args.question.goal in
    let new = c.entail.new.w in
    let all = entailed_in w new c.args.question.at context tope c.in_ok-entailed.entailed c.requires.asked.1.formed_is c.in_ok-entailed.ensures.entailed in
    let is = subst (IsEntailed new context tope) c.in-No.is all in
    (of_no new context tope c.in-No.ranks is, refl, is.1)

pub returns-clause-decided : goal.returns-clause-decided
returns-clause-decided c =
    let w = c.args.w in
    let context = tree_of w.pool.nodes c.args.question.context in
    let tope = tree_of w.pool.nodes c.args.question.goal in
    let new = c.entail.new.w in
    let all = entailed_in w new c.args.question.at context tope c.in_ok-entailed.entailed c.requires.asked.1.formed_is c.in_ok-entailed.ensures.entailed in
    of_silent new context tope c.in-Silent.count (subst (IsEntailed new context tope) c.in-Silent.is all)
