use Rattle.std.proofs.Common.{ℕ, subst, sym, ◌∙◌}
use Rattle.rz_lex.specs.Spelling.{is_name, IsLongest}
use Rattle.rz_lex.proofs.Fronts.{name_begins}
use Rattle.rz_lex.proofs.piece.name_len.Goals as goal

pub returns-in-Some : goal.returns-in-Some
returns-in-Some c =
    subst (λ (n : ℕ). IsLongest is_name c.args.rest.now n) (sym c.run_in_name.ensures)
    (name_begins c.args.rest.now c.in-Some.first.now c.in-Some.ensures.value (sym c.may_begin_name.ensures ∙ c.if-may_begin_name.true))
