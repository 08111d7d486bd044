use Rattle.std.proofs.Common.{sym, subst}
use Rattle.rz_rules.specs.declared.rows.Scheme.{Scheme}
use Rattle.rz_kernel_rows.specs.Move.{IsNotRemoved}
use Rattle.rz_kernel_rows.proofs.Changing.{if_none, no_point_goes, no_term_goes}
use Rattle.rz_kernel_rows.proofs.moves.removal.Goals as goal

pub returns-in_err-term_for-in-TermCut-clause-none : goal.returns-in_err-term_for-in-TermCut-clause-none
returns-in_err-term_for-in-TermCut-clause-none c =
    let ns = c.args.pool.now.nodes in
    if_none _ (subst (λ (s : Scheme). IsNotRemoved ns s c.args.at c.args.allowed) (sym c.in-TermCut.is)
    (no_term_goes ns c.args.at c.args.allowed c.in_err-term_for-in-TermCut.ensures.none))

pub returns-in_err-point_for-in-CubeCut-clause-none : goal.returns-in_err-point_for-in-CubeCut-clause-none
returns-in_err-point_for-in-CubeCut-clause-none c =
    let ns = c.args.pool.now.nodes in
    if_none _ (subst (λ (s : Scheme). IsNotRemoved ns s c.args.at c.args.allowed) (sym c.in-CubeCut.is)
    (no_point_goes ns c.args.at c.args.allowed c.in_err-point_for-in-CubeCut.ensures.none))
