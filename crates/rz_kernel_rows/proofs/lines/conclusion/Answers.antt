use Rattle.std.proofs.Common.{map, sym, subst}
use Rattle.std.specs.Prelude.{IfOk}
use Rattle.rz_rules.specs.declared.rows.Scheme.{Scheme}
use Rattle.rz_rules.specs.Tree.{trees_in}
use Rattle.rz_rules.specs.Judgment.{statement}
use Rattle.rz_rules.specs.Structural.{ConcludesBy, IsContextOf, SameAsOwn, TypesVariable}
use Rattle.rz_kernel_rows.specs.Move.{IsConclusionFor}
use Rattle.rz_kernel_rows.proofs.Concluding.{conclusion_for, conclusions_for, without_number}
use Rattle.rz_rule_text.proofs.Over.{IsStatement-over}
use Rattle.rz_kernel_rows.proofs.lines.conclusion.Goals as goal

pub returns-in-Hypothesis-clause-concludes : goal.returns-in-Hypothesis-clause-concludes
returns-in-Hypothesis-clause-concludes c =
    let ns = c.args.pool.now.nodes in
    let says = statement (trees_in ns) c.args.line.now.says in
    subst (λ (s : Scheme). IfOk c.hypothesis.result (IsConclusionFor c.hypothesis.new.pool.nodes says (ConcludesBy s c.args.line.now.number (map (statement (trees_in ns)) c.args.premises.now)))) (sym c.in-Hypothesis.is)
    (conclusions_for c.hypothesis.result c.hypothesis.new.pool.nodes says _ (IsStatement-over ns c.requires.pool.forms c.args.line.now.says c.requires.line) c.hypothesis.ensures.concludes)

pub returns-in-Weakening-clause-concludes : goal.returns-in-Weakening-clause-concludes
returns-in-Weakening-clause-concludes c =
    let ns = c.args.pool.now.nodes in
    let says = statement (trees_in ns) c.args.line.now.says in
    subst (λ (s : Scheme). IfOk c.weaken.result (IsConclusionFor c.weaken.new.pool.nodes says (ConcludesBy s c.args.line.now.number (map (statement (trees_in ns)) c.args.premises.now)))) (sym c.in-Weakening.is)
    (conclusions_for c.weaken.result c.weaken.new.pool.nodes says _ (IsStatement-over ns c.requires.pool.forms c.args.line.now.says c.requires.line) c.weaken.ensures.concludes)

pub returns-in-TermCut-clause-concludes : goal.returns-in-TermCut-clause-concludes
returns-in-TermCut-clause-concludes c =
    let ns = c.args.pool.now.nodes in
    conclusions_for c.remove.result c.remove.new.pool.nodes (statement (trees_in ns) c.args.line.now.says) _
    (IsStatement-over ns c.requires.pool.forms c.args.line.now.says c.requires.line) c.remove.ensures.concludes

pub returns-in-Inversion-clause-concludes : goal.returns-in-Inversion-clause-concludes
returns-in-Inversion-clause-concludes c =
    let ns = c.args.pool.now.nodes in
    let says = statement (trees_in ns) c.args.line.now.says in
    subst (λ (s : Scheme). IfOk c.inversion.result (IsConclusionFor c.inversion.new.pool.nodes says (ConcludesBy s c.args.line.now.number (map (statement (trees_in ns)) c.args.premises.now)))) (sym c.in-Inversion.is)
    (conclusions_for c.inversion.result c.inversion.new.pool.nodes says _ (IsStatement-over ns c.requires.pool.forms c.args.line.now.says c.requires.line) c.inversion.ensures.concludes)

pub returns-in_ok-says-in-Variable-clause-concludes : goal.returns-in_ok-says-in-Variable-clause-concludes
returns-in_ok-says-in-Variable-clause-concludes c =
    let ns = c.args.pool.now.nodes in
    let says = statement (trees_in ns) c.args.line.now.says in
    subst (λ (s : Scheme). IsConclusionFor c.variable.new.pool.nodes says (ConcludesBy s c.args.line.now.number (map (statement (trees_in ns)) c.args.premises.now)) c.unnumbered.result) (sym c.in-Variable.is)
    (without_number c.variable.new.pool.nodes says (TypesVariable (map (statement (trees_in ns)) c.args.premises.now)) c.args.line.now.number c.in_ok-says-in-Variable.says c.unnumbered.result c.unnumbered.ensures.zero c.unnumbered.ensures.other
    c.in_ok-says-in-Variable.ensures.concludes)

pub returns-in_ok-says-in-OwnType-clause-concludes : goal.returns-in_ok-says-in-OwnType-clause-concludes
returns-in_ok-says-in-OwnType-clause-concludes c =
    let ns = c.args.pool.now.nodes in
    let says = statement (trees_in ns) c.args.line.now.says in
    subst (λ (s : Scheme). IsConclusionFor c.own.new.pool.nodes says (ConcludesBy s c.args.line.now.number (map (statement (trees_in ns)) c.args.premises.now)) c.unnumbered-in-OwnType.result) (sym c.in-OwnType.is)
    (without_number c.own.new.pool.nodes says (SameAsOwn (map (statement (trees_in ns)) c.args.premises.now)) c.args.line.now.number c.in_ok-says-in-OwnType.says c.unnumbered-in-OwnType.result c.unnumbered-in-OwnType.ensures.zero c.unnumbered-in-OwnType.ensures.other
    (conclusion_for c.own.new.pool.nodes says (SameAsOwn (map (statement (trees_in ns)) c.args.premises.now)) c.in_ok-says-in-OwnType.says (IsStatement-over ns c.requires.pool.forms c.args.line.now.says c.requires.line) c.in_ok-says-in-OwnType.ensures.concludes))

pub returns-in-ContextOf-clause-concludes : goal.returns-in-ContextOf-clause-concludes
returns-in-ContextOf-clause-concludes c =
    let ns = c.args.pool.now.nodes in
    let says = statement (trees_in ns) c.args.line.now.says in
    subst (λ (s : Scheme). IsConclusionFor ns says (ConcludesBy s c.args.line.now.number (map (statement (trees_in ns)) c.args.premises.now)) c.unnumbered-in-ContextOf.result) (sym c.in-ContextOf.is)
    (without_number ns says (IsContextOf (map (statement (trees_in ns)) c.args.premises.now)) c.args.line.now.number c.context_of.result c.unnumbered-in-ContextOf.result c.unnumbered-in-ContextOf.ensures.zero c.unnumbered-in-ContextOf.ensures.other
    (conclusion_for ns says (IsContextOf (map (statement (trees_in ns)) c.args.premises.now)) c.context_of.result (IsStatement-over ns c.requires.pool.forms c.args.line.now.says c.requires.line) (c.context_of.ensures ns c.requires.premises)))
