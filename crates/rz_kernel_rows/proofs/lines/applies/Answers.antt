use Rattle.std.proofs.Common.{◌≡◌, List, map, true, sym, subst, ◌∙◌}
use Rattle.std.specs.Prelude.{◌↔◌}
use Rattle.rz_rules.specs.declared.rows.Scheme.{Scheme}
use Rattle.rz_rules.specs.Tree.{trees_in}
use Rattle.rz_rules.specs.Judgment.{statement}
use Rattle.rz_rules.specs.Table.{rule_of}
use Rattle.rz_rules.specs.Structural.{ConcludesBy}
use Rattle.rz_rules.specs.declared.nodes.Node.{Node}
use Rattle.rz_pool.proofs.Nodes.{Grows-same}
use Rattle.rz_context.specs.Knowledge.{IsKnown}
use Rattle.rz_kernel_rows.proofs.Concluding.{by_scheme, said_iff}
use Rattle.rz_kernel_rows.proofs.Spelled.{restored}
use Rattle.rz_kernel_rows.proofs.lines.applies.Goals as goal

pub returns-in_ok-said-in_default : goal.returns-in_ok-said-in_default
returns-in_ok-said-in_default c =
    let ns = c.args.pool.now.nodes in
    let new = c.conclusion-said.new.pool.nodes in
    let line = c.args.line.now in
    let rule = rule_of line.row in
    let premises = map (statement (trees_in ns)) c.args.premises.items in
    let says = statement (trees_in ns) line.says in
    let facts = c.in_ok-said-in_default.ensures in
    let same = restored ns new c.release.new.self.nodes c.mark-mark.result c.mark-mark.ensures.mark facts.grows c.release.ensures.nodes in
    let r = c.is_said.result in
    let iff = said_iff ns new facts.grows facts.pool line.says c.requires.line (ConcludesBy c.scheme.result line.number premises) c.in_ok-said-in_default.field-0 r
    (rw c.deref.ensures.value at facts.concludes) c.is_said.ensures in
    let scheme_is : c.scheme.result ≡ rule.scheme = c.scheme.ensures in
    let other = by_scheme rule.scheme rule line.number premises says (λ text. c.in_default.not-Text (scheme_is ∙ text)) in
    record {
      applies = subst (λ (A : Type 0). (r ≡ true) ↔ A) (sym other) (subst (λ (s : Scheme). (r ≡ true) ↔ ConcludesBy s line.number premises says) scheme_is iff);
      known = subst (λ (nodes : List Node). IsKnown nodes c.conclusion-said.new.known) (sym same) facts.known;
      grows = Grows-same ns c.release.new.self.nodes same;
      pool = c.mark-mark.ensures.pool;
    }
