use Rattle.rz_rules.specs.Table.{rule_of}
use Rattle.rz_rule_text.proofs.Putting.{live-over}
use Rattle.rz_kernel_rows.proofs.Spelled.{was_spelled, was_too_high}
use Rattle.rz_kernel_rows.proofs.lines.is_spelled.Goals as goal

pub returns-in-Some-clause-spelled : goal.returns-in-Some-clause-spelled
returns-in-Some-clause-spelled c =
    let facts = rw (c.in-Some.is, c.text.ensures, c.deref.ensures.value) at c.in_ok-said.ensures in
    was_spelled c.args.pool.now.nodes c.spell.new.pool.nodes facts.grows c.requires.pool facts.pool (rule_of c.args.row).text c.args.finding.now.letters.items c.args.finding.now.name
    c.args.judgments.now c.requires.letters c.requires.judgments c.in-Some.said.items c.are_equal.result facts.spells (live-over c.spell.new.pool.nodes c.in-Some.said.items facts.over)
    (rw c.deref-in-Some.ensures.value at c.are_equal.ensures)

pub returns-in-None-clause-spelled : goal.returns-in-None-clause-spelled
returns-in-None-clause-spelled c =
    let facts = rw (c.in-None.is, c.text.ensures, c.deref.ensures.value) at c.in_ok-said.ensures in (
      λ wrong. absurd cc,
      λ instance. absurd (was_too_high c.args.pool.now.nodes c.spell.new.pool.nodes facts.grows c.requires.pool facts.pool (rule_of c.args.row).text c.args.finding.now.letters.items c.args.finding.now.name
          c.args.judgments.now c.requires.letters c.requires.judgments facts.none instance),
    )
