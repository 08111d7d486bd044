use Rattle.std.proofs.Common.{◌≡◌, ℕ, suc, ◌+◌, length, take, sym, ap, ◌∙◌, arith}
use Rattle.rz_rules.specs.Judgment.{judgment_form}
use Rattle.rz_rule_text.proofs.Judging.{no_judgment}
use Rattle.rz_rule_text.proofs.text.put_judgment.Goals as goal

pub returns-in_default-of-clause-none : goal.returns-in_default-of-clause-none
returns-in_default-of-clause-none c =
    let count : suc (length (judgment_form c.args.kind).parts) ≡ 1 + length c.parts.result.now = omega (arith, ap length c.parts.ensures) in
    absurd (no_judgment c.args.kind c.in-Some-split_first.context.now c.in-Some-split_first.parts.now c.in-Some.ids c.args.stack.now.trees.items c.requires
    (sym c.as_slice.ensures.value ∙ c.in-Some-split_first.ensures.cases.0)
    (ap (λ (n : ℕ). take n c.args.stack.now.trees.items) count ∙ c.in-Some.ensures.known) c.of.result c.of.ensures.only c.in_default-of.is)
