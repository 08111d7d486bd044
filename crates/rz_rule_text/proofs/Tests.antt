-- What tests of sorts and kinds tell.
use Rattle.std.proofs.Common.{◌≡◌, Bool, true, false, refl, sym, ◌∙◌, rules}
use Rattle.std.proofs.Math.Bool.{not}
use Rattle.std.proofs.lemmas.Bool.{not-true}
use denote.Enum.Bare.{sameb, same_true, true_same}
use Rattle.rz_rules.specs.contracts.kinds.Sort.{the_type as sorts}
use Rattle.rz_rules.specs.contracts.kinds.Kind.{the_type as kinds}
use Rattle.rz_rules.specs.contracts.judgments.JudgmentKind.{the_type as judgment_kinds}
use Rattle.rz_rules.specs.declared.kinds.Sort.{Sort}
use Rattle.rz_rules.specs.declared.kinds.Kind.{Kind}
use Rattle.rz_rules.specs.declared.judgments.JudgmentKind.{JudgmentKind}

not_false : (b : Bool) → not b ≡ false → b ≡ true
not_false true e = refl
not_false false e = absurd cc

pub sorts_differ : (s t : Sort) (ne : Bool) → ne ≡ not (sameb sorts s t) → ne ≡ true → s ≡ t → ⊥
sorts_differ s t ne e differs same =
    let apart : sameb sorts s t ≡ false = not-true (sameb sorts s t) (sym e ∙ differs) in
    let one : sameb sorts s t ≡ true = true_same sorts s t same in
    absurd cc

pub sorts_agree : (s t : Sort) (ne : Bool) → ne ≡ not (sameb sorts s t) → ne ≡ false → s ≡ t
sorts_agree s t ne e agrees = same_true sorts (search rules) s t (not_false (sameb sorts s t) (sym e ∙ agrees))

pub kinds_differ : (s t : Kind) (ne : Bool) → ne ≡ not (sameb kinds s t) → ne ≡ true → s ≡ t → ⊥
kinds_differ s t ne e differs same =
    let apart : sameb kinds s t ≡ false = not-true (sameb kinds s t) (sym e ∙ differs) in
    let one : sameb kinds s t ≡ true = true_same kinds s t same in
    absurd cc

pub kinds_agree : (s t : Kind) (ne : Bool) → ne ≡ not (sameb kinds s t) → ne ≡ false → s ≡ t
kinds_agree s t ne e agrees = same_true kinds (search rules) s t (not_false (sameb kinds s t) (sym e ∙ agrees))

pub judgments_differ : (s t : JudgmentKind) (ne : Bool) → ne ≡ not (sameb judgment_kinds s t) → ne ≡ true → s ≡ t → ⊥
judgments_differ s t ne e differs same =
    let apart : sameb judgment_kinds s t ≡ false = not-true (sameb judgment_kinds s t) (sym e ∙ differs) in
    let one : sameb judgment_kinds s t ≡ true = true_same judgment_kinds s t same in
    absurd cc

pub judgments_agree : (s t : JudgmentKind) (ne : Bool) → ne ≡ not (sameb judgment_kinds s t) → ne ≡ false → s ≡ t
judgments_agree s t ne e agrees = same_true judgment_kinds (search rules) s t (not_false (sameb judgment_kinds s t) (sym e ∙ agrees))
