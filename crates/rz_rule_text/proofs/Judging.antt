-- As many parts as a kind has make a judgment.
use Rattle.std.proofs.Common.{◌≡◌, ℕ, suc, ◌≤◌, List, [], ◌∷◌, Some, None, Option, length, take, map, refl, ap, arith}
use Rattle.std.proofs.lemmas.List.{length-map, length-take}
use Rattle.rz_rules.specs.declared.judgments.JudgmentKind.{JudgmentKind}
use Rattle.rz_rules.specs.declared.judgments.JudgmentKind.TheVariants as kind
use Rattle.rz_rules.specs.declared.judgments.Judgment.{Judgment}
use Rattle.rz_rules.specs.declared.judgments.Judgment.TheVariants.{Formed, Holds, Has, Same}
use Rattle.rz_rules.specs.Judgment.{IsJudgmentOf, judgment_form}

judgment_of : (kind : JudgmentKind) (context : ℕ) (parts : List ℕ) → length parts ≡ length (judgment_form kind).parts → (says : Judgment) × IsJudgmentOf kind context parts says
judgment_of kind.Formed c [] n = (Formed c, record { kind_is = refl; context_is = refl; parts_are = refl })
judgment_of kind.Holds c (phi ∷ []) n = (Holds c phi, record { kind_is = refl; context_is = refl; parts_are = refl })
judgment_of kind.Has c (a ∷ of ∷ []) n = (Has c a of, record { kind_is = refl; context_is = refl; parts_are = refl })
judgment_of kind.Same c (a ∷ b ∷ of ∷ []) n = (Same c a b of, record { kind_is = refl; context_is = refl; parts_are = refl })
judgment_of kind c parts n = absurd (omega arith)

pub no_judgment : (kind : JudgmentKind) (context : ℕ) (parts ids : List ℕ) (trees : List (Option ℕ)) → suc (length (judgment_form kind).parts) ≤ length trees
    → ids ≡ context ∷ parts → take (suc (length (judgment_form kind).parts)) trees ≡ map (λ (id : ℕ). Some id) ids
    → (result : Option Judgment) → ((says : Judgment) → IsJudgmentOf kind context parts says → result ≡ Some says) → result ≡ None → ⊥
no_judgment kind context parts ids trees enough split top result only none =
    let n : length parts ≡ length (judgment_form kind).parts =
    omega (arith, enough, ap length split, ap length top, length-map ids (λ (id : ℕ). Some id), length-take (suc (length (judgment_form kind).parts)) trees) in
    let says = judgment_of kind context parts n in
    let some = only says.0 says.1 in
    absurd cc
