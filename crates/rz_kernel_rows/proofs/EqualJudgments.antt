-- The test of two judgments tells whether they are equal.
use Rattle.std.proofs.Common.{◌≡◌, ℕ, ◌&&◌, Bool, true, nat_eq, ap, ◌∙◌}
use Rattle.std.specs.Bool.{Decides}
use Rattle.std.specs.Cmp.{first_so, second_so, unsigned_Decides}
use Rattle.rz_rules.specs.declared.judgments.Judgment.{Judgment}
use Rattle.rz_rules.specs.declared.judgments.Judgment.TheVariants.{Formed, Holds, Has, Same}
use Rattle.rz_rules.specs.contracts.judgments.JudgmentPartialEq.TheImpl.{eq-value}

both : (a b : Bool) → a ≡ true → b ≡ true → (a && b) ≡ true
both a b e f = ap (λ (x : Bool). x && b) e ∙ f

same : (a b : ℕ) → nat_eq a b ≡ true → a ≡ b
same a b e = (unsigned_Decides a b).0 e

equal : (a b : ℕ) → a ≡ b → nat_eq a b ≡ true
equal a b e = (unsigned_Decides a b).1 e

pub judgments_Decides : (one other : Judgment) → Decides (eq-value.it one other) (one ≡ other)
judgments_Decides (Formed c) (Formed d) = (λ e. ap Formed (same c d e), λ e. equal c d cc)
judgments_Decides (Holds c p) (Holds d q) = (
  λ e. let one = same c d (first_so (nat_eq c d) (nat_eq p q) e) in
      let two = same p q (second_so (nat_eq c d) (nat_eq p q) e) in
      λ i. Holds (one i) (two i),
  λ e. both (nat_eq c d) (nat_eq p q) (equal c d cc) (equal p q cc),
)
judgments_Decides (Has c a t) (Has d b u) = (
  λ e. let one = same c d (first_so (nat_eq c d) (nat_eq a b && nat_eq t u) e) in
      let rest = second_so (nat_eq c d) (nat_eq a b && nat_eq t u) e in
      let two = same a b (first_so (nat_eq a b) (nat_eq t u) rest) in
      let three = same t u (second_so (nat_eq a b) (nat_eq t u) rest) in
      λ i. Has (one i) (two i) (three i),
  λ e. both (nat_eq c d) (nat_eq a b && nat_eq t u) (equal c d cc) (both (nat_eq a b) (nat_eq t u) (equal a b cc) (equal t u cc)),
)
judgments_Decides (Same c a b t) (Same d x y u) = (
  λ e. let one = same c d (first_so (nat_eq c d) (nat_eq a x && (nat_eq b y && nat_eq t u)) e) in
      let rest = second_so (nat_eq c d) (nat_eq a x && (nat_eq b y && nat_eq t u)) e in
      let two = same a x (first_so (nat_eq a x) (nat_eq b y && nat_eq t u) rest) in
      let more = second_so (nat_eq a x) (nat_eq b y && nat_eq t u) rest in
      let three = same b y (first_so (nat_eq b y) (nat_eq t u) more) in
      let four = same t u (second_so (nat_eq b y) (nat_eq t u) more) in
      λ i. Same (one i) (two i) (three i) (four i),
  λ e. both (nat_eq c d) (nat_eq a x && (nat_eq b y && nat_eq t u)) (equal c d cc)
      (both (nat_eq a x) (nat_eq b y && nat_eq t u) (equal a x cc) (both (nat_eq b y) (nat_eq t u) (equal b y cc) (equal t u cc))),
)
judgments_Decides one other = (λ e. absurd cc, λ e. absurd cc)
