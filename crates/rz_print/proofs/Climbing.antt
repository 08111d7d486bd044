-- Words that are read at one level are read at each before it, and in brackets at every level.
use Rattle.std.proofs.Common.{◌≡◌, ℕ, ◌+◌, ◌-◌, ◌≤◌, zero, suc, List, inl, inr, refl, subst, arith}
use Rattle.rz_syntax.specs.declared.grammar.Rule.{Rule}
use Rattle.rz_syntax.specs.declared.grammar.Rule.TheVariants as rule
use Rattle.rz_syntax.specs.Grammar.{alternatives}
use Rattle.rz_print.specs.declared.level.Level.{Level}
use Rattle.rz_print.specs.declared.level.Level.TheVariants as level
use Rattle.rz_print.specs.Level.{rank}
use Rattle.rz_print.specs.Text.{Word}
use Rattle.rz_print.specs.Meaning.{Tree}
use Rattle.rz_print.proofs.Runs.{runs_rule}
use Rattle.rz_print.proofs.Terms.{Reads, lifts}
use Rattle.rz_print.proofs.Applications.{head_alone}
use Rattle.rz_print.proofs.States.{pushed}

-- the rule of the level with so many before it
abbrev pub rule_at : ℕ → Rule
rule_at zero = rule.Term
rule_at (suc zero) = rule.Rest
rule_at (suc (suc zero)) = rule.Disjunction
rule_at (suc (suc (suc zero))) = rule.Conjunction
rule_at (suc (suc (suc (suc zero)))) = rule.Relation
rule_at (suc (suc (suc (suc (suc zero))))) = rule.Product
rule_at (suc (suc (suc (suc (suc (suc zero)))))) = rule.Application
rule_at (suc (suc (suc (suc (suc (suc (suc zero))))))) = rule.Head
rule_at (suc (suc (suc (suc (suc (suc (suc (suc n)))))))) = rule.Atom

abbrev pub rule_of : Level → Rule
rule_of at = rule_at (rank at)

head_of_atom : (words : List Word) (tree : Tree) → Reads rule.Atom words tree → Reads rule.Head words tree
unfolding alternatives
head_of_atom words tree r text tokens read b h =
    let t = r text tokens read b h in
    record {
      start = t.start;
      raw = t.raw;
      shapes = t.shapes;
      forms = t.forms;
      runs = runs_rule rule.Head read b (pushed b t.start t.raw t.shapes t.forms) (inl refl) t.runs;
      is = t.is;
    }

step : (n : ℕ) (words : List Word) (tree : Tree) → Reads (rule_at (suc n)) words tree → Reads (rule_at n) words tree
unfolding alternatives
step zero words tree r = lifts rule.Term rule.Rest rule.Tail (inr (inr (inr (inl refl)))) (inl refl) words tree r
step (suc zero) words tree r = lifts rule.Rest rule.Disjunction rule.Faces (inl refl) (inl refl) words tree r
step (suc (suc zero)) words tree r = lifts rule.Disjunction rule.Conjunction rule.MoreDisjunction (inl refl) (inl refl) words tree r
step (suc (suc (suc zero))) words tree r = lifts rule.Conjunction rule.Relation rule.MoreConjunction (inl refl) (inl refl) words tree r
step (suc (suc (suc (suc zero)))) words tree r = lifts rule.Relation rule.Product rule.RightSide (inl refl) (inl refl) words tree r
step (suc (suc (suc (suc (suc zero))))) words tree r = lifts rule.Product rule.Application rule.MoreProduct (inl refl) (inl refl) words tree r
step (suc (suc (suc (suc (suc (suc zero)))))) words tree r = head_alone words tree r
step (suc (suc (suc (suc (suc (suc (suc zero))))))) words tree r = head_of_atom words tree r
step (suc (suc (suc (suc (suc (suc (suc (suc n)))))))) words tree r = r

-- so many levels up
climbs : (count n : ℕ) (words : List Word) (tree : Tree) → Reads (rule_at (count + n)) words tree → Reads (rule_at n) words tree
climbs zero n words tree r = subst (λ (k : ℕ). Reads (rule_at k) words tree) (none n) r
  where
    none : (k : ℕ) → zero + k ≡ k
    none k = omega arith
climbs (suc count) n words tree r =
    climbs count n words tree (step (count + n) words tree (subst (λ (k : ℕ). Reads (rule_at k) words tree) (one count n) r))
  where
    one : (a b : ℕ) → suc a + b ≡ suc (a + b)
    one a b = omega arith

pub climbs_to : (low high : ℕ) (words : List Word) (tree : Tree) → low ≤ high → Reads (rule_at high) words tree → Reads (rule_at low) words tree
climbs_to low high words tree le r =
    let same : high ≡ (high - low) + low = omega arith in
    climbs (high - low) low words tree (subst (λ (k : ℕ). Reads (rule_at k) words tree) same r)

pub rank_low : (at : Level) → rank at ≤ 8
rank_low level.Term = omega arith
rank_low level.Rest = omega arith
rank_low level.Disjunction = omega arith
rank_low level.Conjunction = omega arith
rank_low level.Relation = omega arith
rank_low level.Product = omega arith
rank_low level.Application = omega arith
rank_low level.Head = omega arith
rank_low level.Atom = omega arith
