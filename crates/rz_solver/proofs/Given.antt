-- Topes that a context with assumptions gives.
use Rattle.std.proofs.Common.{◌≡◌, ℕ, zero, suc, ◌+◌, List, [], ◌∷◌, ◌++◌, length, Some, None, refl, sym, ap, ◌∙◌, subst, arith}
use Rattle.std.specs.Prelude.{map, slice_get}
use Rattle.std.proofs.lemmas.List.{length-append}
use Rattle.rz_rules.specs.declared.kinds.Space.{Space}
use Rattle.rz_rules.specs.Tree.{Tree}
use Rattle.rz_rules.specs.Context.{Entry, OfTope, depth_of, with_entries, with_entry}
use Rattle.rz_rules.specs.Structural.{formed, holds}
use Rattle.rz_rules.specs.Substitution.{Depth, none, weakened}
use Rattle.rz_rules.proofs.Contexts.{depth_of-append, with_entries-append}
use Rattle.rz_rules.proofs.Substitution.{weakened-none}
use Rattle.rz_log.specs.declared.world.World.{World}
use Rattle.rz_log.specs.World.{Says}
use Rattle.rz_lemmas.specs.Moves.{HasTope, hypothesis_of}
use Rattle.rz_tope_proof.specs.Proving.{IsGiven}
use Rattle.rz_solver.specs.Writing.{Setting, context_under, tope_said}

-- the entries of assumptions
abbrev pub entries_of : Setting → List ℕ → List Entry
entries_of here assumed = map (λ i. OfTope (tope_said here i)) assumed

-- they bind nothing
entries_depth : (here : Setting) (assumed : List ℕ) (space : Space) → depth_of (entries_of here assumed) space ≡ 0
entries_depth here [] space = refl
entries_depth here (i ∷ assumed) space = let rest = entries_depth here assumed space in omega (rest, arith)

entries_count : (here : Setting) (assumed : List ℕ) → length (entries_of here assumed) ≡ length assumed
entries_count here [] = refl
entries_count here (i ∷ assumed) = ap suc (entries_count here assumed)

-- what the context gives it gives behind assumptions
pub given_under : (here : Setting) (assumed : List ℕ) (number : ℕ) (t : Tree) → IsGiven here.context number t
    → IsGiven (context_under here assumed) (number + length assumed) t
given_under here assumed number t given =
    let entries : List Entry = entries_of here assumed in
    let depth : depth_of (entries ++ given.inner) ≡ depth_of given.inner =
    λ x space. sums space x in
    let many : length (entries ++ given.inner) ≡ length entries + length given.inner = length-append entries given.inner in
    let few = entries_count here assumed in
    let count = given.count in
    record {
      outer = given.outer;
      stated = given.stated;
      inner = entries ++ given.inner;
      context_is = ap (λ (c : Tree). with_entries c entries) given.context_is ∙ sym (with_entries-append (with_entry given.outer (OfTope given.stated)) entries given.inner);
      count = omega (many, few, count, arith);
      tope_is = given.tope_is ∙ ap (λ (d : Depth). weakened d given.stated) (sym depth);
    } where
      sums : (space : Space) → depth_of (entries_of here assumed ++ given.inner) space ≡ depth_of given.inner space
      sums space =
          let whole = depth_of-append (entries_of here assumed) given.inner space in
          let none_there = entries_depth here assumed space in
          omega (whole, none_there, arith)

-- an assumption is given behind those further in
pub assumed_under : (here : Setting) (assumed : List ℕ) (k i : ℕ) → slice_get assumed k ≡ Some i → IsGiven (context_under here assumed) k (tope_said here i)
assumed_under here [] k i h = let wrong : None ≡ Some i = h in absurd cc
assumed_under here (j ∷ assumed) zero i h =
    let one : Some j ≡ Some i = h in
    let same : j ≡ i = cc in
    subst (λ (n : ℕ). IsGiven (context_under here (j ∷ assumed)) 0 (tope_said here n)) same (record {
      outer = context_under here assumed;
      stated = tope_said here j;
      inner = [];
      context_is = refl;
      count = refl;
      tope_is = sym (weakened-none (tope_said here j));
    })
assumed_under here (j ∷ assumed) (suc k) i h =
    let rest = assumed_under here assumed k i h in
    let count = rest.count in
    let entry : Entry = OfTope (tope_said here j) in
    let depth : depth_of (entry ∷ rest.inner) ≡ depth_of rest.inner = λ x space. none_more (depth_of rest.inner) space x in
    record {
      outer = rest.outer;
      stated = rest.stated;
      inner = entry ∷ rest.inner;
      context_is = ap (λ (c : Tree). with_entry c entry) rest.context_is;
      count = omega (count, arith);
      tope_is = rest.tope_is ∙ ap (λ (d : Depth). weakened d rest.stated) (sym depth);
    } where
      none_more : (d : Depth) (space : Space) → d space + none space ≡ d space
      none_more d space = omega arith

-- a step that says that the context is formed has the tope, and then says it
module _ (w : World) (step k : ℕ) (context t : Tree) (says : Says w step (formed context)) (given : IsGiven context k t) where
  abbrev pub has_tope : HasTope w step k
  has_tope = record {
    outer = given.outer;
    tope = given.stated;
    inner = given.inner;
    count = given.count;
    formed_is = subst (λ (c : Tree). Says w step (formed c)) given.context_is says;
  }

  pub hypothesis_is : hypothesis_of w step k has_tope ≡ holds context t
  hypothesis_is = λ x. holds (sym given.context_is x) (sym given.tope_is x)
