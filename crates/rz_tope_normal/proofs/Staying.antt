-- What stays while the pool and the proof grow.
use Rattle.std.proofs.Common.{◌≡◌, ℕ, ◌<◌, List, [], ◌++◌, length, All, Option, Some, None, refl, sym, ap, subst, ◌∙◌, append_assoc, append-nil, arith}
use Rattle.rz_rules.specs.declared.nodes.Node.{Node}
use Rattle.rz_rules.specs.Tree.{Tree, tree_of}
use Rattle.rz_rules.specs.Cube.{binders_of}
use Rattle.rz_rules.specs.Tope.{IsTopeOver, at_most, disjunction, equal_points}
use Rattle.rz_pool.specs.Pool.{Grows}
use Rattle.rz_pool.proofs.Nodes.{Grows-same, Grows-trans, length-Grows, KeepsTrees-Grows}
use Rattle.rz_tope_proof.specs.declared.proof.Claim.{Claim}
use Rattle.rz_tope_proof.specs.declared.proof.Claim.TheVariants as claim
use Rattle.rz_tope_proof.specs.declared.proof.Reason.{Reason}
use Rattle.rz_tope_proof.specs.declared.proof.Inference.{Inference}
use Rattle.rz_tope_proof.specs.Claim.{IsClaim, ids_of, tope_of}
use Rattle.rz_tope_proof.specs.Proving.{Extends, IsInference, Proves, ByHypothesis, ByAssumption, ByAxiom, ByOne, ByTwo, ByCases}
use Rattle.rz_tope_proof.proofs.Proving.{extended_proof}
use Rattle.rz_tope_normal.specs.Later.{Later, IsEqualBy}

pub Extends-same : (all : List Inference) → Extends all all
Extends-same all = record { added = []; is = sym (append-nil all) }

pub Extends-trans : (a b c : List Inference) → Extends a b → Extends b c → Extends a c
Extends-trans a b c f g = record {
  added = f.added ++ g.added;
  is = g.is ∙ ap (λ (xs : List Inference). xs ++ g.added) f.is ∙ append_assoc a f.added g.added;
}

pub Later-same : (nodes : List Node) (all : List Inference) → Later nodes all nodes all
Later-same nodes all = record { grows = Grows-same nodes nodes refl; extends = Extends-same all }

pub Later-trans : (a b c : List Node) (p q r : List Inference) → Later a p b q → Later b q c r → Later a p c r
Later-trans a b c p q r f g = record { grows = Grows-trans a b c f.grows g.grows; extends = Extends-trans p q r f.extends g.extends }

pub Later-grows : (a b : List Node) (p : List Inference) → Grows a b → Later a p b p
Later-grows a b p grows = record { grows = grows; extends = Extends-same p }

pub Later-extends : (a : List Node) (p q : List Inference) → Extends p q → Later a p a q
Later-extends a p q extends = record { grows = Grows-same a a refl; extends = extends }

module _ (old new : List Node) (grows : Grows old new) where
  pub tree_stays : (id : ℕ) → id < length old → tree_of new id ≡ tree_of old id
  tree_stays id lt = KeepsTrees-Grows old new grows id lt

  pub live_stays : (id : ℕ) → id < length old → id < length new
  live_stays id lt = omega (arith, length-Grows old new grows)

  pub tope_stays : (says : Claim) → All (λ id. id < length old) (ids_of says) → tope_of new says ≡ tope_of old says
  tope_stays (claim.Tope tope) live = tree_stays tope (live 0 0 (omega arith))
  tope_stays claim.Bottom live = refl
  tope_stays (claim.AtMost s u) live =
      let s_is = tree_stays s (live 0 0 (omega arith)) in
      let u_is = tree_stays u (live 1 0 (omega arith)) in
      λ i. at_most (s_is i) (u_is i)
  tope_stays (claim.Either s u) live =
      let s_is = tree_stays s (live 0 0 (omega arith)) in
      let u_is = tree_stays u (live 1 0 (omega arith)) in
      λ i. disjunction (at_most (s_is i) (u_is i)) (at_most (u_is i) (s_is i))
  tope_stays (claim.Equal cube s u) live =
      let cube_is = tree_stays cube (live 0 0 (omega arith)) in
      let s_is = tree_stays s (live 1 0 (omega arith)) in
      let u_is = tree_stays u (live 2 0 (omega arith)) in
      λ i. equal_points (cube_is i) (s_is i) (u_is i)

  pub claim_stays : (context : Tree) (says : Claim) → IsClaim old context says → IsClaim new context says
  claim_stays context says is = record {
    live = λ k d l. live_stays _ (is.live k d l);
    over = subst (IsTopeOver (binders_of context)) (sym (tope_stays says is.live)) is.over;
  }

  module _ (context : Tree) (all : List Inference) where
    inference_stays : (i : ℕ) (why : Reason) (tope : Tree) → IsInference old context all i why tope → IsInference new context all i why tope
    inference_stays i why tope is = record {
      claim = is.claim;
      there = is.there;
      is_claim = claim_stays context is.claim is.is_claim;
      says = tope_stays is.claim is.is_claim.live ∙ is.says;
    }

    pub proof_stays : {assumed : List ℕ} {i : ℕ} {tope : Tree} → Proves old context all assumed i tope → Proves new context all assumed i tope
    proof_stays (ByHypothesis number is given) = ByHypothesis number (inference_stays _ _ _ is) given
    proof_stays (ByAssumption is within) = ByAssumption (inference_stays _ _ _ is) within
    proof_stays (ByAxiom by is infers) = ByAxiom by (inference_stays _ _ _ is) infers
    proof_stays (ByOne by j p is less infers first) = ByOne by j p (inference_stays _ _ _ is) less infers (proof_stays first)
    proof_stays (ByTwo by j k p q is less smaller infers first second) =
        ByTwo by j k p q (inference_stays _ _ _ is) less smaller infers (proof_stays first) (proof_stays second)
    proof_stays (ByCases cover one other p q is a b c left_is right_is covers first second) =
        ByCases cover one other p q (inference_stays _ _ _ is) a b c (inference_stays _ _ _ left_is) (inference_stays _ _ _ right_is)
        (proof_stays covers) (proof_stays first) (proof_stays second)

module _ (old : List Node) (before : List Inference) (new : List Node) (after : List Inference) (later : Later old before new after) (context : Tree)
  where
    pub proves_later : {i : ℕ} {tope : Tree} → Proves old context before [] i tope → Proves new context after [] i tope
    proves_later proves = extended_proof new context before after later.extends (proof_stays old new later.grows context before proves)

    pub equal_later : (cube : Tree) (s u : ℕ) (equation : Option ℕ) → s < length old → u < length old → IsEqualBy old context before cube s u equation
        → IsEqualBy new context after cube s u equation
    equal_later cube s u None ls lu e = e
    equal_later cube s u (Some step) ls lu e =
        let s_is = tree_stays old new later.grows s ls in
        let u_is = tree_stays old new later.grows u lu in
        subst (λ (tope : Tree). Proves new context after [] step tope) (λ i. equal_points cube (sym s_is i) (sym u_is i)) (proves_later e)

-- an equation that is known to be there, or not to be
pub equal_is : (nodes : List Node) (context : Tree) (all : List Inference) (cube : Tree) (s u : ℕ) (one other : Option ℕ) → one ≡ other
    → IsEqualBy nodes context all cube s u one → IsEqualBy nodes context all cube s u other
equal_is nodes context all cube s u one other e h = subst (λ (o : Option ℕ). IsEqualBy nodes context all cube s u o) e h
