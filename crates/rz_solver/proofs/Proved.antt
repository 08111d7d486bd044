-- What is known of an inference that is proved.
use Rattle.std.proofs.Common.{◌≡◌, ℕ, zero, suc, ◌<◌, List, [], ◌∷◌, length, get_or, Some, None, refl, sym, ap, ◌∙◌, subst, arith}
use Rattle.std.specs.Prelude.{Contains, slice_get}
use Rattle.std.specs.List.{slice_index_or}
use Rattle.rz_rules.specs.declared.nodes.Node.{Node}
use Rattle.rz_rules.specs.Tree.{Tree, tree_of}
use Rattle.rz_pool.specs.Pool.{Grows}
use Rattle.rz_pool.proofs.Nodes.{KeepsTrees-Grows}
use Rattle.rz_tope_proof.specs.declared.proof.Claim.{Claim}
use Rattle.rz_tope_proof.specs.declared.proof.Claim.TheVariants as claim
use Rattle.rz_tope_proof.specs.declared.proof.Inference.{Inference}
use Rattle.rz_tope_proof.specs.declared.proof.Reason.{Reason}
use Rattle.rz_tope_proof.specs.declared.proof.Reason.TheVariants as reason
use Rattle.rz_tope_proof.specs.Claim.{IsClaim, ids_of, tope_of}
use Rattle.rz_tope_proof.specs.Proving.{Infers, IsGiven, IsInference, Proves, ByHypothesis, ByAssumption, ByAxiom, ByOne, ByTwo, ByCases}
use Rattle.rz_rules.specs.Tope.{at_most, disjunction, equal_points}
use Rattle.rz_solver.specs.Writing.{Setting, IsProved, inference_at, tope_said}

-- an item that is there
pub item_is : {A : Type 0} (list : List A) (k : ℕ) (x d : A) → slice_get list k ≡ Some x → slice_index_or list k d ≡ x
item_is [] k x d h = let wrong : None ≡ Some x = h in absurd cc
item_is (y ∷ list) zero x d h = let one : Some y ≡ Some x = h in cc
item_is (y ∷ list) (suc k) x d h = item_is list k x d h

module _ (here : Setting) where
  -- the inference that is there
  pub inference_is : (i : ℕ) (why : Reason) (t : Tree) (is : IsInference here.nodes here.context here.all i why t)
      → inference_at here.all i ≡ record { claim = is.claim; reason = why }
  inference_is i why t is =
      item_is here.all i (record { claim = is.claim; reason = why }) (record { claim = claim.Tope 0; reason = reason.Hypothesis 0 }) is.there

  pub said_so : (i : ℕ) (why : Reason) (t : Tree) → IsInference here.nodes here.context here.all i why t → tope_said here i ≡ t
  said_so i why t is = ap (λ (x : Inference). tope_of here.nodes x.claim) (inference_is i why t is) ∙ is.says

  -- of what is proved there is an inference
  pub inference_of : {assumed : List ℕ} {i : ℕ} {t : Tree} → Proves here.nodes here.context here.all assumed i t
      → (why : Reason) × IsInference here.nodes here.context here.all i why t
  inference_of (ByHypothesis number is given) = (reason.Hypothesis number, is)
  inference_of (ByAssumption is within) = (reason.Assumption, is)
  inference_of (ByAxiom by is infers) = (reason.Axiom by, is)
  inference_of (ByOne by j p is less infers first) = (reason.One by j, is)
  inference_of (ByTwo by j k p q is less smaller infers first second) = (reason.Two by j k, is)
  inference_of (ByCases cover one other p q is a b c left_is right_is covers first second) = (reason.Cases cover one other, is)

  pub tope_is : {assumed : List ℕ} {i : ℕ} {t : Tree} → Proves here.nodes here.context here.all assumed i t → tope_said here i ≡ t
  tope_is {i = i} {t = t} proves = let found = inference_of proves in said_so i found.0 t found.1

  pub proved : {assumed : List ℕ} {i : ℕ} {t : Tree} → Proves here.nodes here.context here.all assumed i t → IsProved here assumed i
  proved {assumed = assumed} {i = i} proves = subst (Proves here.nodes here.context here.all assumed i) (sym (tope_is proves)) proves

  pub claim_is : {assumed : List ℕ} {i : ℕ} {t : Tree} → Proves here.nodes here.context here.all assumed i t
      → IsClaim here.nodes here.context (inference_at here.all i).claim
  claim_is {i = i} {t = t} proves =
      let found = inference_of proves in
      subst (λ (x : Inference). IsClaim here.nodes here.context x.claim) (sym (inference_is i found.0 t found.1)) found.1.is_claim

  within : {A : Type 0} (list : List A) (k : ℕ) (x : A) → slice_get list k ≡ Some x → k < length list
  within [] k x h = let wrong : None ≡ Some x = h in absurd cc
  within (y ∷ list) zero x h = omega arith
  within (y ∷ list) (suc k) x h = let less = within list k x h in omega (less, arith)

  pub is_there : {assumed : List ℕ} {i : ℕ} {t : Tree} → Proves here.nodes here.context here.all assumed i t → i < length here.all
  is_there {i = i} proves =
      let found = inference_of proves in within here.all i (record { claim = found.1.claim; reason = found.0 }) found.1.there

  -- what a case distinction rests on
  pub record AreCases (assumed : List ℕ) (cover : ℕ) (one other : ℕ × ℕ) (t : Tree) : Type 0 where
    pub left : Tree
    pub right : Tree
    pub left_is : IsInference here.nodes here.context here.all one.0 reason.Assumption left
    pub right_is : IsInference here.nodes here.context here.all other.0 reason.Assumption right
    pub covers : Proves here.nodes here.context here.all assumed cover (disjunction left right)
    pub first : Proves here.nodes here.context here.all (one.0 ∷ assumed) one.1 t
    pub second : Proves here.nodes here.context here.all (other.0 ∷ assumed) other.1 t

  -- why a tope is proved, by the reason of its inference
  abbrev pub Because : List ℕ → ℕ → Tree → Reason → Type 0
  Because assumed i t (reason.Hypothesis number) = IsGiven here.context number t
  Because assumed i t reason.Assumption = Contains assumed i
  Because assumed i t (reason.Axiom by) = Infers by [] t
  Because assumed i t (reason.One by j) = (p : Tree) × Infers by (p ∷ []) t × Proves here.nodes here.context here.all assumed j p
  Because assumed i t (reason.Two by j k) =
      (p : Tree) × (q : Tree) × Infers by (p ∷ q ∷ []) t
      × Proves here.nodes here.context here.all assumed j p × Proves here.nodes here.context here.all assumed k q
  Because assumed i t (reason.Cases cover one other) = AreCases assumed cover one other t

  pub because : {assumed : List ℕ} {i : ℕ} {t : Tree} → Proves here.nodes here.context here.all assumed i t
      → Because assumed i t (inference_at here.all i).reason
  because {assumed = assumed} {i = i} {t = t} (ByHypothesis number is given) =
      subst (λ (x : Inference). Because assumed i t x.reason) (sym (inference_is i (reason.Hypothesis number) t is)) given
  because {assumed = assumed} {i = i} {t = t} (ByAssumption is open_one) =
      subst (λ (x : Inference). Because assumed i t x.reason) (sym (inference_is i reason.Assumption t is)) open_one
  because {assumed = assumed} {i = i} {t = t} (ByAxiom by is infers) =
      subst (λ (x : Inference). Because assumed i t x.reason) (sym (inference_is i (reason.Axiom by) t is)) infers
  because {assumed = assumed} {i = i} {t = t} (ByOne by j p is less infers first) =
      subst (λ (x : Inference). Because assumed i t x.reason) (sym (inference_is i (reason.One by j) t is)) (p, infers, first)
  because {assumed = assumed} {i = i} {t = t} (ByTwo by j k p q is less smaller infers first second) =
      subst (λ (x : Inference). Because assumed i t x.reason) (sym (inference_is i (reason.Two by j k) t is)) (p, q, infers, first, second)
  because {assumed = assumed} {i = i} {t = t} (ByCases cover one other p q is a b c left_is right_is covers first second) =
      subst (λ (x : Inference). Because assumed i t x.reason) (sym (inference_is i (reason.Cases cover one other) t is))
      (record { left = p; right = q; left_is = left_is; right_is = right_is; covers = covers; first = first; second = second })

-- a claim says among more nodes what it says
module _ (old new : List Node) (grows : Grows old new) where
  kept : (id : ℕ) → id < length old → tree_of new id ≡ tree_of old id
  kept id live = KeepsTrees-Grows old new grows id live

  pub tope_grown : (says : Claim) → ((k d : ℕ) → k < length (ids_of says) → get_or (ids_of says) k d < length old) → tope_of new says ≡ tope_of old says
  tope_grown (claim.Tope t) live = kept t (live 0 0 (omega arith))
  tope_grown claim.Bottom live = refl
  tope_grown (claim.AtMost s u) live = λ i. at_most (kept s (live 0 0 (omega arith)) i) (kept u (live 1 0 (omega arith)) i)
  tope_grown (claim.Either s u) live =
      λ i. disjunction (at_most (kept s (live 0 0 (omega arith)) i) (kept u (live 1 0 (omega arith)) i))
      (at_most (kept u (live 1 0 (omega arith)) i) (kept s (live 0 0 (omega arith)) i))
  tope_grown (claim.Equal cube s u) live =
      λ i. equal_points (kept cube (live 0 0 (omega arith)) i) (kept s (live 1 0 (omega arith)) i) (kept u (live 2 0 (omega arith)) i)
