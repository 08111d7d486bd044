-- What inferences prove, they prove among more inferences, and under more assumptions.
use Rattle.std.proofs.Common.{◌≡◌, ℕ, zero, suc, ◌<◌, ◌≤◌, List, [], ◌∷◌, ◌++◌, length, Some, None, refl, sym, ap, ◌∙◌, subst, arith, append_assoc, append-nil, length-append}
use Rattle.std.specs.Prelude.{slice_get, Contains}
use Rattle.rz_rules.specs.declared.rows.Row.{Row}
use Rattle.rz_rules.specs.Cube.{binders_of}
use Rattle.rz_rules.specs.Tope.{IsTopeOver, disjunction}
use Rattle.rz_tope_proof.specs.declared.proof.Claim.{Claim}
use Rattle.rz_tope_proof.specs.declared.proof.Reason.TheVariants as reason
use Rattle.rz_tope_proof.specs.Claim.{IsClaim, tope_of}
use Rattle.rz_rules.specs.declared.nodes.Node.{Node}
use Rattle.rz_rules.specs.Tree.{Tree}
use Rattle.rz_tope_proof.specs.declared.proof.Reason.{Reason}
use Rattle.rz_tope_proof.specs.declared.proof.Inference.{Inference}
use Rattle.rz_tope_proof.specs.Proving.{Proves, ByHypothesis, ByAssumption, ByAxiom, ByOne, ByTwo, ByCases, IsInference, Infers, Extends}

-- an item of the front of a list
pub item_before : {A : Type 0} (list more : List A) (k : ℕ) (x : A) → slice_get list k ≡ Some x → slice_get (list ++ more) k ≡ Some x
item_before [] more zero x h = let wrong : None ≡ Some x = h in absurd cc
item_before [] more (suc k) x h = let wrong : None ≡ Some x = h in absurd cc
item_before (y ∷ list) more zero x h = h
item_before (y ∷ list) more (suc k) x h = item_before list more k x h

module _ (nodes : List Node) (context : Tree) (old new : List Inference) (extends : Extends old new) where
  -- an inference that was there is there
  pub inference_kept : (i : ℕ) (why : Reason) (tope : Tree) → IsInference nodes context old i why tope → IsInference nodes context new i why tope
  inference_kept i why tope is = record {
    claim = is.claim;
    there = subst (λ all. slice_get all i ≡ Some (record { claim = is.claim; reason = why })) (sym extends.is)
        (item_before old extends.added i (record { claim = is.claim; reason = why }) is.there);
    is_claim = is.is_claim;
    says = is.says;
  }

  -- what was proved is proved among more inferences
  proves_kept : {assumed : List ℕ} {i : ℕ} {tope : Tree} → Proves nodes context old assumed i tope → Proves nodes context new assumed i tope
  proves_kept (ByHypothesis number is given) = ByHypothesis number (inference_kept _ _ _ is) given
  proves_kept (ByAssumption is within) = ByAssumption (inference_kept _ _ _ is) within
  proves_kept (ByAxiom by is infers) = ByAxiom by (inference_kept _ _ _ is) infers
  proves_kept (ByOne by j p is less infers first) = ByOne by j p (inference_kept _ _ _ is) less infers (proves_kept first)
  proves_kept (ByTwo by j k p q is less smaller infers first second) =
      ByTwo by j k p q (inference_kept _ _ _ is) less smaller infers (proves_kept first) (proves_kept second)
  proves_kept (ByCases cover one other p q is a b c left_is right_is covers first second) =
      ByCases cover one other p q (inference_kept _ _ _ is) a b c (inference_kept _ _ _ left_is) (inference_kept _ _ _ right_is)
      (proves_kept covers) (proves_kept first) (proves_kept second)

pub extended_proof : (nodes : List Node) (context : Tree) (old new : List Inference) → Extends old new
    → {assumed : List ℕ} {i : ℕ} {tope : Tree} → Proves nodes context old assumed i tope → Proves nodes context new assumed i tope
extended_proof nodes context old new extends proves = proves_kept nodes context old new extends proves

-- ---- more inferences

pub Extends-same : (all : List Inference) → Extends all all
Extends-same all = record { added = []; is = sym (append-nil all) }

pub Extends-both : (first second third : List Inference) → Extends first second → Extends second third → Extends first third
Extends-both first second third one other = record {
  added = one.added ++ other.added;
  is = other.is ∙ ap (λ (all : List Inference). all ++ other.added) one.is ∙ append_assoc first one.added other.added;
}

pub Extends-by : (old new : List Inference) (last : Inference) → new ≡ old ++ last ∷ [] → Extends old new
Extends-by old new last is = record { added = last ∷ []; is = is }

pub Extends-longer : (old new : List Inference) → Extends old new → length old ≤ length new
Extends-longer old new extends = omega (arith, ap length extends.is, length-append old extends.added)

item_there : {A : Type 0} (list : List A) (k : ℕ) (x : A) → slice_get list k ≡ Some x → k < length list
item_there [] k x h = let wrong : None ≡ Some x = h in absurd cc
item_there (y ∷ list) zero x h = omega arith
item_there (y ∷ list) (suc k) x h = let rest = item_there list k x h in omega (arith, rest)

item_behind : {A : Type 0} (list : List A) (x : A) → slice_get (list ++ x ∷ []) (length list) ≡ Some x
item_behind [] x = refl
item_behind (y ∷ list) x = item_behind list x

-- ---- what an inference says

module _ (nodes : List Node) (context : Tree) (all : List Inference) where
  -- an inference is there
  pub inference_there : (i : ℕ) (why : Reason) (tope : Tree) → IsInference nodes context all i why tope → i < length all
  inference_there i why tope is = item_there all i (record { claim = is.claim; reason = why }) is.there

  inference_over : (i : ℕ) (why : Reason) (tope : Tree) → IsInference nodes context all i why tope → IsTopeOver (binders_of context) tope
  inference_over i why tope is = subst (IsTopeOver (binders_of context)) is.says is.is_claim.over

  -- an inference that proves a tope is there
  pub proves_there : {assumed : List ℕ} {i : ℕ} {tope : Tree} → Proves nodes context all assumed i tope → i < length all
  proves_there (ByHypothesis number is given) = inference_there _ _ _ is
  proves_there (ByAssumption is within) = inference_there _ _ _ is
  proves_there (ByAxiom by is infers) = inference_there _ _ _ is
  proves_there (ByOne by j p is less infers first) = inference_there _ _ _ is
  proves_there (ByTwo by j k p q is less smaller infers first second) = inference_there _ _ _ is
  proves_there (ByCases cover one other p q is a b c left_is right_is covers first second) = inference_there _ _ _ is

  -- what is proved is a tope over the context
  pub proves_over : {assumed : List ℕ} {i : ℕ} {tope : Tree} → Proves nodes context all assumed i tope → IsTopeOver (binders_of context) tope
  proves_over (ByHypothesis number is given) = inference_over _ _ _ is
  proves_over (ByAssumption is within) = inference_over _ _ _ is
  proves_over (ByAxiom by is infers) = inference_over _ _ _ is
  proves_over (ByOne by j p is less infers first) = inference_over _ _ _ is
  proves_over (ByTwo by j k p q is less smaller infers first second) = inference_over _ _ _ is
  proves_over (ByCases cover one other p q is a b c left_is right_is covers first second) = inference_over _ _ _ is

  -- what is proved is proved under more assumptions
  pub proves_under : {assumed : List ℕ} {i : ℕ} {tope : Tree} → Proves nodes context all assumed i tope
      → (more : List ℕ) → ((a : ℕ) → Contains assumed a → Contains more a) → Proves nodes context all more i tope
  proves_under (ByHypothesis number is given) more keeps = ByHypothesis number is given
  proves_under (ByAssumption is within) more keeps = ByAssumption is (keeps _ within)
  proves_under (ByAxiom by is infers) more keeps = ByAxiom by is infers
  proves_under (ByOne by j p is less infers first) more keeps = ByOne by j p is less infers (proves_under first more keeps)
  proves_under (ByTwo by j k p q is less smaller infers first second) more keeps =
      ByTwo by j k p q is less smaller infers (proves_under first more keeps) (proves_under second more keeps)
  proves_under (ByCases cover one other p q is a b c left_is right_is covers first second) more keeps =
      ByCases cover one other p q is a b c left_is right_is (proves_under covers more keeps)
      (proves_under first (one.0 ∷ more) (keeps_behind one.0 _ more keeps)) (proves_under second (other.0 ∷ more) (keeps_behind other.0 _ more keeps))
    where
      keeps_behind : (x : ℕ) (assumed more : List ℕ) → ((a : ℕ) → Contains assumed a → Contains more a)
          → (a : ℕ) → Contains (x ∷ assumed) a → Contains (x ∷ more) a
      keeps_behind x assumed more keeps a (zero, lt, is) = (0, omega arith, is)
      keeps_behind x assumed more keeps a (suc k, lt, is) = let rest = keeps a (k, omega (arith, lt), is) in (suc rest.0, omega (arith, rest.1), rest.2)

  -- what is proved without assumptions is proved under any
  pub proves_anywhere : {i : ℕ} {tope : Tree} → Proves nodes context all [] i tope → (more : List ℕ) → Proves nodes context all more i tope
  proves_anywhere proves more = proves_under proves more (λ a none. absurd (omega (arith, none.1)))

-- ---- an inference more

module _ (nodes : List Node) (context : Tree) (old new : List Inference) (i : ℕ) (claim : Claim) (why : Reason) (tope : Tree)
    (number : i ≡ length old) (added : new ≡ old ++ record { claim = claim; reason = why } ∷ [])
    (is_claim : IsClaim nodes context claim) (says : tope_of nodes claim ≡ tope) where
  last_extends : Extends old new
  last_extends = Extends-by old new (record { claim = claim; reason = why }) added

  pub last_inference : IsInference nodes context new i why tope
  last_inference = record {
    claim = claim;
    there = subst (λ (k : ℕ). slice_get new k ≡ Some (record { claim = claim; reason = why })) (sym number)
        (subst (λ (all : List Inference). slice_get all (length old) ≡ Some (record { claim = claim; reason = why })) (sym added)
        (item_behind old (record { claim = claim; reason = why })));
    is_claim = is_claim;
    says = says;
  }

  before_last : {assumed : List ℕ} {j : ℕ} {p : Tree} → Proves nodes context old assumed j p → j < i
  before_last proves = let there = proves_there nodes context old proves in omega (arith, there, number)

  pub by_assumption : (assumed : List ℕ) → why ≡ reason.Assumption → Contains assumed i → Proves nodes context new assumed i tope
  by_assumption assumed is within = ByAssumption (subst (λ (r : Reason). IsInference nodes context new i r tope) is last_inference) within

  pub by_axiom : (assumed : List ℕ) (by : Row) → why ≡ reason.Axiom by → Infers by [] tope → Proves nodes context new assumed i tope
  by_axiom assumed by is infers = ByAxiom by (subst (λ (r : Reason). IsInference nodes context new i r tope) is last_inference) infers

  pub by_one : (assumed : List ℕ) (by : Row) (j : ℕ) (p : Tree) → why ≡ reason.One by j → Infers by (p ∷ []) tope
      → Proves nodes context old assumed j p → Proves nodes context new assumed i tope
  by_one assumed by j p is infers first =
      ByOne by j p (subst (λ (r : Reason). IsInference nodes context new i r tope) is last_inference) (before_last first) infers
      (extended_proof nodes context old new last_extends first)

  pub by_two : (assumed : List ℕ) (by : Row) (j k : ℕ) (p q : Tree) → why ≡ reason.Two by j k → Infers by (p ∷ q ∷ []) tope
      → Proves nodes context old assumed j p → Proves nodes context old assumed k q → Proves nodes context new assumed i tope
  by_two assumed by j k p q is infers first second =
      ByTwo by j k p q (subst (λ (r : Reason). IsInference nodes context new i r tope) is last_inference) (before_last first) (before_last second) infers
      (extended_proof nodes context old new last_extends first) (extended_proof nodes context old new last_extends second)

  pub by_cases : (assumed : List ℕ) (cover : ℕ) (one other : ℕ × ℕ) (p q : Tree) → why ≡ reason.Cases cover one other
      → IsInference nodes context old one.0 reason.Assumption p → IsInference nodes context old other.0 reason.Assumption q
      → Proves nodes context old assumed cover (disjunction p q)
      → Proves nodes context old (one.0 ∷ assumed) one.1 tope → Proves nodes context old (other.0 ∷ assumed) other.1 tope
      → Proves nodes context new assumed i tope
  by_cases assumed cover one other p q is left_is right_is covers first second =
      ByCases cover one other p q (subst (λ (r : Reason). IsInference nodes context new i r tope) is last_inference)
      (before_last covers) (before_last first) (before_last second)
      (inference_kept nodes context old new last_extends one.0 reason.Assumption p left_is)
      (inference_kept nodes context old new last_extends other.0 reason.Assumption q right_is)
      (extended_proof nodes context old new last_extends covers)
      (extended_proof nodes context old new last_extends first) (extended_proof nodes context old new last_extends second)
