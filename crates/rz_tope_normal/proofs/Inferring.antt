-- Inferences that are added.
use Rattle.std.proofs.Common.{◌≡◌, ℕ, ◌<◌, List, [], ◌∷◌, ◌++◌, length, Some, refl, subst, ◌∙◌, arith}
use Rattle.std.specs.Prelude.{slice_get}
use Rattle.std.proofs.lemmas.Option.{slice_get_within}
use Rattle.rz_rules.specs.declared.nodes.Node.{Node}
use Rattle.rz_rules.specs.declared.rows.Row.{Row}
use Rattle.rz_rules.specs.Tree.{Tree}
use Rattle.rz_tope_proof.specs.declared.proof.Claim.{Claim}
use Rattle.rz_tope_proof.specs.declared.proof.Reason.{Reason}
use Rattle.rz_tope_proof.specs.declared.proof.Reason.TheVariants as reason
use Rattle.rz_tope_proof.specs.declared.proof.Inference.{Inference}
use Rattle.rz_tope_proof.specs.Claim.{IsClaim, tope_of}
use Rattle.rz_tope_proof.specs.Proving.{Extends, Infers, IsGiven, IsInference, Proves, ByHypothesis, ByAssumption, ByAxiom, ByOne, ByTwo, ByCases}
use Rattle.rz_tope_proof.proofs.Proving.{extended_proof}
use Rattle.rz_tope_normal.specs.Later.{InfersFrom, InfersFromTwo}

last_item : {X : Type 0} (old : List X) (x : X) → slice_get (old ++ x ∷ []) (length old) ≡ Some x
last_item [] x = refl
last_item (y ∷ old) x = last_item old x

-- an inference that proves is there
pub proved_within : (nodes : List Node) (context : Tree) (all : List Inference) {assumed : List ℕ} {i : ℕ} {tope : Tree}
    → Proves nodes context all assumed i tope → i < length all
proved_within nodes context all (ByHypothesis number is given) = slice_get_within all _ _ is.there
proved_within nodes context all (ByAssumption is within) = slice_get_within all _ _ is.there
proved_within nodes context all (ByAxiom by is infers) = slice_get_within all _ _ is.there
proved_within nodes context all (ByOne by j p is less infers first) = slice_get_within all _ _ is.there
proved_within nodes context all (ByTwo by j k p q is less smaller infers first second) = slice_get_within all _ _ is.there
proved_within nodes context all (ByCases cover one other p q is a b c left_is right_is covers first second) = slice_get_within all _ _ is.there

module _ (nodes : List Node) (context : Tree) (old new : List Inference) (claim : Claim) (fine : IsClaim nodes context claim) (why : Reason)
    (added : new ≡ old ++ record { claim = claim; reason = why } ∷ []) (step : ℕ) (number : step ≡ length old) where
  pub extends : Extends old new
  extends = record { added = record { claim = claim; reason = why } ∷ []; is = added }

  is_inference : IsInference nodes context new step why (tope_of nodes claim)
  is_inference = record {
    claim = claim;
    there = (λ i. slice_get (added i) (number i)) ∙ last_item old (record { claim = claim; reason = why });
    is_claim = fine;
    says = refl;
  }

  pub hypothesis_proves : (entry : ℕ) → why ≡ reason.Hypothesis entry → IsGiven context entry (tope_of nodes claim) → Proves nodes context new [] step
      (tope_of nodes claim)
  hypothesis_proves entry e given = ByHypothesis entry (subst (λ (r : Reason). IsInference nodes context new step r (tope_of nodes claim)) e
      is_inference) given

  pub axiom_proves : (row : Row) → why ≡ reason.Axiom row → Infers row [] (tope_of nodes claim) → Proves nodes context new [] step
      (tope_of nodes claim)
  axiom_proves row e infers = ByAxiom row (subst (λ (r : Reason). IsInference nodes context new step r (tope_of nodes claim)) e is_inference) infers

  pub one_proves : (row : Row) (premise : ℕ) → why ≡ reason.One row premise → InfersFrom nodes context old row premise (tope_of nodes claim)
      → Proves nodes context new [] step (tope_of nodes claim)
  one_proves row premise e from =
      ByOne row premise from.said (subst (λ (r : Reason). IsInference nodes context new step r (tope_of nodes claim)) e is_inference)
      (omega (arith, number, proved_within nodes context old from.proved)) from.infers (extended_proof nodes context old new extends from.proved)

  pub two_proves : (row : Row) (first second : ℕ) → why ≡ reason.Two row first second → InfersFromTwo nodes context old row first second
      (tope_of nodes claim)
      → Proves nodes context new [] step (tope_of nodes claim)
  two_proves row first second e from =
      ByTwo row first second from.said from.other (subst (λ (r : Reason). IsInference nodes context new step r (tope_of nodes claim)) e is_inference)
      (omega (arith, number, proved_within nodes context old from.first_proved))
      (omega (arith, number, proved_within nodes context old from.second_proved)) from.infers
      (extended_proof nodes context old new extends from.first_proved) (extended_proof nodes context old new extends from.second_proved)
