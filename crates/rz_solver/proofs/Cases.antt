-- How an inference is said that rests on others.
use Rattle.std.proofs.Common.{◌≡◌, ℕ, List, [], ◌∷◌, refl, sym, ap, ◌∙◌, subst}
use Rattle.std.proofs.lemmas.List.Elements.{All-nil, All-cons}
use Rattle.rz_rules.specs.declared.kinds.Sort.TheVariants as sort
use Rattle.rz_rules.specs.declared.rows.Row.{Row}
use Rattle.rz_rules.specs.declared.rows.Row.TheVariants as row
use Rattle.rz_rules.specs.Tree.{Tree, IsTree, tree_of}
use Rattle.rz_rules.specs.Context.{OfTope, with_entry}
use Rattle.rz_rules.specs.Derivation.{Follows}
use Rattle.rz_rules.specs.Structural.{holds}
use Rattle.rz_pool.proofs.Nodes.{Grows-trans}
use Rattle.rz_log.specs.declared.world.World.{World}
use Rattle.rz_log.specs.World.{Grows, IsSound, Says, statements_in}
use Rattle.rz_log.proofs.Worlds.{says_grown}
use Rattle.rz_tope_proof.specs.declared.proof.Inference.{Inference}
use Rattle.rz_tope_proof.specs.declared.proof.Reason.{Reason}
use Rattle.rz_tope_proof.specs.declared.proof.Reason.TheVariants as reason
use Rattle.rz_tope_proof.specs.Claim.{tope_of}
use Rattle.rz_tope_proof.specs.Proving.{Infers, IsInference, Proves}
use Rattle.rz_rules.specs.Tope.{disjunction}
use Rattle.rz_solver.specs.declared.writing.Place.{Place}
use Rattle.rz_solver.specs.Writing.{Setting, IsJob, IsPlace, IsProved, IsSaid, IsSide, context_under, inference_at, tope_said}
use Rattle.rz_solver.proofs.Following.{cases_spelled, infers_applies, premises_under}
use Rattle.rz_solver.proofs.Jobs.{job_grown, line_follows, place_grown, place_is, statement_here, tree_here}
use Rattle.rz_solver.proofs.Proved.{AreCases, Because, because, proved, said_so, tope_is}
use Rattle.rz_log.proofs.Saying.{said_is}

-- why a job is proved, where the reason of its inference is known
pub reason_of : (here : Setting) (w : World) (place : Place) (i : ℕ) (all : List Inference) (why : Reason)
    → here.all ≡ all → (inference_at all i).reason ≡ why → IsJob here w place i
    → Because here place.assumed.items i (tope_said here i) why
reason_of here w place i all why same is job =
    subst (Because here place.assumed.items i (tope_said here i)) (ap (λ (l : List Inference). (inference_at l i).reason) same ∙ is) (because here job.proves)

-- another inference that is proved at the same place
pub other_job : (here : Setting) (w : World) (place : Place) (i j : ℕ) (t : Tree) → IsJob here w place i
    → Proves here.nodes here.context here.all place.assumed.items j t → IsJob here w place j
other_job here w place i j t job proves = record {
  sound = job.sound;
  grows = job.grows;
  is_place = job.is_place;
  proves = proved here proves;
}

-- an assumption that is to be added
pub side_of : (here : Setting) (w : World) (place : Place) (i a : ℕ) (p : Tree) → IsJob here w place i
    → IsInference here.nodes here.context here.all a reason.Assumption p → IsSide here w place a
side_of here w place i a p job is = record {
  sound = job.sound;
  grows = job.grows;
  is_place = job.is_place;
  there = subst (IsInference here.nodes here.context here.all a reason.Assumption) (sym (said_so here a reason.Assumption p is)) is;
}

-- an inference that is proved under it
pub inner_job : (here : Setting) (w later : World) (place inner : Place) (i a j : ℕ) (t : Tree) → IsJob here w place i → Grows w later
    → IsPlace here later inner → inner.assumed.items ≡ a ∷ place.assumed.items
    → Proves here.nodes here.context here.all (a ∷ place.assumed.items) j t → IsJob here later inner j
inner_job here w later place inner i a j t job grows is assumed proves = record {
  sound = grows.sound;
  grows = Grows-trans here.nodes w.pool.nodes later.pool.nodes job.grows grows.nodes;
  is_place = is;
  proves = subst (λ (l : List ℕ). IsProved here l j) (sym assumed) (proved here proves);
}

-- what was said is said as the world grows
pub said_grown : (here : Setting) (old new : World) (assumed : List ℕ) (i step : ℕ) → IsSound old → Grows old new
    → IsSaid here old assumed i step → IsSaid here new assumed i step
said_grown here old new assumed i step sound grows said =
    says_grown old new sound grows step (holds (context_under here assumed) (tope_said here i)) said

-- a tope that is said is a tree of its sort
pub said_tope : (here : Setting) (w : World) (assumed : List ℕ) (i step : ℕ) → IsSound w → IsSaid here w assumed i step → IsTree sort.Tope (tope_said here i)
said_tope here w assumed i step sound said = (said_is w step (holds (context_under here assumed) (tope_said here i)) sound said).parts.0

-- the line of a case distinction
module _ (here : Setting) (w : World) (place : Place) (i cover : ℕ) (one other : ℕ × ℕ) (job : IsJob here w place i)
    (cases : AreCases here place.assumed.items cover one other (tope_said here i)) where
  pub cases_follow : (either first second : ℕ) → IsSaid here w place.assumed.items cover either
      → IsSaid here w (one.0 ∷ place.assumed.items) one.1 first → IsSaid here w (other.0 ∷ place.assumed.items) other.1 second
      → Follows (statements_in w) (record {
        row = row.OrElimination;
        number = 0;
        says = holds (tree_of w.pool.nodes place.context) (tope_of w.pool.nodes (inference_at here.all i).claim);
        from = either ∷ first ∷ second ∷ [];
      })
  cases_follow either first second either_said first_said second_said =
      let context : Tree = context_under here place.assumed.items in
      let r : Tree = tope_said here i in
      let p : Tree = tope_said here one.0 in
      let q : Tree = tope_said here other.0 in
      let p_is : p ≡ cases.left = said_so here one.0 reason.Assumption cases.left cases.left_is in
      let q_is : q ≡ cases.right = said_so here other.0 reason.Assumption cases.right cases.right_is in
      let covers : tope_said here cover ≡ disjunction p q = tope_is here cases.covers ∙ (λ x. disjunction (sym p_is x) (sym q_is x)) in
      let a : Says w either (holds context (disjunction p q)) = subst (λ (t : Tree). Says w either (holds context t)) covers either_said in
      let b : Says w first (holds (with_entry context (OfTope p)) r) =
      subst (λ (t : Tree). Says w first (holds (with_entry context (OfTope p)) t)) (tope_is here cases.first) first_said in
      let c : Says w second (holds (with_entry context (OfTope q)) r) =
      subst (λ (t : Tree). Says w second (holds (with_entry context (OfTope q)) t)) (tope_is here cases.second) second_said in
      let is_either : IsTree sort.Tope (disjunction p q) = subst (IsTree sort.Tope) covers (said_tope here w place.assumed.items cover either job.sound either_said) in
      let is_r : IsTree sort.Tope r = subst (IsTree sort.Tope) (tope_is here cases.first) (said_tope here w (one.0 ∷ place.assumed.items) one.1 first job.sound first_said) in
      line_follows here w place i job row.OrElimination
      (holds context (disjunction p q) ∷ holds (with_entry context (OfTope p)) r ∷ holds (with_entry context (OfTope q)) r ∷ []) (either ∷ first ∷ second ∷ [])
      (λ x. a x ∷ b x ∷ c x ∷ []) (refl, cases_spelled context (place_is here w place i job) p q r is_either is_r)

-- the line of a row on topes
module _ (here : Setting) (w : World) (place : Place) (i : ℕ) (job : IsJob here w place i) where
  is : IsTree sort.Tope (tope_said here i)
  is = tree_here here w place i job

  abbrev base : Tree
  base = context_under here place.assumed.items

  abbrev Line : Row → List ℕ → Type 0
  Line by from = Follows (statements_in w) (record {
    row = by;
    number = 0;
    says = holds (tree_of w.pool.nodes place.context) (tope_of w.pool.nodes (inference_at here.all i).claim);
    from = from;
  })

  pub axiom_follows : (by : Row) → Infers by [] (tope_said here i) → Line by (place.formed ∷ [])
  axiom_follows by infers =
      line_follows here w place i job by (premises_under base []) (place.formed ∷ []) (λ x. job.is_place.formed_is x ∷ [])
      (infers_applies base (place_is here w place i job) by [] (tope_said here i) infers (All-nil (IsTree sort.Tope)) is)

  pub one_follows : (by : Row) (j step : ℕ) (p : Tree) → Infers by (p ∷ []) (tope_said here i)
      → Proves here.nodes here.context here.all place.assumed.items j p → IsSaid here w place.assumed.items j step → Line by (step ∷ [])
  one_follows by j step p infers proves said =
      let there : Says w step (holds base p) = subst (λ (t : Tree). Says w step (holds base t)) (tope_is here proves) said in
      let is_p : IsTree sort.Tope p = subst (IsTree sort.Tope) (tope_is here proves) (said_tope here w place.assumed.items j step job.sound said) in
      line_follows here w place i job by (premises_under base (p ∷ [])) (step ∷ []) (λ x. there x ∷ [])
      (infers_applies base (place_is here w place i job) by (p ∷ []) (tope_said here i) infers (All-cons (IsTree sort.Tope) p [] is_p (All-nil (IsTree sort.Tope))) is)

  pub two_follows : (by : Row) (j k step next : ℕ) (p q : Tree) → Infers by (p ∷ q ∷ []) (tope_said here i)
      → Proves here.nodes here.context here.all place.assumed.items j p → IsSaid here w place.assumed.items j step
      → Proves here.nodes here.context here.all place.assumed.items k q → IsSaid here w place.assumed.items k next → Line by (step ∷ next ∷ [])
  two_follows by j k step next p q infers first first_said second second_said =
      let a : Says w step (holds base p) = subst (λ (t : Tree). Says w step (holds base t)) (tope_is here first) first_said in
      let b : Says w next (holds base q) = subst (λ (t : Tree). Says w next (holds base t)) (tope_is here second) second_said in
      let is_p : IsTree sort.Tope p = subst (IsTree sort.Tope) (tope_is here first) (said_tope here w place.assumed.items j step job.sound first_said) in
      let is_q : IsTree sort.Tope q = subst (IsTree sort.Tope) (tope_is here second) (said_tope here w place.assumed.items k next job.sound second_said) in
      line_follows here w place i job by (premises_under base (p ∷ q ∷ [])) (step ∷ next ∷ []) (λ x. a x ∷ b x ∷ [])
      (infers_applies base (place_is here w place i job) by (p ∷ q ∷ []) (tope_said here i) infers
      (All-cons (IsTree sort.Tope) p (q ∷ []) is_p (All-cons (IsTree sort.Tope) q [] is_q (All-nil (IsTree sort.Tope)))) is)

-- what a case distinction needs said, as the world grows
module _ (here : Setting) (w : World) (place : Place) (i cover : ℕ) (one other : ℕ × ℕ) (all : List Inference) (same : here.all ≡ all)
    (is : (inference_at all i).reason ≡ reason.Cases cover one other) (job : IsJob here w place i) where
  pub cases_of : AreCases here place.assumed.items cover one other (tope_said here i)
  cases_of = reason_of here w place i all (reason.Cases cover one other) same is job

  pub cover_job : IsJob here w place cover
  cover_job = other_job here w place i cover (disjunction cases_of.left cases_of.right) job cases_of.covers

  pub left_side : (later : World) → Grows w later → IsSide here later place one.0
  left_side later grows = side_of here later place i one.0 cases_of.left (job_grown here w later place i grows job) cases_of.left_is

  pub right_side : (later : World) → Grows w later → IsSide here later place other.0
  right_side later grows = side_of here later place i other.0 cases_of.right (job_grown here w later place i grows job) cases_of.right_is

  pub left_job : (later : World) (inner : Place) → Grows w later → IsPlace here later inner → inner.assumed.items ≡ one.0 ∷ place.assumed.items
      → IsJob here later inner one.1
  left_job later inner grows is_place assumed = inner_job here w later place inner i one.0 one.1 (tope_said here i) job grows is_place assumed cases_of.first

  pub right_job : (later : World) (inner : Place) → Grows w later → IsPlace here later inner → inner.assumed.items ≡ other.0 ∷ place.assumed.items
      → IsJob here later inner other.1
  right_job later inner grows is_place assumed = inner_job here w later place inner i other.0 other.1 (tope_said here i) job grows is_place assumed cases_of.second

-- a job at a place that grew with the world is to be done there still
pub needs_under : (here : Setting) (w later : World) (inner : Place) (i : ℕ) → IsJob here w inner i → Grows w later
    → IsPlace here later inner × IsProved here inner.assumed.items i
needs_under here w later inner i job grows = (place_grown here w later inner job.sound grows job.is_place, job.proves)

-- a line that says the claim of a job says its tope
pub said_by_row : (here : Setting) (w before after : World) (place : Place) (i : ℕ) (all : List Inference) (step : ℕ) → here.all ≡ all → IsJob here w place i
    → Grows w before → Says after step (holds (tree_of before.pool.nodes place.context) (tope_of before.pool.nodes (inference_at all i).claim))
    → IsSaid here after place.assumed.items i step
said_by_row here w before after place i all step same job grows said =
    subst (Says after step)
    (ap (λ (l : List Inference). holds (tree_of before.pool.nodes place.context) (tope_of before.pool.nodes (inference_at l i).claim)) (sym same)
    ∙ statement_here here before place i (job_grown here w before place i grows job)) said
