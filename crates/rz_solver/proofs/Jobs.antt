-- What is known of an inference that is to be said at a place.
use Rattle.std.proofs.Common.{◌≡◌, ℕ, List, [], ◌∷◌, Some, refl, sym, ◌∙◌, subst, arith}
use Rattle.std.specs.Prelude.{map, slice_get}
use Rattle.rz_rules.specs.declared.kinds.Sort.TheVariants as sort
use Rattle.rz_rules.specs.declared.rows.Row.{Row}
use Rattle.rz_rules.specs.Tree.{Tree, IsTree, tree_of}
use Rattle.rz_rules.specs.Cube.{binders_of}
use Rattle.rz_rules.specs.Derivation.{Applies, Follows}
use Rattle.rz_rules.specs.Judgment.{Statement}
use Rattle.rz_rules.specs.Structural.{formed, holds}
use Rattle.rz_rules.specs.Table.{rule_of}
use Rattle.rz_rules.specs.Tope.{IsTopeOver}
use Rattle.rz_pool.specs.Pool as pool
use Rattle.rz_pool.proofs.Nodes.{Grows-trans, KeepsTrees-Grows, length-Grows}
use Rattle.rz_log.specs.declared.world.World.{World}
use Rattle.rz_log.specs.World.{Grows, IsSound, statements_in}
use Rattle.rz_log.proofs.Worlds.{says_grown}
use Rattle.rz_tope_proof.specs.declared.proof.Inference.{Inference}
use Rattle.rz_tope_proof.specs.declared.proof.Reason.TheVariants as reason
use Rattle.rz_tope_proof.specs.Claim.{IsClaim, tope_of}
use Rattle.rz_solver.specs.declared.writing.Place.{Place}
use Rattle.rz_solver.specs.Writing.{Setting, IsJob, IsPlace, IsSide, context_under, inference_at, tope_said}
use Rattle.rz_solver.proofs.Following.{holds_follows}
use Rattle.rz_solver.proofs.Forming.{claim_tope}
use Rattle.rz_solver.proofs.Proved.{claim_is, inference_is, tope_grown}
use Rattle.rz_log.proofs.Saying.{said_is}

-- assumptions bind nothing
pub binders_under : (here : Setting) (assumed : List ℕ) → binders_of (context_under here assumed) ≡ binders_of here.context
binders_under here [] = refl
binders_under here (i ∷ assumed) = binders_under here assumed

-- a place stays one as the world grows
pub place_grown : (here : Setting) (old new : World) (place : Place) → IsSound old → Grows old new → IsPlace here old place → IsPlace here new place
place_grown here old new place sound grows is = record {
  live = let less = length-Grows old.pool.nodes new.pool.nodes grows.nodes in let live = is.live in omega (less, live, arith);
  context_is = KeepsTrees-Grows old.pool.nodes new.pool.nodes grows.nodes place.context is.live ∙ is.context_is;
  formed_is = says_grown old new sound grows place.formed (formed (context_under here place.assumed.items)) is.formed_is;
}

-- so does a job
pub job_grown : (here : Setting) (old new : World) (place : Place) (i : ℕ) → Grows old new → IsJob here old place i → IsJob here new place i
job_grown here old new place i grows job = record {
  sound = grows.sound;
  grows = Grows-trans here.nodes old.pool.nodes new.pool.nodes job.grows grows.nodes;
  is_place = place_grown here old new place job.sound grows job.is_place;
  proves = job.proves;
}

module _ (here : Setting) (w : World) (place : Place) (sound : IsSound w) (grows : pool.Grows here.nodes w.pool.nodes) (is_place : IsPlace here w place) where
  abbrev whole : Tree
  whole = context_under here place.assumed.items

  pub whole_is : IsTree sort.Context whole
  whole_is = (said_is w place.formed (formed whole) sound is_place.formed_is).context

  module _ (i : ℕ) (claim : IsClaim here.nodes here.context (inference_at here.all i).claim) where
    -- the claim says here what it says
    pub tope_here : tope_of w.pool.nodes (inference_at here.all i).claim ≡ tope_said here i
    tope_here = tope_grown here.nodes w.pool.nodes grows (inference_at here.all i).claim (λ k d less. claim.live k d less)

    pub over_whole : IsTopeOver (binders_of whole) (tope_said here i)
    over_whole = subst (λ binders. IsTopeOver binders (tope_said here i)) (sym (binders_under here place.assumed.items)) claim.over

    pub claim_whole : IsClaim w.pool.nodes whole (inference_at here.all i).claim
    claim_whole = record {
      live = λ k d less. let live = claim.live k d less in let more = length-Grows here.nodes w.pool.nodes grows in omega (live, more, arith);
      over = subst (IsTopeOver (binders_of whole)) (sym tope_here) over_whole;
    }

    pub tope_tree : IsTree sort.Tope (tope_said here i)
    tope_tree = subst (IsTree sort.Tope) tope_here (claim_tope w.pool.nodes sound.pool whole whole_is (inference_at here.all i).claim claim_whole)

module _ (here : Setting) (w : World) (place : Place) (i : ℕ) (job : IsJob here w place i) where
  abbrev context : Tree
  context = context_under here place.assumed.items

  pub place_is : IsTree sort.Context context
  place_is = whole_is here w place job.sound job.grows job.is_place

  said_here : tope_of w.pool.nodes (inference_at here.all i).claim ≡ tope_said here i
  said_here = tope_here here w place job.sound job.grows job.is_place i (claim_is here job.proves)

  over_here : IsTopeOver (binders_of context) (tope_said here i)
  over_here = over_whole here w place job.sound job.grows job.is_place i (claim_is here job.proves)

  pub tree_here : IsTree sort.Tope (tope_said here i)
  tree_here = tope_tree here w place job.sound job.grows job.is_place i (claim_is here job.proves)

  pub claim_here : (base : Tree) × IsTree sort.Context base × IsClaim w.pool.nodes base (inference_at here.all i).claim
  claim_here = (context, place_is, claim_whole here w place job.sound job.grows job.is_place i (claim_is here job.proves))

  -- what a line says of the nodes is what is to be said
  pub statement_here : holds (tree_of w.pool.nodes place.context) (tope_of w.pool.nodes (inference_at here.all i).claim) ≡ holds context (tope_said here i)
  statement_here = λ x. holds (job.is_place.context_is x) (said_here x)

  -- a line by a rule that applies follows
  module _ (by : Row) (premises : List Statement) (from : List ℕ) where
    pub line_follows : map (slice_get (statements_in w)) from ≡ map (λ says. Some says) premises
        → Applies (rule_of by) 0 premises (holds context (tope_said here i))
        → Follows (statements_in w) (record {
          row = by;
          number = 0;
          says = holds (tree_of w.pool.nodes place.context) (tope_of w.pool.nodes (inference_at here.all i).claim);
          from = from;
        })
    line_follows are applies =
        subst (λ (S : Statement). Follows (statements_in w) (record { row = by; number = 0; says = S; from = from })) (sym statement_here)
        (holds_follows (statements_in w) by context (tope_said here i) from premises place_is tree_here over_here are applies)

-- what is known of an assumption that is to be added
module _ (here : Setting) (w : World) (place : Place) (a : ℕ) (side : IsSide here w place a) where
  assumption_claim : IsClaim here.nodes here.context (inference_at here.all a).claim
  assumption_claim =
      subst (λ (x : Inference). IsClaim here.nodes here.context x.claim) (sym (inference_is here a reason.Assumption (tope_said here a) side.there)) side.there.is_claim

  pub side_claim : (base : Tree) × IsTree sort.Context base × IsClaim w.pool.nodes base (inference_at here.all a).claim
  side_claim = (
    context_under here place.assumed.items,
    whole_is here w place side.sound side.grows side.is_place,
    claim_whole here w place side.sound side.grows side.is_place a assumption_claim,
  )

  pub side_here : tope_of w.pool.nodes (inference_at here.all a).claim ≡ tope_said here a
  side_here = tope_here here w place side.sound side.grows side.is_place a assumption_claim

  pub side_over : IsTopeOver (binders_of (context_under here place.assumed.items)) (tope_said here a)
  side_over = over_whole here w place side.sound side.grows side.is_place a assumption_claim
