use Rattle.std.proofs.Common.{List, [], ◌∷◌, subst}
use Rattle.std.specs.Prelude.{IfSome}
use Rattle.rz_rules.specs.declared.kinds.Sort.TheVariants.{Context}
use Rattle.rz_rules.specs.declared.rows.Row.TheVariants as row
use Rattle.rz_rules.specs.Derivation.{Follows}
use Rattle.rz_rules.specs.Structural.{holds}
use Rattle.rz_rules.specs.Tree.{Tree, IsTree, tree_of}
use Rattle.rz_log.specs.World.{statements_in}
use Rattle.rz_log.proofs.Worlds.{grows_trans}
use Rattle.rz_tope_proof.specs.declared.proof.Inference.{Inference}
use Rattle.rz_tope_proof.specs.Claim.{IsClaim, tope_of}
use Rattle.rz_solver.specs.Writing.{IsSaid, inference_at}
use Rattle.rz_solver.proofs.Cases.{cases_follow, cases_of, cover_job, left_job, left_side, needs_under, right_job, right_side, said_by_row, said_grown}
use Rattle.rz_solver.proofs.Jobs.{claim_here, job_grown}
use Rattle.rz_solver.proofs.writing.say_cases.Goals as goal

pub find_said-requires : goal.find_said-requires
find_said-requires c =
    let here = c.requires.job.0 in
    record {
      job = (
        here,
        c.requires.job.1,
        cover_job here c.args.w.now c.args.place.now c.args.i c.args.cover c.args.left c.args.right c.args.all.now c.requires.job.1 c.requires.reason c.requires.job.2,
      );
    }

pub returns-in_default-clause-outcome : goal.returns-in_default-clause-outcome
returns-in_default-clause-outcome c here same job =
    (cover_job here c.args.w.now c.args.place.now c.args.i c.args.cover c.args.left c.args.right c.args.all.now same c.requires.reason job).proves

pub open_side-requires : goal.open_side-requires
open_side-requires c =
    let here = c.requires.job.0 in (
      here,
      c.requires.job.1,
      left_side here c.args.w.now c.args.place.now c.args.i c.args.cover c.args.left c.args.right c.args.all.now c.requires.job.1 c.requires.reason c.requires.job.2
          c.find_said.new.w c.find_said.ensures.grows,
    )

pub find_said-requires-2 : goal.find_said-requires-2
find_said-requires-2 c =
    let here = c.requires.job.0 in
    let same = c.requires.job.1 in
    let w = c.args.w.now in
    let side = left_side here w c.args.place.now c.args.i c.args.cover c.args.left c.args.right c.args.all.now same c.requires.reason c.requires.job.2
    c.find_said.new.w c.find_said.ensures.grows in
    let grows = grows_trans w c.find_said.new.w c.open_side.new.w c.find_said.ensures.grows c.open_side.ensures.grows in
    record {
      job = (
        here,
        same,
        left_job here w c.args.place.now c.args.i c.args.cover c.args.left c.args.right c.args.all.now same c.requires.reason c.requires.job.2
            c.open_side.new.w c.in_ok-inner.inner grows (c.in_ok-inner.ensures.opened here same side) c.in_ok-inner.ensures.assumed,
      );
    }

pub returns-in_default-2-clause-outcome : goal.returns-in_default-2-clause-outcome
returns-in_default-2-clause-outcome c here same job =
    let w = c.args.w.now in
    let side = left_side here w c.args.place.now c.args.i c.args.cover c.args.left c.args.right c.args.all.now same c.requires.reason job
    c.find_said.new.w c.find_said.ensures.grows in
    let grows = grows_trans w c.find_said.new.w c.open_side.new.w c.find_said.ensures.grows c.open_side.ensures.grows in
    needs_under here c.open_side.new.w c.find_said-2.new.w c.in_ok-inner.inner c.args.left.1
    (left_job here w c.args.place.now c.args.i c.args.cover c.args.left c.args.right c.args.all.now same c.requires.reason job
    c.open_side.new.w c.in_ok-inner.inner grows (c.in_ok-inner.ensures.opened here same side) c.in_ok-inner.ensures.assumed)
    c.find_said-2.ensures.grows

pub open_side-requires-2 : goal.open_side-requires-2
open_side-requires-2 c =
    let here = c.requires.job.0 in
    let w = c.args.w.now in
    let grows = grows_trans w c.find_said.new.w c.open_side.new.w c.find_said.ensures.grows c.open_side.ensures.grows in (
      here,
      c.requires.job.1,
      right_side here w c.args.place.now c.args.i c.args.cover c.args.left c.args.right c.args.all.now c.requires.job.1 c.requires.reason c.requires.job.2
          c.find_said-2.new.w (grows_trans w c.open_side.new.w c.find_said-2.new.w grows c.find_said-2.ensures.grows),
    )

pub find_said-requires-3 : goal.find_said-requires-3
find_said-requires-3 c =
    let here = c.requires.job.0 in
    let same = c.requires.job.1 in
    let w = c.args.w.now in
    let early = grows_trans w c.find_said.new.w c.open_side.new.w c.find_said.ensures.grows c.open_side.ensures.grows in
    let middle = grows_trans w c.open_side.new.w c.find_said-2.new.w early c.find_said-2.ensures.grows in
    let side = right_side here w c.args.place.now c.args.i c.args.cover c.args.left c.args.right c.args.all.now same c.requires.reason c.requires.job.2
    c.find_said-2.new.w middle in
    record {
      job = (
        here,
        same,
        right_job here w c.args.place.now c.args.i c.args.cover c.args.left c.args.right c.args.all.now same c.requires.reason c.requires.job.2
            c.open_side-2.new.w c.in_ok-inner-2.inner (grows_trans w c.find_said-2.new.w c.open_side-2.new.w middle c.open_side-2.ensures.grows)
            (c.in_ok-inner-2.ensures.opened here same side) c.in_ok-inner-2.ensures.assumed,
      );
    }

pub returns-in_err-second-clause-grows : goal.returns-in_err-second-clause-grows
returns-in_err-second-clause-grows c =
    let w = c.args.w.now in
    let early = grows_trans w c.find_said.new.w c.open_side.new.w c.find_said.ensures.grows c.open_side.ensures.grows in
    let middle = grows_trans w c.open_side.new.w c.find_said-2.new.w early c.find_said-2.ensures.grows in
    let late = grows_trans w c.find_said-2.new.w c.open_side-2.new.w middle c.open_side-2.ensures.grows in
    grows_trans w c.open_side-2.new.w c.find_said-3.new.w late c.find_said-3.ensures.grows

pub returns-in_default-3-clause-outcome : goal.returns-in_default-3-clause-outcome
returns-in_default-3-clause-outcome c here same job =
    let w = c.args.w.now in
    let early = grows_trans w c.find_said.new.w c.open_side.new.w c.find_said.ensures.grows c.open_side.ensures.grows in
    let middle = grows_trans w c.open_side.new.w c.find_said-2.new.w early c.find_said-2.ensures.grows in
    let side = right_side here w c.args.place.now c.args.i c.args.cover c.args.left c.args.right c.args.all.now same c.requires.reason job
    c.find_said-2.new.w middle in
    needs_under here c.open_side-2.new.w c.find_said-3.new.w c.in_ok-inner-2.inner c.args.right.1
    (right_job here w c.args.place.now c.args.i c.args.cover c.args.left c.args.right c.args.all.now same c.requires.reason job
    c.open_side-2.new.w c.in_ok-inner-2.inner (grows_trans w c.find_said-2.new.w c.open_side-2.new.w middle c.open_side-2.ensures.grows)
    (c.in_ok-inner-2.ensures.opened here same side) c.in_ok-inner-2.ensures.assumed)
    c.find_said-3.ensures.grows

pub returns-in_default-3-clause-grows : goal.returns-in_default-3-clause-grows
returns-in_default-3-clause-grows c =
    let w = c.args.w.now in
    let early = grows_trans w c.find_said.new.w c.open_side.new.w c.find_said.ensures.grows c.open_side.ensures.grows in
    let middle = grows_trans w c.open_side.new.w c.find_said-2.new.w early c.find_said-2.ensures.grows in
    let late = grows_trans w c.find_said-2.new.w c.open_side-2.new.w middle c.open_side-2.ensures.grows in
    grows_trans w c.open_side-2.new.w c.find_said-3.new.w late c.find_said-3.ensures.grows

pub say_by_row-requires-clause-claim : goal.say_by_row-requires-clause-claim
say_by_row-requires-clause-claim c =
    let here = c.requires.job.0 in
    let w = c.args.w.now in
    let last = c.find_said-3.new.w in
    let early = grows_trans w c.find_said.new.w c.open_side.new.w c.find_said.ensures.grows c.open_side.ensures.grows in
    let middle = grows_trans w c.open_side.new.w c.find_said-2.new.w early c.find_said-2.ensures.grows in
    let late = grows_trans w c.find_said-2.new.w c.open_side-2.new.w middle c.open_side-2.ensures.grows in
    let whole = grows_trans w c.open_side-2.new.w last late c.find_said-3.ensures.grows in
    subst (λ (all : List Inference). (base : Tree) × IsTree Context base × IsClaim last.pool.nodes base (inference_at all c.args.i).claim) c.requires.job.1
    (claim_here here last c.args.place.now c.args.i (job_grown here w last c.args.place.now c.args.i whole c.requires.job.2))

pub say_by_row-requires-clause-follows : goal.say_by_row-requires-clause-follows
say_by_row-requires-clause-follows c =
    let here = c.requires.job.0 in
    let same = c.requires.job.1 in
    let job = c.requires.job.2 in
    let w = c.args.w.now in
    let place = c.args.place.now in
    let i = c.args.i in
    let last = c.find_said-3.new.w in
    let early = grows_trans w c.find_said.new.w c.open_side.new.w c.find_said.ensures.grows c.open_side.ensures.grows in
    let middle = grows_trans w c.open_side.new.w c.find_said-2.new.w early c.find_said-2.ensures.grows in
    let late = grows_trans w c.find_said-2.new.w c.open_side-2.new.w middle c.open_side-2.ensures.grows in
    let whole = grows_trans w c.open_side-2.new.w last late c.find_said-3.ensures.grows in
    let after_cover = grows_trans c.find_said.new.w c.open_side.new.w c.find_said-2.new.w c.open_side.ensures.grows c.find_said-2.ensures.grows in
    let to_right = grows_trans c.find_said-2.new.w c.open_side-2.new.w last c.open_side-2.ensures.grows c.find_said-3.ensures.grows in
    let cover_grown = grows_trans c.find_said.new.w c.find_said-2.new.w last after_cover to_right in
    let cover = cover_job here w place i c.args.cover c.args.left c.args.right c.args.all.now same c.requires.reason job in
    let side = left_side here w place i c.args.cover c.args.left c.args.right c.args.all.now same c.requires.reason job c.find_said.new.w c.find_said.ensures.grows in
    let left = left_job here w place i c.args.cover c.args.left c.args.right c.args.all.now same c.requires.reason job
    c.open_side.new.w c.in_ok-inner.inner early (c.in_ok-inner.ensures.opened here same side) c.in_ok-inner.ensures.assumed in
    let other_side = right_side here w place i c.args.cover c.args.left c.args.right c.args.all.now same c.requires.reason job c.find_said-2.new.w middle in
    let right = right_job here w place i c.args.cover c.args.left c.args.right c.args.all.now same c.requires.reason job
    c.open_side-2.new.w c.in_ok-inner-2.inner late (c.in_ok-inner-2.ensures.opened here same other_side) c.in_ok-inner-2.ensures.assumed in
    let either_said : IsSaid here c.find_said.new.w place.assumed.items c.args.cover c.in-Some.either =
    subst (λ o. IfSome o (IsSaid here c.find_said.new.w place.assumed.items c.args.cover)) c.in-Some.is (c.in_ok-either.ensures.said here same cover) in
    let first_said : IsSaid here c.find_said-2.new.w c.in_ok-inner.inner.assumed.items c.args.left.1 c.in-Some-2.first =
    subst (λ o. IfSome o (IsSaid here c.find_said-2.new.w c.in_ok-inner.inner.assumed.items c.args.left.1)) c.in-Some-2.is (c.in_ok-first.ensures.said here same left) in
    let second_said : IsSaid here last c.in_ok-inner-2.inner.assumed.items c.args.right.1 c.in-Some-3.second =
    subst (λ o. IfSome o (IsSaid here last c.in_ok-inner-2.inner.assumed.items c.args.right.1)) c.in-Some-3.is (c.in_ok-second.ensures.said here same right) in
    let follows = cases_follow here last place i c.args.cover c.args.left c.args.right (job_grown here w last place i whole job)
    (cases_of here w place i c.args.cover c.args.left c.args.right c.args.all.now same c.requires.reason job)
    c.in-Some.either c.in-Some-2.first c.in-Some-3.second
    (said_grown here c.find_said.new.w last place.assumed.items c.args.cover c.in-Some.either c.find_said.ensures.grows.sound cover_grown either_said)
    (said_grown here c.find_said-2.new.w last (c.args.left.0 ∷ place.assumed.items) c.args.left.1 c.in-Some-2.first c.find_said-2.ensures.grows.sound to_right
    (subst (λ l. IsSaid here c.find_said-2.new.w l c.args.left.1 c.in-Some-2.first) c.in_ok-inner.ensures.assumed first_said))
    (subst (λ l. IsSaid here last l c.args.right.1 c.in-Some-3.second) c.in_ok-inner-2.ensures.assumed second_said) in
    subst (λ (all : List Inference). Follows (statements_in last) (record {
      row = row.OrElimination;
      number = 0;
      says = holds (tree_of last.pool.nodes place.context) (tope_of last.pool.nodes (inference_at all i).claim);
      from = c.in-Some.either ∷ c.in-Some-2.first ∷ c.in-Some-3.second ∷ [];
    })) same follows

pub returns-in_err-step-clause-grows : goal.returns-in_err-step-clause-grows
returns-in_err-step-clause-grows c =
    let w = c.args.w.now in
    let early = grows_trans w c.find_said.new.w c.open_side.new.w c.find_said.ensures.grows c.open_side.ensures.grows in
    let middle = grows_trans w c.open_side.new.w c.find_said-2.new.w early c.find_said-2.ensures.grows in
    let late = grows_trans w c.find_said-2.new.w c.open_side-2.new.w middle c.open_side-2.ensures.grows in
    let whole = grows_trans w c.open_side-2.new.w c.find_said-3.new.w late c.find_said-3.ensures.grows in
    grows_trans w c.find_said-3.new.w c.say_by_row.new.w whole c.say_by_row.ensures.grows

pub returns-clause-grows : goal.returns-clause-grows
returns-clause-grows c =
    let w = c.args.w.now in
    let early = grows_trans w c.find_said.new.w c.open_side.new.w c.find_said.ensures.grows c.open_side.ensures.grows in
    let middle = grows_trans w c.open_side.new.w c.find_said-2.new.w early c.find_said-2.ensures.grows in
    let late = grows_trans w c.find_said-2.new.w c.open_side-2.new.w middle c.open_side-2.ensures.grows in
    let whole = grows_trans w c.open_side-2.new.w c.find_said-3.new.w late c.find_said-3.ensures.grows in
    grows_trans w c.find_said-3.new.w c.say_by_row.new.w whole c.say_by_row.ensures.grows

pub returns-clause-outcome : goal.returns-clause-outcome
returns-clause-outcome c here same job =
    let w = c.args.w.now in
    let place = c.args.place.now in
    let i = c.args.i in
    let last = c.find_said-3.new.w in
    let early = grows_trans w c.find_said.new.w c.open_side.new.w c.find_said.ensures.grows c.open_side.ensures.grows in
    let middle = grows_trans w c.open_side.new.w c.find_said-2.new.w early c.find_said-2.ensures.grows in
    let late = grows_trans w c.find_said-2.new.w c.open_side-2.new.w middle c.open_side-2.ensures.grows in
    let whole = grows_trans w c.open_side-2.new.w last late c.find_said-3.ensures.grows in
    said_by_row here w last c.say_by_row.new.w place i c.args.all.now c.in_ok-step.step same job whole c.in_ok-step.ensures.says
