use Rattle.std.proofs.Common.{◌≡◌, ◌+◌, ℕ, List, [], ◌∷◌, length, Some, sym, ap, ◌∙◌, subst}
use Rattle.std.specs.Prelude.{Contains, IfSome, slice_get}
use Rattle.rz_rules.specs.declared.kinds.Sort.TheVariants.{Context}
use Rattle.rz_rules.specs.Derivation.{Follows}
use Rattle.rz_rules.specs.Structural.{holds}
use Rattle.rz_rules.specs.Tree.{Tree, IsTree, tree_of}
use Rattle.rz_log.specs.World.{Says, statements_in}
use Rattle.rz_tope_proof.specs.declared.proof.Inference.{Inference}
use Rattle.rz_tope_proof.specs.declared.proof.Reason.TheVariants as reason
use Rattle.rz_tope_proof.specs.Claim.{IsClaim, tope_of}
use Rattle.rz_solver.specs.Writing.{IsSaid, context_under, inference_at, tope_said}
use Rattle.rz_solver.proofs.Cases.{axiom_follows, one_follows, other_job, reason_of, said_by_row, said_grown, two_follows}
use Rattle.rz_solver.proofs.Given.{assumed_under, given_under, has_tope, hypothesis_is}
use Rattle.rz_solver.proofs.Jobs.{claim_here, job_grown}
use Rattle.rz_log.proofs.Worlds.{grows_same, grows_trans}
use Rattle.rz_solver.proofs.writing.say.Goals as goal

pub say_given-requires-clause-tope : goal.say_given-requires-clause-tope
say_given-requires-clause-tope c =
    let here = c.requires.job.0 in
    let job = c.requires.job.2 in
    let w = c.args.w.now in
    let place = c.args.place.now in
    has_tope w place.formed (c.in-Hypothesis.number + length place.assumed.items) (context_under here place.assumed.items) (tope_said here c.args.i) job.is_place.formed_is
    (given_under here place.assumed.items c.in-Hypothesis.number (tope_said here c.args.i)
    (reason_of here w place c.args.i c.args.all.now (reason.Hypothesis c.in-Hypothesis.number) c.requires.job.1 c.in-Hypothesis.is job))

pub returns-in_ok-step-in-Hypothesis-clause-outcome : goal.returns-in_ok-step-in-Hypothesis-clause-outcome
returns-in_ok-step-in-Hypothesis-clause-outcome c here same job =
    let w = c.args.w.now in
    let place = c.args.place.now in
    let number = c.in-Hypothesis.number + length place.assumed.items in
    let context = context_under here place.assumed.items in
    let given = given_under here place.assumed.items c.in-Hypothesis.number (tope_said here c.args.i)
    (reason_of here w place c.args.i c.args.all.now (reason.Hypothesis c.in-Hypothesis.number) same c.in-Hypothesis.is job) in
    subst (Says c.say_given.new.w c.in_ok-step-in-Hypothesis.step)
    (hypothesis_is w place.formed number context (tope_said here c.args.i) job.is_place.formed_is given)
    (c.in_ok-step-in-Hypothesis.ensures.says (has_tope w place.formed number context (tope_said here c.args.i) job.is_place.formed_is given))

pub position-number-requires : goal.position-number-requires
position-number-requires c =
    let here = c.requires.job.0 in
    subst (λ (l : List ℕ). Contains l c.args.i) (sym c.as_slice.ensures.value)
    (reason_of here c.args.w.now c.args.place.now c.args.i c.args.all.now reason.Assumption c.requires.job.1 c.in-Assumption.is c.requires.job.2)

pub hypothesis-requires-clause-tope : goal.hypothesis-requires-clause-tope
hypothesis-requires-clause-tope c =
    let here = c.requires.job.0 in
    let job = c.requires.job.2 in
    let w = c.args.w.now in
    let place = c.args.place.now in
    let at : slice_get place.assumed.items c.position-number.result ≡ Some c.args.i =
    ap (λ (l : List ℕ). slice_get l c.position-number.result) (sym c.as_slice.ensures.value) ∙ c.position-number.ensures in
    has_tope w place.formed c.position-number.result (context_under here place.assumed.items) (tope_said here c.args.i) job.is_place.formed_is
    (assumed_under here place.assumed.items c.position-number.result c.args.i at)

pub returns-in_ok-step-in-Assumption-clause-outcome : goal.returns-in_ok-step-in-Assumption-clause-outcome
returns-in_ok-step-in-Assumption-clause-outcome c here same job =
    let w = c.args.w.now in
    let place = c.args.place.now in
    let context = context_under here place.assumed.items in
    let at : slice_get place.assumed.items c.position-number.result ≡ Some c.args.i =
    ap (λ (l : List ℕ). slice_get l c.position-number.result) (sym c.as_slice.ensures.value) ∙ c.position-number.ensures in
    let given = assumed_under here place.assumed.items c.position-number.result c.args.i at in
    subst (Says c.hypothesis.new.w c.in_ok-step-in-Assumption.step)
    (hypothesis_is w place.formed c.position-number.result context (tope_said here c.args.i) job.is_place.formed_is given)
    (c.in_ok-step-in-Assumption.ensures.says (has_tope w place.formed c.position-number.result context (tope_said here c.args.i) job.is_place.formed_is given))

pub say_by_row-requires-clause-claim : goal.say_by_row-requires-clause-claim
say_by_row-requires-clause-claim c =
    subst (λ (all : List Inference). (base : Tree) × IsTree Context base × IsClaim c.args.w.now.pool.nodes base (inference_at all c.args.i).claim) c.requires.job.1
    (claim_here c.requires.job.0 c.args.w.now c.args.place.now c.args.i c.requires.job.2)

pub say_by_row-requires-clause-follows : goal.say_by_row-requires-clause-follows
say_by_row-requires-clause-follows c =
    let here = c.requires.job.0 in
    let w = c.args.w.now in
    let place = c.args.place.now in
    subst (λ (all : List Inference). Follows (statements_in w) (record {
      row = c.in-Axiom.row;
      number = 0;
      says = holds (tree_of w.pool.nodes place.context) (tope_of w.pool.nodes (inference_at all c.args.i).claim);
      from = place.formed ∷ [];
    })) c.requires.job.1
    (axiom_follows here w place c.args.i c.requires.job.2 c.in-Axiom.row
    (reason_of here w place c.args.i c.args.all.now (reason.Axiom c.in-Axiom.row) c.requires.job.1 c.in-Axiom.is c.requires.job.2))

pub returns-in_ok-step-in-Axiom-clause-outcome : goal.returns-in_ok-step-in-Axiom-clause-outcome
returns-in_ok-step-in-Axiom-clause-outcome c here same job =
    said_by_row here c.args.w.now c.args.w.now c.say_by_row.new.w c.args.place.now c.args.i c.args.all.now c.in_ok-step-in-Axiom.step same job
    (grows_same c.args.w.now job.sound) c.in_ok-step-in-Axiom.ensures.says

-- one premise

pub find_said-requires : goal.find_said-requires
find_said-requires c =
    let here = c.requires.job.0 in
    let job = c.requires.job.2 in
    let why = reason_of here c.args.w.now c.args.place.now c.args.i c.args.all.now (reason.One c.in-One.row c.in-One.first) c.requires.job.1 c.in-One.is job in
    record { job = (here, c.requires.job.1, other_job here c.args.w.now c.args.place.now c.args.i c.in-One.first why.0 job why.2) }

pub returns-in_default-clause-outcome : goal.returns-in_default-clause-outcome
returns-in_default-clause-outcome c here same job =
    let why = reason_of here c.args.w.now c.args.place.now c.args.i c.args.all.now (reason.One c.in-One.row c.in-One.first) same c.in-One.is job in
    (other_job here c.args.w.now c.args.place.now c.args.i c.in-One.first why.0 job why.2).proves

pub say_by_row-requires-in-One-clause-claim : goal.say_by_row-requires-in-One-clause-claim
say_by_row-requires-in-One-clause-claim c =
    let later = c.find_said.new.w in
    subst (λ (all : List Inference). (base : Tree) × IsTree Context base × IsClaim later.pool.nodes base (inference_at all c.args.i).claim) c.requires.job.1
    (claim_here c.requires.job.0 later c.args.place.now c.args.i
    (job_grown c.requires.job.0 c.args.w.now later c.args.place.now c.args.i c.find_said.ensures.grows c.requires.job.2))

pub say_by_row-requires-in-One-clause-follows : goal.say_by_row-requires-in-One-clause-follows
say_by_row-requires-in-One-clause-follows c =
    let here = c.requires.job.0 in
    let same = c.requires.job.1 in
    let job = c.requires.job.2 in
    let w = c.args.w.now in
    let later = c.find_said.new.w in
    let place = c.args.place.now in
    let why = reason_of here w place c.args.i c.args.all.now (reason.One c.in-One.row c.in-One.first) same c.in-One.is job in
    let first = other_job here w place c.args.i c.in-One.first why.0 job why.2 in
    let said : IsSaid here later place.assumed.items c.in-One.first c.in-Some.premise =
    subst (λ o. IfSome o (IsSaid here later place.assumed.items c.in-One.first)) c.in-Some.is (c.in_ok-premise-in-One.ensures.said here same first) in
    subst (λ (all : List Inference). Follows (statements_in later) (record {
      row = c.in-One.row;
      number = 0;
      says = holds (tree_of later.pool.nodes place.context) (tope_of later.pool.nodes (inference_at all c.args.i).claim);
      from = c.in-Some.premise ∷ [];
    })) same
    (one_follows here later place c.args.i (job_grown here w later place c.args.i c.find_said.ensures.grows job) c.in-One.row c.in-One.first c.in-Some.premise why.0 why.1 why.2 said)

pub returns-in_ok-step-in-One-clause-outcome : goal.returns-in_ok-step-in-One-clause-outcome
returns-in_ok-step-in-One-clause-outcome c here same job =
    said_by_row here c.args.w.now c.find_said.new.w c.say_by_row-in-One.new.w c.args.place.now c.args.i c.args.all.now c.in_ok-step-in-One.step same job
    c.find_said.ensures.grows c.in_ok-step-in-One.ensures.says

-- two premises

pub find_said-requires-in-Two : goal.find_said-requires-in-Two
find_said-requires-in-Two c =
    let here = c.requires.job.0 in
    let job = c.requires.job.2 in
    let why = reason_of here c.args.w.now c.args.place.now c.args.i c.args.all.now (reason.Two c.in-Two.row c.in-Two.first c.in-Two.second) c.requires.job.1 c.in-Two.is job in
    record { job = (here, c.requires.job.1, other_job here c.args.w.now c.args.place.now c.args.i c.in-Two.first why.0 job why.3) }

pub returns-in_default-2-clause-outcome : goal.returns-in_default-2-clause-outcome
returns-in_default-2-clause-outcome c here same job =
    let why = reason_of here c.args.w.now c.args.place.now c.args.i c.args.all.now (reason.Two c.in-Two.row c.in-Two.first c.in-Two.second) same c.in-Two.is job in
    (other_job here c.args.w.now c.args.place.now c.args.i c.in-Two.first why.0 job why.3).proves

pub find_said-requires-in-Two-2 : goal.find_said-requires-in-Two-2
find_said-requires-in-Two-2 c =
    let here = c.requires.job.0 in
    let w = c.args.w.now in
    let later = c.find_said-in-Two.new.w in
    let job = job_grown here w later c.args.place.now c.args.i c.find_said-in-Two.ensures.grows c.requires.job.2 in
    let why = reason_of here later c.args.place.now c.args.i c.args.all.now (reason.Two c.in-Two.row c.in-Two.first c.in-Two.second) c.requires.job.1 c.in-Two.is job in
    record { job = (here, c.requires.job.1, other_job here later c.args.place.now c.args.i c.in-Two.second why.1 job why.4) }

pub returns-in_default-3-clause-outcome : goal.returns-in_default-3-clause-outcome
returns-in_default-3-clause-outcome c here same job =
    let why = reason_of here c.args.w.now c.args.place.now c.args.i c.args.all.now (reason.Two c.in-Two.row c.in-Two.first c.in-Two.second) same c.in-Two.is job in
    (other_job here c.args.w.now c.args.place.now c.args.i c.in-Two.second why.1 job why.4).proves

pub say_by_row-requires-in-Two-clause-claim : goal.say_by_row-requires-in-Two-clause-claim
say_by_row-requires-in-Two-clause-claim c =
    let w = c.args.w.now in
    let middle = c.find_said-in-Two.new.w in
    let later = c.find_said-in-Two-2.new.w in
    let grows = grows_trans w middle later c.find_said-in-Two.ensures.grows c.find_said-in-Two-2.ensures.grows in
    subst (λ (all : List Inference). (base : Tree) × IsTree Context base × IsClaim later.pool.nodes base (inference_at all c.args.i).claim) c.requires.job.1
    (claim_here c.requires.job.0 later c.args.place.now c.args.i (job_grown c.requires.job.0 w later c.args.place.now c.args.i grows c.requires.job.2))

pub say_by_row-requires-in-Two-clause-follows : goal.say_by_row-requires-in-Two-clause-follows
say_by_row-requires-in-Two-clause-follows c =
    let here = c.requires.job.0 in
    let same = c.requires.job.1 in
    let job = c.requires.job.2 in
    let w = c.args.w.now in
    let middle = c.find_said-in-Two.new.w in
    let later = c.find_said-in-Two-2.new.w in
    let grows = grows_trans w middle later c.find_said-in-Two.ensures.grows c.find_said-in-Two-2.ensures.grows in
    let place = c.args.place.now in
    let why = reason_of here w place c.args.i c.args.all.now (reason.Two c.in-Two.row c.in-Two.first c.in-Two.second) same c.in-Two.is job in
    let first = other_job here w place c.args.i c.in-Two.first why.0 job why.3 in
    let middle_job = job_grown here w middle place c.args.i c.find_said-in-Two.ensures.grows job in
    let second = other_job here middle place c.args.i c.in-Two.second why.1 middle_job why.4 in
    let one : IsSaid here middle place.assumed.items c.in-Two.first c.in-Some-2.one =
    subst (λ o. IfSome o (IsSaid here middle place.assumed.items c.in-Two.first)) c.in-Some-2.is (c.in_ok-one-in-Two.ensures.said here same first) in
    let other : IsSaid here later place.assumed.items c.in-Two.second c.in-Some-3.other =
    subst (λ o. IfSome o (IsSaid here later place.assumed.items c.in-Two.second)) c.in-Some-3.is (c.in_ok-other-in-Two.ensures.said here same second) in
    subst (λ (all : List Inference). Follows (statements_in later) (record {
      row = c.in-Two.row;
      number = 0;
      says = holds (tree_of later.pool.nodes place.context) (tope_of later.pool.nodes (inference_at all c.args.i).claim);
      from = c.in-Some-2.one ∷ c.in-Some-3.other ∷ [];
    })) same
    (two_follows here later place c.args.i (job_grown here w later place c.args.i grows job) c.in-Two.row c.in-Two.first c.in-Two.second
    c.in-Some-2.one c.in-Some-3.other why.0 why.1 why.2 why.3
    (said_grown here middle later place.assumed.items c.in-Two.first c.in-Some-2.one c.find_said-in-Two.ensures.grows.sound c.find_said-in-Two-2.ensures.grows one)
    why.4 other)

pub returns-in_ok-step-in-Two-clause-outcome : goal.returns-in_ok-step-in-Two-clause-outcome
returns-in_ok-step-in-Two-clause-outcome c here same job =
    let w = c.args.w.now in
    let later = c.find_said-in-Two-2.new.w in
    let grows = grows_trans w c.find_said-in-Two.new.w later c.find_said-in-Two.ensures.grows c.find_said-in-Two-2.ensures.grows in
    said_by_row here w later c.say_by_row-in-Two.new.w c.args.place.now c.args.i c.args.all.now c.in_ok-step-in-Two.step same job
    grows c.in_ok-step-in-Two.ensures.says
