use Rattle.std.proofs.Common.{◌≡◌, ◌<◌, ◌^◌, ◌++◌, ◌∷◌, [], List, length, refl, sym, subst, ◌∙◌, arith}
use Rattle.rz_rules.specs.Substitution.{IndicesBelow}
use Rattle.rz_pool.proofs.Nodes.{Grows-same, Grows-trans}
use Rattle.rz_subst.specs.declared.going.Walk.{Walk}
use Rattle.rz_subst.specs.declared.tasks.Task.{Task}
use Rattle.rz_subst.specs.Tasks.{jobs_of, total_weight}
use Rattle.rz_subst.proofs.Steps.{IsWalking-along, whole_is, result_is}
use Rattle.rz_subst.proofs.going.go.Goals as goal

pub loop-task-init : goal.loop-task-init
loop-task-init g c =
    let nodes = c.args.pool.now.nodes in
    record {
      there = c.requires.there;
      walking = c.in_ok-walk.ensures (g.C.Changing.changes c.args.changing.now nodes) nodes c.requires.keeps c.requires.live;
      grows = Grows-same nodes nodes refl;
      pool = c.requires.pool;
    }

nothing_left : (tasks : List Task) → length tasks ≡ 0 → tasks ≡ []
nothing_left [] e = refl
nothing_left (task ∷ tasks) e = absurd (omega arith)

pub returns-then-not-branch-clause-answer : goal.returns-then-not-branch-clause-answer
returns-then-not-branch-clause-answer g c fits =
    let from = c.args.pool.now.nodes in
    let now = c.loop-task.pool.nodes in
    let changes = g.C.Changing.changes c.args.changing.now in
    let kept = g.met.C.Changing.kept c.args.changing.now from now c.requires.there c.loop-task.invariant.grows in
    let walk : Walk = record { reach = c.loop-task.walk.reach; tasks = c.pop.new.self; news = c.loop-task.walk.news; made = c.loop-task.walk.made } in
    let misfit = rw c.if-not-branch.true at c.in_ok-step.ensures.misfit in
    misfit c.args.id
    (IsWalking-along (changes now) now c.args.id c.loop-task.walk.tasks.items (c.pop.new.self.items ++ c.in-Some.task ∷ []) c.loop-task.walk walk c.in-Some.ensures.items refl refl refl c.loop-task.invariant.walking)
    (subst (IndicesBelow (2 ^ 32)) (sym (whole_is (changes from) (changes now) from now c.args.id c.loop-task.invariant.grows kept.1 c.requires.live)) fits)

pub loop-task-preserved : goal.loop-task-preserved
loop-task-preserved g c =
    let now = c.loop-task.pool.nodes in
    let new = c.step.new.pool.nodes in
    let changes = g.C.Changing.changes c.args.changing.now in
    let kept = g.met.C.Changing.kept c.args.changing.now now new c.loop-task.invariant.there c.step.ensures.grows in
    let walk : Walk = record { reach = c.loop-task.walk.reach; tasks = c.pop.new.self; news = c.loop-task.walk.news; made = c.loop-task.walk.made } in
    let leads = rw c.if-not-branch.false at c.in_ok-step.ensures.leads_on in
    record {
      there = kept.0;
      walking = leads.walking c.args.id
          (IsWalking-along (changes now) now c.args.id c.loop-task.walk.tasks.items (c.pop.new.self.items ++ c.in-Some.task ∷ []) c.loop-task.walk walk c.in-Some.ensures.items refl refl refl
          c.loop-task.invariant.walking);
      grows = Grows-trans c.args.pool.now.nodes now new c.loop-task.invariant.grows c.step.ensures.grows;
      pool = c.step.ensures.pool;
    }

pub loop-task-smaller : goal.loop-task-smaller
loop-task-smaller g c =
    let leads = rw c.if-not-branch.false at c.in_ok-step.ensures.leads_on in
    subst (λ (ts : List Task). total_weight (jobs_of c.step.new.pool.nodes c.step.new.walk.tasks.items) < total_weight (jobs_of c.loop-task.pool.nodes ts)) (sym c.in-Some.ensures.items) leads.lighter

pub returns-clause-answer : goal.returns-clause-answer
returns-clause-answer g c =
    let from = c.args.pool.now.nodes in
    let now = c.loop-task.pool.nodes in
    let changes = g.C.Changing.changes c.args.changing.now in
    let kept = g.met.C.Changing.kept c.args.changing.now from now c.requires.there c.loop-task.invariant.grows in
    let none = nothing_left c.loop-task.walk.tasks.items (omega (arith, c.in_default.ensures.cases.0)) in
    let is = result_is (changes now) now c.args.id c.loop-task.walk.tasks.items c.loop-task.walk.news.items c.loop-task.invariant.walking.going none _ c.in-Some-pop.new c.in-Some-pop.ensures.items in
    (is.0, is.1 ∙ whole_is (changes from) (changes now) from now c.args.id c.loop-task.invariant.grows kept.1 c.requires.live)
