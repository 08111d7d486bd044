use Rattle.std.proofs.Common.{◌<◌, ◌++◌, ◌∷◌, [], length, inl, refl, arith}
use Rattle.rz_rules.specs.Tree.{tree_of}
use Rattle.rz_pool.proofs.Nodes.{length-Grows}
use Rattle.rz_subst.specs.declared.going.Walk.{Walk}
use Rattle.rz_subst.specs.declared.tasks.Task.TheVariants.{Visit}
use Rattle.rz_subst.proofs.Jobs.{job_live, job_fits, weight-some}
use Rattle.rz_subst.proofs.Making.{IsNodeAt, enough_slots}
use Rattle.rz_subst.proofs.Steps.{IsWalking-Grows, IsWalking-done, lighter-done, IsWalking-kids, lighter-kids}
use Rattle.rz_subst.proofs.going.visit.Goals as goal

pub returns-in-TooLarge-clause-misfit : goal.returns-in-TooLarge-clause-misfit
returns-in-TooLarge-clause-misfit g c id walking fits =
    let nodes = c.args.pool.now.nodes in
    let large = rw c.in-TooLarge.is at c.in_ok-id.ensures.look in
    large (job_fits (g.C.Changing.changes c.args.changing.now nodes) nodes id c.args.walk.now.tasks.items (Visit c.args.place) c.args.walk.now.news.items walking.going fits)

pub node-node-requires : goal.node-node-requires
node-node-requires g c =
    let nodes = c.args.pool.now.nodes in
    let walking = c.requires.walking.1 in
    let live : c.args.place.id < length nodes =
    job_live (g.C.Changing.changes c.args.changing.now nodes) nodes c.requires.walking.0 c.args.walk.now.tasks.items (Visit c.args.place) c.args.walk.now.news.items walking.going in
    omega (arith, live, length-Grows nodes c.look_at.new.pool.nodes c.look_at.ensures.grows)

pub visit_kids-requires-clause-slots : goal.visit_kids-requires-clause-slots
visit_kids-requires-clause-slots g c =
    enough_slots c.look_at.new.pool.nodes c.args.place c.node-node.result.now (record { at = c.node-node.ensures.node; tree = c.node-node.ensures.tree; form = c.node-node.ensures.form })

pub visit_kids-requires-clause-live : goal.visit_kids-requires-clause-live
visit_kids-requires-clause-live g c k d l =
    let nodes = c.args.pool.now.nodes in
    let walking = c.requires.walking.1 in
    let live : c.args.place.id < length nodes =
    job_live (g.C.Changing.changes c.args.changing.now nodes) nodes c.requires.walking.0 c.args.walk.now.tasks.items (Visit c.args.place) c.args.walk.now.news.items walking.going in
    omega (arith, live, c.node-node.ensures.form.kids k d l, length-Grows nodes c.look_at.new.pool.nodes c.look_at.ensures.grows)

pub returns-in_ok-push-in-Known-clause-leads_on : goal.returns-in_ok-push-in-Known-clause-leads_on
returns-in_ok-push-in-Known-clause-leads_on g c =
    let old = c.args.pool.now.nodes in
    let new = c.look_at.new.pool.nodes in
    let grows = c.look_at.ensures.grows in
    let changes = g.C.Changing.changes c.args.changing.now old in
    let later = g.C.Changing.changes c.args.changing.now new in
    let same = (g.met.C.Changing.kept c.args.changing.now old new c.requires.there grows).1 in
    let before : Walk = c.args.walk.now in
    let after : Walk = record { reach = before.reach; tasks = before.tasks; news = c.push.new.self; made = before.made } in
    let look = rw c.in-Known.is at c.in_ok-id.ensures.look in
    let tasks = before.tasks.items in
    record {
      walking = λ id was.
          IsWalking-done changes later old new grows same tasks (Visit c.args.place) before after refl before.news.items c.in-Known.id look.0 look.1 refl
          c.in_ok-push-in-Known.ensures.items (λ place id among. inl among) id
          (IsWalking-Grows changes later old new grows same id (tasks ++ Visit c.args.place ∷ []) before was).going.within refl was;
      lighter = lighter-done changes later old new grows same tasks (Visit c.args.place) before after refl c.requires.walking.0 c.requires.walking.1.going
          (weight-some (tree_of old c.args.place.id)) refl;
    }

pub returns-in_ok-settle-in-New-clause-leads_on : goal.returns-in_ok-settle-in-New-clause-leads_on
returns-in_ok-settle-in-New-clause-leads_on g c =
    let old = c.args.pool.now.nodes in
    let new = c.look_at.new.pool.nodes in
    let grows = c.look_at.ensures.grows in
    let changes = g.C.Changing.changes c.args.changing.now old in
    let later = g.C.Changing.changes c.args.changing.now new in
    let same = (g.met.C.Changing.kept c.args.changing.now old new c.requires.there grows).1 in
    let before : Walk = c.args.walk.now in
    let after : Walk = c.settle.new.self in
    let look = rw c.in-New.is at c.in_ok-id.ensures.look in
    let tasks = before.tasks.items in
    let settled = c.in_ok-settle-in-New.ensures in
    record {
      walking = λ id was.
          IsWalking-done changes later old new grows same tasks (Visit c.args.place) before after settled.reach before.news.items c.in-New.id look.0 look.1
          (λ i. (settled.tasks i).items) settled.news settled.made id
          (IsWalking-Grows changes later old new grows same id (tasks ++ Visit c.args.place ∷ []) before was).going.within refl was;
      lighter = lighter-done changes later old new grows same tasks (Visit c.args.place) before after settled.reach c.requires.walking.0 c.requires.walking.1.going
          (weight-some (tree_of old c.args.place.id)) (λ i. (settled.tasks i).items);
    }

pub returns-in_ok-visit_kids-in-OfKids-clause-leads_on : goal.returns-in_ok-visit_kids-in-OfKids-clause-leads_on
returns-in_ok-visit_kids-in-OfKids-clause-leads_on g c =
    let old = c.args.pool.now.nodes in
    let new = c.look_at.new.pool.nodes in
    let grows = c.look_at.ensures.grows in
    let changes = g.C.Changing.changes c.args.changing.now old in
    let later = g.C.Changing.changes c.args.changing.now new in
    let same = (g.met.C.Changing.kept c.args.changing.now old new c.requires.there grows).1 in
    let before : Walk = c.args.walk.now in
    let after : Walk = record { reach = before.reach; tasks = c.visit_kids.new.tasks; news = before.news; made = before.made } in
    let former = rw c.in-OfKids.is at c.in_ok-id.ensures.look in
    let known : IsNodeAt new c.args.place c.node-node.result.now = record { at = c.node-node.ensures.node; tree = c.node-node.ensures.tree; form = c.node-node.ensures.form } in
    let tasks = before.tasks.items in
    record {
      walking = λ id was.
          IsWalking-kids changes later old new grows same tasks c.args.place before after refl refl refl c.node-node.result.now known former
          c.in_ok-visit_kids-in-OfKids.ensures id was;
      lighter = lighter-kids changes later old new grows same tasks c.args.place before after refl refl refl c.node-node.result.now known former
          c.in_ok-visit_kids-in-OfKids.ensures c.requires.walking.0 c.requires.walking.1;
    }
