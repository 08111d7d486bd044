use Rattle.std.proofs.Common.{◌≡◌, ◌<◌, ◌++◌, ◌∷◌, [], Some, slice_get, get_or, length, sym, subst, arith}
use Rattle.std.proofs.lemmas.Option.{slice_get-get_or}
use Rattle.rz_rules.specs.declared.nodes.Node.{Node}
use Rattle.rz_pool.proofs.Nodes.{tree_of_place}
use Rattle.rz_subst.specs.declared.going.Walk.{Walk}
use Rattle.rz_subst.specs.declared.tasks.Task.{Task}
use Rattle.rz_subst.specs.declared.tasks.Task.TheVariants.{Make}
use Rattle.rz_subst.specs.Tasks.{IsWalking, LeadsOn}
use Rattle.rz_subst.proofs.Answering.{blank_node}
use Rattle.rz_subst.proofs.Jobs.{job_live, job_ready}
use Rattle.rz_subst.proofs.Making.{IsNodeAt, enough_news, remade_form}
use Rattle.rz_subst.proofs.Steps.{IsWalking-made, lighter-done}
use Rattle.rz_subst.proofs.going.step.Goals as goal

pub make_over-requires-clause-enough : goal.make_over-requires-clause-enough
make_over-requires-clause-enough g c node at =
    let nodes = c.args.pool.now.nodes in
    let changes = g.C.Changing.changes c.args.changing.now nodes in
    let place = c.in-Make.place in
    let walk = c.args.walk.now in
    let id = c.requires.walking.0 in
    let was = subst (λ (t : Task). IsWalking changes nodes id (walk.tasks.items ++ t ∷ []) walk) c.in-Make.is c.requires.walking.1 in
    let known : IsNodeAt nodes place node = record { at = at; tree = tree_of_place nodes c.requires.pool.forms place.id node at; form = c.requires.pool.forms place.id node at } in
    enough_news changes nodes place node known walk.news.items (job_ready changes nodes id walk.tasks.items (Make place) walk.news.items was.going)

pub make_over-requires-clause-form : goal.make_over-requires-clause-form
make_over-requires-clause-form g c node at =
    let nodes = c.args.pool.now.nodes in
    let changes = g.C.Changing.changes c.args.changing.now nodes in
    let place = c.in-Make.place in
    let walk = c.args.walk.now in
    let id = c.requires.walking.0 in
    let was = subst (λ (t : Task). IsWalking changes nodes id (walk.tasks.items ++ t ∷ []) walk) c.in-Make.is c.requires.walking.1 in
    let known : IsNodeAt nodes place node = record { at = at; tree = tree_of_place nodes c.requires.pool.forms place.id node at; form = c.requires.pool.forms place.id node at } in
    remade_form changes nodes place node known walk.news.items (job_ready changes nodes id walk.tasks.items (Make place) walk.news.items was.going)
    (g.met.C.Changing.sorts c.args.changing.now nodes c.requires.there) was.going.within

pub returns-in_ok-settle-in-Make-clause-leads_on : goal.returns-in_ok-settle-in-Make-clause-leads_on
returns-in_ok-settle-in-Make-clause-leads_on g c =
    let old = c.args.pool.now.nodes in
    let new = c.make_over.new.pool.nodes in
    let grows = c.make_over.ensures.grows in
    let changes = g.C.Changing.changes c.args.changing.now old in
    let later = g.C.Changing.changes c.args.changing.now new in
    let same = (g.met.C.Changing.kept c.args.changing.now old new c.requires.there grows).1 in
    let place = c.in-Make.place in
    let before : Walk = c.args.walk.now in
    let after : Walk = c.settle.new.self in
    let tasks = before.tasks.items in
    let settled = c.in_ok-settle-in-Make.ensures in
    let id = c.requires.walking.0 in
    let was : IsWalking changes old id (tasks ++ Make place ∷ []) before =
    subst (λ (t : Task). IsWalking changes old id (tasks ++ t ∷ []) before) c.in-Make.is c.requires.walking.1 in
    let live : place.id < length old = job_live changes old id tasks (Make place) before.news.items was.going in
    let node : Node = get_or old place.id blank_node in
    let at : slice_get old place.id ≡ Some node = slice_get-get_or old place.id blank_node live in
    let known : IsNodeAt old place node = record { at = at; tree = tree_of_place old c.requires.pool.forms place.id node at; form = c.requires.pool.forms place.id node at } in
    subst (λ (t : Task). LeadsOn changes old (tasks ++ t ∷ []) before later new after) (sym c.in-Make.is) (record {
      walking = λ other is.
          IsWalking-made changes later old new grows same tasks place before after settled.reach node known c.make_over.new.news.items
          (c.in_ok-id-in-Make.ensures.left node at) c.in_ok-id-in-Make.id c.in_ok-id-in-Make.ensures.within (c.in_ok-id-in-Make.ensures.tree node at)
          (λ i. (settled.tasks i).items) settled.news settled.made other is;
      lighter = lighter-done changes later old new grows same tasks (Make place) before after settled.reach id was.going (omega arith) (λ i. (settled.tasks i).items);
    })
