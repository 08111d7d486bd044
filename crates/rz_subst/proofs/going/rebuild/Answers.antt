use Rattle.std.proofs.Common.{◌≡◌, ◌<◌, List, length, refl, sym, ap, subst, ◌∙◌, arith}
use Rattle.rz_rules.specs.declared.nodes.Node.{Node}
use Rattle.rz_rules.specs.Tree.{Tree, tree_of}
use Rattle.rz_pool.specs.Asking.{asked_tree}
use Rattle.rz_rules.specs.Substitution.{Depth, changed, none}
use Rattle.rz_pool.proofs.Nodes.{length-Grows, KeepsTrees-Grows}
use Rattle.rz_subst.specs.declared.walk.Reach.{Reach}
use Rattle.rz_subst.specs.Walk.{top_place, reach_of, IsBeyond, KeepsTo, IsAnswerOf}
use Rattle.rz_subst.proofs.Places.{depth_top}
use Rattle.rz_subst.proofs.Staying.{answer-beyond}
use Rattle.rz_subst.proofs.Steps.{asked, IsRight-here}
use Rattle.rz_subst.proofs.going.rebuild.Goals as goal

pub returns-then-is_beyond-clause-answer : goal.returns-then-is_beyond-clause-answer
returns-then-is_beyond-clause-answer g c =
    let nodes = c.args.pool.now.nodes in
    let changing = c.args.changing.now in
    let reach = reach_of (g.C.Changing.reach changing nodes) in
    let changes = g.C.Changing.changes changing nodes in
    let at_top : IsBeyond (reach_of c.reach-reach.result) nodes (top_place c.args.id) =
    subst (IsBeyond (reach_of c.reach-reach.result) nodes) c.top.ensures (c.if-is_beyond.ensures.beyond.0 refl) in
    let beyond : IsBeyond reach nodes (top_place c.args.id) = subst (λ (r : Reach). IsBeyond (reach_of r) nodes (top_place c.args.id)) c.reach-reach.ensures at_top in
    let stays = answer-beyond reach changes (g.met.C.Changing.stays changing nodes) nodes (top_place c.args.id) beyond in
    (c.requires.live, sym stays ∙ ap (λ (d : Depth). changed changes d (tree_of nodes c.args.id)) (depth_top c.args.id))

pub go-requires-clause-keeps : goal.go-requires-clause-keeps
go-requires-clause-keeps g c =
    let nodes = c.args.pool.now.nodes in
    let changing = c.args.changing.now in
    let keeps : KeepsTo (reach_of (g.C.Changing.reach changing nodes)) (g.C.Changing.changes changing nodes) =
    record { within = g.met.C.Changing.stays changing nodes; steady = g.met.C.Changing.steady changing nodes; moves = g.met.C.Changing.moves changing nodes } in
    subst (λ (ns : List Node). KeepsTo (reach_of c.reach-reach.result) (g.C.Changing.changes changing ns)) (sym c.known_answer.ensures.nodes)
    (subst (λ (r : Reach). KeepsTo (reach_of r) (g.C.Changing.changes changing nodes)) (sym c.reach-reach.ensures) keeps)

pub keep_answer-requires : goal.keep_answer-requires
keep_answer-requires g c =
    let changing = c.args.changing.now in
    let id = c.args.id in
    let mid = c.known_answer.new.self.nodes in
    let new = c.go.new.pool.nodes in
    let changes = g.C.Changing.changes changing in
    let there = subst (g.C.Changing.is_there changing) (sym c.known_answer.ensures.nodes) c.requires.there in
    let live : id < length mid = subst (λ (ns : List Node). id < length ns) (sym c.known_answer.ensures.nodes) c.requires.live in
    let kept = g.met.C.Changing.kept changing mid new there c.go.ensures.grows in
    let asks = g.met.C.Changing.asks changing new kept.0 in
    let trees = KeepsTrees-Grows mid new c.go.ensures.grows id live in
    IsRight-here new c.question-question.result id (g.C.Changing.change changing) (changes mid) c.in_ok-answer.answer c.question-question.ensures.id c.question-question.ensures.change
    asks.0 (asks.1 ∙ kept.1) (omega (arith, live, length-Grows mid new c.go.ensures.grows))
    (subst (λ (t : Tree). IsAnswerOf new (changed (changes mid) none t) c.in_ok-answer.answer) (sym trees) c.in_ok-answer.ensures.answer)

pub returns-in-Some-clause-answer : goal.returns-in-Some-clause-answer
returns-in-Some-clause-answer g c =
    let changing = c.args.changing.now in
    let id = c.args.id in
    let new = c.known_answer.new.self.nodes in
    let changes = g.C.Changing.changes changing in
    let there = subst (g.C.Changing.is_there changing) (sym c.known_answer.ensures.nodes) c.requires.there in
    let asks = g.met.C.Changing.asks changing new there in
    let same : asked_tree new c.question-question.result ≡ changed (changes c.args.pool.now.nodes) none (tree_of c.args.pool.now.nodes id) =
    asked new c.question-question.result id (g.C.Changing.change changing) (changes new) c.question-question.ensures.id c.question-question.ensures.change asks.1
    ∙ ap (λ (ns : List Node). changed (changes ns) none (tree_of ns id)) c.known_answer.ensures.nodes in
    subst (λ (t : Tree). IsAnswerOf new t c.in-Some.answer) same c.in-Some.ensures.right.is
