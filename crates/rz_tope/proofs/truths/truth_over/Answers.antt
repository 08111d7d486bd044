use Rattle.std.proofs.Common.{◌≡◌, ◌<◌, [], ◌∷◌, ◌++◌, length, nat_eq, arith, refl, subst, ◌∙◌}
use Rattle.std.specs.HashMap.{get}
use Rattle.rz_pool.proofs.Nodes.{Grows-same, Grows-trans, length-Grows}
use Rattle.rz_pool.specs.Cubes.{AreCubes}
use Rattle.rz_cube.proofs.CachedPoints.{AreCubes-Grows, at_point-Grows, old_node}
use Rattle.rz_cube.proofs.Caching.{IsCaching, IsCaching-start, IsCaching-pop, last_live, last_kids, cached_at_end}
use Rattle.rz_tope.specs.Tope.{HasAnswer, KidsHaveAnswers, truth_in}
use Rattle.rz_tope.proofs.AnswerTables.{HasAnswer-Grows, KidsHaveAnswers-Grows, CachesKids-answers, answer_here, answer_others}
use Rattle.rz_tope.proofs.TopeNodes.{table_is}
use Rattle.rz_tope.proofs.truths.truth_over.Goals as goal
use Rattle.rz_tope.proofs.truths.truth_over.Goals.{In-Some, In_ok-cache, In_ok-insert}

-- the ids before the loop's step, with the last one apart
caching : (c : In-Some) → IsCaching c.new.new.pool.nodes c.args.tope (HasAnswer (truth_in c.args.ranks.now) c.loop-part.pool.nodes c.args.entries.now c.loop-part.points (get nat_eq c.loop-part.table)) (c.pop.new.self.items ++ c.in-Some.part ∷ [])
caching c = subst (IsCaching c.new.new.pool.nodes c.args.tope (HasAnswer (truth_in c.args.ranks.now) c.loop-part.pool.nodes c.args.entries.now c.loop-part.points (get nat_eq c.loop-part.table))) c.in-Some.ensures.items c.loop-part.invariant.caching

live : (c : In-Some) → c.in-Some.part < length c.new.new.pool.nodes
live c = last_live c.new.new.pool.nodes c.args.tope (HasAnswer (truth_in c.args.ranks.now) c.loop-part.pool.nodes c.args.entries.now c.loop-part.points (get nat_eq c.loop-part.table)) c.pop.new.self.items c.in-Some.part (caching c)

now_live : (c : In-Some) → c.in-Some.part < length c.loop-part.pool.nodes
now_live c = omega (arith, live c, length-Grows c.new.new.pool.nodes c.loop-part.pool.nodes c.loop-part.invariant.grows)

cubes : (c : In-Some) → AreCubes c.loop-part.pool.nodes c.args.entries.now
cubes c =
    AreCubes-Grows c.new.new.pool.nodes c.loop-part.pool.nodes c.loop-part.invariant.grows c.args.entries.now
    (AreCubes-Grows c.args.pool.now.nodes c.new.new.pool.nodes c.in_ok-points.ensures.grows c.args.entries.now c.requires.entries)

-- its kids have answers
kids : (c : In-Some) → KidsHaveAnswers (truth_in c.args.ranks.now) c.loop-part.pool.nodes c.args.entries.now c.loop-part.points (get nat_eq c.loop-part.table) c.in-Some.part
kids c node at =
    last_kids c.new.new.pool.nodes c.args.tope (HasAnswer (truth_in c.args.ranks.now) c.loop-part.pool.nodes c.args.entries.now c.loop-part.points (get nat_eq c.loop-part.table)) c.pop.new.self.items c.in-Some.part (caching c)
    node (old_node c.new.new.pool.nodes c.loop-part.pool.nodes c.loop-part.invariant.grows c.in-Some.part node (live c) at)

-- also when the id is cached as a point
kids_now : (c : In_ok-cache) → KidsHaveAnswers (truth_in c.args.ranks.now) c.cache.new.pool.nodes c.args.entries.now c.cache.new.self (get nat_eq c.loop-part.table) c.in-Some.part
kids_now c =
    KidsHaveAnswers-Grows (truth_in c.args.ranks.now) c.loop-part.pool.nodes c.cache.new.pool.nodes c.in_ok-cache.ensures.grows c.args.entries.now (cubes (goal.at.In_ok-cache c).In-Some)
    c.loop-part.points c.cache.new.self c.in_ok-cache.ensures.kept (get nat_eq c.loop-part.table) c.in-Some.part (now_live (goal.at.In_ok-cache c).In-Some) (kids (goal.at.In_ok-cache c).In-Some)

pub loop-part-init : goal.loop-part-init
loop-part-init c = record {
  points = c.in_ok-points.ensures.points;
  grows = Grows-same c.new.new.pool.nodes c.new.new.pool.nodes refl;
  caching = IsCaching-start c.new.new.pool.nodes c.args.tope (HasAnswer (truth_in c.args.ranks.now) c.new.new.pool.nodes c.args.entries.now c.in_ok-points.points (get nat_eq c.new-table.result)) c.in_ok-parts.parts.items c.in_ok-parts.ensures;
}

pub cache-requires-clause-there : goal.cache-requires-clause-there
cache-requires-clause-there c = now_live (goal.at.cache-requires-clause-there c).In-Some

pub cache-requires-clause-entries : goal.cache-requires-clause-entries
cache-requires-clause-entries c = cubes (goal.at.cache-requires-clause-entries c).In-Some

pub cache-requires-clause-kids : goal.cache-requires-clause-kids
cache-requires-clause-kids c =
    CachesKids-answers (truth_in c.args.ranks.now) c.loop-part.pool.nodes c.args.entries.now c.loop-part.points (get nat_eq c.loop-part.table) c.in-Some.part (kids (goal.at.cache-requires-clause-kids c).In-Some)

pub truth_by_kids-requires-clause-kids : goal.truth_by_kids-requires-clause-kids
truth_by_kids-requires-clause-kids c = (c.args.entries.now, kids_now (goal.at.truth_by_kids-requires-clause-kids c).In_ok-cache)

-- the answer is in the table, behind the others
after : (c : In_ok-insert) → IsCaching c.new.new.pool.nodes c.args.tope (HasAnswer (truth_in c.args.ranks.now) c.cache.new.pool.nodes c.args.entries.now c.cache.new.self (get nat_eq c.insert.new.self)) c.pop.new.self.items
after c =
    let is = c.in_ok-answer.ensures c.args.entries.now (kids_now (goal.at.In_ok-insert c).In_ok-cache) in
    IsCaching-pop c.new.new.pool.nodes c.args.tope (HasAnswer (truth_in c.args.ranks.now) c.loop-part.pool.nodes c.args.entries.now c.loop-part.points (get nat_eq c.loop-part.table)) c.pop.new.self.items c.in-Some.part (caching (goal.at.In_ok-insert c).In-Some)
    (HasAnswer (truth_in c.args.ranks.now) c.cache.new.pool.nodes c.args.entries.now c.cache.new.self (get nat_eq c.insert.new.self))
    (answer_here (truth_in c.args.ranks.now) c.cache.new.pool.nodes c.args.entries.now c.cache.new.self c.in-Some.part c.in_ok-cache.ensures.cached c.in_ok-answer.answer is (get nat_eq c.loop-part.table) (get nat_eq c.insert.new.self) c.in_ok-insert.ensures.updates.0)
    (λ q has. answer_others (truth_in c.args.ranks.now) c.cache.new.pool.nodes c.args.entries.now c.cache.new.self c.in-Some.part c.in_ok-cache.ensures.cached c.in_ok-answer.answer is (get nat_eq c.loop-part.table) (get nat_eq c.insert.new.self) c.in_ok-insert.ensures.updates.0 q
    (HasAnswer-Grows (truth_in c.args.ranks.now) c.loop-part.pool.nodes c.cache.new.pool.nodes c.in_ok-cache.ensures.grows c.args.entries.now (cubes (goal.at.In_ok-insert c).In-Some)
    c.loop-part.points c.cache.new.self c.in_ok-cache.ensures.kept (get nat_eq c.loop-part.table) q has))

pub loop-part-preserved : goal.loop-part-preserved
loop-part-preserved c = record {
  points = c.in_ok-cache.ensures.points;
  grows = Grows-trans c.new.new.pool.nodes c.loop-part.pool.nodes c.cache.new.pool.nodes c.loop-part.invariant.grows c.in_ok-cache.ensures.grows;
  caching = after c;
}

pub returns-clause-truth : goal.returns-clause-truth
returns-clause-truth c =
    let old = c.args.pool.now.nodes in
    let ms = c.loop-part.pool.nodes in
    let none : length c.loop-part.parts.items ≡ 0 = omega (arith, c.in_default.ensures.cases, c.loop-part.parts.ok) in
    let has = cached_at_end c.new.new.pool.nodes c.args.tope (HasAnswer (truth_in c.args.ranks.now) ms c.args.entries.now c.loop-part.points (get nat_eq c.loop-part.table)) c.loop-part.parts.items none c.loop-part.invariant.caching in
    table_is (truth_in c.args.ranks.now) ms c.args.entries.now c.loop-part.points (get nat_eq c.loop-part.table) c.args.tope has c.index.result.now c.index.ensures
    ∙ at_point-Grows old ms (Grows-trans old c.new.new.pool.nodes ms c.in_ok-points.ensures.grows c.loop-part.invariant.grows) (truth_in c.args.ranks.now) c.args.entries.now c.args.tope c.requires.entries c.requires.tope
