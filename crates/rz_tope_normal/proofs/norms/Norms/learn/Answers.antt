use Rattle.std.proofs.Common.{◌≡◌, ℕ, List, refl, sym, subst}
use Rattle.rz_rules.specs.Tree.{Tree, tree_of}
use Rattle.rz_cube.specs.Cached.{Caches, CachesKids}
use Rattle.rz_cube.proofs.CachedPoints.{old_node, Caches-Grows}
use Rattle.rz_tope_normal.specs.declared.norms.Norms.{Norms}
use Rattle.rz_tope_normal.specs.Norm.{AreNorms, IsNormWithin, IsSetting}
use Rattle.rz_tope_normal.proofs.Staying.{Later-grows, tree_stays, live_stays}
use Rattle.rz_tope_normal.proofs.Norming.{kids_cached, norms_later, norms_cached, norms_with, setting_of, setting_stays}
use Rattle.rz_tope_normal.proofs.norms.Norms.learn.Goals as goal
use Rattle.rz_tope_normal.proofs.norms.Norms.learn.Goals.{In_ok-cache, After-deref}

setting : (c : After-deref) → IsSetting c.args.pool.now.nodes (tree_of c.args.pool.now.nodes c.args.setting.now.context) c.requires.setting.1
    c.args.setting.now
setting c = setting_of c.args.pool.now.nodes c.requires.setting.0 c.requires.setting.1 c.args.setting.now c.requires.setting.2

pub cache-requires-clause-kids : goal.cache-requires-clause-kids
cache-requires-clause-kids c =
    subst (λ (entries : List ℕ). CachesKids c.args.pool.now.nodes entries c.args.self.now.points c.args.point) (sym c.deref.ensures.value)
    (kids_cached c.args.pool.now.nodes (tree_of c.args.pool.now.nodes c.args.setting.now.context) c.args.setting.now.entries.items c.args.proof.now
    c.args.self.now
    c.requires.norms c.args.point c.requires.kids)

pub norm_by_kids-requires-clause-setting : goal.norm_by_kids-requires-clause-setting
norm_by_kids-requires-clause-setting c = (
  c.requires.setting.0,
  c.requires.setting.1,
  setting_stays c.args.pool.now.nodes c.cache.new.pool.nodes c.in_ok-cache.ensures.grows c.requires.setting.0 c.requires.setting.1
      c.args.setting.now c.requires.setting.2,
)

-- what was known is, where more points are cached
norms : (c : In_ok-cache) → AreNorms c.cache.new.pool.nodes (tree_of c.args.pool.now.nodes c.args.setting.now.context) c.args.setting.now.entries.items
    c.args.proof.now
    (record { points = c.cache.new.self; table = c.args.self.now.table })
norms c =
    let old = c.args.pool.now.nodes in
    let new = c.cache.new.pool.nodes in
    norms_cached old c.args.proof.now new c.args.proof.now (Later-grows old new c.args.proof.now c.in_ok-cache.ensures.grows)
    (tree_of old c.args.setting.now.context)
    c.args.setting.now.entries.items c.args.self.now c.cache.new.self c.requires.norms c.in_ok-cache.ensures.points
    (λ q t. subst (λ (entries : List ℕ). Caches new entries c.cache.new.self q) c.deref.ensures.value
    (c.in_ok-cache.ensures.kept q (subst (λ (entries : List ℕ). Caches old entries c.args.self.now.points q) (sym c.deref.ensures.value) t)))

context : (c : In_ok-cache) → tree_of c.cache.new.pool.nodes c.args.setting.now.context ≡ tree_of c.args.pool.now.nodes c.args.setting.now.context
context c = tree_stays c.args.pool.now.nodes c.cache.new.pool.nodes c.in_ok-cache.ensures.grows c.args.setting.now.context
    (setting (goal.at.In_ok-cache c).After-deref).live

pub norm_by_kids-requires-clause-norms : goal.norm_by_kids-requires-clause-norms
norm_by_kids-requires-clause-norms c =
    let g = goal.at.norm_by_kids-requires-clause-norms c in
    subst (λ (t : Tree). AreNorms c.cache.new.pool.nodes t c.args.setting.now.entries.items c.args.proof.now
    (record { points = c.cache.new.self; table = c.args.self.now.table }))
    (sym (context g.In_ok-cache)) (norms g.In_ok-cache)

-- the point is cached
caches : (c : In_ok-cache) → Caches c.cache.new.pool.nodes c.args.setting.now.entries.items c.cache.new.self c.args.point
caches c = subst (λ (entries : List ℕ). Caches c.cache.new.pool.nodes entries c.cache.new.self c.args.point) c.deref.ensures.value
    c.in_ok-cache.ensures.cached

pub norm_by_kids-requires-clause-cached : goal.norm_by_kids-requires-clause-cached
norm_by_kids-requires-clause-cached c = caches (goal.at.norm_by_kids-requires-clause-cached c).In_ok-cache

pub norm_by_kids-requires-clause-kids : goal.norm_by_kids-requires-clause-kids
norm_by_kids-requires-clause-kids c node at =
    c.requires.kids node (old_node c.args.pool.now.nodes c.cache.new.pool.nodes c.in_ok-cache.ensures.grows c.args.point node c.requires.there at)

pub returns-clause-norms : goal.returns-clause-norms
returns-clause-norms c =
    let g = (goal.at.returns-clause-norms c).In_ok-cache in
    let old = c.cache.new.pool.nodes in
    let new = c.norm_by_kids.new.pool.nodes in
    let later = c.in_ok-norm.ensures.later in
    let context_tree = tree_of c.args.pool.now.nodes c.args.setting.now.context in
    let entries = c.args.setting.now.entries.items in
    let before : Norms = record { points = c.cache.new.self; table = c.args.self.now.table } in
    let set = setting_stays c.args.pool.now.nodes old c.in_ok-cache.ensures.grows context_tree c.requires.setting.1 c.args.setting.now
    (setting (goal.at.returns-clause-norms c).After-deref) in
    let are = norms_later old c.args.proof.now new c.norm_by_kids.new.proof later context_tree entries before set.cubes (norms g) in
    norms_with context_tree entries c.norm_by_kids.new.proof new before (record { points = c.cache.new.self; table = c.insert.new.self }) c.args.point
    c.in_ok-norm.norm refl
    c.in_ok-insert.ensures.updates.0 are (live_stays old new later.grows c.args.point (caches g).2.live)
    (Caches-Grows old new later.grows entries c.cache.new.self c.args.point set.cubes (caches g))
    (subst (λ (t : Tree). IsNormWithin new t c.norm_by_kids.new.proof c.args.point c.in_ok-norm.norm) (context g) c.in_ok-norm.ensures.norm)
