use Rattle.std.proofs.Common.{◌≡◌, ℕ, List, [], map, sym, ap, subst, ◌∙◌}
use Rattle.rz_rules.specs.Tree.{Tree, At, And, Nil, trees_of, tree_of}
use Rattle.rz_tope_normal.specs.Norm.{AreNorms, IsSetting}
use Rattle.rz_tope_normal.proofs.Parting.{knows_kid}
use Rattle.rz_tope_normal.proofs.Staying.{Later-grows, Later-trans, live_stays, tree_stays}
use Rattle.rz_tope_normal.proofs.Norming.{norms_later, setting_of, setting_stays}
use Rattle.rz_tope_normal.proofs.parts.learn_part.Goals as goal
use Rattle.rz_tope_normal.proofs.parts.learn_part.Goals.{In_ok-part}

setting : (c : In_ok-part) → IsSetting c.args.pool.now.nodes (tree_of c.args.pool.now.nodes c.args.setting.now.context) c.requires.setting.1
    c.args.setting.now
setting c = setting_of c.args.pool.now.nodes c.requires.setting.0 c.requires.setting.1 c.args.setting.now c.requires.setting.2

context : (c : In_ok-part) → tree_of c.make_unnamed.new.self.nodes c.args.setting.now.context ≡ tree_of c.args.pool.now.nodes c.args.setting.now.context
context c = tree_stays c.args.pool.now.nodes c.make_unnamed.new.self.nodes c.in_ok-part.ensures.grows c.args.setting.now.context (setting c).live

tree : (c : In_ok-part) → tree_of c.make_unnamed.new.self.nodes c.in_ok-part.part ≡ At c.args.side 0 []
    (And (tree_of c.args.pool.now.nodes c.args.point) Nil)
tree c =
    c.in_ok-part.ensures.tree
    ∙ ap (λ (ids : List ℕ). At c.args.side 0 [] (trees_of (map (tree_of c.args.pool.now.nodes) ids))) c.from_slice-kids.ensures

pub learn-requires-clause-setting : goal.learn-requires-clause-setting
learn-requires-clause-setting c = (
  c.requires.setting.0,
  c.requires.setting.1,
  setting_stays c.args.pool.now.nodes c.make_unnamed.new.self.nodes c.in_ok-part.ensures.grows c.requires.setting.0 c.requires.setting.1
      c.args.setting.now c.requires.setting.2,
)

pub learn-requires-clause-norms : goal.learn-requires-clause-norms
learn-requires-clause-norms c =
    let g = (goal.at.learn-requires-clause-norms c).In_ok-part in
    let old = c.args.pool.now.nodes in
    let new = c.make_unnamed.new.self.nodes in
    let entries = c.args.setting.now.entries.items in
    subst (λ (t : Tree). AreNorms new t entries c.args.proof.now c.args.norms.now) (sym (context g))
    (norms_later old c.args.proof.now new c.args.proof.now (Later-grows old new c.args.proof.now c.in_ok-part.ensures.grows)
    (tree_of old c.args.setting.now.context)
    entries c.args.norms.now (setting g).cubes c.requires.norms)

pub learn-requires-clause-kids : goal.learn-requires-clause-kids
learn-requires-clause-kids c =
    let g = (goal.at.learn-requires-clause-kids c).In_ok-part in
    let old = c.args.pool.now.nodes in
    let new = c.make_unnamed.new.self.nodes in
    let grows = c.in_ok-part.ensures.grows in
    knows_kid new c.len.ensures.pool c.args.norms.now c.args.side c.in_ok-part.part c.args.point
    (live_stays old new grows c.args.point c.requires.there)
    (tree g ∙ ap (λ (t : Tree). At c.args.side 0 [] (And t Nil)) (sym (tree_stays old new grows c.args.point c.requires.there))) c.requires.known

pub returns-clause-within : goal.returns-clause-within
returns-clause-within c =
    live_stays c.make_unnamed.new.self.nodes c.learn.new.pool.nodes c.in_ok-learn.ensures.later.grows c.in_ok-part.part c.in_ok-part.ensures.within

pub returns-clause-tree : goal.returns-clause-tree
returns-clause-tree c =
    tree_stays c.make_unnamed.new.self.nodes c.learn.new.pool.nodes c.in_ok-learn.ensures.later.grows c.in_ok-part.part c.in_ok-part.ensures.within
    ∙ tree (goal.at.returns-clause-tree c).In_ok-part

pub returns-clause-norms : goal.returns-clause-norms
returns-clause-norms c =
    subst (λ (t : Tree). AreNorms c.learn.new.pool.nodes t c.args.setting.now.entries.items c.learn.new.proof c.learn.new.self)
    (context (goal.at.returns-clause-norms c).In_ok-part)
    c.in_ok-learn.ensures.norms

pub returns-clause-later : goal.returns-clause-later
returns-clause-later c =
    Later-trans c.args.pool.now.nodes c.make_unnamed.new.self.nodes c.learn.new.pool.nodes c.args.proof.now c.args.proof.now c.learn.new.proof
    (Later-grows c.args.pool.now.nodes c.make_unnamed.new.self.nodes c.args.proof.now c.in_ok-part.ensures.grows) c.in_ok-learn.ensures.later
