use Rattle.std.proofs.Common.{◌≡◌, ℕ, List, [], map, sym, ap, subst, ◌∙◌}
use Rattle.rz_rules.specs.declared.kinds.Kind.TheVariants as kind
use Rattle.rz_rules.specs.Tree.{Tree, At, trees_of, tree_of}
use Rattle.rz_pool.specs.Pool.{Grows}
use Rattle.rz_pool.proofs.Nodes.{Grows-trans}
use Rattle.rz_rules.specs.Tope.{left, pair, right}
use Rattle.rz_tope_normal.specs.Norm.{AreNorms, IsSetting}
use Rattle.rz_tope_normal.proofs.Staying.{Later-grows, Later-trans, live_stays, tree_stays}
use Rattle.rz_tope_normal.proofs.Norming.{norms_later, setting_of, setting_stays}
use Rattle.rz_tope_normal.proofs.parts.learn_parts.Goals as goal
use Rattle.rz_tope_normal.proofs.parts.learn_parts.Goals.{In_ok-left, In_ok-right, In_ok-pair}

setting : (c : In_ok-left) → IsSetting c.args.pool.now.nodes (tree_of c.args.pool.now.nodes c.args.setting.now.context) c.requires.setting.1
    c.args.setting.now
setting c = setting_of c.args.pool.now.nodes c.requires.setting.0 c.requires.setting.1 c.args.setting.now c.requires.setting.2

grown : (c : In_ok-left) → Grows c.args.pool.now.nodes c.learn_part.new.pool.nodes
grown c = c.in_ok-left.ensures.later.grows

context : (c : In_ok-left) → tree_of c.learn_part.new.pool.nodes c.args.setting.now.context ≡ tree_of c.args.pool.now.nodes c.args.setting.now.context
context c = tree_stays c.args.pool.now.nodes c.learn_part.new.pool.nodes (grown c) c.args.setting.now.context (setting c).live

pub learn_part-requires-2-clause-there : goal.learn_part-requires-2-clause-there
learn_part-requires-2-clause-there c =
    live_stays c.args.pool.now.nodes c.learn_part.new.pool.nodes (grown (goal.at.learn_part-requires-2-clause-there c).In_ok-left) c.args.point
    c.requires.there

pub learn_part-requires-2-clause-setting : goal.learn_part-requires-2-clause-setting
learn_part-requires-2-clause-setting c = (
  c.requires.setting.0,
  c.requires.setting.1,
  setting_stays c.args.pool.now.nodes c.learn_part.new.pool.nodes
      (grown (goal.at.learn_part-requires-2-clause-setting c).In_ok-left) c.requires.setting.0 c.requires.setting.1 c.args.setting.now
      c.requires.setting.2,
)

pub learn_part-requires-2-clause-norms : goal.learn_part-requires-2-clause-norms
learn_part-requires-2-clause-norms c =
    subst (λ (t : Tree). AreNorms c.learn_part.new.pool.nodes t c.args.setting.now.entries.items c.learn_part.new.proof c.learn_part.new.norms)
    (sym (context (goal.at.learn_part-requires-2-clause-norms c).In_ok-left)) c.in_ok-left.ensures.norms

pub learn_part-requires-2-clause-known : goal.learn_part-requires-2-clause-known
learn_part-requires-2-clause-known c = c.in_ok-left.ensures.kept c.args.point c.requires.known

pub returns-clause-parts : goal.returns-clause-parts
returns-clause-parts c =
    let old = c.args.pool.now.nodes in
    let one = c.learn_part.new.pool.nodes in
    let two = c.learn_part-2.new.pool.nodes in
    let new = c.make_unnamed.new.self.nodes in
    let first = c.in_ok-left.ensures in
    let second = c.in_ok-right.ensures in
    let third = c.in_ok-pair.ensures in
    let late : Grows one new = Grows-trans one two new second.later.grows third.grows in
    let l = c.in_ok-left.left in
    let r = c.in_ok-right.right in
    let x = c.args.point in
    let point_one = tree_stays old one first.later.grows x c.requires.there in
    let point_new = tree_stays old new (Grows-trans old one new first.later.grows late) x c.requires.there in
    let l_two : tree_of two l ≡ left (tree_of old x) = tree_stays one two second.later.grows l first.within ∙ first.tree in
    let r_two : tree_of two r ≡ right (tree_of old x) = second.tree ∙ ap right point_one in
    record {
      left_live = live_stays one new late l first.within;
      right_live = live_stays two new third.grows r second.within;
      pair_live = third.within;
      left_is = tree_stays one new late l first.within ∙ first.tree ∙ ap left (sym point_new);
      right_is = tree_stays two new third.grows r second.within ∙ r_two ∙ ap right (sym point_new);
      pair_is = third.tree
          ∙ ap (λ (ids : List ℕ). At kind.PointPair 0 [] (trees_of (map (tree_of two) ids))) c.from_slice-kids.ensures
          ∙ (λ i. pair (l_two i) (r_two i)) ∙ (λ i. pair (left (sym point_new i)) (right (sym point_new i)));
      left_known = second.kept l first.known;
      right_known = second.known;
    }

pub returns-clause-norms : goal.returns-clause-norms
returns-clause-norms c =
    let g = (goal.at.returns-clause-norms c).In_ok-left in
    let old = c.args.pool.now.nodes in
    let one = c.learn_part.new.pool.nodes in
    let two = c.learn_part-2.new.pool.nodes in
    let new = c.make_unnamed.new.self.nodes in
    let entries = c.args.setting.now.entries.items in
    let grown_two = Grows-trans old one two (grown g) c.in_ok-right.ensures.later.grows in
    let set = setting_stays old two grown_two (tree_of old c.args.setting.now.context) c.requires.setting.1 c.args.setting.now (setting g) in
    norms_later two c.learn_part-2.new.proof new c.learn_part-2.new.proof (Later-grows two new c.learn_part-2.new.proof c.in_ok-pair.ensures.grows)
    (tree_of old c.args.setting.now.context) entries c.learn_part-2.new.norms set.cubes
    (subst (λ (t : Tree). AreNorms two t entries c.learn_part-2.new.proof c.learn_part-2.new.norms) (context g) c.in_ok-right.ensures.norms)

pub returns-clause-later : goal.returns-clause-later
returns-clause-later c =
    let old = c.args.pool.now.nodes in
    let one = c.learn_part.new.pool.nodes in
    let two = c.learn_part-2.new.pool.nodes in
    let new = c.make_unnamed.new.self.nodes in
    Later-trans old one new c.args.proof.now c.learn_part.new.proof c.learn_part-2.new.proof c.in_ok-left.ensures.later
    (Later-trans one two new c.learn_part.new.proof c.learn_part-2.new.proof c.learn_part-2.new.proof c.in_ok-right.ensures.later
    (Later-grows two new c.learn_part-2.new.proof c.in_ok-pair.ensures.grows))
