use Rattle.std.proofs.Common.{◌≡◌, sym, subst}
use Rattle.rz_rules.specs.Tree.{Tree, tree_of}
use Rattle.rz_pool.proofs.Nodes.{Grows-trans}
use Rattle.rz_tope_normal.specs.Norm.{AreNorms, IsSetting}
use Rattle.rz_tope_normal.proofs.Parting.{parts_stay, product_stays}
use Rattle.rz_tope_normal.proofs.Staying.{Later-trans, live_stays, tree_stays}
use Rattle.rz_tope_normal.proofs.Norming.{setting_of, setting_stays}
use Rattle.rz_tope_normal.proofs.parts.halve.Goals as goal
use Rattle.rz_tope_normal.proofs.parts.halve.Goals.{In_ok-first}

setting : (c : In_ok-first) → IsSetting c.args.pool.now.nodes (tree_of c.args.pool.now.nodes c.args.setting.now.context) c.requires.setting.1
    c.args.setting.now
setting c = setting_of c.args.pool.now.nodes c.requires.setting.0 c.requires.setting.1 c.args.setting.now c.requires.setting.2

context : (c : In_ok-first) → tree_of c.learn_parts.new.pool.nodes c.args.setting.now.context ≡ tree_of c.args.pool.now.nodes
    c.args.setting.now.context
context c = tree_stays c.args.pool.now.nodes c.learn_parts.new.pool.nodes c.in_ok-first.ensures.later.grows c.args.setting.now.context
    (setting c).live

pub learn_parts-requires-2-clause-there : goal.learn_parts-requires-2-clause-there
learn_parts-requires-2-clause-there c =
    live_stays c.args.pool.now.nodes c.learn_parts.new.pool.nodes c.in_ok-first.ensures.later.grows c.args.of.2 c.requires.second.0

pub learn_parts-requires-2-clause-setting : goal.learn_parts-requires-2-clause-setting
learn_parts-requires-2-clause-setting c = (
  c.requires.setting.0,
  c.requires.setting.1,
  setting_stays c.args.pool.now.nodes c.learn_parts.new.pool.nodes c.in_ok-first.ensures.later.grows
      c.requires.setting.0 c.requires.setting.1 c.args.setting.now c.requires.setting.2,
)

pub learn_parts-requires-2-clause-norms : goal.learn_parts-requires-2-clause-norms
learn_parts-requires-2-clause-norms c =
    subst (λ (t : Tree). AreNorms c.learn_parts.new.pool.nodes t c.args.setting.now.entries.items c.learn_parts.new.proof c.learn_parts.new.norms)
    (sym (context (goal.at.learn_parts-requires-2-clause-norms c).In_ok-first)) c.in_ok-first.ensures.norms

pub learn_parts-requires-2-clause-known : goal.learn_parts-requires-2-clause-known
learn_parts-requires-2-clause-known c = c.in_ok-first.ensures.kept c.args.of.2 c.requires.second.1

pub returns-clause-halves : goal.returns-clause-halves
returns-clause-halves c =
    let old = c.args.pool.now.nodes in
    let one = c.learn_parts.new.pool.nodes in
    let new = c.learn_parts-2.new.pool.nodes in
    let first = c.in_ok-first.ensures in
    let second = c.in_ok-second.ensures in
    let point = live_stays old one first.later.grows c.args.of.1 c.requires.first.0 in
    let early = parts_stay one new second.later.grows c.learn_parts.new.norms c.learn_parts-2.new.norms second.kept c.args.of.1 point
    c.in_ok-first.first first.parts in
    let late = second.parts in
    record {
      cube = product_stays old new (Grows-trans old one new first.later.grows second.later.grows) c.args.of.0 c.args.cubes c.requires.cube;
      first = record {
        left_live = early.left_live;
        right_live = early.right_live;
        pair_live = early.pair_live;
        left_is = early.left_is;
        right_is = early.right_is;
        pair_is = early.pair_is;
        left_known = early.left_known;
        right_known = early.right_known;
      };
      second = record {
        left_live = late.left_live;
        right_live = late.right_live;
        pair_live = late.pair_live;
        left_is = late.left_is;
        right_is = late.right_is;
        pair_is = late.pair_is;
        left_known = late.left_known;
        right_known = late.right_known;
      };
    }

pub returns-clause-norms : goal.returns-clause-norms
returns-clause-norms c =
    subst (λ (t : Tree). AreNorms c.learn_parts-2.new.pool.nodes t c.args.setting.now.entries.items c.learn_parts-2.new.proof
    c.learn_parts-2.new.norms)
    (context (goal.at.returns-clause-norms c).In_ok-first) c.in_ok-second.ensures.norms

pub returns-clause-later : goal.returns-clause-later
returns-clause-later c =
    Later-trans c.args.pool.now.nodes c.learn_parts.new.pool.nodes c.learn_parts-2.new.pool.nodes c.args.proof.now c.learn_parts.new.proof
    c.learn_parts-2.new.proof
    c.in_ok-first.ensures.later c.in_ok-second.ensures.later
