use Rattle.std.proofs.Common.{◌≡◌, ℕ, List, [], ◌∷◌, ◌++◌, length, sym, ap, subst, ◌∙◌, arith}
use Rattle.std.specs.Prelude.{slice_get}
use Rattle.rz_rules.specs.Tree.{Tree, tree_of}
use Rattle.rz_tope_normal.specs.Equation.{AreSplits}
use Rattle.rz_tope_normal.specs.Norm.{AreNorms}
use Rattle.rz_tope_normal.proofs.Splitting.{splits_start}
use Rattle.rz_tope_normal.proofs.Staying.{Later-same, Later-trans, tree_stays}
use Rattle.rz_tope_normal.proofs.Norming.{setting_of, setting_stays}
use Rattle.rz_tope_normal.proofs.splits.split_all.Goals as goal
use Rattle.rz_tope_normal.proofs.splits.split_all.Goals.{Else-len, In_ok-split_next}

pub loop-init : goal.loop-init
loop-init c = record {
  splits = λ list is. splits_start c.args.pool.now.nodes (tree_of c.args.pool.now.nodes c.args.setting.now.context) list c.args.norms.now
      (record { all = c.push.new.self; done = c.new.result }) c.args.of is (c.in_ok-push.ensures.items ∙ ap
      (λ (xs : List (ℕ × ℕ × ℕ)). xs ++ c.args.of ∷ []) c.new-all.ensures.items)
      c.new.ensures.items;
  count = omega (arith, ap length c.new.ensures.items);
  first = ap (λ (xs : List (ℕ × ℕ × ℕ)). slice_get xs 0) (c.in_ok-push.ensures.items ∙ ap (λ (xs : List (ℕ × ℕ × ℕ)). xs ++ c.args.of ∷ [])
      c.new-all.ensures.items);
  kept = λ q known. known;
  norms = c.requires.norms;
  later = Later-same c.args.pool.now.nodes c.args.proof.now;
}

context : (c : Else-len) → tree_of c.loop.pool.nodes c.args.setting.now.context ≡ tree_of c.args.pool.now.nodes c.args.setting.now.context
context c =
    let set = setting_of c.args.pool.now.nodes c.requires.setting.0 c.requires.setting.1 c.args.setting.now c.requires.setting.2 in
    tree_stays c.args.pool.now.nodes c.loop.pool.nodes c.loop.invariant.later.grows c.args.setting.now.context set.live

pub split_next-requires-clause-next : goal.split_next-requires-clause-next
split_next-requires-clause-next c =
    omega (arith, c.loop.invariant.count, c.if-len.false, c.len.ensures, c.len-in-loop.ensures, c.loop.splits.done.ok, c.loop.splits.all.ok)

pub split_next-requires-clause-setting : goal.split_next-requires-clause-setting
split_next-requires-clause-setting c = (
  c.requires.setting.0,
  c.requires.setting.1,
  setting_stays c.args.pool.now.nodes c.loop.pool.nodes c.loop.invariant.later.grows c.requires.setting.0 c.requires.setting.1
      c.args.setting.now c.requires.setting.2,
)

pub split_next-requires-clause-norms : goal.split_next-requires-clause-norms
split_next-requires-clause-norms c =
    subst (λ (t : Tree). AreNorms c.loop.pool.nodes t c.args.setting.now.entries.items c.loop.proof c.loop.norms)
    (sym (context (goal.at.split_next-requires-clause-norms c).Else-len)) c.loop.invariant.norms

pub split_next-requires-clause-splits : goal.split_next-requires-clause-splits
split_next-requires-clause-splits c = (
  c.requires.equation.0,
  subst (λ (t : Tree). AreSplits c.loop.pool.nodes t c.requires.equation.0 c.loop.norms c.loop.splits)
      (sym (context (goal.at.split_next-requires-clause-splits c).Else-len)) (c.loop.invariant.splits c.requires.equation.0 c.requires.equation.1),
)

pub loop-preserved : goal.loop-preserved
loop-preserved c =
    let here = context (goal.at.loop-preserved c).Else-len in
    let made = c.in_ok-split_next.ensures in
    let inv = c.loop.invariant in
    record {
      splits = λ list is.
          subst (λ (t : Tree). AreSplits c.split_next.new.pool.nodes t list c.split_next.new.norms c.split_next.new.self) here
          (made.splits list (subst (λ (t : Tree). AreSplits c.loop.pool.nodes t list c.loop.norms c.loop.splits) (sym here) (inv.splits list is)));
      count = made.count;
      first = made.first c.args.of inv.first;
      kept = λ q known. made.kept q (inv.kept q known);
      norms = subst (λ (t : Tree). AreNorms c.split_next.new.pool.nodes t c.args.setting.now.entries.items c.split_next.new.proof
          c.split_next.new.norms) here made.norms;
      later = Later-trans c.args.pool.now.nodes c.loop.pool.nodes c.split_next.new.pool.nodes c.args.proof.now c.loop.proof c.split_next.new.proof
          inv.later made.later;
    }
