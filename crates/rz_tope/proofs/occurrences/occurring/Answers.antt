use Rattle.std.proofs.Common.{◌≡◌, ℕ, List, ap, subst, ◌∙◌}
use Rattle.rz_rules.specs.declared.nodes.Node.{Node}
use Rattle.rz_rules.specs.Tree.{tree_of}
use Rattle.rz_rules.specs.Validity.{occurring, compared}
use Rattle.rz_cube.specs.Point.{binders_at}
use Rattle.rz_tope.specs.Occurrence.{occurrences}
use Rattle.rz_tope.specs.Walk.{IsWalk}
use Rattle.rz_tope.proofs.Walking.{IsWalk-start}
use Rattle.rz_tope.proofs.occurrences.occurring.Goals as goal

pub loop-last-init : goal.loop-last-init
loop-last-init c =
    let ns = c.args.pool.now.nodes in
    let list = c.in_ok-list.ensures.list ∙ ap (λ (entries : List ℕ). occurrences (compared (binders_at ns entries) (tree_of ns c.args.tope))) c.deref.ensures.value in
    record {
      nodes = c.in_ok-list.ensures.nodes;
      walk = IsWalk-start ns c.in_ok-entries.entries.items c.args.context c.args.tope c.requires.context c.in_ok-entries.ensures.trees c.in_ok-list.list list;
    }

pub loop-last-preserved : goal.loop-last-preserved
loop-last-preserved c =
    let old = c.args.pool.now.nodes in
    let whole = occurring (tree_of old c.args.context) (tree_of old c.args.tope) in
    let Goes : List Node → List ℕ → Type 0 = λ (nodes : List Node) (entries : List ℕ). IsWalk nodes entries whole c.loop-last.walk → IsWalk nodes entries whole c.pass.new.self in
    let nodes : c.loop-last.pool.nodes ≡ old = c.loop-last.invariant.nodes in
    let goes : Goes c.loop-last.pool.nodes c.deref-in-Some.result.now = c.in_ok-pass.ensures.walk whole in
    let goes_at : Goes old c.in_ok-entries.entries.items =
    subst (Goes old) c.deref-in-Some.ensures.value (subst (λ (nodes : List Node). Goes nodes c.deref-in-Some.result.now) nodes goes) in
    record {
      nodes = c.in_ok-pass.ensures.nodes ∙ nodes;
      walk = goes_at c.loop-last.invariant.walk;
    }
