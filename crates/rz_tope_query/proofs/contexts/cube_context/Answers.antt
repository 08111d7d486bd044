use Rattle.std.proofs.Common.{◌≡◌, ◌+◌, drop, subst, sym, arith}
use Rattle.std.specs.Prelude.{IfSome}
use Rattle.rz_rules.specs.Tree.{Tree, blank, tree_of}
use Rattle.rz_log.proofs.Worlds.{grows_trans}
use Rattle.rz_tope_query.specs.Sequent.{cube_context}
use Rattle.rz_tope_query.specs.Parts.{HasOpened, group_context}
use Rattle.rz_tope_query.proofs.Opening.{groups_read, opened_self}
use Rattle.rz_tope_query.proofs.contexts.cube_context.Goals as goal

pub loop-group-preserved : goal.loop-group-preserved
loop-group-preserved c =
    let forms = c.args.forms.now in
    let groups = c.args.groups.now in
    let loop = c.loop-group in
    let t = tree_of loop.w.pool.nodes loop.opened.0 in
    let new = c.with_group.new.w in
    let has = subst (λ o. IfSome o (HasOpened new (group_context forms t c.group-item.result))) c.in-Some.is c.in_ok-longer.ensures.opened in record {
      grows = grows_trans c.args.w.now loop.w new loop.invariant.grows c.with_group.ensures.grows;
      opened = opened_self new has.context c.in-Some.longer has.opened_is;
      rest = subst (λ (next : Tree). cube_context forms next (drop (loop.group-index + 1) groups) ≡ cube_context forms blank groups) (sym has.opened_is.tree)
          (groups_read forms groups loop.group-index c.group-item.result t has.context (cube_context forms blank groups) (omega arith) c.group-item.is loop.invariant.rest has.is);
    }
