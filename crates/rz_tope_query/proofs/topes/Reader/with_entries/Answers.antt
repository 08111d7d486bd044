use Rattle.std.proofs.Common.{◌≡◌, ◌+◌, ◌<◌, length, get_or, drop, Ok, subst, sym, ap, ◌∙◌, arith}
use Rattle.std.specs.Prelude.{IfNone, IfSome}
use Rattle.std.proofs.lemmas.List.{get_or_default}
use Rattle.rz_rules.specs.Cube.{cubes_of}
use Rattle.rz_rules.specs.Tree.{Tree, tree_of}
use Rattle.rz_log.proofs.Worlds.{grows_trans}
use Rattle.rz_syntax.specs.declared.forms.Raw.{Raw}
use Rattle.rz_shape.specs.Reading.{Reading}
use Rattle.rz_tope_query.specs.Sequent.{tope_context}
use Rattle.rz_tope_query.specs.Parts.{HasOpened, IsNoReading, tope_entry, tope_of}
use Rattle.rz_tope_query.proofs.Opening.{entry_cubes, opened_self, over_grown, over_same, raws_read, raws_refused, topes_kept}
use Rattle.rz_tope_query.proofs.topes.Reader.with_entries.Goals as goal

pub loop-raw-preserved : goal.loop-raw-preserved
loop-raw-preserved c =
    let old = c.args.w.now.pool.nodes in
    let reader = c.args.self.now in
    let raws = c.args.raws.now in
    let loop = c.loop-raw in
    let here = loop.w.pool.nodes in
    let t = tree_of here loop.longer.0 in
    let new = c.with_entry.new.w in
    let tope = tope_of old reader in
    let none : Raw = record { form = 0; at = 0 } in
    let raw = get_or raws loop.raw-index none in
    let less : loop.raw-index < length raws = omega arith in
    let all = tope_context tope (tree_of old c.args.opened.0) raws in
    let has = subst (λ o. IfSome o (HasOpened new (tope_entry (tope_of here reader) t raw))) c.in-Some.is c.in_ok-longest.ensures.opened in
    let same = topes_kept old here (tree_of old c.args.opened.0) reader loop.invariant.grows.nodes c.requires.over in
    let is = subst (λ (f : Raw → Reading Tree). tope_entry f t raw ≡ Ok has.context) same has.is in record {
      grows = grows_trans c.args.w.now loop.w new loop.invariant.grows c.with_entry.ensures.grows;
      opened = opened_self new has.context c.in-Some.longest has.opened_is;
      over = over_same new.pool.nodes t (tree_of new.pool.nodes c.in-Some.longest.0) reader (ap cubes_of has.opened_is.tree ∙ entry_cubes tope t has.context raw is)
          (over_grown here new.pool.nodes t reader c.with_entry.ensures.grows.nodes loop.invariant.over);
      rest = subst (λ (next : Tree). tope_context tope next (drop (loop.raw-index + 1) raws) ≡ all) (sym has.opened_is.tree)
          (raws_read tope raws loop.raw-index raw t has.context all less (get_or_default raws loop.raw-index none raw less) loop.invariant.rest is);
    }

pub returns-in_default-clause-none : goal.returns-in_default-clause-none
returns-in_default-clause-none c =
    let old = c.args.w.now.pool.nodes in
    let reader = c.args.self.now in
    let raws = c.args.raws.now in
    let loop = c.loop-raw in
    let here = loop.w.pool.nodes in
    let t = tree_of here loop.longer.0 in
    let tope = tope_of old reader in
    let none : Raw = record { form = 0; at = 0 } in
    let raw = get_or raws loop.raw-index none in
    let less : loop.raw-index < length raws = omega arith in
    let all = tope_context tope (tree_of old c.args.opened.0) raws in
    let nothing = subst (λ o. IfNone o (IsNoReading (tope_entry (tope_of here reader) t raw))) c.in_default.is c.in_ok-longest.ensures.none in
    let same = topes_kept old here (tree_of old c.args.opened.0) reader loop.invariant.grows.nodes c.requires.over in
    raws_refused tope raws loop.raw-index raw t all less (get_or_default raws loop.raw-index none raw less) loop.invariant.rest
    (subst (λ (f : Raw → Reading Tree). IsNoReading (tope_entry f t raw)) same nothing)
