use Rattle.std.proofs.Common.{length, Ok, ap, ◌∙◌, subst}
use Rattle.std.specs.Prelude.{IfSome}
use Rattle.rz_rules.specs.Context.{OfTope, with_entry}
use Rattle.rz_rules.specs.Structural.{formed}
use Rattle.rz_rules.specs.Tree.{Tree, tree_of}
use Rattle.rz_log.specs.World.{Says}
use Rattle.rz_log.proofs.Worlds.{tree_grown}
use Rattle.rz_shape.specs.Answer.{IsRead, bindings_at}
use Rattle.rz_shape.specs.Reading.{Reading, and_then}
use Rattle.rz_tope_query.specs.Parts.{tope_of}
use Rattle.rz_tope_query.proofs.Opening.{opened_later, over_there}
use Rattle.rz_tope_query.proofs.topes.Reader.with_entry.Goals as goal

pub with_tope-requires-clause-formed : goal.with_tope-requires-clause-formed
with_tope-requires-clause-formed c =
    (opened_later c.args.w.now c.tope.new.w (tree_of c.args.w.now.pool.nodes c.args.opened.0) c.args.opened c.requires.sound c.tope.ensures.grows c.requires.opened).says

pub with_tope-requires-clause-over : goal.with_tope-requires-clause-over
with_tope-requires-clause-over c =
    let old = c.args.w.now.pool.nodes in
    let new = c.tope.new.w.pool.nodes in
    let reader = c.args.self.now in
    let context = tree_of old c.args.opened.0 in
    let read = subst (λ o. IfSome o (IsRead new (tope_of old reader c.args.raw))) c.in-Some.is c.in_ok-tope.ensures.read in
    over_there old context (tree_of new c.args.opened.0) (tree_of new c.in-Some.tope) reader c.requires.over
    (tree_grown c.args.w.now c.tope.new.w c.tope.ensures.grows c.args.opened.0 c.requires.opened.live)
    (c.topes_are_over_their_cubes.ensures (bindings_at old reader.variables) reader.forms (length reader.forms) c.args.raw (tree_of new c.in-Some.tope) read.is)

pub returns-clause-opened : goal.returns-clause-opened
returns-clause-opened c =
    let old = c.args.w.now.pool.nodes in
    let new = c.tope.new.w.pool.nodes in
    let reader = c.args.self.now in
    let context = tree_of old c.args.opened.0 in
    let phi = tree_of new c.in-Some.tope in
    let read = subst (λ o. IfSome o (IsRead new (tope_of old reader c.args.raw))) c.in-Some.is c.in_ok-tope.ensures.read in
    let kept = tree_grown c.args.w.now c.tope.new.w c.tope.ensures.grows c.args.opened.0 c.requires.opened.live in
    let longer = c.in_ok-longer in record {
      context = with_entry context (OfTope phi);
      is = ap (λ (r : Reading Tree). and_then r (λ tope. Ok (with_entry context (OfTope tope)))) read.is;
      opened_is = record {
        live = longer.ensures.live;
        tree = longer.ensures.tree ∙ ap (λ (t : Tree). with_entry t (OfTope phi)) kept;
        says = subst (λ (t : Tree). Says c.with_tope.new.w longer.longer.1 (formed (with_entry t (OfTope phi)))) kept longer.ensures.says;
      };
    }
