use Rattle.std.proofs.Common.{ℕ, ◌<◌, ◌&&◌, Option, sym, ap, ◌∙◌, arith}
use Rattle.std.specs.Prelude.{◌||◌, ◌==◌, is_some}
use Rattle.std.proofs.lemmas.Bool.{true≢false}
use Rattle.rz_tope_proof.proofs.Proving.{Extends-same, Extends-both}
use Rattle.rz_tope_search.proofs.Showing.{table-later}
use Rattle.rz_tope_search.proofs.Tables.{ends_step, ends_none}
use Rattle.rz_tope_search.proofs.table.Table.new.Goals as goal

pub loop-place-init : goal.loop-place-init
loop-place-init c = record {
  order = λ x y lx ly. c.empty-table.ensures x y lx ly ∙ sym (ends_none x y);
  extends = Extends-same c.args.proof.now;
  proves = λ at are low high step lx ly is.
      let few : c.args.places.now.count < 11 = omega (arith, c.args.places.now.bounds.1) in
      absurd (true≢false (sym (ap (λ (o : Option ℕ). is_some o) is) ∙ c.empty-table.ensures low high (omega (arith, lx, few)) (omega (arith, ly, few))));
}

pub loop-place-preserved : goal.loop-place-preserved
loop-place-preserved c =
    let old = c.loop-place.invariant in
    let p = c.args.places.now in
    let next = c.in_ok-itself.ensures in
    let place = c.loop-place.place in
    record {
      order = λ x y lx ly.
          c.set_all.ensures.order x y lx ly
          ∙ ap (λ b. b || (((x == place) && (y == place)) || ((x == 0) && (y == place)) || ((x == place) && (y == 1)))) (old.order x y lx ly)
          ∙ ends_step x y place;
      extends = Extends-both c.args.proof.now c.loop-place.proof c.infer_ends.new.proof old.extends next.extends;
      proves = λ at are. c.set_all.ensures.proves at c.infer_ends.new.proof p p.bounds.1 (next.shows at are)
          (table-later at p c.loop-place.proof c.infer_ends.new.proof next.extends c.loop-place.table (old.proves at are));
    }
