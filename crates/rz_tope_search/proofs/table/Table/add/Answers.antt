use Rattle.std.proofs.Common.{◌&&◌, List, sym, ap, subst, ◌∙◌}
use Rattle.std.specs.Prelude.{◌||◌, ◌==◌}
use Rattle.rz_tope_search.specs.declared.table.Table.{Table}
use Rattle.rz_tope_proof.specs.declared.proof.Inference.{Inference}
use Rattle.rz_tope_proof.specs.Order.{Order}
use Rattle.rz_tope_proof.specs.Proving.{Extends}
use Rattle.rz_tope_proof.proofs.Proving.{Extends-both}
use Rattle.rz_tope_search.specs.Showing.{places_tope}
use Rattle.rz_tope_search.specs.Table.{order_of}
use Rattle.rz_tope_search.proofs.Showing.{table-later, table-moved, shows-later}
use Rattle.rz_tope_search.proofs.Tables.{pair_taken, pair_left_out}
use Rattle.rz_tope_search.proofs.table.Table.add.Goals as goal
use Rattle.rz_tope_search.proofs.table.Table.add.Goals.{then-has-2+in_ok-whole+in_ok-add_above, else-has-2}

pub loop-low-preserved : goal.loop-low-preserved
loop-low-preserved c =
    let le : Order = order_of c.args.self.now in
    let low = c.loop-low.low in
    let old = c.loop-low.invariant in
    let p = c.args.places.now in
    let start = c.args.proof.now in
    let now = c.loop-low.proof in
    record {
      order = λ x y lx ly. elim c.if-has-2.branch [
        | then-has-2+in_ok-whole+in_ok-add_above w ↦
            ap (λ (t : Table). order_of t x y) w.self-is
            ∙ w.in_ok-add_above.ensures.order x y lx ly
            ∙ ap (λ b. b || ((x == low) && le c.args.second y)) (old.order x y lx ly)
            ∙ pair_taken le x y c.args.first c.args.second low (sym c.has-in-loop-low.ensures ∙ w.if-has-2.true)
        | else-has-2 w ↦
            ap (λ (t : Table). order_of t x y) w.self-is
            ∙ old.order x y lx ly
            ∙ pair_left_out le x y c.args.first c.args.second low (sym c.has-in-loop-low.ensures ∙ w.if-has-2.false)
      ];
      extends = elim c.if-has-2.branch [
        | then-has-2+in_ok-whole+in_ok-add_above w ↦
            subst (λ (x : List Inference). Extends start x) (sym w.proof-is)
            (Extends-both start w.step_to.new.proof w.add_above.new.proof
            (Extends-both start now w.step_to.new.proof old.extends w.in_ok-whole.ensures.extends) w.in_ok-add_above.ensures.extends)
        | else-has-2 w ↦ subst (λ (x : List Inference). Extends start x) (sym w.proof-is) old.extends
      ];
      proves = λ at are before shows. elim c.if-has-2.branch [
        | then-has-2+in_ok-whole+in_ok-add_above w ↦
            let middle = w.step_to.new.proof in
            let step = w.in_ok-whole.ensures in
            let to = Extends-both start now middle old.extends step.extends in
            table-moved at p c.if-has-2.proof w.add_above.new.proof c.if-has-2.self w.add_above.new.self w.proof-is w.self-is
            (w.in_ok-add_above.ensures.proves at are
            (table-later at p start middle to c.args.self.now before)
            (step.shows at are (table-later at p start now old.extends c.args.self.now before)
            (shows-later at start now old.extends c.args.step (places_tope at.nodes p c.args.first c.args.second) shows))
            (table-later at p now middle step.extends c.loop-low.self (old.proves at are before shows)))
        | else-has-2 w ↦
            table-moved at p c.if-has-2.proof now c.if-has-2.self c.loop-low.self w.proof-is w.self-is (old.proves at are before shows)
      ];
    }
