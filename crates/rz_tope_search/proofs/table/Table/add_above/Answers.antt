use Rattle.std.proofs.Common.{List, sym, subst, arith}
use Rattle.std.proofs.lemmas.Grind.{common_steps}
use Rattle.rz_tope_proof.specs.declared.proof.Inference.{Inference}
use Rattle.rz_tope_proof.specs.Proving.{Extends}
use Rattle.rz_tope_proof.proofs.Proving.{Extends-both}
use Rattle.rz_tope_search.specs.Showing.{places_tope}
use Rattle.rz_tope_search.proofs.Showing.{table-later, table-moved, shows-later}
use Rattle.rz_tope_search.proofs.table.Table.add_above.Goals as goal
use Rattle.rz_tope_search.proofs.table.Table.add_above.Goals.{in-Some+then-not-has+in_ok-whole, in_default, in_default-via-in-None-1, in_default-via-in-Some+else-not-has}

pub loop-high-preserved : goal.loop-high-preserved
loop-high-preserved c =
    let old = c.loop-high.invariant in
    let p = c.args.places.now in
    let high = c.loop-high.high in
    record {
      order = grind (arith, common_steps);
      extends = elim c.match-at.branch [
        | in-Some+then-not-has+in_ok-whole w ↦
            subst (λ (x : List Inference). Extends c.args.proof.now x) (sym w.proof-is)
            (Extends-both c.args.proof.now c.loop-high.proof w.step_above.new.proof old.extends w.in_ok-whole.ensures.extends)
        | in_default w ↦ subst (λ (x : List Inference). Extends c.args.proof.now x) (sym w.proof-is) old.extends
      ];
      proves = λ at are before first mine. elim c.match-at.branch [
        | in-Some+then-not-has+in_ok-whole w ↦
            let next = w.in_ok-whole.ensures in
            let new = w.step_above.new.proof in
            table-moved at p c.match-at.proof new c.match-at.self w.set.new.self w.proof-is w.self-is
            (w.set.ensures.proves at new p p.bounds.1
            (next.shows at are
            (shows-later at c.args.proof.now c.loop-high.proof old.extends c.args.step (places_tope at.nodes p c.args.low c.args.second) first)
            (shows-later at c.args.proof.now c.loop-high.proof old.extends w.in-Some.above (places_tope at.nodes p c.args.second high)
            (before c.args.second high w.in-Some.above c.requires.second c.loop-high-test.true (sym w.in-Some.ensures))))
            (table-later at p c.loop-high.proof new next.extends c.loop-high.self (old.proves at are before first mine)))
        | in_default w ↦
            table-moved at p c.match-at.proof c.loop-high.proof c.match-at.self c.loop-high.self w.proof-is w.self-is (old.proves at are before first mine)
      ];
    }
