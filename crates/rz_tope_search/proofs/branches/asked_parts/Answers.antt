use Rattle.std.proofs.Common.{◌-◌, length, inl, inr, sym, subst, ◌∙◌, arith}
use Rattle.rz_tope_search.specs.Asked.{AsksFor, is_marked}
use Rattle.rz_tope_proof.specs.Part.{part_at, IsMadeOf}
use Rattle.rz_tope_search.specs.Status.{holds_in}
use Rattle.rz_tope_search.proofs.Assuming.{IsMadeOf-later, made-at, here_or_later, AsksFor-later}
use Rattle.rz_tope_search.proofs.branches.asked_parts.Goals as goal

pub ask_kids-requires-clause-form : goal.ask_kids-requires-clause-form
ask_kids-requires-clause-form c =
    IsMadeOf-later (c.loop-next.next - 1) (length c.loop-next.asked.items) c.args.places.now.count _
    (omega (arith, c.loop-next.invariant.within, c.loop-next.invariant.all))
    (made-at c.args.places.now.count c.args.parts.now c.requires.parts (c.loop-next.next - 1)
    (omega (arith, c.loop-next.invariant.within, c.loop-next-test.true, c.requires.part)))

pub loop-next-preserved-then-index : goal.loop-next-preserved-then-index
loop-next-preserved-then-index c =
    let old = c.loop-next.invariant in
    let new = c.ask_kids.ensures in
    let count = c.args.places.now.count in
    let parts = c.args.parts.now in
    let n = c.loop-next.next - 1 in
    let made : IsMadeOf n count (part_at parts n).form =
    made-at count parts c.requires.parts n (omega (arith, old.within, c.loop-next-test.true, c.requires.part)) in
    record {
      within = omega (arith, old.within);
      all = new.all ∙ old.all;
      itself = new.kept c.args.part old.itself;
      asked = λ k le h. elim (here_or_later c.loop-next.next k c.loop-next-test.true le) [
        | inl here ↦ subst (λ m. AsksFor (holds_in c.args.list.now) (is_marked c.ask_kids.new.asked.items) (part_at parts m).form) (sym here) new.asks
        | inr later ↦ AsksFor-later (holds_in c.args.list.now) (is_marked c.loop-next.asked.items) (is_marked c.ask_kids.new.asked.items)
            (part_at parts k).form new.kept (old.asked k later (sym (new.others n k made le) ∙ h))
      ];
    }
