use Rattle.std.proofs.Common.{◌≡◌, ◌-◌, ◌<◌, length, true, inl, inr, sym, subst, ◌∙◌, arith}
use Rattle.std.proofs.lemmas.Option.{slice_get-get_or}
use Rattle.rz_tope_search.specs.Asked.{is_marked}
use Rattle.rz_tope_search.specs.Conjunct.{MarksKids}
use Rattle.rz_tope_proof.specs.Part.{part_at, IsMadeOf}
use Rattle.rz_tope_search.proofs.Assuming.{IsMadeOf-later, made-at, here_or_later}
use Rattle.rz_tope_search.proofs.Lists.{read-at}
use Rattle.rz_tope_search.proofs.Conjoining.{MarksKids-later, kid-false}
use Rattle.rz_tope_search.proofs.solving.conjuncts.Goals as goal

pub mark_kids-requires : goal.mark_kids-requires
mark_kids-requires c =
    IsMadeOf-later (c.loop-next.next - 1) (length c.loop-next.marks.items) c.args.places.now.count _
    (omega (arith, c.loop-next.invariant.within, c.loop-next.invariant.all))
    (made-at c.args.places.now.count c.args.parts.now c.requires.parts (c.loop-next.next - 1)
    (omega (arith, c.loop-next.invariant.within, c.loop-next-test.true, c.requires.part)))

pub loop-next-preserved-then-index : goal.loop-next-preserved-then-index
loop-next-preserved-then-index c =
    let old = c.loop-next.invariant in
    let new = c.mark_kids.ensures in
    let count = c.args.places.now.count in
    let parts = c.args.parts.now in
    let n = c.loop-next.next - 1 in
    let there : n < length parts = omega (arith, old.within, c.loop-next-test.true, c.requires.part) in
    let made : IsMadeOf n count (part_at parts n).form = made-at count parts c.requires.parts n there in
    let marked : is_marked c.loop-next.marks.items n ≡ true =
    read-at c.loop-next.marks.items n c.index.result.now _ (omega (arith, old.within, old.all, c.loop-next-test.true)) c.index.ensures ∙ c.if-index.true in
    record {
      within = omega (arith, old.within);
      all = new.all ∙ old.all;
      itself = new.kept c.args.part old.itself;
      kids = λ k le h. elim (here_or_later c.loop-next.next k c.loop-next-test.true le) [
        | inl here ↦ subst (λ m. MarksKids (is_marked c.mark_kids.new.marks.items) (part_at parts m).form) (sym here) new.kids
        | inr later ↦ MarksKids-later (is_marked c.loop-next.marks.items) (is_marked c.mark_kids.new.marks.items)
            (part_at parts k).form new.kept (old.kids k later (sym (new.others n k made le) ∙ h))
      ];
      follow = λ k h le value values fails. elim (new.only k h) [
        | inl before ↦ old.follow k before le value values fails
        | inr kid ↦ old.follow n marked le value values
            (values n (part_at parts n) (slice_get-get_or parts n _ there) ∙ kid-false le value (part_at parts n).form k kid fails)
      ];
    }
