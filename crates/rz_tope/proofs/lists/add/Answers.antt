use Rattle.std.proofs.Common.{◌≡◌, ◌+◌, cond, ◌++◌, ◌∷◌, [], List, take, ap, sym, ◌∙◌, arith}
use Rattle.std.proofs.lemmas.List.{take_more}
use Rattle.rz_rules.specs.declared.coordinates.Coord.{Coord}
use Rattle.rz_tope.specs.Occurrence.{added, is_new}
use Rattle.rz_tope.proofs.Adding.{with_new, added-push}
use Rattle.rz_tope.proofs.lists.add.Goals as goal
use Rattle.rz_tope.proofs.lists.add.Goals.{then-is_new+in_ok-copy+in_ok-push, else-is_new}

pub loop-coordinate-preserved : goal.loop-coordinate-preserved
loop-coordinate-preserved c =
    let i = c.loop-coordinate.coordinate-index in
    let items = c.args.items.now in
    let x = c.coordinate-item.result in
    let old = c.args.list.now in
    let list = c.loop-coordinate.list in
    let more : take (i + 1) items ≡ take i items ++ x ∷ [] = take_more items i x (omega arith) ∙ ap (λ (y : Coord). take i items ++ y ∷ []) (sym c.coordinate-item.is) in
    let whole : with_new list x ≡ added old (take (i + 1) items) =
    ap (λ (l : List Coord). with_new l x) c.loop-coordinate.invariant ∙ sym (added-push old (take i items) x) ∙ ap (added old) (sym more) in
    let tested = ap (λ (l : List Coord). is_new l x) (sym c.as_slice.ensures) ∙ sym c.is_new.ensures in
    elim c.if-is_new.branch [
      | then-is_new+in_ok-copy+in_ok-push w ↦ w.list-is ∙ w.in_ok-push.ensures.ok ∙ ap (λ (y : Coord). list ++ y ∷ []) w.in_ok-copy.ensures ∙ sym (ap (λ b. cond b (list ++ x ∷ []) list) (tested ∙ w.if-is_new.true)) ∙ whole
      | else-is_new w ↦ w.list-is ∙ sym (ap (λ b. cond b (list ++ x ∷ []) list) (tested ∙ w.if-is_new.false)) ∙ whole
    ]
