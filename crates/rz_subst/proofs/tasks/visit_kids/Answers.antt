use Rattle.std.proofs.Common.{◌≡◌, ◌+◌, ◌<◌, ◌∷◌, [], ◌++◌, List, length, map, take, get_or, sym, ap, ◌∙◌, append_assoc, arith}
use Rattle.std.proofs.lemmas.List.{map-append}
use Rattle.rz_rules.specs.declared.kinds.Sort.TheVariants.{Cube}
use Rattle.rz_rules.specs.Form.{plain}
use Rattle.rz_subst.specs.declared.tasks.Task.{Task}
use Rattle.rz_subst.specs.declared.tasks.Task.TheVariants.{Visit, Make}
use Rattle.rz_subst.specs.declared.walk.Place.{Place}
use Rattle.rz_subst.specs.Walk.{reach_of, kid_place, kid_places, shared_place}
use Rattle.rz_subst.proofs.Places.{kid_places_more}
use Rattle.rz_subst.proofs.tasks.visit_kids.Goals as goal

pub loop-i-preserved : goal.loop-i-preserved
loop-i-preserved c =
    let place = c.args.place in
    let slots = c.form.result.kids.now in
    let kids = c.as_slice-kids.result.now in
    let i = c.loop-i.i in
    let before : List Task = c.args.tasks.now.items in
    let shared = shared_place (reach_of c.args.reach) c.args.pool.now.nodes in
    let kid = kid_place place (get_or slots i (plain Cube)) (get_or kids i 0) in
    let done : List Place = kid_places place slots (take i kids) in
    let enough : i < length slots = omega (arith, ap length c.form.ensures.kids, ap length c.as_slice-kids.ensures.value, c.requires.slots) in
    let here : c.shared.result ≡ shared kid = c.shared.ensures ∙ ap shared c.in_ok-kid.ensures in
    let more : kid_places place slots (take (i + 1) kids) ≡ done ++ kid ∷ [] = kid_places_more place slots kids i (plain Cube) (omega arith) enough in
    let mapped : map Visit (map shared (kid_places place slots (take (i + 1) kids))) ≡ map Visit (map shared done) ++ Visit (shared kid) ∷ [] =
    ap (λ (ps : List Place). map Visit (map shared ps)) more
    ∙ ap (map Visit) (map-append shared done (kid ∷ [])) ∙ map-append Visit (map shared done) (shared kid ∷ []) in
    c.in_ok-push-2.ensures.items
    ∙ ap (λ (ts : List Task). ts ++ Visit c.shared.result ∷ []) c.loop-i.invariant
    ∙ ap (λ (p : Place). (before ++ Make place ∷ map Visit (map shared done)) ++ Visit p ∷ []) here
    ∙ append_assoc before (Make place ∷ map Visit (map shared done)) (Visit (shared kid) ∷ [])
    ∙ sym (ap (λ (ts : List Task). before ++ Make place ∷ ts) mapped)
