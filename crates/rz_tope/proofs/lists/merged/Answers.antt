use Rattle.std.proofs.Common.{[], ◌++◌, List, ap, sym, ◌∙◌}
use Rattle.rz_rules.specs.declared.coordinates.Coord.{Coord}
use Rattle.rz_tope.specs.Occurrence.{added}
use Rattle.rz_tope.proofs.Adding.{added-append, occurrences_added}
use Rattle.rz_tope.proofs.lists.merged.Goals as goal

pub returns : goal.returns
returns c =
    let first = c.args.first.now in
    let second = c.args.second.now in
    c.in_ok-add-2.ensures ∙ ap (λ (list : List Coord). added list second) (c.in_ok-add.ensures ∙ ap (λ (list : List Coord). added list first) c.new-list.ensures)
    ∙ sym (added-append [] first second) ∙ occurrences_added (first ++ second)
