use Rattle.std.proofs.Common.{subst}
use Rattle.std.specs.List.Sorted.{IsBinarySearchResult}
use Rattle.std.specs.Ordering.{nat_cmp}
use Rattle.rz_export.proofs.Searches.{found_there, not_missing}
use Rattle.rz_export.proofs.moves.place.Goals as goal

pub unreachable-requires : goal.unreachable-requires
unreachable-requires c =
    not_missing c.args.list.now c.args.number c.in-Err.field-0 c.requires.rising c.requires.there
    (subst (IsBinarySearchResult (λ y. nat_cmp y c.args.number) c.args.list.now) c.in-Err.is c.binary_search.ensures.position)

pub returns : goal.returns
returns c =
    found_there c.args.list.now c.args.number c.in-Ok.place c.requires.rising
    (subst (IsBinarySearchResult (λ y. nat_cmp y c.args.number) c.args.list.now) c.in-Ok.is c.binary_search.ensures.position)
