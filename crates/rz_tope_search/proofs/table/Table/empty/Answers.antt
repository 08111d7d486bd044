use Rattle.std.proofs.Common.{ℕ, ◌+◌, ◌*◌, Option, None, ap, arith}
use Rattle.std.specs.Prelude.{is_some}
use Rattle.std.proofs.lemmas.List.{get_or-replicate}
use Rattle.rz_tope_search.proofs.table.Table.empty.Goals as goal

pub returns : goal.returns
returns c x y lx ly =
    let none : Option ℕ = None in
    ap (λ (o : Option ℕ). is_some o) (get_or-replicate 100 (x * 10 + y) none none (omega (arith, lx, ly)))
