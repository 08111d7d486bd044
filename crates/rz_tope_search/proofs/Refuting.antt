-- What a table that refutes a part says of the hypotheses.
use Rattle.std.proofs.Common.{ℕ, Bool, List, All}
use Rattle.rz_tope_proof.specs.declared.parts.Part.{Part}
use Rattle.rz_tope_proof.specs.Order.{Order, by_rank, rank}
use Rattle.rz_tope_search.specs.declared.branches.Branch.{Branch}
use Rattle.rz_tope_search.specs.declared.table.Table.{Table}
use Rattle.rz_tope_search.specs.Branch.{IsModel}
use Rattle.rz_tope_search.specs.Search.{IsRefuted}
use Rattle.rz_tope_search.specs.Solving.{IsTrueGiven, RanksRefute}
use Rattle.rz_tope_search.specs.Table.{order_of}

-- Where each hypothesis is true in each model of the root, the ranks of a table that refutes a part there make them true and it false.
pub ranks-refute : (count : ℕ) (parts : List Part) (given : List (ℕ × ℕ)) (root : Branch) (goal : ℕ) (table : Table)
    → ((le : Order) (value : ℕ → Bool) → IsModel count parts root le value → All (IsTrueGiven value) given)
    → IsRefuted count parts root goal table → RanksRefute count parts given goal table
ranks-refute count parts given root goal table holds refuted = record {
  hypotheses = λ value values. holds (by_rank (rank count (order_of table))) value (refuted.model value values);
  fails = refuted.refutes;
}
