use Rattle.std.proofs.Common.{◌<◌, All, length}
use Rattle.rz_rules.specs.Name.{IsName}
use Rattle.rz_tope_tests.proofs.bench.Bench.file.Given as goal

abbrev pub invariant-loop-row : goal.invariant-loop-row
invariant-loop-row l = record {
  names : All (λ claim. IsName claim.name) l.claims.items;
  steps : All (λ claim. claim.step < length l.self.w.log) l.claims.items;
}
