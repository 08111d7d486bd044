use Rattle.std.proofs.Common.{◌≡◌, length}
use Rattle.rz_tope_proof.specs.Leading.{AreMarks}
use Rattle.rz_tope_proof.proofs.proof.Proof.leads_to.Given as goal

abbrev pub invariant-loop-number : goal.invariant-loop-number
invariant-loop-number l = record {
  all : length l.leads.items ≡ l.number;
  marks : AreMarks l.self l.leaf l.leads.items;
}
