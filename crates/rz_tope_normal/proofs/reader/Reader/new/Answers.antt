use Rattle.std.proofs.Common.{◌≡◌, nat_eq, None, refl}
use Rattle.std.specs.HashMap.{get}
use Rattle.rz_tope_normal.proofs.Readers.{no_item}
use Rattle.rz_tope_normal.proofs.reader.Reader.new.Goals as goal

pub returns-clause-reader : goal.returns-clause-reader
returns-clause-reader c context list setting all = record {
  norms = c.in_ok-norms.ensures.norms context setting.entries.items all;
  parts = λ k part e. absurd (no_item c.new-2.result.items c.new-2.ensures.items k part e);
  topes = λ id number e. absurd (let none : get nat_eq c.new-3.result id ≡ None = rw c.new-3.ensures.empty refl in cc);
}
