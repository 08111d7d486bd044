use Rattle.std.proofs.Common.{◌≡◌, true, false, refl, sym, arith}
use Rattle.std.specs.Prelude.{codes}
use Rattle.std.specs.Str.{bytes_eq}
use Rattle.std.proofs.lemmas.Slice.Eq.{bytes_eq-Decides}
use Rattle.std.proofs.lemmas.Bool.Decides.{not_from_Decides}
use Rattle.rz_drv.proofs.Texts.{nothing_of, something_of}
use Rattle.rz_drv.proofs.Readings.{steps_room, no_line, at_end, behind_end, no_item_line, not_fitting, read_more, fewer}
use Rattle.rz_drv.proofs.reading.Reader.next.Goals as goal

pub returns-in_default-clause-fault : goal.returns-in_default-clause-fault
returns-in_default-clause-fault c = λ bytes items read. no_line bytes items c.args.self.now read c.in_default.ensures.none

pub returns-then-is_empty-clause-end : goal.returns-then-is_empty-clause-end
returns-then-is_empty-clause-end c = λ bytes items read.
    at_end bytes items c.args.self.now read c.in-Some.line.now c.in-Some.rest.now c.in-Some.ensures.parts c.in-Some.ensures.first
    ((bytes_eq-Decides c.in-Some.line.now (codes "end")).0 (sym c.if-eq.ensures)) (nothing_of c.in-Some.rest.now (sym c.if-is_empty.ensures))

pub returns-then-eq-clause-fault : goal.returns-then-eq-clause-fault
returns-then-eq-clause-fault c = λ bytes items read.
    behind_end bytes items c.args.self.now read c.in-Some.line.now c.in-Some.rest.now c.in-Some.ensures.parts c.in-Some.ensures.first
    ((bytes_eq-Decides c.in-Some.line.now (codes "end")).0 (sym c.if-eq.ensures)) (something_of c.in-Some.rest.now (sym c.if-is_empty.ensures))

pub returns-in_default-2-clause-fault : goal.returns-in_default-2-clause-fault
returns-in_default-2-clause-fault c = λ bytes items read.
    no_item_line bytes items c.args.self.now read c.in-Some.line.now c.in-Some.rest.now c.in-Some.ensures.parts c.in-Some.ensures.first
    (not_from_Decides (bytes_eq c.in-Some.line.now (codes "end")) (bytes_eq-Decides c.in-Some.line.now (codes "end")) (sym c.if-eq.ensures))
    (rw c.in_default-2.is at c.in_ok-item.ensures.none)

pub returns-then-not-takes-clause-fault : goal.returns-then-not-takes-clause-fault
returns-then-not-takes-clause-fault c = λ bytes items read.
    not_fitting bytes items c.args.self.now read c.in-Some.line.now c.in-Some.rest.now c.in-Some.ensures.parts c.in-Some.ensures.first
    c.in-Some-2.item (rw c.in-Some-2.is at c.in_ok-item.ensures.found)
    (not_from_Decides (bytes_eq c.in-Some.line.now (codes "end")) (bytes_eq-Decides c.in-Some.line.now (codes "end")) (sym c.if-eq.ensures))
    (λ fits. let h : false ≡ true = (c.if-not-takes.ensures _ read.outline).1 fits in absurd cc)

pub add-requires : goal.add-requires
add-requires c = steps_room c.requires.0 c.requires.1 c.args.self.now c.requires.2

pub returns-clause-item : goal.returns-clause-item
returns-clause-item c = record {
  more = λ bytes items read.
      let fits = (c.if-not-takes.ensures _ read.outline).0 refl in
      read_more bytes items c.args.self.now read c.in-Some.line.now c.in-Some.rest.now c.in-Some.ensures.parts c.in-Some.ensures.first
      c.in-Some-2.item (rw c.in-Some-2.is at c.in_ok-item.ensures.found) _ refl refl fits (c.in_ok-add.ensures.ok _ read.outline);
  shorter = let shorter = fewer c.requires.0 c.requires.1 c.args.self.now c.requires.2 c.in-Some.line.now c.in-Some.rest.now c.in-Some.ensures.parts c.in-Some.ensures.first in omega (arith, shorter);
}
