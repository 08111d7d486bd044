use Rattle.std.proofs.Common.{List, subst, sym, arith}
use Rattle.std.proofs.lemmas.Result.{err_from_is_err_and}
use Rattle.rz_rules.specs.File.{Item}
use Rattle.rz_drv.specs.Part.{items_of, IsFault}
use Rattle.rz_drv.specs.Reading.{HasRead}
use Rattle.rz_drv.proofs.Spellings.{first_fault, next_fault, is_behind, spelled, own_spelling}
use Rattle.rz_drv.proofs.decoding.decode.Goals as goal

pub returns-in_err-reader-clause-fault : goal.returns-in_err-reader-clause-fault
returns-in_err-reader-clause-fault c =
    let p = err_from_is_err_and c.from_residual.result c.from_residual.ensures.1 in
    rw p.1 (subst (IsFault c.args.bytes.now) (sym p.2) (first_fault c.args.bytes.now c.in_err-reader.field-0.0 (omega arith) c.in_err-reader.ensures.fault))

pub returns-in_err-item-clause-fault : goal.returns-in_err-item-clause-fault
returns-in_err-item-clause-fault c =
    let p = err_from_is_err_and c.from_residual-in_err-item.result c.from_residual-in_err-item.ensures.1 in
    rw p.1 (subst (IsFault c.args.bytes.now) (sym p.2) (next_fault c.args.bytes.now (items_of c.loop-part.part) c.loop-part.reader c.in_err-item.field-0.0 (omega arith) c.loop-part.invariant c.in_err-item.ensures.fault))

pub add-requires : goal.add-requires
add-requires c =
    let read = (rw c.in-Some.is at c.in_ok-item.ensures.item).more c.args.bytes.now (items_of c.loop-part.part) c.loop-part.invariant in
    is_behind c.loop-part.part c.in-Some.item read.fit

pub loop-part-preserved : goal.loop-part-preserved
loop-part-preserved c =
    let read = (rw c.in-Some.is at c.in_ok-item.ensures.item).more c.args.bytes.now (items_of c.loop-part.part) c.loop-part.invariant in
    subst (λ (items : List Item). HasRead c.args.bytes.now items c.next.new.self) (sym c.in_ok-add.ensures) read

pub returns-clause-spelling : goal.returns-clause-spelling
returns-clause-spelling c =
    spelled c.args.bytes.now c.loop-part.part ((rw c.in_default.is at c.in_ok-item.ensures.end) c.args.bytes.now (items_of c.loop-part.part) c.loop-part.invariant)

pub returns-clause-only : goal.returns-clause-only
returns-clause-only c =
    own_spelling c.args.bytes.now c.loop-part.part (omega arith) c.loop-part.invariant.fit
    (spelled c.args.bytes.now c.loop-part.part ((rw c.in_default.is at c.in_ok-item.ensures.end) c.args.bytes.now (items_of c.loop-part.part) c.loop-part.invariant))
