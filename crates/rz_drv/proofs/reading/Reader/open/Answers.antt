use Rattle.std.specs.Prelude.{codes}
use Rattle.std.proofs.Common.{sym}
use Rattle.rz_drv.proofs.Texts.{other_bytes}
use Rattle.rz_drv.proofs.Readings.{no_feed, other_header}
use Rattle.rz_drv.proofs.reading.Reader.open.Goals as goal

pub returns-in_default-clause-fault : goal.returns-in_default-clause-fault
returns-in_default-clause-fault c = no_feed c.args.bytes.now c.in_default.ensures.none

pub returns-then-ne-clause-fault : goal.returns-then-ne-clause-fault
returns-then-ne-clause-fault c =
    other_header c.args.bytes.now c.in-Some.first.now c.in-Some.rest.now c.in-Some.ensures.parts c.in-Some.ensures.first
    (other_bytes c.in-Some.first.now (codes "rzk-derivation 1") (sym c.if-ne.ensures))
