use Rattle.std.proofs.Common.{ℕ, List, sym, subst}
use Rattle.std.proofs.lemmas.Result.{IfOk-weaker}
use Rattle.rz_print.specs.Meaning.{ReadsBack}
use Rattle.rz_print.proofs.Back.{readable_has, reads_back}
use Rattle.rz_print.proofs.printer.print.Goals as goal

pub write-requires : goal.write-requires
write-requires c = readable_has c.args.shapes.now c.args.forms.now c.args.raw c.requires

pub returns-clause-reads_back : goal.returns-clause-reads_back
returns-clause-reads_back c =
    IfOk-weaker c.write.result _ _
    (λ text h. subst (λ (bytes : List ℕ). ReadsBack c.args.shapes.now c.args.forms.now c.args.raw bytes) (sym h.is) (reads_back c.args.shapes.now c.args.forms.now c.args.raw h.words c.requires h.spelled))
    c.write.ensures
