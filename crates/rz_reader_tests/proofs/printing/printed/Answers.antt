use Rattle.rz_syntax.specs.declared.forms.Command.TheVariants as command
use Rattle.rz_print.proofs.Back.{found_readable}
use Rattle.rz_reader_tests.proofs.printing.printed.Goals as goal

pub print-requires : goal.print-requires
print-requires c =
    let found = c.in-Some-Compute in
    let commands = c.in_ok-commands.commands in
    (found_readable commands.shapes c.as_slice-shapes.result.now commands.forms c.as_slice-forms.result.now commands.list 0 found.field-0.now
    (command.Compute found.field-0-0 found.field-0-1 found.term) c.in_ok-commands.ensures found.ensures.value found.field-0-is c.as_slice-shapes.ensures c.as_slice-forms.ensures).0
