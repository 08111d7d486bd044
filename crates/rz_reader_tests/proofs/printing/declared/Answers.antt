use Rattle.std.proofs.Common.{◌∷◌, []}
use Rattle.rz_syntax.specs.declared.forms.Command.TheVariants as command
use Rattle.rz_print.specs.Meaning.{bind_parts}
use Rattle.rz_print.proofs.Back.{found_readable, readable_behind}
use Rattle.rz_reader_tests.proofs.printing.declared.Goals as goal

pub print-requires : goal.print-requires
print-requires c =
    let found = c.in-Some-Def in
    let commands = c.in_ok-commands.commands in
    (readable_behind c.as_slice-shapes.result.now c.as_slice-forms.result.now (bind_parts found.field-0-4) (found.of ∷ found.body ∷ [])
    (found_readable commands.shapes c.as_slice-shapes.result.now commands.forms c.as_slice-forms.result.now commands.list 0 found.field-0.now
    (command.Def found.field-0-0 found.field-0-1 found.field-0-2 found.field-0-3 found.field-0-4 found.of found.body)
    c.in_ok-commands.ensures found.ensures.value found.field-0-is c.as_slice-shapes.ensures c.as_slice-forms.ensures)).0

pub print-requires-in-Some-Def : goal.print-requires-in-Some-Def
print-requires-in-Some-Def c =
    let found = c.in-Some-Def in
    let commands = c.in_ok-commands.commands in
    (readable_behind c.as_slice-shapes.result.now c.as_slice-forms.result.now (bind_parts found.field-0-4) (found.of ∷ found.body ∷ [])
    (found_readable commands.shapes c.as_slice-shapes.result.now commands.forms c.as_slice-forms.result.now commands.list 0 found.field-0.now
    (command.Def found.field-0-0 found.field-0-1 found.field-0-2 found.field-0-3 found.field-0-4 found.of found.body)
    c.in_ok-commands.ensures found.ensures.value found.field-0-is c.as_slice-shapes.ensures c.as_slice-forms.ensures)).1.0
