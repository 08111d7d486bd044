use Rattle.std.proofs.Common.{false, sym, ◌∙◌}
use Rattle.std.proofs.lemmas.Str.Pattern.{ends_text}
use Rattle.std.specs.Prelude.{codes}
use Rattle.std.specs.String.{string_bytes}
use Rattle.rz_literate.proofs.Places.{Blanked, blanked_code, length-blanked, blanked_ends, blanked_spaces, code_of_other}
use Rattle.rz_literate.proofs.code.code_of.Goals as goal
use Rattle.rz_literate.proofs.code.code_of.Goals.{In_ok-code_lines}

-- what is written of a Markdown file
written : (c : In_ok-code_lines) → Blanked c.args.bytes.now (string_bytes c.in_ok-code_lines.field-0)
written c = blanked_code c.args.bytes.now c.in-Ok.text.now (string_bytes c.in_ok-code_lines.field-0) c.in-Ok.ensures.cases.0 c.in_ok-code_lines.ensures

pub returns-in_ok-code_lines-clause-length : goal.returns-in_ok-code_lines-clause-length
returns-in_ok-code_lines-clause-length c = length-blanked c.args.bytes.now (string_bytes c.in_ok-code_lines.field-0) (written c)

pub returns-in_ok-code_lines-clause-line_ends : goal.returns-in_ok-code_lines-clause-line_ends
returns-in_ok-code_lines-clause-line_ends c = blanked_ends c.args.bytes.now (string_bytes c.in_ok-code_lines.field-0) (written c)

pub returns-in_ok-code_lines-clause-others : goal.returns-in_ok-code_lines-clause-others
returns-in_ok-code_lines-clause-others c = blanked_spaces c.args.bytes.now (string_bytes c.in_ok-code_lines.field-0) (written c)

pub returns-in_ok-from_str-clause-code : goal.returns-in_ok-from_str-clause-code
returns-in_ok-from_str-clause-code c =
    let all = c.in_ok-from_str.ensures.ok ∙ c.in-Ok.ensures.cases.0 in
    all ∙ sym (code_of_other c.args.name.now c.args.bytes.now (sym (ends_text false (codes ".md") c.args.name.now c.if-ends_with.ensures.cases)))
