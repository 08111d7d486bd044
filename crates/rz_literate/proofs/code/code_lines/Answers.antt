use Rattle.std.proofs.Common.{◌∙◌, subst}
use Rattle.std.specs.Str.Iter.{split_inclusive_text}
use Rattle.std.specs.Str.Pattern.{EndsAtFirstMatch, FindsChar}
use Rattle.std.specs.String.{string_bytes}
use Rattle.rz_literate.proofs.Lines.{first_line, writes_on}
use Rattle.rz_literate.proofs.code.code_lines.Goals as goal

pub loop-line-preserved : goal.loop-line-preserved
loop-line-preserved c =
    let before = split_inclusive_text c.loop-line.line-iterator in
    let rest = split_inclusive_text c.next.new.self in
    let line = c.in-Some.line.now in
    let step = c.in-Some.ensures.steps in
    let ends : EndsAtFirstMatch (FindsChar 10) before line = subst (λ p. EndsAtFirstMatch (FindsChar p) before line) c.loop-line.invariant.cuts step.1.1 in
    record {
      cuts = step.0 ∙ c.loop-line.invariant.cuts;
      goes_on = writes_on c.loop-line.inside c.in_ok-inside.inside (string_bytes c.loop-line.out) (string_bytes c.push_line.new.out) before line rest _ c.in_ok-inside.ensures.written c.in_ok-inside.ensures.after
          (first_line before line rest step.1.0 ends) c.loop-line.invariant.goes_on;
    }
