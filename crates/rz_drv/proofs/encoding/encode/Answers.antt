use Rattle.std.proofs.Common.{List, ◌++◌, map, ap, ◌∙◌}
use Rattle.std.specs.List.{concat}
use Rattle.rz_rules.specs.declared.judgments.Line.{Line}
use Rattle.rz_rules.specs.declared.nodes.Node.{Node}
use Rattle.rz_rules.specs.File.{NodeItem, StepItem, header}
use Rattle.rz_drv.specs.Lines.{item_lines}
use Rattle.rz_drv.specs.Part.{claim_item}
use Rattle.rz_drv.proofs.Writings.{file_written}
use Rattle.rz_drv.proofs.encoding.encode.Goals as goal

pub returns : goal.returns
returns c =
    let first = c.extend_from_slice.new.self in
    let second = c.add_nodes.new.bytes in
    let third = c.add_steps.new.bytes in
    file_written c.args.part.now first second third c.add_claims.new.bytes c.extend_from_slice-2.new.self
    (c.in_ok-extend_from_slice.ensures.ok ∙ ap (λ bs. bs ++ header) c.new-bytes.ensures)
    (c.in_ok-add_nodes.ensures ∙ ap (λ (ns : List Node). first ++ concat (item_lines (map (λ node. NodeItem node) ns))) c.as_slice.ensures)
    (c.in_ok-add_steps.ensures ∙ ap (λ (ls : List Line). second ++ concat (item_lines (map (λ line. StepItem line) ls))) c.as_slice-2.ensures)
    (c.in_ok-add_claims.ensures ∙ ap (λ cs. third ++ concat (item_lines (map claim_item cs))) c.as_slice-3.ensures)
    c.in_ok-extend_from_slice-2.ensures.ok
