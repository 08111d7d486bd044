use Rattle.std.proofs.Common.{◌≡◌, List, [], ◌∷◌, ◌++◌, length, ap, ◌∙◌, arith}
use Rattle.rz_print.specs.declared.layout.Piece.{Piece}
use Rattle.rz_print.specs.Layout.{term}
use Rattle.rz_print.proofs.Written.{starts, is_open, advances, none_left, ends_with}
use Rattle.rz_print.proofs.printer.write.Goals as goal

pub loop-init : goal.loop-init
loop-init c =
    starts c.args.shapes.now c.args.forms.now (term c.args.raw) c.push.new.self.items c.new-writer.result
    (c.in_ok-push.ensures.items ∙ ap (λ (xs : List Piece). xs ++ term c.args.raw ∷ []) c.new-stack.ensures.items)
    c.new-writer.ensures.text c.new-writer.ensures.last c.requires

pub returns-in_default : goal.returns-in_default
returns-in_default c =
    let none : length c.loop.stack.items ≡ 0 = omega (arith, c.loop.stack.ok, c.in_default.ensures.cases.0) in
    let text = ends_with c.args.shapes.now c.args.forms.now (term c.args.raw ∷ []) c.loop.stack.items c.loop.writer _
    (none_left c.loop.stack.items none) c.into_text.ensures c.loop.invariant in
    record { words = text.0; spelled = text.1; is = text.2 }

pub write_piece-requires : goal.write_piece-requires
write_piece-requires c = is_open c.pop.new.self.items c.in-Some.piece c.in-Some.ensures.items c.loop.invariant

pub loop-preserved : goal.loop-preserved
loop-preserved c =
    advances c.args.shapes.now c.args.forms.now (term c.args.raw ∷ []) c.loop.stack.items c.pop.new.self.items
    c.in-Some.piece c.loop.writer c.write_piece.new.writer c.write_piece.new.stack.items
    c.in-Some.ensures.items c.in_ok-write_piece.ensures.stack c.in_ok-write_piece.ensures.writer c.loop.invariant
