use Rattle.std.proofs.Common.{length, sym, subst, ◌∙◌}
use Rattle.rz_shape.specs.declared.fault.ShapeFault.{ShapeFault}
use Rattle.rz_shape.specs.declared.steps.Part.{Part}
use Rattle.rz_rules.specs.Tree.{tree_of}
use Rattle.rz_shape.specs.Answer.{IsFaultOf, bindings_at}
use Rattle.rz_shape.specs.Reading.{point_of_cube, point_reading}
use Rattle.rz_shape.specs.Walk.{IsOutcome, reading_of}
use Rattle.rz_shape.proofs.Within.{is_elsewhere, is_within}
use Rattle.rz_shape.proofs.variables.Variables.point.Goals as goal
use Rattle.rz_shape.proofs.variables.Variables.point.Goals.{In_ok-point}

-- what was read
read : (c : In_ok-point) → IsOutcome c.read-read.new.pool.nodes (point_reading (bindings_at c.args.pool.now.nodes c.args.self.now) c.args.forms.now (length c.args.forms.now) c.args.raw) c.in_ok-point.point
read c =
    let bound = bindings_at c.args.pool.now.nodes c.args.self.now in
    subst (λ (part : Part). IsOutcome c.read-read.new.pool.nodes (reading_of bound c.args.forms.now part.target part.depth part.raw) c.in_ok-point.point) c.whole-part.ensures
    c.in_ok-point.ensures.read

pub returns-then-is_same-clause-read : goal.returns-then-is_same-clause-read
returns-then-is_same-clause-read c =
    let ns = c.args.pool.now.nodes in
    is_within ns c.read-read.new.pool.nodes c.in_ok-point.ensures.grows (bindings_at ns c.args.self.now) c.args.forms.now (length c.args.forms.now) c.args.raw c.args.cube c.requires.cube
    c.in_ok-point.point (read (goal.at.returns-then-is_same-clause-read c).In_ok-point) (c.is_same.ensures ∙ c.if-is_same.true)

pub returns-else-is_same-clause-refused : goal.returns-else-is_same-clause-refused
returns-else-is_same-clause-refused c =
    let ns = c.args.pool.now.nodes in
    let bound = bindings_at ns c.args.self.now in
    let forms = c.args.forms.now in
    subst (λ (fault : ShapeFault). IsFaultOf (point_of_cube bound forms (length forms) (tree_of ns c.args.cube) c.args.raw) fault) (sym c.refuse.ensures)
    (is_elsewhere ns c.read-read.new.pool.nodes c.in_ok-point.ensures.grows bound forms (length forms) c.args.raw c.args.cube c.requires.cube
    c.in_ok-point.point (read (goal.at.returns-else-is_same-clause-refused c).In_ok-point) (c.is_same.ensures ∙ c.if-is_same.false))
