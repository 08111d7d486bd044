use Rattle.rz_kernel_rows.proofs.MetConditions.{point_of, tope_over}
use Rattle.rz_kernel_rows.proofs.conditions.is_met.Goals as goal

pub returns-in-TopeOver-clause-met : goal.returns-in-TopeOver-clause-met
returns-in-TopeOver-clause-met c =
    tope_over c.args.pool.now.nodes c.args.letters.now c.args.name c.is_over.result c.in-TopeOver.context c.in-TopeOver.tope c.id_of-in-TopeOver.result c.id_of-in-TopeOver-2.result c.args.condition
    c.in-TopeOver.is c.id_of-in-TopeOver.ensures c.id_of-in-TopeOver-2.ensures c.is_over.ensures.over

pub returns-in-PointOf-clause-met : goal.returns-in-PointOf-clause-met
returns-in-PointOf-clause-met c =
    point_of c.args.pool.now.nodes c.args.letters.now c.args.name c.is_point_of.result c.in-PointOf.context c.in-PointOf.cube c.in-PointOf.point
    c.id_of-in-PointOf.result c.id_of-in-PointOf-2.result c.id_of-in-PointOf-3.result c.args.condition c.in-PointOf.is c.id_of-in-PointOf.ensures c.id_of-in-PointOf-2.ensures c.id_of-in-PointOf-3.ensures
    c.is_point_of.ensures.point
