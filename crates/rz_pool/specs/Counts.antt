-- Counts of variables, one for each space, as the code keeps them.
use Rattle.rz_rules.specs.declared.kinds.Space.TheVariants.{Points, Terms}
use Rattle.rz_rules.specs.Substitution.{Depth}
use Rattle.rz_pool.specs.declared.counts.Counts.{Counts}

abbrev pub depth_of : Counts → Depth
depth_of counts Points = counts.points
depth_of counts Terms = counts.terms
