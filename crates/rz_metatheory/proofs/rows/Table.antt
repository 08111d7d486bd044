-- Each row that is text keeps judgments good, and each typing row leads back to good ones.
use Rattle.std.proofs.Common.{◌≡◌, Some, subst}
use Rattle.rz_rules.specs.declared.kinds.Kind.{Kind}
use Rattle.rz_rules.specs.declared.kinds.Kind.TheVariants as kind
use Rattle.rz_rules.specs.declared.rows.Scheme.TheVariants as scheme
use Rattle.rz_rules.specs.declared.rows.Row.{Row}
use Rattle.rz_rules.specs.declared.rows.Row.TheVariants as row
use Rattle.rz_rules.specs.Table.{rule_of, typing_row}
use Rattle.rz_metatheory.proofs.Keeping.{RowKeeps, RowReturns}
use Rattle.rz_metatheory.proofs.rows.Topes as topes
use Rattle.rz_metatheory.proofs.rows.Typing as typing
use Rattle.rz_metatheory.proofs.rows.Contexts as contexts
use Rattle.rz_metatheory.proofs.rows.Computation as computation
use Rattle.rz_metatheory.proofs.rows.Congruence as congruence
use Rattle.rz_metatheory.proofs.rows.Inversion as inversion

pub rows_keep : (row : Row) → (rule_of row).scheme ≡ scheme.Text → RowKeeps row
rows_keep row.Top is = topes.top
rows_keep row.Bottom is = topes.bottom
rows_keep row.And is = topes.and
rows_keep row.AndLeft is = topes.and_left
rows_keep row.AndRight is = topes.and_right
rows_keep row.OrLeft is = topes.or_left
rows_keep row.OrRight is = topes.or_right
rows_keep row.OrElimination is = topes.or_elimination
rows_keep row.EqualReflexive is = topes.equal_reflexive
rows_keep row.EqualSymmetric is = topes.equal_symmetric
rows_keep row.EqualTransitive is = topes.equal_transitive
rows_keep row.EqualFirst is = topes.equal_first
rows_keep row.EqualSecond is = topes.equal_second
rows_keep row.EqualEta is = topes.equal_eta
rows_keep row.EqualOne is = topes.equal_one
rows_keep row.EqualPair is = topes.equal_pair
rows_keep row.EqualLeft is = topes.equal_left
rows_keep row.EqualRight is = topes.equal_right
rows_keep row.AtMostEqual is = topes.at_most_equal
rows_keep row.AtMostTransitive is = topes.at_most_transitive
rows_keep row.AtMostAntisymmetric is = topes.at_most_antisymmetric
rows_keep row.AtMostTotal is = topes.at_most_total
rows_keep row.ZeroAtMost is = topes.zero_at_most
rows_keep row.AtMostOne is = topes.at_most_one
rows_keep row.ZeroIsNotOne is = topes.zero_is_not_one
rows_keep row.Universe is = typing.universe
rows_keep row.Constant is = typing.constant
rows_keep row.Postulate is = typing.postulate
rows_keep row.Pi is = typing.pi
rows_keep row.Sigma is = typing.sigma
rows_keep row.Lambda is = typing.lambda
rows_keep row.Application is = typing.application
rows_keep row.Pair is = typing.pair
rows_keep row.First is = typing.first
rows_keep row.Second is = typing.second
rows_keep row.Identity is = typing.identity
rows_keep row.Reflexivity is = typing.reflexivity
rows_keep row.IdentityInduction is = typing.identity_induction
rows_keep row.UnitType is = typing.unit_type
rows_keep row.Star is = typing.star
rows_keep row.Extension is = typing.extension
rows_keep row.ExtensionLambda is = typing.extension_lambda
rows_keep row.ExtensionApplication is = typing.extension_application
rows_keep row.RecOr is = typing.rec_or
rows_keep row.RecBottom is = typing.rec_bottom
rows_keep row.Conversion is = typing.conversion
rows_keep row.ContextNil is = contexts.context_nil
rows_keep row.ContextCube is = contexts.context_cube
rows_keep row.ContextTope is = contexts.context_tope
rows_keep row.ContextTerm is = contexts.context_term
rows_keep row.TypeOf is = contexts.type_of
rows_keep row.LeftSide is = contexts.left_side
rows_keep row.RightSide is = contexts.right_side
rows_keep row.Beta is = computation.beta
rows_keep row.Eta is = computation.eta
rows_keep row.FirstBeta is = computation.first_beta
rows_keep row.SecondBeta is = computation.second_beta
rows_keep row.PairEta is = computation.pair_eta
rows_keep row.IdentityInductionBeta is = computation.identity_induction_beta
rows_keep row.UnitEta is = computation.unit_eta
rows_keep row.Delta is = computation.delta
rows_keep row.ExtensionBeta is = computation.extension_beta
rows_keep row.ExtensionEta is = computation.extension_eta
rows_keep row.Face is = computation.face
rows_keep row.RecOrLeft is = computation.rec_or_left
rows_keep row.RecOrRight is = computation.rec_or_right
rows_keep row.RecOrEta is = computation.rec_or_eta
rows_keep row.RecBottomEta is = computation.rec_bottom_eta
rows_keep row.PointReplacement is = computation.point_replacement
rows_keep row.SameReflexive is = congruence.same_reflexive
rows_keep row.SameSymmetric is = congruence.same_symmetric
rows_keep row.SameTransitive is = congruence.same_transitive
rows_keep row.SameConversion is = congruence.same_conversion
rows_keep row.PiCongruence is = congruence.pi
rows_keep row.SigmaCongruence is = congruence.sigma
rows_keep row.LambdaCongruence is = congruence.lambda
rows_keep row.ApplicationCongruence is = congruence.application
rows_keep row.PairCongruence is = congruence.pair
rows_keep row.FirstCongruence is = congruence.first
rows_keep row.SecondCongruence is = congruence.second
rows_keep row.IdentityCongruence is = congruence.identity
rows_keep row.ReflexivityCongruence is = congruence.reflexivity
rows_keep row.IdentityInductionCongruence is = congruence.identity_induction
rows_keep row.ExtensionCongruence is = congruence.extension
rows_keep row.ExtensionLambdaCongruence is = congruence.extension_lambda
rows_keep row.ExtensionApplicationCongruence is = congruence.extension_application
rows_keep row.RecOrCongruence is = congruence.rec_or
rows_keep row.RecBottomCongruence is = congruence.rec_bottom
rows_keep row is = absurd cc

same_row : (a b : Row) → Some a ≡ Some b → a ≡ b
same_row a b e = cc

pub rows_return : (kind : Kind) (row : Row) → typing_row kind ≡ Some row → RowReturns row
rows_return kind.Universe other e = subst RowReturns (same_row row.Universe other e) inversion.universe
rows_return kind.Constant other e = subst RowReturns (same_row row.Constant other e) inversion.constant
rows_return kind.Postulate other e = subst RowReturns (same_row row.Postulate other e) inversion.postulate
rows_return kind.Pi other e = subst RowReturns (same_row row.Pi other e) inversion.pi
rows_return kind.Sigma other e = subst RowReturns (same_row row.Sigma other e) inversion.sigma
rows_return kind.Lambda other e = subst RowReturns (same_row row.Lambda other e) inversion.lambda
rows_return kind.Application other e = subst RowReturns (same_row row.Application other e) inversion.application
rows_return kind.Pair other e = subst RowReturns (same_row row.Pair other e) inversion.pair
rows_return kind.First other e = subst RowReturns (same_row row.First other e) inversion.first
rows_return kind.Second other e = subst RowReturns (same_row row.Second other e) inversion.second
rows_return kind.Identity other e = subst RowReturns (same_row row.Identity other e) inversion.identity
rows_return kind.Reflexivity other e = subst RowReturns (same_row row.Reflexivity other e) inversion.reflexivity
rows_return kind.IdentityInduction other e = subst RowReturns (same_row row.IdentityInduction other e) inversion.identity_induction
rows_return kind.UnitType other e = subst RowReturns (same_row row.UnitType other e) inversion.unit_type
rows_return kind.Star other e = subst RowReturns (same_row row.Star other e) inversion.star
rows_return kind.Extension other e = subst RowReturns (same_row row.Extension other e) inversion.extension
rows_return kind.ExtensionLambda other e = subst RowReturns (same_row row.ExtensionLambda other e) inversion.extension_lambda
rows_return kind.ExtensionApplication other e = subst RowReturns (same_row row.ExtensionApplication other e) inversion.extension_application
rows_return kind.RecOr other e = subst RowReturns (same_row row.RecOr other e) inversion.rec_or
rows_return kind.RecBottom other e = subst RowReturns (same_row row.RecBottom other e) inversion.rec_bottom
rows_return kind other e = absurd cc
