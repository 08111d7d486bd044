use Rattle.std.proofs.Common.{refl}
use Rattle.rz_metatheory.proofs.Shapes.{applied_point, applied_shape, applied_face, point_put}
use Rattle.rz_metatheory.proofs.laws.shapes.Goals as goal

pub returns-clause-point : goal.returns-clause-point
returns-clause-point c = applied_point

pub returns-clause-shape : goal.returns-clause-shape
returns-clause-shape c = applied_shape

pub returns-clause-face : goal.returns-clause-face
returns-clause-face c = applied_face

pub returns-clause-put : goal.returns-clause-put
returns-clause-put c = point_put

pub returns-clause-topes : goal.returns-clause-topes
returns-clause-topes c = λ context tope. refl
