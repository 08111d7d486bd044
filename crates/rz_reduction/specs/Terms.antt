-- Terms and contexts as the definitions of steps and comparison write them.
use Rattle.std.specs.Prelude.{[]}
use Rattle.rz_rules.specs.declared.kinds.Space.TheVariants.{Points, Terms}
use Rattle.rz_rules.specs.declared.kinds.Kind.TheVariants.{Pi, Lambda, Application, Sigma, Pair, First, Second, Identity, Reflexivity, IdentityInduction, UnitType, Extension, ExtensionLambda, ExtensionApplication, CubeEntry, TopeEntry, TermEntry}
use Rattle.rz_rules.specs.Tree.{Tree, At, Nil, And}
use Rattle.rz_rules.specs.Substitution.{none, shift, put}
use Rattle.rz_rules.specs.Structural.{universe, term_variable}

-- functions from A into the family B, one of them with a body, and a function f at a
abbrev pub pi : Tree → Tree → Tree
pi A B = At Pi 0 [] (And A (And B Nil))

abbrev pub lambda : Tree → Tree → Tree → Tree
lambda A B body = At Lambda 0 [] (And A (And B (And body Nil)))

abbrev pub application : Tree → Tree → Tree → Tree → Tree
application A B f a = At Application 0 [] (And A (And B (And f (And a Nil))))

-- pairs of an A and a term of the family B, one of x and y, and the two parts of a pair p
abbrev pub sigma : Tree → Tree → Tree
sigma A B = At Sigma 0 [] (And A (And B Nil))

abbrev pub pair : Tree → Tree → Tree → Tree → Tree
pair A B x y = At Pair 0 [] (And A (And B (And x (And y Nil))))

abbrev pub first : Tree → Tree → Tree → Tree
first A B p = At First 0 [] (And A (And B (And p Nil)))

abbrev pub second : Tree → Tree → Tree → Tree
second A B p = At Second 0 [] (And A (And B (And p Nil)))

-- identities of a and b, the reflexivity of a, and induction along p: type, left end, motive, case, right end, identity
abbrev pub identity : Tree → Tree → Tree → Tree
identity A a b = At Identity 0 [] (And A (And a (And b Nil)))

abbrev pub reflexivity : Tree → Tree → Tree
reflexivity A a = At Reflexivity 0 [] (And A (And a Nil))

abbrev pub induction : Tree → Tree → Tree → Tree → Tree → Tree → Tree
induction A a M d b p = At IdentityInduction 0 [] (And A (And a (And M (And d (And b (And p Nil))))))

-- the type with one term
abbrev pub unit : Tree
unit = At UnitType 0 [] Nil

-- functions on the shape of I with the tope psi, into the family A, that are a on the face phi; one of them with a body, and
-- one, f, at the point s
abbrev pub extension_type : Tree → Tree → Tree → Tree → Tree → Tree
extension_type I psi A phi a = At Extension 0 [] (And I (And psi (And A (And phi (And a Nil)))))

abbrev pub shape_lambda : Tree → Tree → Tree → Tree → Tree → Tree → Tree
shape_lambda I psi A phi a body = At ExtensionLambda 0 [] (And I (And psi (And A (And phi (And a (And body Nil))))))

abbrev pub extension_application : Tree → Tree → Tree → Tree → Tree → Tree → Tree → Tree
extension_application I psi A phi a f s =
    At ExtensionApplication 0 [] (And I (And psi (And A (And phi (And a (And f (And s Nil)))))))

-- a context with one entry more
abbrev pub under_cube : Tree → Tree → Tree
under_cube C I = At CubeEntry 0 [] (And C (And I Nil))

abbrev pub under_tope : Tree → Tree → Tree
under_tope C phi = At TopeEntry 0 [] (And C (And phi Nil))

abbrev pub under_term : Tree → Tree → Tree
under_term C A = At TermEntry 0 [] (And C (And A Nil))

-- a tree where the innermost variable has a value
abbrev pub put_term : Tree → Tree → Tree
put_term a body = put Terms none a body

abbrev pub put_point : Tree → Tree → Tree
put_point s body = put Points none s body

-- a tree as it is read under one variable more, and under one variable more that stands outside of the innermost
abbrev pub raised_term : Tree → Tree
raised_term t = shift Terms 0 1 t

abbrev pub raised_family : Tree → Tree
raised_family B = shift Terms 1 1 B

abbrev pub raised_point : Tree → Tree
raised_point t = shift Points 0 1 t

abbrev pub raised_on_shape : Tree → Tree
raised_on_shape t = shift Points 1 1 t

-- the type of the motive of an induction, and the motive M at a right end z and an identity q
abbrev pub motive_family : Tree → Tree → Tree
motive_family A a = pi (identity (raised_term A) (raised_term a) (term_variable 0)) universe

abbrev pub motive : Tree → Tree → Tree
motive A a = pi A (motive_family A a)

abbrev pub motive_at : Tree → Tree → Tree → Tree → Tree → Tree
motive_at A a M z q = application (identity A a z) universe (application A (motive_family A a) M z) q
