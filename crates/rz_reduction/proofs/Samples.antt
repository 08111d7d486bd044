-- Terms and contexts of the worked questions.
use Rattle.std.proofs.Common.{[], ◌∷◌}
use Rattle.rz_rules.specs.declared.kinds.Kind.TheVariants.{Zero, One, Constant, RecOr, RecBottom, EmptyContext, CubeOne, CubeTwo, Product}
use Rattle.rz_rules.specs.Tree.{Tree, At, Nil, And}
use Rattle.rz_rules.specs.Structural.{universe, term_variable}
use Rattle.rz_reduction.specs.Terms.{pi, lambda, application, under_cube, under_tope, under_term}
use Rattle.rz_rules.specs.Tope.{at_most, point_variable}

-- by cases of two topes
abbrev pub cases : Tree → Tree → Tree → Tree → Tree → Tree
cases A phi psi a b = At RecOr 0 [] (And A (And phi (And psi (And a (And b Nil)))))

-- the term of a type where no tope holds
abbrev pub absurdity : Tree → Tree
absurdity A = At RecBottom 0 [] (And A Nil)

abbrev pub constant : Tree → Tree → Tree
constant A b = At Constant 0 (107 ∷ []) (And A (And b Nil))

abbrev pub cube_one : Tree
cube_one = At CubeOne 0 [] Nil

abbrev pub interval : Tree
interval = At CubeTwo 0 [] Nil

abbrev pub product : Tree → Tree → Tree
product I J = At Product 0 [] (And I (And J Nil))

abbrev pub zero_end : Tree
zero_end = At Zero 0 [] Nil

abbrev pub one_end : Tree
one_end = At One 0 [] Nil

abbrev pub nil : Tree
nil = At EmptyContext 0 [] Nil

-- A : U, a : A, b : A
abbrev pub terms : Tree
terms = under_term (under_term (under_term nil universe) (term_variable 0)) (term_variable 1)

abbrev pub A : Tree
A = term_variable 2

abbrev pub a : Tree
a = term_variable 1

abbrev pub b : Tree
b = term_variable 0

-- A under one term variable more
abbrev pub A' : Tree
A' = term_variable 3

-- the same, and behind them t : 2, s : 2
abbrev pub square : Tree
square = under_cube (under_cube terms interval) interval

abbrev pub t : Tree
t = point_variable 1

abbrev pub s : Tree
s = point_variable 0

-- the same, where t and s occur in topes
abbrev pub occupied : Tree
occupied = under_tope (under_tope square (at_most t one_end)) (at_most s one_end)

-- A : U, then two terms of a type over A
abbrev pub two_of : Tree → Tree → Tree
two_of type raised = under_term (under_term (under_term nil universe) type) raised

-- a constant with the body \ (X : U) → X
abbrev pub k : Tree
k = constant (pi universe universe) (lambda universe universe (term_variable 0))

-- what it makes of A
abbrev pub kA : Tree
kA = application universe universe k A

-- the identity function of A, and A under two term variables more
abbrev pub same : Tree
same = lambda A A' (term_variable 0)

abbrev pub A'' : Tree
A'' = term_variable 4

-- a, with a step to make
abbrev pub a_again : Tree
a_again = application A A' same a

-- A by cases of the two orders of t and s
abbrev pub by_order : Tree → Tree → Tree → Tree
by_order type one other = cases type (at_most t s) (at_most s t) one other

-- a cube with nine coordinates
abbrev pub wide : Tree
wide = let three = product interval (product interval interval) in product three (product three three)
