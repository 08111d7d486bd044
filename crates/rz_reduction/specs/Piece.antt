-- The pieces that have to agree: where a redex contracts, and where two terms are equal by their parts.
use Rattle.std.specs.Prelude.{List, [], ◌∷◌, ◌++◌, Bool, not, filter, Option, Some, None, option_map, option_and_then}
use Rattle.rz_rules.specs.Tree.{Tree}
use Rattle.rz_rules.specs.Structural.{universe}
use Rattle.rz_rules.specs.Tope.{equal_points}
use Rattle.rz_rules.specs.Same.{same_tree}
use Rattle.rz_reduction.specs.Entailment.{both_valid}
use Rattle.rz_rules.specs.Validity.{Entailment, entailment}
use Rattle.rz_reduction.specs.Terms.{reflexivity, motive, motive_at, under_cube, under_tope, under_term}
use Rattle.rz_reduction.specs.Views.{Eliminator, Applied, FirstOf, SecondOf, Induced, AppliedAt}

-- whether two terms of one type are equal in a context
pub record Question : Type 0 where
  pub context : Tree
  pub left : Tree
  pub right : Tree
  pub type : Tree

abbrev pub question : Tree → Tree → Tree → Tree → Question
question C a b A = record { context = C; left = a; right = b; type = A }

pub data Piece : Type 0 where
  -- two cubes: they agree where they are one tree
  Cubes : (left right : Tree) → Piece
  -- two topes over a context: they agree where each entails the other
  Topes : (context left right : Tree) → Piece
  -- two points of a cube: they agree where they are equal in the context
  Points : (context cube left right : Tree) → Piece
  -- two terms: they are compared
  Compared : (question : Question) → Piece

-- The first of two topes entails the second, and then the second the first. After a no the other way isn't asked.
abbrev pub entail_each_other : Tree → Tree → Tree → Entailment
entail_each_other C phi phi' = both_valid (entailment (under_tope C phi) phi') (entailment (under_tope C phi') phi)

abbrev pub points_equal : Tree → Tree → Tree → Tree → Entailment
points_equal C I s s' = entailment C (equal_points I s s')

-- a type, and a family over the left one
abbrev pub family : Tree → Tree → Tree → Tree → Tree → List Piece
family C A B A' B' = Compared (question C A A' universe) ∷ Compared (question (under_term C A) B B' universe) ∷ []

-- the parts of two extension types, all under the left one's: cubes, topes, families, faces, and the terms on the faces
abbrev pub extension : Tree → Tree → Tree → Tree → Tree → Tree → Tree → Tree → Tree → Tree → Tree → List Piece
extension C I psi A phi a I' psi' A' phi' a' =
    let shape = under_tope (under_cube C I) psi in
    Cubes I I' ∷ Topes (under_cube C I) psi psi' ∷ Compared (question shape A A' universe) ∷ Topes shape phi phi'
    ∷ Compared (question (under_tope shape phi) a a' A) ∷ []

-- the two sides of a piece
abbrev pub left_side : Piece → Tree
left_side (Cubes left right) = left
left_side (Topes C left right) = left
left_side (Points C I left right) = left
left_side (Compared q) = q.left

abbrev pub right_side : Piece → Tree
right_side (Cubes left right) = right
right_side (Topes C left right) = right
right_side (Points C I left right) = right
right_side (Compared q) = q.right

-- they are different trees
abbrev pub differs : Piece → Bool
differs piece = not (same_tree (left_side piece) (right_side piece))

-- The pieces without those that are one tree, of which nothing is asked. It is used for the annotations that a step meets
-- and for two extension types alone: points and the parts of other formers are asked all the same.
abbrev pub asks : List Piece → List Piece
asks pieces = filter differs pieces

-- the parts of two eliminators of one kind, annotations first
abbrev pub eliminator_pieces : Tree → Eliminator → Eliminator → Option (List Piece)
eliminator_pieces C (Applied A B a) (Applied A' B' a') = Some (family C A B A' B' ++ Compared (question C a a' A) ∷ [])
eliminator_pieces C (FirstOf A B) (FirstOf A' B') = Some (family C A B A' B')
eliminator_pieces C (SecondOf A B) (SecondOf A' B') = Some (family C A B A' B')
eliminator_pieces C (Induced A a M d b) (Induced A' a' M' d' b') =
    Some (Compared (question C A A' universe) ∷ Compared (question C a a' A) ∷ Compared (question C M M' (motive A a))
    ∷ Compared (question C d d' (motive_at A a M a (reflexivity A a))) ∷ Compared (question C b b' A) ∷ [])
eliminator_pieces C (AppliedAt I psi A phi a s) (AppliedAt I' psi' A' phi' a' s') =
    Some (asks (extension C I psi A phi a I' psi' A' phi' a') ++ Points C I s s' ∷ [])
eliminator_pieces C e e' = None

-- the parts of two lists of eliminators that agree in kind and number, from the head outwards
abbrev pub spine_pieces : Tree → List Eliminator → List Eliminator → Option (List Piece)
spine_pieces C [] [] = Some []
spine_pieces C (e ∷ es) (e' ∷ es') =
    option_and_then (λ pieces. option_map (λ more. pieces ++ more) (spine_pieces C es es')) (eliminator_pieces C e e')
spine_pieces C es es' = None
