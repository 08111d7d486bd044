-- What is known of the parts of the topes that were read.
use Rattle.std.specs.Prelude.{◌≡◌, ℕ, ◌<◌, List, [], ◌∷◌, length, All, Some, slice_get}
use Rattle.rz_rules.specs.declared.coordinates.Coord.{Coord}
use Rattle.rz_rules.specs.declared.nodes.Node.{Node}
use Rattle.rz_rules.specs.Tree.{Tree, tree_of}
use Rattle.rz_rules.specs.Cube.{Binders, binders_of}
use Rattle.rz_rules.specs.Tope.{IsTopeOver}
use Rattle.rz_rules.specs.Coordinate.{coordinates}
use Rattle.rz_rules.specs.Validity.{compared}
use Rattle.rz_tope_proof.specs.declared.places.Places.{Places}
use Rattle.rz_tope_proof.specs.declared.proof.Inference.{Inference}
use Rattle.rz_tope_proof.specs.declared.parts.Form.{Form}
use Rattle.rz_tope_proof.specs.declared.parts.Form.TheVariants as form
use Rattle.rz_tope_proof.specs.declared.parts.Part.{Part}
use Rattle.rz_tope_proof.specs.declared.parts.Side.{Side}
use Rattle.rz_tope_proof.specs.Part.{IsMadeOf}
use Rattle.rz_tope_proof.specs.Reading.{IsRead, tope_at}
use Rattle.rz_tope_normal.specs.Placed.{IsAmong, place_of}

-- each of these is in a list, where it is a coordinate of a variable
abbrev pub AreAmong : List Coord → List Coord → Type 0
AreAmong list coordinates = All (IsAmong list) coordinates

-- a side stands at the place of its point's coordinate
pub record IsSideAt (nodes : List Node) (binders : Binders) (list : List Coord) (side : Side) : Type 0 where
  pub coordinate : Coord
  pub point : coordinates binders (tree_of nodes side.point) ≡ coordinate ∷ []
  pub place : side.place ≡ place_of list coordinate
  pub among : IsAmong list coordinate

-- the sides of a form do
abbrev pub HasSides : List Node → Binders → List Coord → Form → Type 0
HasSides nodes binders list (form.AtMost first second) = IsSideAt nodes binders list first × IsSideAt nodes binders list second
HasSides nodes binders list (form.Equal first second) = IsSideAt nodes binders list first × IsSideAt nodes binders list second
HasSides nodes binders list other = Unit {0}

-- a part with a number is made of earlier ones, says a tope over the context, and has its sides at their places
pub record IsPart (nodes : List Node) (context : Tree) (list : List Coord) (places : Places) (all : List Inference) (parts : List Part)
    (number : ℕ) (part : Part) : Type 0 where
  pub made : IsMadeOf number places.count part.form
  pub read : IsRead nodes context places all parts part
  pub sides : HasSides nodes (binders_of context) list part.form

-- each part is such a one
abbrev pub ArePartsOf : List Node → Tree → List Coord → Places → List Inference → List Part → Type 0
ArePartsOf nodes context list places all parts =
    (k : ℕ) (part : Part) → slice_get parts k ≡ Some part → IsPart nodes context list places all parts k part

-- a part with this number says a tope
pub record SaysTope (nodes : List Node) (parts : List Part) (number : ℕ) (tope : Tree) : Type 0 where
  pub within : number < length parts
  pub says : tope_at nodes parts number ≡ tope

-- a tope is over a context, and what it compares is in a list
pub record IsFine (binders : Binders) (list : List Coord) (tope : Tree) : Type 0 where
  pub over : IsTopeOver binders tope
  pub among : AreAmong list (compared binders tope)

-- what parts say they say still
abbrev pub KeepsParts : List Node → List Part → List Part → Type 0
KeepsParts nodes old new = (number : ℕ) (tope : Tree) → SaysTope nodes old number tope → SaysTope nodes new number tope
