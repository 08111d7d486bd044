-- Terms as the definitions of steps and comparison read them.
use Rattle.std.specs.Prelude.{List, [], ◌∷◌}
use Rattle.rz_rules.specs.declared.kinds.Kind.TheVariants.{Pi, Lambda, Application, Sigma, Pair, First, Second, Identity, Reflexivity, IdentityInduction, UnitType, Extension, ExtensionLambda, ExtensionApplication}
use Rattle.rz_rules.specs.Tree.{Tree, At, Nil, And}
use Rattle.rz_reduction.specs.Terms.{pi, lambda, application, sigma, pair, first, second, identity, reflexivity, induction, unit, extension_type, shape_lambda, extension_application}

-- an eliminator: what it holds beside the part that it waits for
pub data Eliminator : Type 0 where
  Applied : (A B a : Tree) → Eliminator
  FirstOf : (A B : Tree) → Eliminator
  SecondOf : (A B : Tree) → Eliminator
  Induced : (A a M d b : Tree) → Eliminator
  AppliedAt : (I psi A phi a s : Tree) → Eliminator

-- the term that it makes of its part
abbrev pub elimination : Eliminator → Tree → Tree
elimination (Applied A B a) f = application A B f a
elimination (FirstOf A B) p = first A B p
elimination (SecondOf A B) p = second A B p
elimination (Induced A a M d b) p = induction A a M d b p
elimination (AppliedAt I psi A phi a s) f = extension_application I psi A phi a f s

-- the term that eliminators make of a head; the first of them is next to it
abbrev pub whole : Tree → List Eliminator → Tree
whole t [] = t
whole t (e ∷ es) = whole (elimination e t) es

-- the introductions that eliminators wait for
pub data Introduction : Type 0 where
  Function : (A B body : Tree) → Introduction
  PairOf : (A B x y : Tree) → Introduction
  ReflexivityOf : (A x : Tree) → Introduction
  FunctionOnShape : (I psi A phi a body : Tree) → Introduction
  NoIntroduction : Introduction

abbrev pub introduction : Tree → Introduction
introduction (At Lambda number name (And A (And B (And body Nil)))) = Function A B body
introduction (At Pair number name (And A (And B (And x (And y Nil))))) = PairOf A B x y
introduction (At Reflexivity number name (And A (And x Nil))) = ReflexivityOf A x
introduction (At ExtensionLambda number name (And I (And psi (And A (And phi (And a (And body Nil))))))) =
    FunctionOnShape I psi A phi a body
introduction other = NoIntroduction

-- the term that is read as an introduction; where there is none, a given one
abbrev pub introduced : Tree → Introduction → Tree
introduced other (Function A B body) = lambda A B body
introduced other (PairOf A B x y) = pair A B x y
introduced other (ReflexivityOf A x) = reflexivity A x
introduced other (FunctionOnShape I psi A phi a body) = shape_lambda I psi A phi a body
introduced other NoIntroduction = other

-- the formers of normal terms of which comparison speaks
pub data Former : Type 0 where
  FunctionType : (A B : Tree) → Former
  PairType : (A B : Tree) → Former
  IdentityType : (A a b : Tree) → Former
  ReflexivityTerm : (A a : Tree) → Former
  ExtensionType : (I psi A phi a : Tree) → Former
  OnePointType : Former
  OtherTerm : Former

abbrev pub former : Tree → Former
former (At Pi number name (And A (And B Nil))) = FunctionType A B
former (At Sigma number name (And A (And B Nil))) = PairType A B
former (At Identity number name (And A (And a (And b Nil)))) = IdentityType A a b
former (At Reflexivity number name (And A (And a Nil))) = ReflexivityTerm A a
former (At Extension number name (And I (And psi (And A (And phi (And a Nil)))))) = ExtensionType I psi A phi a
former (At UnitType number name Nil) = OnePointType
former other = OtherTerm

-- the term that is read as one of a former; where there is none, a given one
abbrev pub formed_by : Tree → Former → Tree
formed_by other (FunctionType A B) = pi A B
formed_by other (PairType A B) = sigma A B
formed_by other (IdentityType A a b) = identity A a b
formed_by other (ReflexivityTerm A a) = reflexivity A a
formed_by other (ExtensionType I psi A phi a) = extension_type I psi A phi a
formed_by other OnePointType = unit
formed_by other OtherTerm = other

-- a term as a head and its eliminators, from the head outwards
pub record Spine : Type 0 where
  pub head : Tree
  pub eliminators : List Eliminator

-- the spine of a term around which these eliminators stand
abbrev pub spine_within : Tree → List Eliminator → Spine
spine_within (At Application number name (And A (And B (And f (And a Nil))))) outer = spine_within f (Applied A B a ∷ outer)
spine_within (At First number name (And A (And B (And p Nil)))) outer = spine_within p (FirstOf A B ∷ outer)
spine_within (At Second number name (And A (And B (And p Nil)))) outer = spine_within p (SecondOf A B ∷ outer)
spine_within (At IdentityInduction number name (And A (And a (And M (And d (And b (And p Nil))))))) outer =
    spine_within p (Induced A a M d b ∷ outer)
spine_within (At ExtensionApplication number name (And I (And psi (And A (And phi (And a (And f (And s Nil)))))))) outer =
    spine_within f (AppliedAt I psi A phi a s ∷ outer)
spine_within other outer = record { head = other; eliminators = outer }

abbrev pub spine : Tree → Spine
spine t = spine_within t []
