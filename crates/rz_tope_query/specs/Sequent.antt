-- The sequent that a text says: names with their cubes, topes that hold, and a tope that is asked about.
use Rattle.std.specs.Prelude.{◌≡◌, ℕ, zero, suc, ◌+◌, Bool, true, not, ◌&&◌, if◌then◌else◌, List, [], ◌∷◌, length, map, reverse, Option, Some, None, Ok}
use Rattle.std.specs.List.{flat_map, list_any}
use Rattle.std.specs.Option.{option_map}
use Rattle.std.specs.Str.{bytes_eq}
use Rattle.rz_rules.specs.Tree.{Tree, blank}
use Rattle.rz_rules.specs.Context.{with_entry, OfCube, OfTope}
use Rattle.rz_lex.specs.declared.token.Token.{Token}
use Rattle.rz_lex.specs.Text.{Lexed}
use Rattle.rz_syntax.specs.declared.forms.Raw.{Raw}
use Rattle.rz_syntax.specs.declared.forms.Form.{Form}
use Rattle.rz_syntax.specs.declared.forms.Form.TheVariants as form
use Rattle.rz_syntax.specs.declared.forms.CubeNames.{CubeNames}
use Rattle.rz_syntax.specs.declared.forms.RawSequent.{RawSequent}
use Rattle.rz_syntax.specs.Grammar.{kinds_of}
use Rattle.rz_syntax.specs.Levels.{IsShallow}
use Rattle.rz_syntax.specs.Source.{IsSequent}
use Rattle.rz_shape.specs.declared.local.Binder.{Binder}
use Rattle.rz_shape.specs.declared.local.Binder.TheVariants.{Point}
use Rattle.rz_shape.specs.Reading.{Reading, and_then, bindings_of, cube_reading, tope_reading}

-- A sequent. The context has the names' cubes as its cube entries, in order, and then the hypotheses as its tope entries,
-- in order; the goal is a tope over it. The names stand in order, the first one for the outermost cube entry.
pub record Sequent : Type 0 where
  pub names : List (List ℕ)
  pub context : Tree
  pub goal : Tree

-- ---- names

-- the names of a sequent, in order
abbrev pub names_of : List CubeNames → List (List ℕ)
names_of groups = flat_map (λ group. map (λ word. word.name) group.names) groups

-- no name stands twice
abbrev pub are_distinct : List (List ℕ) → Bool
are_distinct [] = true
are_distinct (name ∷ names) = not (list_any (bytes_eq name) names) && are_distinct names

-- how many names stand before this one, where it is among them
abbrev pub place_of : List ℕ → List (List ℕ) → Option ℕ
place_of name [] = None
place_of name (first ∷ others) = if bytes_eq name first then Some 0 else option_map (λ place. 1 + place) (place_of name others)

-- A form where a name of the sequent is a bound name: it counts the names behind it. Another name stays as it is.
abbrev pub bound_name : List ℕ → Option ℕ → Form
bound_name name (Some up) = form.Bound up []
bound_name name None = form.Named name

abbrev pub bound_form : List (List ℕ) → Form → Form
bound_form names (form.Named name) = bound_name name (place_of name (reverse names))
bound_form names other = other

-- each name binds a point
abbrev pub point_binders : List (List ℕ) → List Binder
point_binders names = map (λ name. Point) names

-- ---- the context

-- a cube entry for each of some names
abbrev pub with_cubes : Tree → Tree → ℕ → Tree
with_cubes context cube zero = context
with_cubes context cube (suc count) = with_cubes (with_entry context (OfCube cube)) cube count

-- a context with the names' cubes as entries
abbrev pub cube_context : List Form → Tree → List CubeNames → Reading Tree
cube_context forms context [] = Ok context
cube_context forms context (group ∷ groups) =
    and_then (cube_reading forms (length forms) group.cube)
    (λ cube. cube_context forms (with_cubes context cube (length group.names)) groups)

-- a context with topes as entries, where they are read so
abbrev pub tope_context : (Raw → Reading Tree) → Tree → List Raw → Reading Tree
tope_context tope context [] = Ok context
tope_context tope context (raw ∷ raws) =
    and_then (tope raw) (λ phi. tope_context tope (with_entry context (OfTope phi)) raws)

-- the context with topes as entries, and the goal
abbrev pub question_over : (Raw → Reading Tree) → Tree → List Raw → Raw → Reading (Tree × Tree)
question_over tope context hypotheses goal =
    and_then (tope_context tope context hypotheses) (λ whole. and_then (tope goal) (λ phi. Ok (whole, phi)))

-- the topes of a sequent are read over its names
abbrev pub tope_over : List (List ℕ) → List Form → Tree → Raw → Reading Tree
tope_over names forms context =
    tope_reading (bindings_of context (point_binders names)) (map (bound_form names) forms) (length forms)

-- the context and the goal of a sequent
abbrev pub question_of : RawSequent → Reading (Tree × Tree)
question_of raw =
    and_then (cube_context raw.forms blank raw.names)
    (λ context. question_over (tope_over (names_of raw.names) raw.forms context) context raw.hypotheses raw.goal)

-- ---- the text

-- The tokens of the text are a sequent of the grammar, none of them too deep; its names are distinct; and its cubes and
-- topes are read as these.
pub record SaysSequent (text : List ℕ) (sequent : Sequent) : Type 0 where
  pub tokens : List Token
  pub lexed : Lexed text tokens
  pub shallow : IsShallow (kinds_of tokens)
  pub raw : RawSequent
  pub parsed : IsSequent text tokens raw
  pub distinct : are_distinct (names_of raw.names) ≡ true
  pub names : sequent.names ≡ names_of raw.names
  pub question : question_of raw ≡ Ok (sequent.context, sequent.goal)

-- the text says no sequent
abbrev pub IsNoSequent : List ℕ → Type 0
IsNoSequent text = (sequent : Sequent) → SaysSequent text sequent → ⊥
