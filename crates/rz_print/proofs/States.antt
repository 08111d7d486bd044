-- Builders with more on top, and in their tables.
use Rattle.std.proofs.Common.{◌≡◌, ℕ, List, [], ◌∷◌, ◌++◌, length, append_assoc, append-nil}
use Rattle.rz_syntax.specs.declared.builder.Builder.{Builder}
use Rattle.rz_syntax.specs.declared.forms.Raw.{Raw}
use Rattle.rz_syntax.specs.declared.forms.Pat.{Pat}
use Rattle.rz_syntax.specs.declared.forms.Bind.{Bind}
use Rattle.rz_syntax.specs.declared.forms.RawFace.{RawFace}
use Rattle.rz_syntax.specs.declared.forms.Shape.{Shape}
use Rattle.rz_syntax.specs.declared.forms.Form.{Form}

-- ---- one more item on top: a place, a form, a pattern, or a list

abbrev pub noted : Builder → ℕ → Builder
noted b at = record b { places = b.places ++ at ∷ [] }

abbrev pub operand : Builder → ℕ → Raw → Builder
operand b start raw = record b { operands = b.operands ++ record { start = start; raw = raw } ∷ [] }

abbrev pub patterned : Builder → Pat → Builder
patterned b pat = record b { patterns = b.patterns ++ pat ∷ [] }

abbrev pub argued : Builder → List Raw → Builder
argued b list = record b { arguments = b.arguments ++ list ∷ [] }

abbrev pub faced : Builder → List RawFace → Builder
faced b list = record b { faces = b.faces ++ list ∷ [] }

abbrev pub grouped : Builder → List Pat → Builder
grouped b list = record b { groups = b.groups ++ list ∷ [] }

abbrev pub bound : Builder → List Bind → Builder
bound b list = record b { binds = b.binds ++ list ∷ [] }

-- ---- more forms and patterns

abbrev pub grown : Builder → List Shape → List Form → Builder
grown b shapes forms = record b { shapes = b.shapes ++ shapes; forms = b.forms ++ forms }

abbrev pub shaped : Builder → List Shape → Builder
shaped b shapes = record b { shapes = b.shapes ++ shapes }

abbrev pub formed : Builder → Form → Builder
formed b new = record b { forms = b.forms ++ new ∷ [] }

-- the form that is made next
abbrev pub joined_raw : List Form → ℕ → Raw
joined_raw forms at = record { form = length forms; at = at }

-- a form on top, of tables that have grown
abbrev pub pushed : Builder → ℕ → Raw → List Shape → List Form → Builder
pushed b start raw shapes forms = operand (grown b shapes forms) start raw

-- a pattern on top
abbrev pub drawn : Builder → Pat → List Shape → Builder
drawn b pat shapes = patterned (shaped b shapes) pat

-- a new form on top
abbrev pub topped : Builder → ℕ → Form → Builder
topped b at new = operand (formed b new) at (joined_raw b.forms at)

-- function types around a body on top
abbrev pub wrapped : Builder → ℕ → List Form × Raw → Builder
wrapped b at whole = operand (record b { forms = whole.0 }) at whole.1

pub grown_none : (b : Builder) → b ≡ grown b [] []
grown_none b = simp append-nil

pub grown_twice : (b : Builder) (s s' : List Shape) (f f' : List Form) → grown (grown b s f) s' f' ≡ grown b (s ++ s') (f ++ f')
grown_twice b s s' f f' = simp append_assoc

pub grown_pushed : (b : Builder) (start : ℕ) (raw : Raw) (s s' : List Shape) (f f' : List Form) → pushed (grown b s f) start raw s' f' ≡ pushed b start raw (s ++ s') (f ++ f')
grown_pushed b start raw s s' f f' = simp append_assoc

-- a new form, where nothing, once and twice more was read before it

pub topped_new : (b : Builder) (at : ℕ) (new : Form) → topped b at new ≡ pushed b at (joined_raw b.forms at) [] (new ∷ [])
topped_new b at new = simp append-nil

pub topped_once : (b : Builder) (at : ℕ) (s : List Shape) (f : List Form) (new : Form) → topped (grown b s f) at new ≡ pushed b at (joined_raw (b.forms ++ f) at) s (f ++ new ∷ [])
topped_once b at s f new = simp append_assoc

pub topped_twice : (b : Builder) (at : ℕ) (s s' : List Shape) (f f' : List Form) (new : Form)
    → topped (grown (grown b s f) s' f') at new ≡ pushed b at (joined_raw ((b.forms ++ f) ++ f') at) (s ++ s') (f ++ (f' ++ new ∷ []))
topped_twice b at s s' f f' new = simp append_assoc
