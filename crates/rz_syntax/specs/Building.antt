-- What the actions make of what was read: forms, patterns and commands.
use Rattle.std.specs.Prelude.{ℕ, ◌+◌, ◌-◌, ◌≤◌, List, [], ◌∷◌, ◌++◌, Option, None, Some, length, take, map, unwrap_or, slice_get, slice_range}
use Rattle.rz_lex.specs.declared.token.Token.{Token}
use Rattle.rz_lex.specs.Text.{IsWhole}
use Rattle.rz_syntax.specs.declared.action.Action.{Action}
use Rattle.rz_syntax.specs.declared.action.Action.TheVariants as action
use Rattle.rz_syntax.specs.declared.action.Leaf.{Leaf}
use Rattle.rz_syntax.specs.declared.action.Leaf.TheVariants as leaf
use Rattle.rz_syntax.specs.declared.action.Join.{Join}
use Rattle.rz_syntax.specs.declared.action.Join.TheVariants as join
use Rattle.rz_syntax.specs.declared.action.Step.{Step}
use Rattle.rz_syntax.specs.declared.action.Step.TheVariants.{Take, Act}
use Rattle.rz_syntax.specs.declared.forms.Raw.{Raw}
use Rattle.rz_syntax.specs.declared.forms.Pat.{Pat}
use Rattle.rz_syntax.specs.declared.forms.Shape.{Shape}
use Rattle.rz_syntax.specs.declared.forms.Shape.TheVariants as shape
use Rattle.rz_syntax.specs.declared.forms.Word.{Word}
use Rattle.rz_syntax.specs.declared.forms.Bind.{Bind}
use Rattle.rz_syntax.specs.declared.forms.RawFace.{RawFace}
use Rattle.rz_syntax.specs.declared.forms.Form.{Form}
use Rattle.rz_syntax.specs.declared.forms.Form.TheVariants as form
use Rattle.rz_syntax.specs.declared.forms.Command.{Command}
use Rattle.rz_syntax.specs.declared.forms.Command.TheVariants as command
use Rattle.rz_syntax.specs.declared.forms.Commands.{Commands}
use Rattle.rz_syntax.specs.declared.forms.CubeNames.{CubeNames}
use Rattle.rz_syntax.specs.declared.forms.RawSequent.{RawSequent}
use Rattle.rz_syntax.specs.declared.builder.Operand.{Operand}
use Rattle.rz_syntax.specs.declared.builder.Builder.{Builder}

-- ---- places, within the command: of the token that was taken last, and of the next one, where
-- so many tokens were taken

unfoldable pub last_place : Builder → ℕ → ℕ
last_place b read = read - 1 - b.first

unfoldable pub next_place : Builder → ℕ → ℕ
next_place b read = read - b.first

-- the token's bytes are whole characters of the text, and they stand in order
pub record IsSpan (text : List ℕ) (token : Token) : Type 0 where
  pub whole : IsWhole text token
  pub forward : token.from ≤ token.to

-- the bytes of a token
abbrev pub bytes_of : List ℕ → Option Token → List ℕ
bytes_of text None = []
bytes_of text (Some token) = slice_range text token.from token.to

-- the bytes of the token that was taken last
unfoldable pub last_bytes : List ℕ → List Token → ℕ → List ℕ
last_bytes text tokens read = bytes_of text (slice_get tokens (read - 1))

-- ---- stacks: the item on top, or another where there is none, and the items below

abbrev pub top : {T : Type 0} → T → List T → T
top other items = unwrap_or (slice_get items (length items - 1)) other

abbrev pub below : {T : Type 0} → List T → List T
below items = take (length items - 1) items

abbrev pub no_raw : Raw
no_raw = record { form = 0; at = 0 }

abbrev pub no_operand : Operand
no_operand = record { start = 0; raw = no_raw }

abbrev pub no_pattern : Pat
no_pattern = record { shape = 0; at = 0 }

abbrev pub no_word : Word
no_word = record { name = []; at = 0 }

-- ---- what is taken: the last place, form, pattern, arguments, faces, patterns of a binder, and
-- binders, and what is left

unfoldable pub top_place : Builder → ℕ
top_place b = top 0 b.places

unfoldable pub without_place : Builder → Builder
without_place b = record b { places = below b.places }

unfoldable pub top_operand : Builder → Operand
top_operand b = top no_operand b.operands

unfoldable pub without_operand : Builder → Builder
without_operand b = record b { operands = below b.operands }

unfoldable pub top_pattern : Builder → Pat
top_pattern b = top no_pattern b.patterns

unfoldable pub without_pattern : Builder → Builder
without_pattern b = record b { patterns = below b.patterns }

unfoldable pub top_arguments : Builder → List Raw
top_arguments b = top [] b.arguments

unfoldable pub without_arguments : Builder → Builder
without_arguments b = record b { arguments = below b.arguments }

unfoldable pub top_faces : Builder → List RawFace
top_faces b = top [] b.faces

unfoldable pub without_faces : Builder → Builder
without_faces b = record b { faces = below b.faces }

unfoldable pub top_group : Builder → List Pat
top_group b = top [] b.groups

unfoldable pub without_group : Builder → Builder
without_group b = record b { groups = below b.groups }

unfoldable pub top_binds : Builder → List Bind
top_binds b = top [] b.binds

unfoldable pub without_binds : Builder → Builder
without_binds b = record b { binds = below b.binds }

-- ---- what is left there

unfoldable pub with_place : Builder → ℕ → Builder
with_place b at = record b { places = b.places ++ at ∷ [] }

unfoldable pub with_operand : Builder → ℕ → Raw → Builder
with_operand b start raw =
    record b { operands = b.operands ++ record { start = start; raw = raw } ∷ [] }

-- a new form, whose tokens begin at a place, at another place
unfoldable pub with_form : Builder → ℕ → ℕ → Form → Builder
with_form b start at new =
    with_operand (record b { forms = b.forms ++ new ∷ [] }) start
    (record { form = length b.forms; at = at })

-- a new pattern at a place
unfoldable pub with_pattern : Builder → ℕ → Shape → Builder
with_pattern b at new =
    record b {
      shapes = b.shapes ++ new ∷ [];
      patterns = b.patterns
          ++ record { shape = length b.shapes; at = at } ∷ [];
    }

unfoldable pub with_arguments : Builder → List Raw → Builder
with_arguments b list = record b { arguments = b.arguments ++ list ∷ [] }

unfoldable pub with_faces : Builder → List RawFace → Builder
with_faces b list = record b { faces = b.faces ++ list ∷ [] }

unfoldable pub with_group : Builder → List Pat → Builder
with_group b list = record b { groups = b.groups ++ list ∷ [] }

unfoldable pub with_binds : Builder → List Bind → Builder
with_binds b list = record b { binds = b.binds ++ list ∷ [] }

unfoldable pub with_command : Builder → Command → Builder
with_command b new = record b { commands = b.commands ++ new ∷ [] }

-- ---- lists that are being read

abbrev pub add_argument : Builder → Builder
add_argument b =
    let rest = without_operand b in
    with_arguments (without_arguments rest) (top_arguments rest ++ (top_operand b).raw ∷ [])

-- a tope, and then a term
abbrev pub add_face : Builder → Builder
add_face b =
    let rest = without_operand (without_operand b) in
    with_faces (without_faces rest) (top_faces rest
    ++ record { tope = (top_operand (without_operand b)).raw; term = (top_operand b).raw } ∷ [])

abbrev pub add_pattern : Builder → Builder
add_pattern b =
    let rest = without_pattern b in
    with_group (without_group rest) (top_group rest ++ top_pattern b ∷ [])

abbrev pub add_untyped : Builder → Builder
add_untyped b =
    let rest = without_pattern b in
    with_binds (without_binds rest) (top_binds rest
    ++ record { pat = top_pattern b; of = None; tope = None } ∷ [])

-- one binder for each pattern, all with the same type and tope
abbrev pub bind_each : List Pat → Option Raw → Option Raw → List Bind
bind_each patterns of tope = map (λ pat. record { pat = pat; of = of; tope = tope }) patterns

abbrev pub add_binds : Builder → Option Raw → Option Raw → Builder
add_binds b of tope =
    let rest = without_group b in
    with_binds (without_binds rest) (top_binds rest ++ bind_each (top_group b) of tope)

abbrev pub add_typed : Builder → Builder
add_typed b = add_binds (without_operand b) (Some (top_operand b).raw) None

-- a type, and then a tope
abbrev pub add_restricted : Builder → Builder
add_restricted b =
    add_binds (without_operand (without_operand b)) (Some (top_operand (without_operand b)).raw)
    (Some (top_operand b).raw)

-- ---- patterns

abbrev pub pair_pattern : Builder → Builder
pair_pattern b =
    let rest = without_place b in
    with_pattern (without_pattern (without_pattern rest)) (top_place b)
    (shape.Pair (top_pattern (without_pattern rest)) (top_pattern rest))

-- ---- forms

abbrev pub leaf_form : Leaf → Form
leaf_form leaf.Universe = form.Universe
leaf_form leaf.CubeSort = form.CubeSort
leaf_form leaf.TopeSort = form.TopeSort
leaf_form leaf.CubeOne = form.CubeOne
leaf_form leaf.CubeTwo = form.CubeTwo
leaf_form leaf.Star = form.Star
leaf_form leaf.EndZero = form.EndZero
leaf_form leaf.EndOne = form.EndOne
leaf_form leaf.Top = form.Top
leaf_form leaf.Bottom = form.Bottom
leaf_form leaf.UnitType = form.UnitType
leaf_form leaf.UnitTerm = form.UnitTerm
leaf_form leaf.RecBot = form.RecBot
leaf_form leaf.Refl = form.Refl

abbrev pub join_form : Join → Raw → Raw → Form
join_form join.And left right = form.And left right
join_form join.Or left right = form.Or left right
join_form join.SamePoint left right = form.SamePoint left right
join_form join.AtMost left right = form.AtMost left right
join_form join.Equal left right = form.Equal left right
join_form join.Product left right = form.Product left right
join_form join.As left right = form.As left right

-- two forms, the left one first: it begins where the left one's tokens begin
abbrev pub join_two : Builder → Join → Builder
join_two b how =
    let left = top_operand (without_operand b) in
    with_form (without_operand (without_operand b)) left.start left.start
    (join_form how left.raw (top_operand b).raw)

-- the left side, the type, and the right side
abbrev pub equal_at : Builder → Builder
equal_at b =
    let left = top_operand (without_operand (without_operand b)) in
    with_form (without_operand (without_operand (without_operand b))) left.start left.start
    (form.EqualAt (top_operand (without_operand b)).raw left.raw (top_operand b).raw)

abbrev pub first_part : Builder → Builder
first_part b =
    let rest = without_place b in
    with_form (without_operand rest) (top_place b) (top_place b) (form.First (top_operand rest).raw)

abbrev pub second_part : Builder → Builder
second_part b =
    let rest = without_place b in
    with_form (without_operand rest) (top_place b) (top_place b)
    (form.Second (top_operand rest).raw)

-- without an argument the form stays
abbrev pub apply_to : Builder → Operand → List Raw → Builder
apply_to b head [] = with_operand b head.start head.raw
apply_to b head (first ∷ others) =
    with_form b head.start head.start (form.App head.raw (first ∷ others))

abbrev pub apply : Builder → Builder
apply b =
    let rest = without_arguments b in
    apply_to (without_operand rest) (top_operand rest) (top_arguments b)

-- the form in brackets is the form inside, and its tokens begin at the bracket
abbrev pub bracketed : Builder → Builder
bracketed b =
    let rest = without_place b in
    with_operand (without_operand rest) (top_place b) (top_operand rest).raw

abbrev pub pair : Builder → Builder
pair b =
    let rest = without_place b in
    with_form (without_operand (without_operand rest)) (top_place b) (top_place b)
    (form.Pair (top_operand (without_operand rest)).raw (top_operand rest).raw)

abbrev pub refl_at : Builder → Builder
refl_at b =
    let rest = without_place b in
    with_form (without_operand rest) (top_place b) (top_place b)
    (form.ReflAt (top_operand rest).raw None)

abbrev pub refl_typed : Builder → Builder
refl_typed b =
    let rest = without_place b in
    with_form (without_operand (without_operand rest)) (top_place b) (top_place b)
    (form.ReflAt (top_operand (without_operand rest)).raw (Some (top_operand rest).raw))

abbrev pub induction : Builder → Builder
induction b =
    let rest = without_place b in
    with_form (without_arguments rest) (top_place b) (top_place b) (form.IdJ (top_arguments rest))

abbrev pub cases : Builder → Builder
cases b =
    let rest = without_place b in
    with_form (without_faces rest) (top_place b) (top_place b) (form.RecOr (top_faces rest))

abbrev pub restrict : Builder → Builder
restrict b =
    let rest = without_faces b in
    with_form (without_operand rest) (top_operand rest).start (top_operand rest).start
    (form.Restrict (top_operand rest).raw (top_faces b))

-- A -> B is a binder without a name, which stands where A does
abbrev pub arrow : Builder → Builder
arrow b =
    let domain = top_operand (without_operand b) in
    let rest = without_operand (without_operand b) in
    with_form (record rest { shapes = rest.shapes ++ shape.Blank ∷ [] }) domain.start domain.start
    (form.Arrow (record {
      pat = record { shape = length rest.shapes; at = domain.raw.at };
      of = Some domain.raw;
      tope = None;
    }) (top_operand b).raw)

-- function types around a body, each at its binder's pattern: the forms then, and the outermost
abbrev pub nest : List Form → List Bind → Raw → List Form × Raw
nest forms [] body = (forms, body)
nest forms (bind ∷ binds) body =
    let inner = nest forms binds body in
    (inner.0 ++ form.Arrow bind inner.1 ∷ [], record { form = length inner.0; at = bind.pat.at })

-- the same, but the outermost stands at a place
abbrev pub wrap : List Form → ℕ → List Bind → Raw → List Form × Raw
wrap forms at [] body = (forms, body)
wrap forms at (bind ∷ binds) body =
    let inner = nest forms binds body in
    (inner.0 ++ form.Arrow bind inner.1 ∷ [], record { form = length inner.0; at = at })

abbrev pub arrows : Builder → Builder
arrows b =
    let rest = without_binds (without_operand (without_place b)) in
    let bound = top_binds (without_operand (without_place b)) in
    let whole = wrap rest.forms (top_place b) bound (top_operand (without_place b)).raw in
    with_operand (record rest { forms = whole.0 }) (top_place b) whole.1

-- a pattern, a type, and the form behind the comma
abbrev pub sigma : Builder → Builder
sigma b =
    let rest = without_place b in
    let inner = without_operand (without_operand rest) in
    let of = Some (top_operand (without_operand rest)).raw in
    with_form (without_pattern inner) (top_place b) (top_place b)
    (form.Sigma (record { pat = top_pattern inner; of = of; tope = None }) (top_operand rest).raw)

abbrev pub lambda : Builder → Builder
lambda b =
    let rest = without_operand (without_place b) in
    with_form (without_binds rest) (top_place b) (top_place b)
    (form.Lambda (top_binds rest) (top_operand (without_place b)).raw)

-- ---- commands

-- a command begins at the token that was taken last
unfoldable pub begin : Builder → ℕ → Builder
begin b read = record b { first = read - 1; name = None; words = [] }

unfoldable pub with_name : Builder → Word → Builder
with_name b word = record b { name = Some word }

unfoldable pub add_word : Builder → Word → Builder
add_word b word = record b { words = b.words ++ word ∷ [] }

unfoldable pub top_name : Builder → Word
top_name b = unwrap_or b.name no_word

unfoldable pub without_name : Builder → Builder
without_name b = record b { name = None }

unfoldable pub without_words : Builder → Builder
without_words b = record b { words = [] }

abbrev pub define : Builder → ℕ → Builder
define b read =
    let rest = without_operand (without_operand b) in
    let nameless = without_name rest in
    let wordless = without_words nameless in
    with_command (without_binds wordless)
    (command.Def b.first (next_place b read) (top_name rest) nameless.words (top_binds wordless)
    (top_operand (without_operand b)).raw (top_operand b).raw)

abbrev pub postulate : Builder → ℕ → Builder
postulate b read =
    let rest = without_operand b in
    let nameless = without_name rest in
    let wordless = without_words nameless in
    with_command (without_binds wordless)
    (command.Post b.first (next_place b read) (top_name rest) nameless.words (top_binds wordless)
    (top_operand b).raw)

abbrev pub check : Builder → ℕ → Builder
check b read =
    let term = top_operand (without_operand b) in
    with_command (without_operand (without_operand b))
    (command.Check b.first (next_place b read) term.raw (top_operand b).raw)

abbrev pub compute : Builder → ℕ → Builder
compute b read =
    with_command (without_operand b)
    (command.Compute b.first (next_place b read) (top_operand b).raw)

abbrev pub section : Builder → ℕ → Builder
section b read = with_command (without_name b) (command.Section b.first (next_place b read) b.name)

abbrev pub end : Builder → ℕ → Builder
end b read = with_command (without_name b) (command.End b.first (next_place b read) b.name)

abbrev pub assume : Builder → ℕ → Builder
assume b read =
    let rest = without_operand b in
    with_command (without_words rest)
    (command.Assume b.first (next_place b read) rest.words (top_operand b).raw)

abbrev pub set_option : Builder → ℕ → Builder
set_option b read = with_command b (command.Option b.first (next_place b read))

-- ---- sequents

unfoldable pub with_names : Builder → CubeNames → Builder
with_names b names = record b { entries = b.entries ++ names ∷ [] }

-- names, and then their cube
abbrev pub add_names : Builder → Builder
add_names b =
    let rest = without_operand b in
    with_names (without_words rest) (record { names = rest.words; cube = (top_operand b).raw })

-- ---- all actions

abbrev pub last_word : List ℕ → List Token → ℕ → Builder → Word
last_word text tokens read b = record { name = last_bytes text tokens read; at = last_place b read }

abbrev pub name_pattern : List ℕ → List Token → ℕ → Builder → Builder
name_pattern text tokens read b =
    let word = last_word text tokens read b in
    with_pattern b word.at (shape.Named word.name)

abbrev pub named : List ℕ → List Token → ℕ → Builder → Builder
named text tokens read b =
    let word = last_word text tokens read b in
    with_form b word.at word.at (form.Named word.name)

abbrev pub with_leaf : Builder → ℕ → Leaf → Builder
with_leaf b read leaf = with_form b (last_place b read) (last_place b read) (leaf_form leaf)

-- What an action makes, where so many tokens of the text were taken.
unfoldable pub after : List ℕ → List Token → ℕ → Action → Builder → Builder
after text tokens read action.Here b = with_place b (next_place b read)
after text tokens read action.OpenArguments b = with_arguments b []
after text tokens read action.OpenFaces b = with_faces b []
after text tokens read action.OpenPatterns b = with_group b []
after text tokens read action.OpenBinds b = with_binds b []
after text tokens read action.AddArgument b = add_argument b
after text tokens read action.AddFace b = add_face b
after text tokens read action.AddPattern b = add_pattern b
after text tokens read action.AddUntyped b = add_untyped b
after text tokens read action.AddTyped b = add_typed b
after text tokens read action.AddRestricted b = add_restricted b
after text tokens read action.NamePattern b = name_pattern text tokens read b
after text tokens read action.BlankPattern b = with_pattern b (last_place b read) shape.Blank
after text tokens read action.PairPattern b = pair_pattern b
after text tokens read action.Named b = named text tokens read b
after text tokens read (action.Leaf leaf) b = with_leaf b read leaf
after text tokens read (action.Join join) b = join_two b join
after text tokens read action.EqualAt b = equal_at b
after text tokens read action.First b = first_part b
after text tokens read action.Second b = second_part b
after text tokens read action.Apply b = apply b
after text tokens read action.Bracketed b = bracketed b
after text tokens read action.Pair b = pair b
after text tokens read action.ReflAt b = refl_at b
after text tokens read action.ReflTyped b = refl_typed b
after text tokens read action.IdJ b = induction b
after text tokens read action.RecOr b = cases b
after text tokens read action.Restrict b = restrict b
after text tokens read action.Arrow b = arrow b
after text tokens read action.Arrows b = arrows b
after text tokens read action.Sigma b = sigma b
after text tokens read action.Lambda b = lambda b
after text tokens read action.Begin b = begin b read
after text tokens read action.CommandName b = with_name b (last_word text tokens read b)
after text tokens read action.AddWord b = add_word b (last_word text tokens read b)
after text tokens read action.AddNames b = add_names b
after text tokens read action.Define b = define b read
after text tokens read action.Postulate b = postulate b read
after text tokens read action.Check b = check b read
after text tokens read action.Compute b = compute b read
after text tokens read action.Section b = section b read
after text tokens read action.End b = end b read
after text tokens read action.Assume b = assume b read
after text tokens read action.SetOption b = set_option b read

-- what steps make, one after another
abbrev pub built : List ℕ → List Token → ℕ → List Step → Builder → Builder
built text tokens read [] b = b
built text tokens read (Take ∷ steps) b = built text tokens (read + 1) steps b
built text tokens read (Act action ∷ steps) b =
    built text tokens read steps (after text tokens read action b)

-- before anything was read
abbrev pub nothing_read : Builder
nothing_read =
    record {
      first = 0;
      places = [];
      operands = [];
      patterns = [];
      arguments = [];
      faces = [];
      groups = [];
      binds = [];
      name = None;
      words = [];
      entries = [];
      shapes = [];
      forms = [];
      commands = [];
    }

-- the commands that were read, with their forms and patterns
abbrev pub commands_of : Builder → Commands
commands_of b = record { shapes = b.shapes; forms = b.forms; list = b.commands }

-- what the steps make of the tokens of a text
abbrev pub commands_by : List ℕ → List Token → List Step → Commands
commands_by text tokens steps = commands_of (built text tokens 0 steps nothing_read)

-- the sequent that was read, with its forms and patterns
abbrev pub sequent_of : Builder → RawSequent
sequent_of b =
    record {
      shapes = b.shapes;
      forms = b.forms;
      names = b.entries;
      hypotheses = top_arguments b;
      goal = (top_operand b).raw;
    }

-- what the steps make of the tokens of a text, as a sequent
abbrev pub sequent_by : List ℕ → List Token → List Step → RawSequent
sequent_by text tokens steps = sequent_of (built text tokens 0 steps nothing_read)
