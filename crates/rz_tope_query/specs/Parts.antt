-- What is read on the way from a text to its question.
use Rattle.std.specs.Prelude.{◌≡◌, ℕ, ◌<◌, List, length, map, reverse, Result, Ok, Err}
use Rattle.std.specs.Borrow.{Bor}
use Rattle.std.specs.HashMap.{HashMap, get_by}
use Rattle.std.specs.Str.{bytes_eq}
use Rattle.rz_rules.specs.Context.{OfTope, with_entry}
use Rattle.rz_rules.specs.Cube.{binders_of, cubes_of}
use Rattle.rz_rules.specs.Structural.{formed}
use Rattle.rz_rules.specs.Tope.{IsTopeOver}
use Rattle.rz_rules.specs.Tree.{Tree, tree_of}
use Rattle.rz_rules.specs.declared.nodes.Node.{Node}
use Rattle.rz_rules.specs.declared.verdicts.Refusal.{Refusal}
use Rattle.rz_pool.specs.declared.keys.HashKey.{HashKey}
use Rattle.rz_log.specs.declared.world.World.{World}
use Rattle.rz_log.specs.World.{Says}
use Rattle.rz_lex.specs.declared.token.Token.{Token}
use Rattle.rz_lex.specs.Text.{Lexed}
use Rattle.rz_syntax.specs.declared.forms.Raw.{Raw}
use Rattle.rz_syntax.specs.declared.forms.Form.{Form}
use Rattle.rz_syntax.specs.declared.forms.CubeNames.{CubeNames}
use Rattle.rz_syntax.specs.declared.forms.RawSequent.{RawSequent}
use Rattle.rz_syntax.specs.Grammar.{kinds_of}
use Rattle.rz_syntax.specs.Levels.{IsShallow}
use Rattle.rz_syntax.specs.Source.{IsSequent}
use Rattle.rz_shape.specs.declared.fault.ShapeFault.{ShapeFault}
use Rattle.rz_shape.specs.declared.fault.ShapeFault.TheVariants.{Refused}
use Rattle.rz_shape.specs.Answer.{AreThere, bindings_at}
use Rattle.rz_shape.specs.Reading.{Reading, and_then, cube_reading, tope_reading}
use Rattle.rz_tope_query.specs.declared.topes.Reader.{Reader}
use Rattle.rz_tope_query.specs.declared.topes.Asked.{Asked}
use Rattle.rz_tope_query.specs.Sequent.{place_of, with_cubes}

-- the tokens of a text are this sequent of the grammar, and none of them is too deep
pub record IsRawOf (text : List ℕ) (raw : RawSequent) : Type 0 where
  pub tokens : List Token
  pub lexed : Lexed text tokens
  pub shallow : IsShallow (kinds_of tokens)
  pub parsed : IsSequent text tokens raw

-- each name has the place that it has among some names, counted from the last one
abbrev pub HasPlaces : List (List ℕ) → HashMap (Bor (List ℕ)) ℕ HashKey → Type 0
HasPlaces names places = (name : List ℕ) → get_by (λ key. bytes_eq name key.now) places ≡ place_of name (reverse names)

-- the answer is a refusal
abbrev pub IsRefused : Result ℕ ShapeFault → Type 0
IsRefused answer = (why : Refusal) × (at : ℕ) × (answer ≡ Err (Refused why at))

-- nothing is read
abbrev pub IsNoReading : {T : Type 0} → Reading T → Type 0
IsNoReading {T} reading = (read : T) → reading ≡ Ok read → ⊥

-- an id is that of a context, and a step says that it is formed
pub record IsOpened (w : World) (context : Tree) (opened : ℕ × ℕ) : Type 0 where
  pub live : opened.0 < length w.pool.nodes
  pub tree : tree_of w.pool.nodes opened.0 ≡ context
  pub says : Says w opened.1 (formed context)

-- the context that is read
pub record HasOpened (w : World) (reading : Reading Tree) (opened : ℕ × ℕ) : Type 0 where
  pub context : Tree
  pub is : reading ≡ Ok context
  pub opened_is : IsOpened w context opened

-- a context with an entry more for each name of a group
abbrev pub group_context : List Form → Tree → CubeNames → Reading Tree
group_context forms context group =
    and_then (cube_reading forms (length forms) group.cube) (λ cube. Ok (with_cubes context cube (length group.names)))

-- a context with a tope as an entry more
abbrev pub tope_entry : (Raw → Reading Tree) → Tree → Raw → Reading Tree
tope_entry tope context raw = and_then (tope raw) (λ phi. Ok (with_entry context (OfTope phi)))

-- the tope that a reader reads a form as
abbrev pub tope_of : List Node → Reader → Raw → Reading Tree
tope_of nodes reader = tope_reading (bindings_at nodes reader.variables) reader.forms (length reader.forms)

-- the bound names of a reader stand for points over a context
pub record IsOver (nodes : List Node) (context : Tree) (reader : Reader) : Type 0 where
  pub there : AreThere nodes reader.variables
  pub cubes : map (tree_of nodes) reader.variables.cubes.items ≡ cubes_of context

-- the context and the goal that are read
pub record HasAsked (w : World) (reading : Reading (Tree × Tree)) (asked : Asked) : Type 0 where
  pub context : Tree
  pub goal : Tree
  pub is : reading ≡ Ok (context, goal)
  pub opened_is : IsOpened w context (asked.context, asked.at)
  pub live : asked.goal < length w.pool.nodes
  pub tree : tree_of w.pool.nodes asked.goal ≡ goal
  pub over : IsTopeOver (binders_of context) goal
