-- Contexts that are opened in a world, entry by entry.
use Rattle.std.proofs.Common.{◌≡◌, ℕ, zero, suc, ◌+◌, ◌<◌, ◌≤◌, List, [], ◌∷◌, length, drop, get_or, Ok, Err, refl, sym, ap, ◌∙◌, subst, arith}
use Rattle.std.specs.Prelude.{map}
use Rattle.std.proofs.lemmas.List.{drop_all, drop_more}
use Rattle.rz_rules.specs.declared.nodes.Node.{Node}
use Rattle.rz_rules.specs.Context.{OfCube, OfTope, with_entry}
use Rattle.rz_rules.specs.Cube.{binders_of, cubes_of}
use Rattle.rz_rules.specs.Structural.{formed}
use Rattle.rz_rules.specs.Tope.{IsTopeOver}
use Rattle.rz_rules.specs.Tree.{Tree, tree_of}
use Rattle.rz_pool.specs.Pool as pool
use Rattle.rz_pool.specs.Pool.{Contents, IsPool}
use Rattle.rz_pool.proofs.Nodes.{length-Grows}
use Rattle.rz_log.specs.declared.world.World.{World}
use Rattle.rz_log.specs.World.{Grows, IsSound, Says}
use Rattle.rz_log.proofs.Worlds.{grows_pool, says_grown, tree_grown}
use Rattle.rz_syntax.specs.declared.forms.CubeNames.{CubeNames}
use Rattle.rz_syntax.specs.declared.forms.Form.{Form}
use Rattle.rz_syntax.specs.declared.forms.Raw.{Raw}
use Rattle.rz_shape.specs.Reading.{Bindings, Reading, and_then, cube_reading, tope_reading}
use Rattle.rz_shape.proofs.Growth.{AreThere-Grows, bindings_at-Grows}
use Rattle.rz_tope_query.specs.declared.topes.Reader.{Reader}
use Rattle.rz_tope_query.specs.Sequent.{cube_context, tope_context, with_cubes}
use Rattle.rz_tope_query.specs.Parts.{IsNoReading, IsOpened, IsOver, group_context, tope_entry, tope_of}

-- ---- worlds

-- a context stays opened as the world grows
pub opened_grown : (old new : World) (context : Tree) (opened : ℕ × ℕ) → IsSound old → Grows old new → IsOpened old context opened → IsOpened new context opened
opened_grown old new context opened sound grows is =
    let more = length-Grows old.pool.nodes new.pool.nodes grows.nodes in
    let live = is.live in record {
      live = omega (live, more, arith);
      tree = tree_grown old new grows opened.0 is.live ∙ is.tree;
      says = says_grown old new sound grows opened.1 (formed context) is.says;
    }

-- it is opened as the tree of its id
pub opened_self : (w : World) (context : Tree) (opened : ℕ × ℕ) → IsOpened w context opened → IsOpened w (tree_of w.pool.nodes opened.0) opened
opened_self w context opened is = record {
  live = is.live;
  tree = refl;
  says = subst (λ (t : Tree). Says w opened.1 (formed t)) (sym is.tree) is.says;
}

-- the same, in the world as it grew
pub opened_later : (old new : World) (context : Tree) (opened : ℕ × ℕ) → IsSound old → Grows old new → IsOpened old context opened
    → IsOpened new (tree_of new.pool.nodes opened.0) opened
opened_later old new context opened sound grows is = opened_self new context opened (opened_grown old new context opened sound grows is)

pub opened_pool : (w : World) (contents : Contents) (context : Tree) (opened : ℕ × ℕ) → pool.Grows w.pool.nodes contents.nodes → IsPool contents.nodes → IsSound w
    → IsOpened w context opened → IsOpened (record { pool = contents; log = w.log }) context opened
opened_pool w contents context opened grows is sound opened_is =
    opened_grown w (record { pool = contents; log = w.log }) context opened sound (grows_pool w contents grows is sound) opened_is

-- ---- readings

-- what goes on with no reading is none
pub none_then : {A B : Type 0} (reading : Reading A) (next : A → Reading B) → IsNoReading reading → IsNoReading (and_then reading next)
none_then (Ok read) next none answer e = none read refl
none_then (Err fault) next none answer e = absurd cc

-- a change of what is read, and what goes on with that
pub goes_on : {A B C : Type 0} (reading : Reading A) (change : A → B) (next : B → Reading C) (changed : B) → and_then reading (λ read. Ok (change read)) ≡ Ok changed
    → and_then reading (λ read. next (change read)) ≡ next changed
goes_on (Ok read) change next changed e = let same : change read ≡ changed = cc in ap next same
goes_on (Err fault) change next changed e = absurd cc

pub goes_nowhere : {A B C : Type 0} (reading : Reading A) (change : A → B) (next : B → Reading C) → IsNoReading (and_then reading (λ read. Ok (change read)))
    → IsNoReading (and_then reading (λ read. next (change read)))
goes_nowhere (Ok read) change next none answer e = none (change read) refl
goes_nowhere (Err fault) change next none answer e = absurd cc

-- ---- lists that are read item by item

module _ {X : Type 0} (whole : Tree → List X → Reading Tree) (one : Tree → X → Reading Tree)
    (goes : (t : Tree) (x : X) (xs : List X) (next : Tree) → one t x ≡ Ok next → whole t (x ∷ xs) ≡ whole next xs)
    (stops : (t : Tree) (x : X) (xs : List X) → IsNoReading (one t x) → IsNoReading (whole t (x ∷ xs))) where
  split : (xs : List X) (i : ℕ) (x : X) → i < length xs → x ≡ get_or xs i x → drop i xs ≡ x ∷ drop (i + 1) xs
  split xs i x less here = drop_more xs i x less ∙ ap (λ (y : X). y ∷ drop (i + 1) xs) (sym here)

  -- what is left is read as the whole is
  pub item_read : (xs : List X) (i : ℕ) (x : X) (t next : Tree) (all : Reading Tree) → i < length xs → x ≡ get_or xs i x → whole t (drop i xs) ≡ all → one t x ≡ Ok next
      → whole next (drop (i + 1) xs) ≡ all
  item_read xs i x t next all less here so e =
      sym (goes t x (drop (i + 1) xs) next e) ∙ (sym (ap (whole t) (split xs i x less here)) ∙ so)

  pub item_refused : (xs : List X) (i : ℕ) (x : X) (t : Tree) (all : Reading Tree) → i < length xs → x ≡ get_or xs i x → whole t (drop i xs) ≡ all → IsNoReading (one t x)
      → IsNoReading all
  item_refused xs i x t all less here so none =
      subst IsNoReading (sym (ap (whole t) (split xs i x less here)) ∙ so) (stops t x (drop (i + 1) xs) none)

  pub items_read : (xs : List X) (i : ℕ) (t : Tree) (all : Reading Tree) → length xs ≤ i → whole t (drop i xs) ≡ all → whole t [] ≡ all
  items_read xs i t all more so = sym (ap (whole t) (drop_all i xs more)) ∙ so

-- ---- cube entries

-- one entry more
cubes_push : (context cube : Tree) (count : ℕ) → with_cubes context cube (suc count) ≡ with_entry (with_cubes context cube count) (OfCube cube)
cubes_push context cube zero = refl
cubes_push context cube (suc count) = cubes_push (with_entry context (OfCube cube)) cube count

pub cubes_more : (context cube : Tree) (count : ℕ) → with_cubes context cube (count + 1) ≡ with_entry (with_cubes context cube count) (OfCube cube)
cubes_more context cube count =
    let one : count + 1 ≡ suc count = omega arith in
    ap (with_cubes context cube) one ∙ cubes_push context cube count

module _ (forms : List Form) (context : Tree) (group : CubeNames) (groups : List CubeNames) where
  abbrev longer : Tree → Tree
  longer cube = with_cubes context cube (length group.names)

  -- the context of some groups is that of the first and then the others
  pub context_step : (next : Tree) → group_context forms context group ≡ Ok next → cube_context forms context (group ∷ groups) ≡ cube_context forms next groups
  context_step next e =
      goes_on (cube_reading forms (length forms) group.cube) longer (λ (t : Tree). cube_context forms t groups) next e

  pub context_none : IsNoReading (group_context forms context group) → IsNoReading (cube_context forms context (group ∷ groups))
  context_none none = goes_nowhere (cube_reading forms (length forms) group.cube) longer (λ (t : Tree). cube_context forms t groups) none

-- ---- tope entries

module _ (tope : Raw → Reading Tree) (context : Tree) (raw : Raw) where
  abbrev behind : Tree → Tree
  behind phi = with_entry context (OfTope phi)

  pub entry_step : (raws : List Raw) (next : Tree) → tope_entry tope context raw ≡ Ok next → tope_context tope context (raw ∷ raws) ≡ tope_context tope next raws
  entry_step raws next e = goes_on (tope raw) behind (λ (t : Tree). tope_context tope t raws) next e

  pub entry_none : (raws : List Raw) → IsNoReading (tope_entry tope context raw) → IsNoReading (tope_context tope context (raw ∷ raws))
  entry_none raws none = goes_nowhere (tope raw) behind (λ (t : Tree). tope_context tope t raws) none

-- ---- the lists of a sequent

module _ (forms : List Form) where
  pub groups_read : (groups : List CubeNames) (i : ℕ) (group : CubeNames) (t next : Tree) (all : Reading Tree) → i < length groups → group ≡ get_or groups i group
      → cube_context forms t (drop i groups) ≡ all → group_context forms t group ≡ Ok next → cube_context forms next (drop (i + 1) groups) ≡ all
  groups_read = item_read (cube_context forms) (group_context forms) (context_step forms) (context_none forms)

  pub groups_refused : (groups : List CubeNames) (i : ℕ) (group : CubeNames) (t : Tree) (all : Reading Tree) → i < length groups → group ≡ get_or groups i group
      → cube_context forms t (drop i groups) ≡ all → IsNoReading (group_context forms t group) → IsNoReading all
  groups_refused = item_refused (cube_context forms) (group_context forms) (context_step forms) (context_none forms)

  pub groups_end : (groups : List CubeNames) (i : ℕ) (t : Tree) (all : Reading Tree) → length groups ≤ i → cube_context forms t (drop i groups) ≡ all → Ok t ≡ all
  groups_end = items_read (cube_context forms) (group_context forms) (context_step forms) (context_none forms)

module _ (tope : Raw → Reading Tree) where
  pub raws_read : (raws : List Raw) (i : ℕ) (raw : Raw) (t next : Tree) (all : Reading Tree) → i < length raws → raw ≡ get_or raws i raw
      → tope_context tope t (drop i raws) ≡ all → tope_entry tope t raw ≡ Ok next → tope_context tope next (drop (i + 1) raws) ≡ all
  raws_read = item_read (tope_context tope) (tope_entry tope) (entry_step tope) (entry_none tope)

  pub raws_refused : (raws : List Raw) (i : ℕ) (raw : Raw) (t : Tree) (all : Reading Tree) → i < length raws → raw ≡ get_or raws i raw
      → tope_context tope t (drop i raws) ≡ all → IsNoReading (tope_entry tope t raw) → IsNoReading all
  raws_refused = item_refused (tope_context tope) (tope_entry tope) (entry_step tope) (entry_none tope)

  pub raws_end : (raws : List Raw) (i : ℕ) (t : Tree) (all : Reading Tree) → length raws ≤ i → tope_context tope t (drop i raws) ≡ all → Ok t ≡ all
  raws_end = items_read (tope_context tope) (tope_entry tope) (entry_step tope) (entry_none tope)

-- a tope entry binds nothing
entry_binds : (context next : Tree) (reading : Reading Tree) → and_then reading (λ phi. Ok (with_entry context (OfTope phi))) ≡ Ok next → cubes_of next ≡ cubes_of context
entry_binds context next (Ok phi) e = let same : with_entry context (OfTope phi) ≡ next = cc in sym (ap cubes_of same)
entry_binds context next (Err fault) e = absurd cc

pub entry_cubes : (tope : Raw → Reading Tree) (context next : Tree) (raw : Raw) → tope_entry tope context raw ≡ Ok next → cubes_of next ≡ cubes_of context
entry_cubes tope context next raw e = entry_binds context next (tope raw) e

-- tope entries bind nothing
pub context_cubes : (tope : Raw → Reading Tree) (context whole : Tree) (raws : List Raw) → tope_context tope context raws ≡ Ok whole → cubes_of whole ≡ cubes_of context
context_cubes tope context whole [] e = let same : context ≡ whole = cc in sym (ap cubes_of same)
context_cubes tope context whole (raw ∷ raws) e = first (tope raw) e (λ phi. context_cubes tope (with_entry context (OfTope phi)) whole raws) where
  first : (reading : Reading Tree) → and_then reading (λ phi. tope_context tope (with_entry context (OfTope phi)) raws) ≡ Ok whole
      → ((phi : Tree) → tope_context tope (with_entry context (OfTope phi)) raws ≡ Ok whole → cubes_of whole ≡ cubes_of context) → cubes_of whole ≡ cubes_of context
  first (Ok phi) h rest = rest phi h
  first (Err fault) h rest = absurd cc

-- ---- readers

-- a reader stays one over a context as the pool grows, and reads the same
pub over_grown : (old new : List Node) (context : Tree) (reader : Reader) → pool.Grows old new → IsOver old context reader → IsOver new context reader
over_grown old new context reader grows is = record {
  there = AreThere-Grows old new reader.variables grows is.there;
  cubes = ap (λ (bound : Bindings). bound.cubes) (bindings_at-Grows old new reader.variables grows is.there) ∙ is.cubes;
}

pub over_same : (nodes : List Node) (context other : Tree) (reader : Reader) → cubes_of other ≡ cubes_of context → IsOver nodes context reader → IsOver nodes other reader
over_same nodes context other reader same is = record { there = is.there; cubes = is.cubes ∙ sym same }

pub topes_kept : (old new : List Node) (context : Tree) (reader : Reader) → pool.Grows old new → IsOver old context reader → tope_of new reader ≡ tope_of old reader
topes_kept old new context reader grows is =
    ap (λ (bound : Bindings). tope_reading bound reader.forms (length reader.forms)) (bindings_at-Grows old new reader.variables grows is.there)

-- a tope that a reader reads is over its context
pub over_there : (nodes : List Node) (context there tope : Tree) (reader : Reader) → IsOver nodes context reader → there ≡ context
    → IsTopeOver (record { cubes = map (tree_of nodes) reader.variables.cubes.items }) tope → IsTopeOver (binders_of there) tope
over_there nodes context there tope reader is here over =
    subst (λ (cubes : List Tree). IsTopeOver (record { cubes = cubes }) tope) (is.cubes ∙ sym (ap cubes_of here)) over
