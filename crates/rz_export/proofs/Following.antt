-- Lines that are numbered anew: each fits, says what it said, and follows.
use Rattle.std.proofs.Common.{◌≡◌, ℕ, zero, suc, ◌<◌, ◌^◌, List, [], ◌∷◌, ◌++◌, length, take, drop, map, All, Some, slice_get, refl, sym, ap, subst, ◌∙◌, append_assoc, arith}
use Rattle.std.specs.List.{AllZip}
use Rattle.std.proofs.lemmas.List.{append-nil, length-map, length-take, map-append, take-append-drop}
use Rattle.std.proofs.lemmas.List.Elements.{All-cons}
use Rattle.std.proofs.lemmas.Option.{slice_get_within, slice_get-get_or, get_or_from_slice_get}
use Rattle.rz_rules.specs.declared.kinds.Sort.{Sort}
use Rattle.rz_rules.specs.declared.judgments.Judgment.{Judgment}
use Rattle.rz_rules.specs.declared.judgments.Line.{Line}
use Rattle.rz_rules.specs.declared.nodes.Node.{Node}
use Rattle.rz_rules.specs.declared.rows.Row.{Row}
use Rattle.rz_rules.specs.Tree.{Tree, At, AreTrees, IsTree, blank, sort_of, tree_at, tree_of, trees_in, trees_of}
use Rattle.rz_rules.specs.Judgment.{IsStatement, Statement, context_of, ids_of, parts_of, statement}
use Rattle.rz_rules.specs.Derivation.{Applies, Follows, IsScoped}
use Rattle.rz_rules.specs.Table.{rule_of}
use Rattle.rz_rules.specs.File.{FileState, StepFits, StepItem, extended, statement_at, step_over}
use Rattle.rz_pool.proofs.Nodes.{slice_get-append}
use Rattle.rz_log.specs.declared.world.World.{World}
use Rattle.rz_log.specs.Log.{IsLineOver, judgments_of, statements_of, step_of}
use Rattle.rz_log.specs.Reachable.{IsRising}
use Rattle.rz_log.specs.World.{IsSound, Says, statements_in}
use Rattle.rz_log.proofs.Worlds.{statements_append}
use Rattle.rz_export.specs.Moves.{AreMovedLines, ArePlaces, IsMovedJudgment, IsMovedLine}
use Rattle.rz_export.proofs.Places.{looked_up, place_before, places_agree, places_within}
use Rattle.rz_export.proofs.Runs.{Runs, runs_cons, runs_none}

-- the sorts of a judgment's trees
sort_from : (sort : Sort) (tree : Tree) → IsTree sort tree → sort_of tree ≡ sort
sort_from sort (At kind number name kids) is = is.0

sorts_from : (sorts : List Sort) (ts : List Tree) → AreTrees sorts (trees_of ts) → map sort_of ts ≡ sorts
sorts_from [] [] is = refl
sorts_from [] (t ∷ ts) is = absurd is
sorts_from (sort ∷ sorts) [] is = absurd is
sorts_from (sort ∷ sorts) (t ∷ ts) is =
    let first = sort_from sort t is.0 in
    let rest = sorts_from sorts ts is.1 in
    λ i. first i ∷ rest i

pub length_said : (nodes : List Node) (lines : List Line) → length (statements_of nodes lines) ≡ length lines
length_said nodes lines = length-map (judgments_of lines) (statement (trees_in nodes)) ∙ length-map lines (λ line. line.says)

-- numbers at which a list has something are below its length
pub numbers_within : {X : Type 0} (xs : List X) (places : List ℕ) (found : List X) → map (slice_get xs) places ≡ map (λ x. Some x) found
    → All (λ place. place < length xs) places
numbers_within xs [] found e = λ k d l. absurd (omega arith)
numbers_within xs (place ∷ places) [] e = absurd cc
numbers_within xs (place ∷ places) (x ∷ found) e =
    let one : slice_get xs place ≡ Some x = cc in
    let others : map (slice_get xs) places ≡ map (λ y. Some y) found = cc in
    All-cons (λ p. p < length xs) place places (slice_get_within xs place x one) (numbers_within xs places found others)

-- what a step says
pub said_there : (nodes : List Node) (lines : List Line) (step : ℕ) (line : Line) → slice_get lines step ≡ Some line
    → slice_get (statements_of nodes lines) step ≡ Some (statement (trees_in nodes) line.says)
said_there nodes [] step line at = absurd cc
said_there nodes (first ∷ lines) zero line at =
    let same : first ≡ line = cc in
    ap (λ (l : Line). Some (statement (trees_in nodes) l.says)) same
said_there nodes (first ∷ lines) (suc step) line at = said_there nodes lines step line at

-- a judgment says of the trees in the list what it said
module _ (nodes : List Node) (ids : List ℕ) where
  abbrev listed : List Tree
  listed = map (tree_of nodes) ids

  ids_say : (olds news : List ℕ) → ArePlaces ids olds news → map (tree_at listed) news ≡ map (tree_of nodes) olds
  ids_say olds news places =
      places_agree (tree_at listed) (tree_of nodes) (λ id. Unit {0}) ids olds news
      (λ place id e any. looked_up (tree_of nodes) blank ids ids [] (sym (append-nil ids)) place id (slice_get_within ids place id e) e)
      places (λ k d l. tt)

  pub judgment_says : (old new : Judgment) → IsMovedJudgment ids old new → statement listed new ≡ statement (trees_in nodes) old
  judgment_says old new moved =
      let all : map (tree_at listed) (ids_of new) ≡ map (tree_of nodes) (ids_of old) = ids_say (ids_of old) (ids_of new) moved.named in
      let context : tree_at listed (context_of new) ≡ tree_of nodes (context_of old) = cc in
      let parts : map (tree_at listed) (parts_of new) ≡ map (tree_of nodes) (parts_of old) = cc in
      λ i. record { kind = moved.kind i; context = context i; parts = parts i }

module _ (w : World) (sound : IsSound w) (ids steps : List ℕ) (rising : IsRising steps) where
  abbrev nodes : List Node
  nodes = w.pool.nodes

  abbrev said : ℕ → Statement
  said step = statement_at (statements_in w) step

  abbrev known : List ℕ → FileState
  known front = record { trees = map (tree_of w.pool.nodes) ids; statements = map said front; claims = [] }

  abbrev Moved : ℕ → Line → Type 0
  Moved step new = (old : Line) × (slice_get w.log step ≡ Some old) × IsMovedLine ids steps old new

  pub said_is : (step : ℕ) (says : Statement) → Says w step says → said step ≡ says
  said_is step says there = get_or_from_slice_get (statements_in w) step says _ there

  -- the premises are there
  module _ (front rest : List ℕ) (step : ℕ) (parts : steps ≡ front ++ step ∷ rest) where
    abbrev before : List Statement
    before = statements_of w.pool.nodes (take step w.log)

    premise_within : (premise : ℕ) (says : Statement) → slice_get before premise ≡ Some says → premise < step
    premise_within premise says there =
        omega (arith, slice_get_within before premise says there, length_said w.pool.nodes (take step w.log), length-take step w.log)

    premise_says : (premise : ℕ) (says : Statement) → slice_get before premise ≡ Some says → said premise ≡ says
    premise_says premise says there =
        said_is premise says
        (sym (ap (λ (lines : List Line). slice_get (statements_of w.pool.nodes lines) premise) (take-append-drop step w.log))
        ∙ (ap (λ (ss : List Statement). slice_get ss premise) (statements_append w.pool.nodes (take step w.log) (drop step w.log))
        ∙ slice_get-append before (statements_of w.pool.nodes (drop step w.log)) premise says there))

    premise_at : (place premise : ℕ) (says : Statement) → slice_get steps place ≡ Some premise → slice_get before premise ≡ Some says
        → slice_get (map said front) place ≡ Some says
    premise_at place premise says e there =
        let within = place_before steps front rest step parts rising place premise e (premise_within premise says there) in
        slice_get-get_or (map said front) place says (omega (arith, within, length-map front said))
        ∙ ap (λ s. Some s) (looked_up said says steps front (step ∷ rest) parts place premise within e ∙ premise_says premise says there)

    premises_there : (olds news : List ℕ) (premises : List Statement) → ArePlaces steps olds news
        → map (slice_get before) olds ≡ map (λ says. Some says) premises → map (slice_get (map said front)) news ≡ map (λ says. Some says) premises
    premises_there [] [] [] places from = refl
    premises_there [] [] (p ∷ premises) places from = absurd cc
    premises_there [] (new ∷ news) premises places from = absurd cc
    premises_there (old ∷ olds) [] premises places from = absurd cc
    premises_there (old ∷ olds) (new ∷ news) [] places from = absurd cc
    premises_there (old ∷ olds) (new ∷ news) (p ∷ premises) places from =
        let place : slice_get steps new ≡ Some old = cc in
        let others : map (slice_get steps) news ≡ map (λ n. Some n) olds = cc in
        let first : slice_get before old ≡ Some p = cc in
        let more : map (slice_get before) olds ≡ map (λ says. Some says) premises = cc in
        let one = premise_at new old p place first in
        let rest = premises_there olds news premises others more in
        λ i. one i ∷ rest i

    module _ (new : Line) (moved : Moved step new) where
      abbrev trees : List Tree
      trees = map (tree_of w.pool.nodes) ids

      follows : Follows before (step_of w.pool.nodes moved.0)
      follows = sound.log.follow step moved.0 moved.1

      over : IsLineOver w.pool.nodes moved.0
      over =
          subst (IsLineOver w.pool.nodes) (get_or_from_slice_get w.log step moved.0 moved.0 moved.1)
          (sound.log.over step moved.0 (slice_get_within w.log step moved.0 moved.1))

      pub says : statement trees new.says ≡ statement (trees_in w.pool.nodes) moved.0.says
      says = judgment_says w.pool.nodes ids moved.0.says new.says moved.2.says

      from : map (slice_get (map said front)) new.from ≡ map (λ s. Some s) follows.premises
      from = premises_there moved.0.from new.from follows.premises moved.2.from follows.from

      is_statement : IsStatement (statement trees new.says)
      is_statement = subst IsStatement (sym says) follows.trees

      pub line_fits : StepFits (known front) new
      line_fits = record {
        claims = refl;
        number = subst (λ (n : ℕ). n < 2 ^ 32) (sym moved.2.number) over.number;
        ids = λ k d l. omega (arith, places_within ids (ids_of moved.0.says) (ids_of new.says) moved.2.says.named k d l, length-map ids (tree_of w.pool.nodes));
        sorts =
            let context = sort_from _ (tree_at trees (context_of new.says)) is_statement.context in
            let others = sorts_from _ (map (tree_at trees) (parts_of new.says)) is_statement.parts in
            λ i. context i ∷ others i;
        from = numbers_within (map said front) new.from follows.premises from;
      }

      pub line_follows : Follows (map said front) (step_over trees new)
      line_follows = record {
        trees = is_statement;
        scoped = subst (λ (s : Statement). IsScoped s.kind s.context s.parts) (sym says) follows.scoped;
        premises = follows.premises;
        from = from;
        applies =
            subst (λ (row : Row). Applies (rule_of row) new.number follows.premises (statement trees new.says)) (sym moved.2.row)
            (subst (λ (n : ℕ). Applies (rule_of moved.0.row) n follows.premises (statement trees new.says)) (sym moved.2.number)
            (subst (λ (s : Statement). Applies (rule_of moved.0.row) moved.0.number follows.premises s) (sym says) follows.applies));
      }

      pub line_says : statement trees new.says ≡ said step
      line_says = says ∙ sym (said_is step (statement (trees_in w.pool.nodes) moved.0.says) (said_there w.pool.nodes w.log step moved.0 moved.1))

      pub known_more : extended (known front) (StepItem new) ≡ known (front ++ step ∷ [])
      known_more =
          ap (λ (ss : List Statement). record { trees = trees; statements = ss; claims = [] })
          (ap (λ (s : Statement). map said front ++ s ∷ []) line_says ∙ sym (map-append said front (step ∷ [])))

  lines_run : (front rest : List ℕ) (new : List Line) → steps ≡ front ++ rest → AllZip Moved rest new
      → Runs (known front) (map (λ line. StepItem line) new) (known steps)
  lines_run front [] [] parts moved = runs_none (known front) (known steps) (ap known (sym (parts ∙ append-nil front)))
  lines_run front [] (l ∷ new) parts moved = absurd moved
  lines_run front (step ∷ rest) [] parts moved = absurd moved
  lines_run front (step ∷ rest) (l ∷ new) parts moved =
      runs_cons (known front) (StepItem l) (map (λ line. StepItem line) new) (known (front ++ step ∷ [])) (known steps)
      (line_fits front rest step parts l moved.0) (line_follows front rest step parts l moved.0) (known_more front rest step parts l moved.0)
      (lines_run (front ++ step ∷ []) rest new (parts ∙ sym (append_assoc front (step ∷ []) rest)) moved.1)

  pub moved_run : (new : List Line) → AreMovedLines w.log ids steps new → Runs (known []) (map (λ line. StepItem line) new) (known steps)
  moved_run new moved = lines_run [] steps new refl moved
