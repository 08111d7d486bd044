-- Judgments that move to a context with an entry more, and topes of a context: that the lines follow.
use Rattle.std.proofs.Common.{◌≡◌, ℕ, ◌<◌, List, [], ◌∷◌, Some, length, map, All, refl, sym, ap, subst, ◌∙◌, arith}
use Rattle.std.specs.Prelude.{option_map, slice_get}
use Rattle.std.proofs.lemmas.List.Elements.{All-cons, All-head, All-nil}
use Rattle.std.proofs.lemmas.Option.{slice_get_within, slice_get-map, get_or_from_slice_get}
use Rattle.rz_rules.specs.declared.kinds.Role.{Role}
use Rattle.rz_rules.specs.declared.kinds.Role.TheVariants.{Variable, Declared, Former}
use Rattle.rz_rules.specs.declared.kinds.Sort.{Sort}
use Rattle.rz_rules.specs.declared.kinds.Sort.TheVariants as sort
use Rattle.rz_rules.specs.declared.nodes.Node.{Node}
use Rattle.rz_rules.specs.declared.judgments.Judgment.{Judgment}
use Rattle.rz_rules.specs.declared.judgments.Judgment.TheVariants.{Holds}
use Rattle.rz_rules.specs.declared.judgments.JudgmentKind.{JudgmentKind}
use Rattle.rz_rules.specs.declared.judgments.JudgmentKind.TheVariants as says
use Rattle.rz_rules.specs.declared.judgments.Line.{Line}
use Rattle.rz_rules.specs.declared.rows.Row.TheVariants as row
use Rattle.rz_rules.specs.declared.rows.Scheme.TheVariants as scheme
use Rattle.rz_rules.specs.Form.{form}
use Rattle.rz_rules.specs.Tree.{Tree, Trees, At, IsTree, AreTrees, sort_of, tree_of, trees_in, trees_of}
use Rattle.rz_rules.specs.Cube.{binders_of}
use Rattle.rz_rules.specs.Tope.{IsTopeOver}
use Rattle.rz_rules.specs.Substitution.{Changes, Depth, changed, changed_kids, changed_node, none, raising, total, weakened}
use Rattle.rz_rules.specs.Context.{Entry, OfCube, OfTope, OfType, bound_by, changed_entries, changed_entry, depth_of, with_entries, with_entry}
use Rattle.rz_rules.specs.Judgment.{Statement, context_of, ids_of, judgment_form, kind_of, parts_of, sorts_of, statement}
use Rattle.rz_rules.specs.Structural.{ConcludesBy, formed, holds}
use Rattle.rz_rules.specs.Derivation.{Follows, IsScoped}
use Rattle.rz_rules.proofs.Contexts.{IsTree-outer, length-changed_entries}
use Rattle.rz_pool.specs.Pool.{Grows, IsPool}
use Rattle.rz_pool.proofs.Nodes.{KeepsTrees-Grows, length-Grows}
use Rattle.rz_pool.specs.Counts as counts
use Rattle.rz_pool.specs.declared.entries.Entry.TheVariants as entry
use Rattle.rz_pool.specs.declared.entries.Entry as scope
use Rattle.rz_pool.specs.Entry.{IsAt, entry_over, tree_in}
use Rattle.rz_rule_text.specs.Spelling.{IsJudgmentOver}
use Rattle.rz_rule_text.proofs.Over.{IsStatement-over}
use Rattle.rz_metatheory.specs.Good.{AreGoodParts, IsGoodStatement}
use Rattle.rz_metatheory.specs.Place.{place_of}
use Rattle.rz_metatheory.proofs.Structural.{schemes_keep}
use Rattle.rz_log.specs.declared.world.World.{World}
use Rattle.rz_log.specs.Log.{IsLineOver, statements_of, step_of}
use Rattle.rz_log.specs.World.{IsSound, Says, statements_in}
use Rattle.rz_log.proofs.Derived.{good_at}
use Rattle.rz_log.proofs.Worlds.{statements_grown}
use Rattle.rz_lemmas.specs.declared.places.Found.{Found}
use Rattle.rz_lemmas.specs.Behind.{HasBehind, IsEntryFound, bound_in}
use Rattle.rz_lemmas.specs.Moves.{CanWeaken, HasTope, hypothesis_of, raised_judgment, weakening_of}

-- ---- sorts

-- where numbers of variables change, the sort of a tree stays
pub sort_raised : (from by depth : Depth) (t : Tree) → sort_of (changed (raising from by) depth t) ≡ sort_of t
sort_raised from by depth (At kind number name kids) = each (form kind).role (changed_kids (raising from by) depth (form kind).kids kids) where
  each : (role : Role) (new : Trees) → sort_of (changed_node (raising from by) depth role kind number name kids new) ≡ (form kind).sort
  each (Variable space) new = refl
  each Declared new = refl
  each Former new = refl

-- the sorts of trees of these sorts
sorts_are : (sorts : List Sort) (trees : List Tree) → AreTrees sorts (trees_of trees) → map sort_of trees ≡ sorts
sorts_are [] [] is = refl
sorts_are [] (t ∷ ts) is = elim is [ ]
sorts_are (s ∷ sorts) [] is = elim is [ ]
sorts_are (s ∷ sorts) (At kind number name kids ∷ ts) is =
    let here : (form kind).sort ≡ s = is.0.0 in
    let others : map sort_of ts ≡ sorts = sorts_are sorts ts is.1 in
    cc

sorts_raised : (from by depth : Depth) (trees : List Tree) → map sort_of (map (changed (raising from by) depth) trees) ≡ map sort_of trees
sorts_raised from by depth [] = refl
sorts_raised from by depth (t ∷ ts) = λ i. sort_raised from by depth t i ∷ sorts_raised from by depth ts i

-- a judgment that is raised in a context is over the pool
pub raised_over : (old new : List Node) (from by depth : Depth) (context : Tree) (said made : Judgment) → IsJudgmentOver old said → sort_of context ≡ sort.Context
    → All (λ id. id < length new) (ids_of made) → statement (trees_in new) made ≡ raised_judgment (raising from by) depth context (statement (trees_in old) said)
    → IsJudgmentOver new made
raised_over old new from by depth context said made over is_context live e =
    let here : sort_of (tree_of new (context_of made)) ≡ sort.Context = ap (λ (s : Statement). sort_of s.context) e ∙ is_context in
    let kinds : kind_of made ≡ kind_of said = ap (λ (s : Statement). s.kind) e in
    let before : map sort_of (map (tree_of old) (parts_of said)) ≡ (judgment_form (kind_of said)).parts = tails over.sorts in
    let parts : map sort_of (map (tree_of new) (parts_of made)) ≡ (judgment_form (kind_of made)).parts =
    ap (λ (s : Statement). map sort_of s.parts) e ∙ sorts_raised from by depth (map (tree_of old) (parts_of said)) ∙ before ∙ ap (λ (k : JudgmentKind). (judgment_form k).parts) (sym kinds) in
    record { live = live; sorts = λ i. here i ∷ parts i }
  where
    tails : {x y : Sort} {xs ys : List Sort} → x ∷ xs ≡ y ∷ ys → xs ≡ ys
    tails e = cc

-- what holds of all that a list has holds of what stands at a place
all_at : {X : Type 0} (P : X → Type 0) (xs : List X) (place : ℕ) (x : X) → All P xs → slice_get xs place ≡ Some x → P x
all_at P xs place x all at = subst P (get_or_from_slice_get xs place x x at) (all place x (slice_get_within xs place x at))

-- a line of a sound log is over the pool
pub judgment_over : (w : World) (step : ℕ) (line : Line) → IsSound w → slice_get w.log step ≡ Some line → IsJudgmentOver w.pool.nodes line.says
judgment_over w step line sound at =
    let is = (sound.log.follow step line at).trees in
    record {
      live = (all_at (IsLineOver w.pool.nodes) w.log step line sound.log.over at).live;
      sorts = sorts_are (sorts_of (kind_of line.says)) (map (tree_of w.pool.nodes) (ids_of line.says)) (is.context, is.parts);
    }

-- what a line says of trees is what its step says
pub line_says : (w : World) (step : ℕ) (line : Line) (S : Statement) → slice_get w.log step ≡ Some line → Says w step S → statement (trees_in w.pool.nodes) line.says ≡ S
line_says w step line S at there =
    let said : slice_get (map (λ (l : Line). l.says) w.log) step ≡ Some line.says = slice_get-map (λ (l : Line). l.says) w.log step ∙ ap (option_map (λ (l : Line). l.says)) at in
    let here : slice_get (statements_in w) step ≡ Some (statement (trees_in w.pool.nodes) line.says) =
    slice_get-map (statement (trees_in w.pool.nodes)) (map (λ (l : Line). l.says) w.log) step ∙ ap (option_map (statement (trees_in w.pool.nodes))) said in
    let one : Some (statement (trees_in w.pool.nodes) line.says) ≡ Some S = sym here ∙ there in
    cc

-- the context of a judgment over a pool
pub context_is_at : (nodes : List Node) (said : Judgment) → IsJudgmentOver nodes said → IsAt nodes sort.Context (context_of said)
context_is_at nodes said over = (All-head (λ id. id < length nodes) (context_of said) (parts_of said) over.live, heads over.sorts) where
  heads : {x y : Sort} {xs ys : List Sort} → x ∷ xs ≡ y ∷ ys → x ≡ y
  heads e = cc

-- the context that a step says to be formed
pub context_is : (w : World) (formed_at : ℕ) (line : Line) (context : Tree) (id : ℕ) → slice_get w.log formed_at ≡ Some line → Says w formed_at (formed context)
    → id ≡ context_of line.says → tree_of w.pool.nodes id ≡ context
context_is w formed_at line context id at there same =
    ap (tree_of w.pool.nodes) same ∙ ap (λ (s : Statement). s.context) (line_says w formed_at line (formed context) at there)

-- ---- entries

bound_over : (nodes : List Node) (one : scope.Entry) → bound_in one ≡ bound_by (entry_over nodes one)
bound_over nodes (entry.Cube id) = refl
bound_over nodes (entry.Tope id) = refl
bound_over nodes (entry.Term id) = refl

-- what an entry that was found binds, and what those behind it bind
pub found_binds : (nodes : List Node) (found : Found) (one : Entry) (inner : List Entry) → IsEntryFound nodes found one inner → bound_in found.entry ≡ bound_by one
found_binds nodes found one inner is = bound_over nodes found.entry ∙ ap bound_by is.is

pub found_depth : (nodes : List Node) (found : Found) (one : Entry) (inner : List Entry) → IsEntryFound nodes found one inner → counts.depth_of found.depth ≡ depth_of inner
found_depth nodes found one inner is = λ i space. is.depth space i

pub tope_found : (nodes : List Node) (one : scope.Entry) (tope : Tree) → entry_over nodes one ≡ OfTope tope → tree_of nodes (tree_in one) ≡ tope
tope_found nodes (entry.Cube id) tope e = absurd cc
tope_found nodes (entry.Tope id) tope e = cc
tope_found nodes (entry.Term id) tope e = absurd cc

-- entries that change bind what they bound
bound_changed : (changes : Changes) (depth : Depth) (one : Entry) → bound_by (changed_entry changes depth one) ≡ bound_by one
bound_changed changes depth (OfCube cube) = refl
bound_changed changes depth (OfTope tope) = refl
bound_changed changes depth (OfType type) = refl

pub depth_changed : (changes : Changes) (inner : List Entry) → depth_of (changed_entries changes inner) ≡ depth_of inner
depth_changed changes [] = refl
depth_changed changes (one ∷ inner) = λ i. total (depth_changed changes inner i) (bound_changed changes (depth_of inner) one i)

-- ---- scoping

-- in a good judgment that a tope holds, the tope is over the context
good_is_scoped : (kind : JudgmentKind) (context : Tree) (parts : List Tree) → AreGoodParts kind (place_of context) parts → IsScoped kind context parts
good_is_scoped says.Formed context parts good = tt
good_is_scoped says.Holds context [] good = elim good [ ]
good_is_scoped says.Holds context (tope ∷ []) good = All-cons (IsTopeOver (binders_of context)) tope [] good.0 (All-nil (IsTopeOver (binders_of context)))
good_is_scoped says.Holds context (tope ∷ other ∷ parts) good = elim good [ ]
good_is_scoped says.Has context parts good = tt
good_is_scoped says.Same context parts good = tt

sort_of_tree : (s : Sort) (t : Tree) → IsTree s t → sort_of t ≡ s
sort_of_tree s (At kind number name kids) is = is.0

-- ---- lines

-- a judgment with one entry more follows
module _ (w : World) (step formed_at depth : ℕ) (can : CanWeaken w step formed_at depth) (sound : IsSound w) where
  abbrev pub new_context : Tree
  new_context = with_entries (with_entry can.outer can.entry) (changed_entries (raising none (bound_by can.entry)) can.inner)

  pub weakening_behind : (context : Tree) → context ≡ new_context → HasBehind context depth (with_entry can.outer can.entry) (changed_entries (raising none (bound_by can.entry)) can.inner)
  weakening_behind context e = record { is = e; count = length-changed_entries (raising none (bound_by can.entry)) can.inner ∙ can.count }

  moves : ConcludesBy scheme.Weakening depth (can.premise ∷ formed new_context ∷ []) (weakening_of w step formed_at depth can)
  moves = (
    can.outer,
    can.entry,
    record {
      premise = can.premise;
      inner = can.inner;
      count = can.count;
      premises_are = refl;
      before = can.context;
      says = refl;
    },
  )

  good : IsGoodStatement (weakening_of w step formed_at depth can)
  good = schemes_keep scheme.Weakening depth (can.premise ∷ formed new_context ∷ []) (weakening_of w step formed_at depth can) moves
      (good_at w step can.premise sound can.says, (good_at w formed_at (formed new_context) sound can.formed_is, tt))

  -- what is said of the new parts is the judgment there
  pub weakening_is : (premise_line formed_line : Line) (id : ℕ) (new : List Node) (said : Judgment) → slice_get w.log step ≡ Some premise_line → slice_get w.log formed_at ≡ Some formed_line
      → id ≡ context_of formed_line.says
      → ((outer : Tree) (one : Entry) (inner : List Entry) → HasBehind (tree_of w.pool.nodes id) depth (with_entry outer one) inner
      → statement (trees_in new) said ≡ raised_judgment (raising none (bound_by one)) (depth_of inner) (tree_of w.pool.nodes id) (statement (trees_in w.pool.nodes) premise_line.says))
      → statement (trees_in new) said ≡ weakening_of w step formed_at depth can
  weakening_is premise_line formed_line id new said at at_formed same is =
      let context = context_is w formed_at formed_line new_context id at_formed can.formed_is same in
      let premise = line_says w step premise_line can.premise at can.says in
      let within = depth_changed (raising none (bound_by can.entry)) can.inner in
      is can.outer can.entry (changed_entries (raising none (bound_by can.entry)) can.inner) (weakening_behind (tree_of w.pool.nodes id) context)
      ∙ (λ i. raised_judgment (raising none (bound_by can.entry)) (within i) (context i) (premise i))

  pub weakening_follows : (new : List Node) → Grows w.pool.nodes new → IsPool new → (said : Judgment) → IsJudgmentOver new said
      → statement (trees_in new) said ≡ weakening_of w step formed_at depth can
      → Follows (statements_of new w.log) (step_of new (record { row = row.Weakening; number = depth; says = said; from = step ∷ formed_at ∷ [] }))
  weakening_follows new grows pool said over is =
      let same = statements_grown w.pool.nodes new w.log grows sound.log in
      let first : slice_get (statements_of new w.log) step ≡ Some can.premise = ap (λ (ss : List Statement). slice_get ss step) same ∙ can.says in
      let second : slice_get (statements_of new w.log) formed_at ≡ Some (formed new_context) = ap (λ (ss : List Statement). slice_get ss formed_at) same ∙ can.formed_is in
      record {
        trees = IsStatement-over new pool.forms said over;
        scoped = subst (λ (s : Statement). IsScoped s.kind s.context s.parts) (sym is)
            (good_is_scoped can.premise.kind new_context (map (changed (raising none (bound_by can.entry)) (depth_of can.inner)) can.premise.parts) good.1);
        premises = can.premise ∷ formed new_context ∷ [];
        from = λ i. first i ∷ second i ∷ [];
        applies = subst (ConcludesBy scheme.Weakening depth (can.premise ∷ formed new_context ∷ [])) (sym is) moves;
      }

-- the tope of an entry follows
module _ (w : World) (formed_at number : ℕ) (has : HasTope w formed_at number) (sound : IsSound w) where
  abbrev pub whole : Tree
  whole = with_entries (with_entry has.outer (OfTope has.tope)) has.inner

  pub tope_behind : (context : Tree) → context ≡ whole → HasBehind context number (with_entry has.outer (OfTope has.tope)) has.inner
  tope_behind context e = record { is = e; count = has.count }

  gives : ConcludesBy scheme.Hypothesis number (formed whole ∷ []) (hypothesis_of w formed_at number has)
  gives = record {
    outer = has.outer;
    tope = has.tope;
    inner = has.inner;
    count = has.count;
    context = refl;
    premises_are = refl;
    says = refl;
  }

  good_tope : IsGoodStatement (hypothesis_of w formed_at number has)
  good_tope = schemes_keep scheme.Hypothesis number (formed whole ∷ []) (hypothesis_of w formed_at number has) gives (good_at w formed_at (formed whole) sound has.formed_is, tt)

  -- what is said of the tope is the judgment
  pub hypothesis_is : (formed_line : Line) (id phi : ℕ) (new : List Node) → slice_get w.log formed_at ≡ Some formed_line → id ≡ context_of formed_line.says
      → Grows w.pool.nodes new → id < length w.pool.nodes
      → ((outer tope : Tree) (inner : List Entry) → HasBehind (tree_of w.pool.nodes id) number (with_entry outer (OfTope tope)) inner → tree_of new phi ≡ weakened (depth_of inner) tope)
      → statement (trees_in new) (Holds id phi) ≡ hypothesis_of w formed_at number has
  hypothesis_is formed_line id phi new at same grows live is =
      let context = context_is w formed_at formed_line whole id at has.formed_is same in
      let kept = KeepsTrees-Grows w.pool.nodes new grows id live in
      let tope = is has.outer has.tope has.inner (tope_behind (tree_of w.pool.nodes id) context) in
      λ i. holds ((kept ∙ context) i) (tope i)

  -- it is over the pool
  pub hypothesis_over : (formed_line : Line) (id phi : ℕ) (new : List Node) → slice_get w.log formed_at ≡ Some formed_line → id ≡ context_of formed_line.says
      → Grows w.pool.nodes new → phi < length new
      → ((outer tope : Tree) (inner : List Entry) → HasBehind (tree_of w.pool.nodes id) number (with_entry outer (OfTope tope)) inner → tree_of new phi ≡ weakened (depth_of inner) tope)
      → IsJudgmentOver new (Holds id phi)
  hypothesis_over formed_line id phi new at same grows within is =
      let line_over = context_is_at w.pool.nodes formed_line.says (judgment_over w formed_at formed_line sound at) in
      let there : IsAt w.pool.nodes sort.Context id = subst (IsAt w.pool.nodes sort.Context) (sym same) line_over in
      let context = context_is w formed_at formed_line whole id at has.formed_is same in
      let kept = KeepsTrees-Grows w.pool.nodes new grows id there.0 in
      let first : sort_of (tree_of new id) ≡ sort.Context = ap sort_of kept ∙ there.1 in
      let second : sort_of (tree_of new phi) ≡ sort.Tope =
      ap sort_of (is has.outer has.tope has.inner (tope_behind (tree_of w.pool.nodes id) context))
      ∙ sort_raised none (depth_of has.inner) none has.tope ∙ tope_sort in
      record {
        live = All-cons (λ i. i < length new) id (phi ∷ []) (omega (arith, there.0, length-Grows w.pool.nodes new grows))
            (All-cons (λ i. i < length new) phi [] within (All-nil (λ i. i < length new)));
        sorts = λ i. first i ∷ second i ∷ [];
      }
    where
      -- the formed context is a tree, and so is what stands in it
      tope_sort : sort_of has.tope ≡ sort.Tope
      tope_sort =
          let is : IsTree sort.Context whole = subst (IsTree sort.Context) (context_is w formed_at formed_line whole (context_of formed_line.says) at has.formed_is refl)
          ((sound.log.follow formed_at formed_line at).trees).context in
          sort_of_tree sort.Tope has.tope (IsTree-outer (with_entry has.outer (OfTope has.tope)) has.inner is).2.1.0

  pub hypothesis_follows : (new : List Node) → Grows w.pool.nodes new → IsPool new → (said : Judgment) → IsJudgmentOver new said
      → statement (trees_in new) said ≡ hypothesis_of w formed_at number has
      → Follows (statements_of new w.log) (step_of new (record { row = row.Hypothesis; number = number; says = said; from = formed_at ∷ [] }))
  hypothesis_follows new grows pool said over is =
      let same = statements_grown w.pool.nodes new w.log grows sound.log in
      let first : slice_get (statements_of new w.log) formed_at ≡ Some (formed whole) = ap (λ (ss : List Statement). slice_get ss formed_at) same ∙ has.formed_is in
      record {
        trees = IsStatement-over new pool.forms said over;
        scoped = subst (λ (s : Statement). IsScoped s.kind s.context s.parts) (sym is)
            (good_is_scoped says.Holds whole (weakened (depth_of has.inner) has.tope ∷ []) good_tope.1);
        premises = formed whole ∷ [];
        from = λ i. first i ∷ [];
        applies = subst (ConcludesBy scheme.Hypothesis number (formed whole ∷ [])) (sym is) gives;
      }
