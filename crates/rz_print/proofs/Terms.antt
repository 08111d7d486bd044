-- Words that are read as a term of the grammar, at each of its levels.
use Rattle.std.proofs.Common.{◌≡◌, ℕ, ◌+◌, zero, suc, List, [], ◌∷◌, ◌++◌, Some, length, refl, sym, ◌∙◌, subst, arith, append_assoc, append-nil}
use Rattle.std.specs.Prelude.{slice_get}
use Rattle.rz_lex.specs.declared.token.Token.{Token}
use Rattle.rz_syntax.specs.declared.action.Action.TheVariants as action
use Rattle.rz_syntax.specs.declared.action.Join.{Join}
use Rattle.rz_syntax.specs.declared.action.Join.TheVariants as join
use Rattle.rz_syntax.specs.declared.builder.Builder.{Builder}
use Rattle.rz_syntax.specs.declared.forms.Raw.{Raw}
use Rattle.rz_syntax.specs.declared.forms.Pat.{Pat}
use Rattle.rz_syntax.specs.declared.forms.Shape.{Shape}
use Rattle.rz_syntax.specs.declared.forms.Form.{Form}
use Rattle.rz_syntax.specs.declared.grammar.Symbol.TheVariants.{One, Sub, Do}
use Rattle.rz_syntax.specs.declared.grammar.Rule.{Rule}
use Rattle.rz_syntax.specs.Grammar.{IsOneOf, alternatives}
use Rattle.rz_syntax.specs.Building.{after, bytes_of, join_form, no_raw}
use Rattle.rz_print.specs.Text.{Word}
use Rattle.rz_print.specs.Meaning.{PatternTree, NameOf, NoName, PairOf, IsPattern, ArePatterns, Tree, At, Trees, Nil, And, IsTree, AreTrees, bare, parts_of, patterns_of}
use Rattle.rz_print.proofs.Runs.{Runs, runs_nothing, runs_token, runs_action, runs_append, runs_rule, runs_to, runs_words}
use Rattle.rz_print.proofs.States.{grown, pushed, joined_raw, topped_twice}
use Rattle.rz_print.proofs.Doing.{act_join}

-- ---- tables that grow

pub get_front : {T : Type 0} (items more : List T) (number : ℕ) (item : T) → slice_get items number ≡ Some item → slice_get (items ++ more) number ≡ Some item
get_front [] more number item e = absurd (cc)
get_front (first ∷ items) more zero item e = e
get_front (first ∷ items) more (suc number) item e = get_front items more number item e

pub get_last : {T : Type 0} (items : List T) (item : T) → slice_get (items ++ item ∷ []) (length items) ≡ Some item
get_last [] item = refl
get_last (first ∷ items) item = get_last items item

pub pattern_grows : (shapes more : List Shape) (number : ℕ) (tree : PatternTree) → IsPattern shapes number tree → IsPattern (shapes ++ more) number tree
pattern_grows shapes more number (NameOf name) e = get_front shapes more number _ e
pattern_grows shapes more number NoName e = get_front shapes more number _ e
pattern_grows shapes more number (PairOf left right) h =
    (h.0, h.1, get_front shapes more number _ h.2, pattern_grows shapes more h.0.shape left h.3, pattern_grows shapes more h.1.shape right h.4)

pub patterns_grow : (shapes more : List Shape) (pats : List Pat) (trees : List PatternTree) → ArePatterns shapes pats trees → ArePatterns (shapes ++ more) pats trees
patterns_grow shapes more [] [] h = tt
patterns_grow shapes more [] (tree ∷ trees) h = absurd h
patterns_grow shapes more (pat ∷ pats) [] h = absurd h
patterns_grow shapes more (pat ∷ pats) (tree ∷ trees) h = (pattern_grows shapes more pat.shape tree h.0, patterns_grow shapes more pats trees h.1)

mutual
  pub tree_grows : (shapes shapes' : List Shape) (forms forms' : List Form) (number : ℕ) (tree : Tree) → IsTree shapes forms number tree → IsTree (shapes ++ shapes') (forms ++ forms') number tree
  tree_grows shapes shapes' forms forms' number (At head patterns parts) h = (
    h.0,
    get_front forms forms' number h.0 h.1,
    h.2,
    patterns_grow shapes shapes' (patterns_of h.0) patterns h.3,
    trees_grow shapes shapes' forms forms' (parts_of h.0) parts h.4,
  )

  pub trees_grow : (shapes shapes' : List Shape) (forms forms' : List Form) (raws : List Raw) (trees : Trees) → AreTrees shapes forms raws trees → AreTrees (shapes ++ shapes') (forms ++ forms') raws trees
  trees_grow shapes shapes' forms forms' [] Nil h = tt
  trees_grow shapes shapes' forms forms' [] (And tree trees) h = absurd h
  trees_grow shapes shapes' forms forms' (raw ∷ raws) Nil h = absurd h
  trees_grow shapes shapes' forms forms' (raw ∷ raws) (And tree trees) h =
      (tree_grows shapes shapes' forms forms' raw.form tree h.0, trees_grow shapes shapes' forms forms' raws trees h.1)

-- ---- what is read

-- the tokens from this number on are spelled like the words
abbrev pub StandAt : List ℕ → List Token → ℕ → List Word → Type 0
StandAt text tokens read [] = Unit {0}
StandAt text tokens read (word ∷ words) =
    (bytes_of text (slice_get tokens read) ≡ word.bytes) × StandAt text tokens (read + 1) words

pub stand_split : (text : List ℕ) (tokens : List Token) (read : ℕ) (front rest : List Word) → StandAt text tokens read (front ++ rest) → StandAt text tokens read front × StandAt text tokens (read + length front) rest
stand_split text tokens read [] rest h = (tt, subst (λ (n : ℕ). StandAt text tokens n rest) (omega arith) h)
stand_split text tokens read (word ∷ front) rest h =
    let t = stand_split text tokens (read + 1) front rest h.1 in
    ((h.0, t.0), subst (λ (n : ℕ). StandAt text tokens n rest) (later (length front)) t.1)
  where
    later : (n : ℕ) → (read + 1) + n ≡ read + suc n
    later n = omega arith

pub record Reading (rule : Rule) (words : List Word) (tree : Tree) (text : List ℕ) (tokens : List Token) (read : ℕ) (b : Builder) : Type 0 where
  pub start : ℕ
  pub raw : Raw
  pub shapes : List Shape
  pub forms : List Form
  pub runs : Runs (Sub rule ∷ []) words text tokens read b (pushed b start raw shapes forms)
  pub is : IsTree (b.shapes ++ shapes) (b.forms ++ forms) raw.form tree

-- Wherever they stand, the words are read by the rule as the tree.
abbrev pub Reads : Rule → List Word → Tree → Type 0
Reads rule words tree =
    (text : List ℕ) (tokens : List Token) (read : ℕ) (b : Builder) → StandAt text tokens read words
    → Reading rule words tree text tokens read b

-- ---- levels: what one gives stands at the one before

-- an alternative of a rule and a rule that may be nothing
pub lifts : (rule inner tail : Rule) → IsOneOf (Sub inner ∷ Sub tail ∷ []) (alternatives rule) → IsOneOf [] (alternatives tail)
    → (words : List Word) (tree : Tree) → Reads inner words tree → Reads rule words tree
lifts rule inner tail one none words tree r text tokens read b h =
    let t = r text tokens read b h in
    let b' = pushed b t.start t.raw t.shapes t.forms in
    record {
      start = t.start;
      raw = t.raw;
      shapes = t.shapes;
      forms = t.forms;
      runs = runs_words words (append-nil words)
          (runs_rule rule read b b' one (runs_append read b b' b' t.runs (runs_rule tail (read + length words) b' b' none (runs_nothing (read + length words) b'))));
      is = t.is;
    }

-- ---- a form that is made last

-- the tree of a new form
pub node : (shapes : List Shape) (forms : List Form) (new head : Form) (patterns : List PatternTree) (parts : Trees)
    → bare new ≡ head → ArePatterns shapes (patterns_of new) patterns → AreTrees shapes (forms ++ new ∷ []) (parts_of new) parts
    → IsTree shapes (forms ++ new ∷ []) (length forms) (At head patterns parts)
node shapes forms new head patterns parts e p t = (new, get_last forms new, e, p, t)

-- the tables are these
pub tree_at : {shapes shapes' : List Shape} {forms forms' : List Form} (number : ℕ) (tree : Tree) → shapes ≡ shapes' → forms ≡ forms' → IsTree shapes forms number tree → IsTree shapes' forms' number tree
tree_at {shapes} {shapes'} {forms} number tree e f h =
    subst (λ (fs : List Form). IsTree shapes' fs number tree) f (subst (λ (ss : List Shape). IsTree ss forms number tree) e h)

-- more forms alone
pub forms_grow : (shapes : List Shape) (forms more : List Form) (number : ℕ) (tree : Tree) → IsTree shapes forms number tree → IsTree shapes (forms ++ more) number tree
forms_grow shapes forms more number tree h =
    subst (λ (ss : List Shape). IsTree ss (forms ++ more) number tree) (append-nil shapes) (tree_grows shapes [] forms more number tree h)

-- ---- two parts with a mark between them

abbrev pub joined_tree : Join → Tree → Tree → Tree
joined_tree how left right = At (join_form how no_raw no_raw) [] (And left (And right Nil))

bare_join : (how : Join) (left right : Raw) → bare (join_form how left right) ≡ join_form how no_raw no_raw
bare_join join.And left right = refl
bare_join join.Or left right = refl
bare_join join.SamePoint left right = refl
bare_join join.AtMost left right = refl
bare_join join.Equal left right = refl
bare_join join.Product left right = refl
bare_join join.As left right = refl

join_patterns : (shapes : List Shape) (how : Join) (left right : Raw) → ArePatterns shapes (patterns_of (join_form how left right)) []
join_patterns shapes join.And left right = tt
join_patterns shapes join.Or left right = tt
join_patterns shapes join.SamePoint left right = tt
join_patterns shapes join.AtMost left right = tt
join_patterns shapes join.Equal left right = tt
join_patterns shapes join.Product left right = tt
join_patterns shapes join.As left right = tt

join_parts : (how : Join) (left right : Raw) → parts_of (join_form how left right) ≡ left ∷ right ∷ []
join_parts join.And left right = refl
join_parts join.Or left right = refl
join_parts join.SamePoint left right = refl
join_parts join.AtMost left right = refl
join_parts join.Equal left right = refl
join_parts join.Product left right = refl
join_parts join.As left right = refl

pub after_join : (text : List ℕ) (tokens : List Token) (read : ℕ) (b : Builder) (how : Join) (s t : ℕ) (l r : Raw) (shapes shapes' : List Shape) (forms forms' : List Form)
    → after text tokens read (action.Join how) (pushed (pushed b s l shapes forms) t r shapes' forms')
    ≡ pushed b s (joined_raw ((b.forms ++ forms) ++ forms') s) (shapes ++ shapes') (forms ++ (forms' ++ join_form how l r ∷ []))
after_join text tokens read b how s t l r shapes shapes' forms forms' =
    act_join text tokens read (grown (grown b shapes forms) shapes' forms') how s t l r ∙ topped_twice b s shapes shapes' forms forms' (join_form how l r)

pub join_tree : (b : Builder) (how : Join) (s : ℕ) (l r : Raw) (shapes shapes' : List Shape) (forms forms' : List Form) (left right : Tree)
    → IsTree (b.shapes ++ shapes) (b.forms ++ forms) l.form left → IsTree ((b.shapes ++ shapes) ++ shapes') ((b.forms ++ forms) ++ forms') r.form right
    → IsTree (b.shapes ++ (shapes ++ shapes')) (b.forms ++ (forms ++ (forms' ++ join_form how l r ∷ []))) (length ((b.forms ++ forms) ++ forms')) (joined_tree how left right)
join_tree b how s l r shapes shapes' forms forms' left right hl hr =
    let new = join_form how l r in
    let S = (b.shapes ++ shapes) ++ shapes' in
    let F = (b.forms ++ forms) ++ forms' in
    let one : IsTree S (F ++ new ∷ []) l.form left = forms_grow S F (new ∷ []) l.form left (tree_grows (b.shapes ++ shapes) shapes' (b.forms ++ forms) forms' l.form left hl) in
    let two : IsTree S (F ++ new ∷ []) r.form right = forms_grow S F (new ∷ []) r.form right hr in
    let parts : AreTrees S (F ++ new ∷ []) (parts_of new) (And left (And right Nil)) =
    subst (λ (raws : List Raw). AreTrees S (F ++ new ∷ []) raws (And left (And right Nil))) (sym (join_parts how l r)) (one, (two, tt)) in
    tree_at (length F) (joined_tree how left right) (append_assoc b.shapes shapes shapes') (simp append_assoc)
    (node S F new (join_form how no_raw no_raw) [] (And left (And right Nil)) (bare_join how l r) (join_patterns S how l r) parts)

pub joins_by : (rule inner tail other : Rule) (how : Join) (mark : Word)
    → IsOneOf (Sub inner ∷ Sub tail ∷ []) (alternatives rule) → IsOneOf (One mark.kind ∷ Sub other ∷ Do (action.Join how) ∷ []) (alternatives tail)
    → (front behind : List Word) (left right : Tree) → Reads inner front left → Reads other behind right → Reads rule (front ++ mark ∷ behind) (joined_tree how left right)
joins_by rule inner tail other how mark one two front behind left right r q text tokens read b h =
    let s = stand_split text tokens read front (mark ∷ behind) h in
    let t = r text tokens read b s.0 in
    let b1 = pushed b t.start t.raw t.shapes t.forms in
    let u = q text tokens (read + length front + 1) b1 s.1.1 in
    let b2 = pushed b1 u.start u.raw u.shapes u.forms in
    let at = read + length front + 1 + length behind in
    let b3 = pushed b t.start (joined_raw ((b.forms ++ t.forms) ++ u.forms) t.start) (t.shapes ++ u.shapes) (t.forms ++ (u.forms ++ join_form how t.raw u.raw ∷ [])) in
    let act : Runs (Do (action.Join how) ∷ []) [] text tokens at b2 b3 =
    runs_action (action.Join how) at b2 b3
    (runs_to b3 (after_join text tokens at b how t.start u.start t.raw u.raw t.shapes u.shapes t.forms u.forms)
    (runs_nothing at (after text tokens at (action.Join how) b2))) in
    let later : Runs (Sub other ∷ Do (action.Join how) ∷ []) behind text tokens (read + length front + 1) b1 b3 =
    runs_words behind (append-nil behind) (runs_append (read + length front + 1) b1 b2 b3 u.runs act) in
    let end : Runs (Sub tail ∷ []) (mark ∷ behind) text tokens (read + length front) b1 b3 =
    runs_rule tail (read + length front) b1 b3 two (runs_token mark (read + length front) b1 b3 later) in
    record {
      start = t.start;
      raw = joined_raw ((b.forms ++ t.forms) ++ u.forms) t.start;
      shapes = t.shapes ++ u.shapes;
      forms = t.forms ++ (u.forms ++ join_form how t.raw u.raw ∷ []);
      runs = runs_rule rule read b b3 one (runs_append read b b1 b3 t.runs end);
      is = join_tree b how t.start t.raw u.raw t.shapes u.shapes t.forms u.forms left right t.is u.is;
    }
