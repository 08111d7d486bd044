-- Words that are read as an application.
use Rattle.std.proofs.Common.{◌≡◌, ℕ, ◌+◌, List, [], ◌∷◌, ◌++◌, inl, inr, length, refl, sym, ap, ◌∙◌, subst, arith, append_assoc, append-nil}
use Rattle.rz_lex.specs.declared.token.Token.{Token}
use Rattle.rz_syntax.specs.declared.action.Action.TheVariants as action
use Rattle.rz_syntax.specs.declared.builder.Builder.{Builder}
use Rattle.rz_syntax.specs.declared.forms.Raw.{Raw}
use Rattle.rz_syntax.specs.declared.forms.Shape.{Shape}
use Rattle.rz_syntax.specs.declared.forms.Form.{Form}
use Rattle.rz_syntax.specs.declared.forms.Form.TheVariants as form
use Rattle.rz_syntax.specs.declared.grammar.Symbol.{Symbol}
use Rattle.rz_syntax.specs.declared.grammar.Symbol.TheVariants.{Sub, Do}
use Rattle.rz_syntax.specs.declared.grammar.Rule.TheVariants as rule
use Rattle.rz_syntax.specs.Grammar.{IsOneOf, alternatives}
use Rattle.rz_syntax.specs.Building.{after, no_raw}
use Rattle.rz_print.specs.Text.{Word}
use Rattle.rz_print.specs.Meaning.{Tree, At, Trees, Nil, And, IsTree, AreTrees, bare_parts}
use Rattle.rz_print.proofs.Runs.{Runs, runs_nothing, runs_action, runs_append, runs_rule, runs_to, runs_words}
use Rattle.rz_print.proofs.Terms.{StandAt, stand_split, Reading, Reads, node, tree_at, trees_grow, tree_grows, forms_grow}
use Rattle.rz_print.proofs.States.{argued, operand, grown, pushed, joined_raw, topped_once}
use Rattle.rz_print.proofs.Doing.{act_open_arguments, act_argument, act_head, act_apply}

-- a head on top, and its arguments so far
abbrev applied : Builder → ℕ → Raw → List Shape → List Form → List Raw → Builder
applied b start raw shapes forms list = argued (pushed b start raw shapes forms) list

-- before the head is read
abbrev opened : Builder → Builder
opened b = argued b []

runs_open : {symbols : List Symbol} {words : List Word} {text : List ℕ} {tokens : List Token} (read : ℕ) (b b' : Builder)
    → Runs symbols words text tokens read (opened b) b' → Runs (Do action.OpenArguments ∷ symbols) words text tokens read b b'
runs_open {symbols} {words} {text} {tokens} read b b' r =
    runs_action action.OpenArguments read b b' (subst (λ (x : Builder). Runs symbols words text tokens read x b') (sym (act_open_arguments text tokens read b)) r)

after_argument : (text : List ℕ) (tokens : List Token) (read : ℕ) (b : Builder) (start : ℕ) (raw : Raw) (shapes : List Shape) (forms : List Form) (list : List Raw)
    → (s : ℕ) (arg : Raw) (more : List Shape) (new : List Form)
    → after text tokens read action.AddArgument (pushed (applied b start raw shapes forms list) s arg more new)
    ≡ applied b start raw (shapes ++ more) (forms ++ new) (list ++ arg ∷ [])
after_argument text tokens read b start raw shapes forms list s arg more new =
    act_argument text tokens read (operand (grown (grown b shapes forms) more new) start raw) list s arg ∙ simp append_assoc

after_head : (text : List ℕ) (tokens : List Token) (read : ℕ) (b : Builder) (start : ℕ) (raw : Raw) (shapes : List Shape) (forms : List Form)
    → after text tokens read action.Apply (applied b start raw shapes forms []) ≡ pushed b start raw shapes forms
after_head text tokens read b start raw shapes forms = act_head text tokens read (grown b shapes forms) start raw

after_apply : (text : List ℕ) (tokens : List Token) (read : ℕ) (b : Builder) (start : ℕ) (raw : Raw) (shapes : List Shape) (forms : List Form) (arg : Raw) (args : List Raw)
    → after text tokens read action.Apply (applied b start raw shapes forms (arg ∷ args))
    ≡ pushed b start (joined_raw (b.forms ++ forms) start) shapes (forms ++ form.App raw (arg ∷ args) ∷ [])
after_apply text tokens read b start raw shapes forms arg args =
    act_apply text tokens read (grown b shapes forms) start raw arg args ∙ topped_once b start shapes forms (form.App raw (arg ∷ args))

application_is : IsOneOf (Do action.OpenArguments ∷ Sub rule.Head ∷ Sub rule.Arguments ∷ Do action.Apply ∷ []) (alternatives rule.Application)
unfolding alternatives
application_is = inl refl

no_arguments : IsOneOf [] (alternatives rule.Arguments)
unfolding alternatives
no_arguments = inl refl

one_argument : IsOneOf (Sub rule.Atom ∷ Do action.AddArgument ∷ Sub rule.Arguments ∷ []) (alternatives rule.Arguments)
unfolding alternatives
one_argument = inr (inl refl)

-- ---- a head alone

pub head_alone : (words : List Word) (tree : Tree) → Reads rule.Head words tree → Reads rule.Application words tree
head_alone words tree r text tokens read b h =
    let t = r text tokens read (opened b) h in
    let b1 = applied b t.start t.raw t.shapes t.forms [] in
    let b2 = pushed b t.start t.raw t.shapes t.forms in
    let at = read + length words in
    let act : Runs (Do action.Apply ∷ []) [] text tokens at b1 b2 =
    runs_action action.Apply at b1 b2
    (runs_to b2 (after_head text tokens at b t.start t.raw t.shapes t.forms) (runs_nothing at (after text tokens at action.Apply b1))) in
    let none : Runs (Sub rule.Arguments ∷ []) [] text tokens at b1 b1 = runs_rule rule.Arguments at b1 b1 no_arguments (runs_nothing at b1) in
    let tail : Runs (Sub rule.Arguments ∷ Do action.Apply ∷ []) [] text tokens at b1 b2 =
    runs_append at b1 b1 b2 none (zero_on text tokens at b1 b2 act) in
    record {
      start = t.start;
      raw = t.raw;
      shapes = t.shapes;
      forms = t.forms;
      runs = runs_rule rule.Application read b b2 application_is
          (runs_open read b b2 (runs_words words (append-nil words) (runs_append read (opened b) b1 b2 t.runs tail)));
      is = t.is;
    }
  where
    zero_on : {symbols : List Symbol} {words : List Word} (text : List ℕ) (tokens : List Token) (read : ℕ) (b b' : Builder) → Runs symbols words text tokens read b b' → Runs symbols words text tokens (read + 0) b b'
    zero_on {symbols} {words} text tokens read b b' r = subst (λ (n : ℕ). Runs symbols words text tokens n b b') (omega arith) r

-- ---- arguments

pub record Arguments (words : List Word) (trees : Trees) (text : List ℕ) (tokens : List Token) (read : ℕ) (b : Builder) (start : ℕ) (raw : Raw) (shapes : List Shape) (forms : List Form) (list : List Raw) : Type 0 where
  pub more : List Shape
  pub new : List Form
  pub raws : List Raw
  pub runs : Runs (Sub rule.Arguments ∷ []) words text tokens read (applied b start raw shapes forms list) (applied b start raw (shapes ++ more) (forms ++ new) (list ++ raws))
  pub are : AreTrees (b.shapes ++ (shapes ++ more)) (b.forms ++ (forms ++ new)) raws trees

-- wherever they stand, and whatever the head is, the words are read as these arguments
abbrev pub ReadsArguments : List Word → Trees → Type 0
ReadsArguments words trees =
    (text : List ℕ) (tokens : List Token) (read : ℕ) (b : Builder) (start : ℕ) (raw : Raw) (shapes : List Shape) (forms : List Form) (list : List Raw)
    → StandAt text tokens read words → Arguments words trees text tokens read b start raw shapes forms list

nothing_more : (b : Builder) (start : ℕ) (raw : Raw) (shapes : List Shape) (forms : List Form) (list : List Raw)
    → applied b start raw shapes forms list ≡ applied b start raw (shapes ++ []) (forms ++ []) (list ++ [])
nothing_more b start raw shapes forms list = simp append-nil

pub arguments_end : ReadsArguments [] Nil
arguments_end text tokens read b start raw shapes forms list h = record {
  more = [];
  new = [];
  raws = [];
  runs = runs_to (applied b start raw (shapes ++ []) (forms ++ []) (list ++ [])) (nothing_more b start raw shapes forms list)
      (runs_rule rule.Arguments read (applied b start raw shapes forms list) (applied b start raw shapes forms list) no_arguments (runs_nothing read (applied b start raw shapes forms list)));
  are = tt;
}

in_a_row : (b : Builder) (start : ℕ) (raw : Raw) (shapes m1 m2 : List Shape) (forms n1 n2 : List Form) (list : List Raw) (arg : Raw) (raws : List Raw)
    → applied b start raw ((shapes ++ m1) ++ m2) ((forms ++ n1) ++ n2) ((list ++ arg ∷ []) ++ raws) ≡ applied b start raw (shapes ++ (m1 ++ m2)) (forms ++ (n1 ++ n2)) (list ++ arg ∷ raws)
in_a_row b start raw shapes m1 m2 forms n1 n2 list arg raws = simp append_assoc

pub trees_at : {shapes shapes' : List Shape} {forms forms' : List Form} (raws : List Raw) (trees : Trees) → shapes ≡ shapes' → forms ≡ forms' → AreTrees shapes forms raws trees → AreTrees shapes' forms' raws trees
trees_at {shapes} {shapes'} {forms} raws trees e f h =
    subst (λ (fs : List Form). AreTrees shapes' fs raws trees) f (subst (λ (ss : List Shape). AreTrees ss forms raws trees) e h)

argument_trees : (b : Builder) (shapes m1 m2 : List Shape) (forms n1 n2 : List Form) (arg : Raw) (raws : List Raw) (tree : Tree) (trees : Trees)
    → IsTree ((b.shapes ++ shapes) ++ m1) ((b.forms ++ forms) ++ n1) arg.form tree
    → AreTrees (b.shapes ++ ((shapes ++ m1) ++ m2)) (b.forms ++ ((forms ++ n1) ++ n2)) raws trees
    → AreTrees (b.shapes ++ (shapes ++ (m1 ++ m2))) (b.forms ++ (forms ++ (n1 ++ n2))) (arg ∷ raws) (And tree trees)
argument_trees b shapes m1 m2 forms n1 n2 arg raws tree trees one rest = (
  tree_at arg.form tree (simp append_assoc) (simp append_assoc) (tree_grows ((b.shapes ++ shapes) ++ m1) m2 ((b.forms ++ forms) ++ n1) n2 arg.form tree one),
  trees_at raws trees (simp append_assoc) (simp append_assoc) rest,
)

pub argument_then : (front behind : List Word) (tree : Tree) (trees : Trees) → Reads rule.Atom front tree → ReadsArguments behind trees → ReadsArguments (front ++ behind) (And tree trees)
argument_then front behind tree trees r q text tokens read b start raw shapes forms list h =
    let s = stand_split text tokens read front behind h in
    let c = applied b start raw shapes forms list in
    let t = r text tokens read c s.0 in
    let c1 = pushed c t.start t.raw t.shapes t.forms in
    let c2 = applied b start raw (shapes ++ t.shapes) (forms ++ t.forms) (list ++ t.raw ∷ []) in
    let at = read + length front in
    let u = q text tokens at b start raw (shapes ++ t.shapes) (forms ++ t.forms) (list ++ t.raw ∷ []) s.1 in
    let c3 = applied b start raw ((shapes ++ t.shapes) ++ u.more) ((forms ++ t.forms) ++ u.new) ((list ++ t.raw ∷ []) ++ u.raws) in
    let act : Runs (Do action.AddArgument ∷ Sub rule.Arguments ∷ []) behind text tokens at c1 c3 =
    runs_action action.AddArgument at c1 c3
    (subst (λ (x : Builder). Runs (Sub rule.Arguments ∷ []) behind text tokens at x c3)
    (sym (after_argument text tokens at b start raw shapes forms list t.start t.raw t.shapes t.forms)) u.runs) in
    record {
      more = t.shapes ++ u.more;
      new = t.forms ++ u.new;
      raws = t.raw ∷ u.raws;
      runs = runs_to (applied b start raw (shapes ++ (t.shapes ++ u.more)) (forms ++ (t.forms ++ u.new)) (list ++ t.raw ∷ u.raws))
          (in_a_row b start raw shapes t.shapes u.more forms t.forms u.new list t.raw u.raws)
          (runs_rule rule.Arguments read c c3 one_argument (runs_append read c c1 c3 t.runs act));
      are = argument_trees b shapes t.shapes u.more forms t.forms u.new t.raw u.raws tree trees t.is u.are;
    }

-- ---- the application

abbrev pub blanks : Trees → List Raw
blanks Nil = []
blanks (And tree trees) = no_raw ∷ blanks trees

bare_blanks : (shapes : List Shape) (forms : List Form) (raws : List Raw) (trees : Trees) → AreTrees shapes forms raws trees → bare_parts raws ≡ blanks trees
bare_blanks shapes forms [] Nil h = refl
bare_blanks shapes forms [] (And tree trees) h = absurd h
bare_blanks shapes forms (raw ∷ raws) Nil h = absurd h
bare_blanks shapes forms (raw ∷ raws) (And tree trees) h = ap (λ (rs : List Raw). no_raw ∷ rs) (bare_blanks shapes forms raws trees h.1)

abbrev pub application_tree : Tree → Trees → Tree
application_tree head args = At (form.App no_raw (blanks args)) [] (And head args)

pub trees_more : (shapes : List Shape) (forms more : List Form) (raws : List Raw) (trees : Trees) → AreTrees shapes forms raws trees → AreTrees shapes (forms ++ more) raws trees
trees_more shapes forms more raws trees h =
    subst (λ (ss : List Shape). AreTrees ss (forms ++ more) raws trees) (append-nil shapes) (trees_grow shapes [] forms more raws trees h)

-- the last step, for arguments of which there is one
finish : (front behind : List Word) (head first : Tree) (others : Trees) (text : List ℕ) (tokens : List Token) (read : ℕ) (b : Builder)
    → (t : Reading rule.Head front head text tokens read (opened b)) (more : List Shape) (new : List Form) (raws : List Raw)
    → Runs (Sub rule.Arguments ∷ []) behind text tokens (read + length front) (applied b t.start t.raw t.shapes t.forms []) (applied b t.start t.raw (t.shapes ++ more) (t.forms ++ new) raws)
    → AreTrees (b.shapes ++ (t.shapes ++ more)) (b.forms ++ (t.forms ++ new)) raws (And first others)
    → Reading rule.Application (front ++ behind) (application_tree head (And first others)) text tokens read b
finish front behind head first others text tokens read b t more new [] runs are = absurd are
finish front behind head first others text tokens read b t more new (arg ∷ args) runs are =
    let S = b.shapes ++ (t.shapes ++ more) in
    let F = b.forms ++ (t.forms ++ new) in
    let made = form.App t.raw (arg ∷ args) in
    let b1 = applied b t.start t.raw (t.shapes ++ more) (t.forms ++ new) (arg ∷ args) in
    let b2 = pushed b t.start (joined_raw F t.start) (t.shapes ++ more) ((t.forms ++ new) ++ made ∷ []) in
    let at = read + length front + length behind in
    let act : Runs (Do action.Apply ∷ []) [] text tokens at b1 b2 =
    runs_action action.Apply at b1 b2
    (runs_to b2 (after_apply text tokens at b t.start t.raw (t.shapes ++ more) (t.forms ++ new) arg args) (runs_nothing at (after text tokens at action.Apply b1))) in
    let tail : Runs (Sub rule.Arguments ∷ Do action.Apply ∷ []) behind text tokens (read + length front) (applied b t.start t.raw t.shapes t.forms []) b2 =
    runs_words behind (append-nil behind) (runs_append (read + length front) (applied b t.start t.raw t.shapes t.forms []) b1 b2 runs act) in
    let whole_head : IsTree S F t.raw.form head =
    tree_at t.raw.form head (append_assoc b.shapes t.shapes more) (append_assoc b.forms t.forms new)
    (tree_grows (b.shapes ++ t.shapes) more (b.forms ++ t.forms) new t.raw.form head t.is) in
    record {
      start = t.start;
      raw = joined_raw F t.start;
      shapes = t.shapes ++ more;
      forms = (t.forms ++ new) ++ made ∷ [];
      runs = runs_rule rule.Application read b b2 application_is
          (runs_open read b b2 (runs_append read (opened b) (applied b t.start t.raw t.shapes t.forms []) b2 t.runs tail));
      is = tree_at (length F) (application_tree head (And first others)) refl (append_assoc b.forms (t.forms ++ new) (made ∷ []))
          (node S F made (form.App no_raw (blanks (And first others))) [] (And head (And first others))
          (ap (form.App no_raw) (bare_blanks S F (arg ∷ args) (And first others) are)) tt
          (forms_grow S F (made ∷ []) t.raw.form head whole_head, trees_more S F (made ∷ []) (arg ∷ args) (And first others) are));
    }

pub application_by : (front behind : List Word) (head first : Tree) (others : Trees) → Reads rule.Head front head → ReadsArguments behind (And first others)
    → Reads rule.Application (front ++ behind) (application_tree head (And first others))
application_by front behind head first others r q text tokens read b h =
    let s = stand_split text tokens read front behind h in
    let t = r text tokens read (opened b) s.0 in
    let u = q text tokens (read + length front) b t.start t.raw t.shapes t.forms [] s.1 in
    finish front behind head first others text tokens read b t u.more u.new u.raws u.runs u.are
