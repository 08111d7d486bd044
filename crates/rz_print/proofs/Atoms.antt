-- Words that are read as an atom, or as the first or second part of one.
use Rattle.std.proofs.Common.{◌≡◌, ℕ, ◌+◌, ◌-◌, List, [], ◌∷◌, ◌++◌, inl, inr, None, length, refl, sym, ap, ◌∙◌, subst, arith, append_assoc}
use Rattle.std.specs.Prelude.{slice_get}
use Rattle.rz_lex.specs.declared.token.Tok.TheVariants as token
use Rattle.rz_lex.specs.declared.token.Token.{Token}
use Rattle.rz_syntax.specs.declared.action.Action.{Action}
use Rattle.rz_syntax.specs.declared.action.Action.TheVariants as action
use Rattle.rz_syntax.specs.declared.action.Leaf.{Leaf}
use Rattle.rz_syntax.specs.declared.action.Leaf.TheVariants as leaf
use Rattle.rz_syntax.specs.declared.builder.Builder.{Builder}
use Rattle.rz_syntax.specs.declared.forms.Raw.{Raw}
use Rattle.rz_syntax.specs.declared.forms.Shape.{Shape}
use Rattle.rz_syntax.specs.declared.forms.Form.{Form}
use Rattle.rz_syntax.specs.declared.forms.Form.TheVariants as form
use Rattle.rz_syntax.specs.declared.grammar.Symbol.{Symbol}
use Rattle.rz_syntax.specs.declared.grammar.Symbol.TheVariants.{One, Sub, Do}
use Rattle.rz_syntax.specs.declared.grammar.Rule.{Rule}
use Rattle.rz_syntax.specs.declared.grammar.Rule.TheVariants as rule
use Rattle.rz_syntax.specs.Grammar.{IsOneOf, alternatives}
use Rattle.rz_syntax.specs.Building.{after, last_place, next_place, last_bytes, bytes_of, leaf_form, no_raw}
use Rattle.rz_print.specs.Text.{Word}
use Rattle.rz_print.specs.Meaning.{ArePatterns, Tree, At, Nil, And, AreTrees, bare, parts_of, patterns_of}
use Rattle.rz_print.proofs.Runs.{Runs, runs_nothing, runs_token, runs_action, runs_append, runs_rule, runs_to}
use Rattle.rz_print.proofs.Terms.{stand_split, Reads, node, tree_at, forms_grow}
use Rattle.rz_print.proofs.States.{noted, grown, pushed, joined_raw, topped_new, topped_once}
use Rattle.rz_print.proofs.Doing.{act_here, act_bracketed, act_first, act_second, act_refl_at, act_leaf, act_named}

pub runs_here : {symbols : List Symbol} {words : List Word} {text : List ℕ} {tokens : List Token} (read : ℕ) (b b' : Builder)
    → Runs symbols words text tokens read (noted b (next_place b read)) b' → Runs (Do action.Here ∷ symbols) words text tokens read b b'
runs_here {symbols} {words} {text} {tokens} read b b' r =
    runs_action action.Here read b b' (subst (λ (x : Builder). Runs symbols words text tokens read x b') (sym (act_here text tokens read b)) r)

-- ---- a form in brackets

after_bracketed : (text : List ℕ) (tokens : List Token) (read : ℕ) (b : Builder) (at start : ℕ) (raw : Raw) (shapes : List Shape) (forms : List Form)
    → after text tokens read action.Bracketed (pushed (noted b at) start raw shapes forms) ≡ pushed b at raw shapes forms
after_bracketed text tokens read b at start raw shapes forms = act_bracketed text tokens read (grown b shapes forms) at start raw

-- the last alternative of an atom
pub atom_in_brackets : IsOneOf (Do action.Here ∷ One token.OpenParen ∷ Sub rule.Term ∷ Sub rule.Closing ∷ []) (alternatives rule.Atom)
unfolding alternatives
atom_in_brackets = inr (inr (inr (inr (inr (inr (inr (inr (inr (inr (inr (inr (inr (inr (inr (inr (inr (inr (inl refl))))))))))))))))))

closing_alone : IsOneOf (One token.CloseParen ∷ Do action.Bracketed ∷ []) (alternatives rule.Closing)
unfolding alternatives
closing_alone = inl refl

pub in_brackets : (before behind : List ℕ) (words : List Word) (tree : Tree) → Reads rule.Term words tree
    → Reads rule.Atom (record { kind = token.OpenParen; bytes = before } ∷ (words ++ record { kind = token.CloseParen; bytes = behind } ∷ [])) tree
in_brackets before behind words tree r text tokens read b h =
    let opening : Word = record { kind = token.OpenParen; bytes = before } in
    let ending : Word = record { kind = token.CloseParen; bytes = behind } in
    let at = next_place b read in
    let s = stand_split text tokens (read + 1) words (ending ∷ []) h.1 in
    let t = r text tokens (read + 1) (noted b at) s.0 in
    let b1 = pushed (noted b at) t.start t.raw t.shapes t.forms in
    let b2 = pushed b at t.raw t.shapes t.forms in
    let place = read + 1 + length words in
    let act : Runs (Do action.Bracketed ∷ []) [] text tokens (place + 1) b1 b2 =
    runs_action action.Bracketed (place + 1) b1 b2
    (runs_to b2 (after_bracketed text tokens (place + 1) b at t.start t.raw t.shapes t.forms) (runs_nothing (place + 1) (after text tokens (place + 1) action.Bracketed b1))) in
    let end : Runs (Sub rule.Closing ∷ []) (ending ∷ []) text tokens place b1 b2 =
    runs_rule rule.Closing place b1 b2 closing_alone (runs_token ending place b1 b2 act) in
    record {
      start = at;
      raw = t.raw;
      shapes = t.shapes;
      forms = t.forms;
      runs = runs_rule rule.Atom read b b2 atom_in_brackets
          (runs_here read b b2 (runs_token opening read (noted b at) b2 (runs_append (read + 1) (noted b at) b1 b2 t.runs end)));
      is = t.is;
    }

-- ---- one part behind a mark

-- an action makes a form of the one before it, at the place that was noted
pub record IsUnary (make : Raw → Form) (act : Action) : Type 0 where
  pub makes : (text : List ℕ) (tokens : List Token) (read : ℕ) (b : Builder) (at start : ℕ) (raw : Raw) (shapes : List Shape) (forms : List Form)
      → after text tokens read act (pushed (noted b at) start raw shapes forms) ≡ pushed b at (joined_raw (b.forms ++ forms) at) shapes (forms ++ make raw ∷ [])
  pub bare_is : (raw : Raw) → bare (make raw) ≡ make no_raw
  pub patterns : (shapes : List Shape) (raw : Raw) → ArePatterns shapes (patterns_of (make raw)) []
  pub parts : (raw : Raw) → parts_of (make raw) ≡ raw ∷ []

pub first_is : IsUnary form.First action.First
first_is = record {
  makes = λ text tokens read b at start raw shapes forms. act_first text tokens read (grown b shapes forms) at start raw ∙ topped_once b at shapes forms (form.First raw);
  bare_is = λ raw. refl;
  patterns = λ shapes raw. tt;
  parts = λ raw. refl;
}

pub second_is : IsUnary form.Second action.Second
second_is = record {
  makes = λ text tokens read b at start raw shapes forms. act_second text tokens read (grown b shapes forms) at start raw ∙ topped_once b at shapes forms (form.Second raw);
  bare_is = λ raw. refl;
  patterns = λ shapes raw. tt;
  parts = λ raw. refl;
}

pub refl_at_is : IsUnary (λ raw. form.ReflAt raw None) action.ReflAt
refl_at_is = record {
  makes = λ text tokens read b at start raw shapes forms. act_refl_at text tokens read (grown b shapes forms) at start raw ∙ topped_once b at shapes forms (form.ReflAt raw None);
  bare_is = λ raw. refl;
  patterns = λ shapes raw. tt;
  parts = λ raw. refl;
}

abbrev pub unary_tree : (Raw → Form) → Tree → Tree
unary_tree make tree = At (make no_raw) [] (And tree Nil)

-- what stands behind the part, and ends with the action
abbrev pub Ends : List Symbol → List Word → Action → Type 0
Ends tail words act =
    (text : List ℕ) (tokens : List Token) (read : ℕ) (b b' : Builder) → Runs (Do act ∷ []) [] text tokens (read + length words) b b' → Runs tail words text tokens read b b'

pub unary_by : (make : Raw → Form) (act : Action) → IsUnary make act → (rule inner : Rule) (mark : Word) (tail : List Symbol) (end : List Word)
    → IsOneOf (Do action.Here ∷ One mark.kind ∷ Sub inner ∷ tail) (alternatives rule) → Ends tail end act
    → (words : List Word) (tree : Tree) → Reads inner words tree → Reads rule (mark ∷ (words ++ end)) (unary_tree make tree)
unary_by make act is rule inner mark tail end among ends words tree r text tokens read b h =
    let at = next_place b read in
    let s = stand_split text tokens (read + 1) words end h.1 in
    let t = r text tokens (read + 1) (noted b at) s.0 in
    let b1 = pushed (noted b at) t.start t.raw t.shapes t.forms in
    let b2 = pushed b at (joined_raw (b.forms ++ t.forms) at) t.shapes (t.forms ++ make t.raw ∷ []) in
    let place = read + 1 + length words in
    let acted : Runs (Do act ∷ []) [] text tokens (place + length end) b1 b2 =
    runs_action act (place + length end) b1 b2
    (runs_to b2 (is.makes text tokens (place + length end) b at t.start t.raw t.shapes t.forms) (runs_nothing (place + length end) (after text tokens (place + length end) act b1))) in
    let F = b.forms ++ t.forms in
    let parts : AreTrees (b.shapes ++ t.shapes) (F ++ make t.raw ∷ []) (parts_of (make t.raw)) (And tree Nil) =
    subst (λ (raws : List Raw). AreTrees (b.shapes ++ t.shapes) (F ++ make t.raw ∷ []) raws (And tree Nil)) (sym (is.parts t.raw))
    (forms_grow (b.shapes ++ t.shapes) F (make t.raw ∷ []) t.raw.form tree t.is, tt) in
    record {
      start = at;
      raw = joined_raw F at;
      shapes = t.shapes;
      forms = t.forms ++ make t.raw ∷ [];
      runs = runs_rule rule read b b2 among
          (runs_here read b b2 (runs_token mark read (noted b at) b2 (runs_append (read + 1) (noted b at) b1 b2 t.runs (ends text tokens place b1 b2 acted))));
      is = tree_at (length F) (At (make no_raw) [] (And tree Nil)) refl (append_assoc b.forms t.forms (make t.raw ∷ []))
          (node (b.shapes ++ t.shapes) F (make t.raw) (make no_raw) [] (And tree Nil) (is.bare_is t.raw) (is.patterns (b.shapes ++ t.shapes) t.raw) parts);
    }

-- ---- forms without parts, and names

after_leaf : (text : List ℕ) (tokens : List Token) (read : ℕ) (b : Builder) (kind : Leaf)
    → after text tokens read (action.Leaf kind) b ≡ pushed b (last_place b read) (joined_raw b.forms (last_place b read)) [] (leaf_form kind ∷ [])
after_leaf text tokens read b kind = act_leaf text tokens read b kind ∙ topped_new b (last_place b read) (leaf_form kind)

bare_leaf : (kind : Leaf) → bare (leaf_form kind) ≡ leaf_form kind
bare_leaf leaf.Universe = refl
bare_leaf _ = refl

leaf_patterns : (shapes : List Shape) (kind : Leaf) → ArePatterns shapes (patterns_of (leaf_form kind)) []
leaf_patterns shapes leaf.Universe = tt
leaf_patterns shapes _ = tt

leaf_parts : (shapes : List Shape) (forms : List Form) (kind : Leaf) → AreTrees shapes forms (parts_of (leaf_form kind)) Nil
leaf_parts shapes forms leaf.Universe = tt
leaf_parts shapes forms _ = tt

pub leaf_by : (kind : Leaf) (mark : Word) → IsOneOf (One mark.kind ∷ Do (action.Leaf kind) ∷ []) (alternatives rule.Atom)
    → Reads rule.Atom (mark ∷ []) (At (leaf_form kind) [] Nil)
leaf_by kind mark among text tokens read b h =
    let at = last_place b (read + 1) in
    let b1 = pushed b at (joined_raw b.forms at) [] (leaf_form kind ∷ []) in
    record {
      start = at;
      raw = joined_raw b.forms at;
      shapes = [];
      forms = leaf_form kind ∷ [];
      runs = runs_rule rule.Atom read b b1 among
          (runs_token mark read b b1
          (runs_action (action.Leaf kind) (read + 1) b b1
          (runs_to b1 (after_leaf text tokens (read + 1) b kind) (runs_nothing (read + 1) (after text tokens (read + 1) (action.Leaf kind) b)))));
      is = node (b.shapes ++ []) b.forms (leaf_form kind) (leaf_form kind) [] Nil (bare_leaf kind) (leaf_patterns (b.shapes ++ []) kind) (leaf_parts (b.shapes ++ []) (b.forms ++ leaf_form kind ∷ []) kind);
    }

after_named : (text : List ℕ) (tokens : List Token) (read : ℕ) (b : Builder)
    → after text tokens read action.Named b ≡ pushed b (last_place b read) (joined_raw b.forms (last_place b read)) [] (form.Named (last_bytes text tokens read) ∷ [])
after_named text tokens read b = act_named text tokens read b ∙ topped_new b (last_place b read) (form.Named (last_bytes text tokens read))

pub name_here : (text : List ℕ) (tokens : List Token) (read : ℕ) (name : List ℕ) → bytes_of text (slice_get tokens read) ≡ name → last_bytes text tokens (read + 1) ≡ name
unfolding last_bytes
name_here text tokens read name e =
    let same : read + 1 - 1 ≡ read = omega arith in
    ap (λ (n : ℕ). bytes_of text (slice_get tokens n)) same ∙ e

atom_name : IsOneOf (One token.Name ∷ Do action.Named ∷ []) (alternatives rule.Atom)
unfolding alternatives
atom_name = inl refl

pub name_by : (name : List ℕ) → Reads rule.Atom (record { kind = token.Name; bytes = name } ∷ []) (At (form.Named name) [] Nil)
name_by name text tokens read b h =
    let at = last_place b (read + 1) in
    let spelled = last_bytes text tokens (read + 1) in
    let b1 = pushed b at (joined_raw b.forms at) [] (form.Named spelled ∷ []) in
    record {
      start = at;
      raw = joined_raw b.forms at;
      shapes = [];
      forms = form.Named spelled ∷ [];
      runs = runs_rule rule.Atom read b b1 atom_name
          (runs_token (record { kind = token.Name; bytes = name }) read b b1
          (runs_action action.Named (read + 1) b b1
          (runs_to b1 (after_named text tokens (read + 1) b) (runs_nothing (read + 1) (after text tokens (read + 1) action.Named b)))));
      is = node (b.shapes ++ []) b.forms (form.Named spelled) (form.Named name) [] Nil (ap form.Named (name_here text tokens read name h.0)) tt tt;
    }
