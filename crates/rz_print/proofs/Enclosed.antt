-- Words that are read as two terms between marks, and as an equality at a type.
use Rattle.std.proofs.Common.{◌≡◌, ℕ, ◌+◌, List, [], ◌∷◌, ◌++◌, inl, inr, Some, length, refl, sym, ◌∙◌, subst, append_assoc, append-nil}
use Rattle.rz_lex.specs.declared.token.Tok.TheVariants as token
use Rattle.rz_lex.specs.declared.token.Token.{Token}
use Rattle.rz_syntax.specs.declared.action.Action.{Action}
use Rattle.rz_syntax.specs.declared.action.Action.TheVariants as action
use Rattle.rz_syntax.specs.declared.builder.Builder.{Builder}
use Rattle.rz_syntax.specs.declared.forms.Raw.{Raw}
use Rattle.rz_syntax.specs.declared.forms.Shape.{Shape}
use Rattle.rz_syntax.specs.declared.forms.Form.{Form}
use Rattle.rz_syntax.specs.declared.forms.Form.TheVariants as form
use Rattle.rz_syntax.specs.declared.grammar.Symbol.TheVariants.{One, Sub, Do}
use Rattle.rz_syntax.specs.declared.grammar.Rule.{Rule}
use Rattle.rz_syntax.specs.declared.grammar.Rule.TheVariants as rule
use Rattle.rz_syntax.specs.Grammar.{IsOneOf, alternatives}
use Rattle.rz_syntax.specs.Building.{after, next_place, no_raw}
use Rattle.rz_print.specs.Text.{Word}
use Rattle.rz_print.specs.Meaning.{Tree, At, Nil, And, IsTree, AreTrees, ArePatterns, bare, parts_of, patterns_of}
use Rattle.rz_print.proofs.Runs.{Runs, runs_nothing, runs_token, runs_action, runs_append, runs_rule, runs_to, runs_words}
use Rattle.rz_print.proofs.Terms.{stand_split, Reads, node, tree_at, tree_grows, forms_grow}
use Rattle.rz_print.proofs.Atoms.{runs_here}
use Rattle.rz_print.proofs.States.{grown, pushed, joined_raw, noted, topped_twice}
use Rattle.rz_print.proofs.Doing.{act_equal_at, act_pair, act_refl_typed}

-- an action makes a form of the two before it, at the place that was noted
pub record IsBinary (make : Raw → Raw → Form) (act : Action) : Type 0 where
  pub makes : (text : List ℕ) (tokens : List Token) (read : ℕ) (b : Builder) (at s t : ℕ) (l r : Raw) (shapes shapes' : List Shape) (forms forms' : List Form)
      → after text tokens read act (pushed (pushed (noted b at) s l shapes forms) t r shapes' forms')
      ≡ pushed b at (joined_raw ((b.forms ++ forms) ++ forms') at) (shapes ++ shapes') (forms ++ (forms' ++ make l r ∷ []))
  pub bare_is : (l r : Raw) → bare (make l r) ≡ make no_raw no_raw
  pub patterns : (shapes : List Shape) (l r : Raw) → ArePatterns shapes (patterns_of (make l r)) []
  pub parts : (l r : Raw) → parts_of (make l r) ≡ l ∷ r ∷ []

pub pair_is : IsBinary form.Pair action.Pair
pair_is = record {
  makes = λ text tokens read b at s t l r shapes shapes' forms forms'.
      act_pair text tokens read (grown (grown b shapes forms) shapes' forms') at s t l r ∙ topped_twice b at shapes shapes' forms forms' (form.Pair l r);
  bare_is = λ l r. refl;
  patterns = λ shapes l r. tt;
  parts = λ l r. refl;
}

pub refl_typed_is : IsBinary (λ l r. form.ReflAt l (Some r)) action.ReflTyped
refl_typed_is = record {
  makes = λ text tokens read b at s t l r shapes shapes' forms forms'.
      act_refl_typed text tokens read (grown (grown b shapes forms) shapes' forms') at s t l r ∙ topped_twice b at shapes shapes' forms forms' (form.ReflAt l (Some r));
  bare_is = λ l r. refl;
  patterns = λ shapes l r. tt;
  parts = λ l r. refl;
}

abbrev pub binary_tree : (Raw → Raw → Form) → Tree → Tree → Tree
binary_tree make left right = At (make no_raw no_raw) [] (And left (And right Nil))

two_trees : (make : Raw → Raw → Form) (act : Action) → IsBinary make act → (b : Builder) (l r : Raw) (shapes shapes' : List Shape) (forms forms' : List Form) (left right : Tree)
    → IsTree (b.shapes ++ shapes) (b.forms ++ forms) l.form left → IsTree ((b.shapes ++ shapes) ++ shapes') ((b.forms ++ forms) ++ forms') r.form right
    → IsTree (b.shapes ++ (shapes ++ shapes')) (b.forms ++ (forms ++ (forms' ++ make l r ∷ []))) (length ((b.forms ++ forms) ++ forms')) (binary_tree make left right)
two_trees make act is b l r shapes shapes' forms forms' left right hl hr =
    let new = make l r in
    let S = (b.shapes ++ shapes) ++ shapes' in
    let F = (b.forms ++ forms) ++ forms' in
    let one : IsTree S (F ++ new ∷ []) l.form left = forms_grow S F (new ∷ []) l.form left (tree_grows (b.shapes ++ shapes) shapes' (b.forms ++ forms) forms' l.form left hl) in
    let two : IsTree S (F ++ new ∷ []) r.form right = forms_grow S F (new ∷ []) r.form right hr in
    let parts : AreTrees S (F ++ new ∷ []) (parts_of new) (And left (And right Nil)) =
    subst (λ (raws : List Raw). AreTrees S (F ++ new ∷ []) raws (And left (And right Nil))) (sym (is.parts l r)) (one, (two, tt)) in
    tree_at (length F) (binary_tree make left right) (append_assoc b.shapes shapes shapes') (simp append_assoc)
    (node S F new (make no_raw no_raw) [] (And left (And right Nil)) (is.bare_is l r) (is.patterns S l r) parts)

pub enclosed_by : (make : Raw → Raw → Form) (act : Action) → IsBinary make act → (ender : Rule) (first middle last : Word)
    → IsOneOf (Do action.Here ∷ One first.kind ∷ Sub rule.Term ∷ Sub ender ∷ []) (alternatives rule.Atom)
    → IsOneOf (One middle.kind ∷ Sub rule.Term ∷ One last.kind ∷ Do act ∷ []) (alternatives ender)
    → (front behind : List Word) (left right : Tree) → Reads rule.Term front left → Reads rule.Term behind right
    → Reads rule.Atom (first ∷ (front ++ middle ∷ (behind ++ last ∷ []))) (binary_tree make left right)
enclosed_by make act is ender first middle last one two front behind left right r q text tokens read b h =
    let at = next_place b read in
    let s = stand_split text tokens (read + 1) front (middle ∷ (behind ++ last ∷ [])) h.1 in
    let t = r text tokens (read + 1) (noted b at) s.0 in
    let b1 = pushed (noted b at) t.start t.raw t.shapes t.forms in
    let place = read + 1 + length front in
    let s' = stand_split text tokens (place + 1) behind (last ∷ []) s.1.1 in
    let u = q text tokens (place + 1) b1 s'.0 in
    let b2 = pushed b1 u.start u.raw u.shapes u.forms in
    let b3 = pushed b at (joined_raw ((b.forms ++ t.forms) ++ u.forms) at) (t.shapes ++ u.shapes) (t.forms ++ (u.forms ++ make t.raw u.raw ∷ [])) in
    let end = place + 1 + length behind in
    let acted : Runs (Do act ∷ []) [] text tokens (end + 1) b2 b3 =
    runs_action act (end + 1) b2 b3
    (runs_to b3 (is.makes text tokens (end + 1) b at t.start u.start t.raw u.raw t.shapes u.shapes t.forms u.forms) (runs_nothing (end + 1) (after text tokens (end + 1) act b2))) in
    let closing : Runs (Sub ender ∷ []) (middle ∷ (behind ++ last ∷ [])) text tokens place b1 b3 =
    runs_rule ender place b1 b3 two
    (runs_token middle place b1 b3 (runs_append (place + 1) b1 b2 b3 u.runs (runs_token last end b2 b3 acted))) in
    record {
      start = at;
      raw = joined_raw ((b.forms ++ t.forms) ++ u.forms) at;
      shapes = t.shapes ++ u.shapes;
      forms = t.forms ++ (u.forms ++ make t.raw u.raw ∷ []);
      runs = runs_rule rule.Atom read b b3 one
          (runs_here read b b3 (runs_token first read (noted b at) b3 (runs_append (read + 1) (noted b at) b1 b3 t.runs closing)));
      is = two_trees make act is b t.raw u.raw t.shapes u.shapes t.forms u.forms left right t.is u.is;
    }

-- ---- an equality at a type

after_equal_at : (text : List ℕ) (tokens : List Token) (read : ℕ) (b : Builder) (s t u : ℕ) (l o r : Raw) (s1 s2 s3 : List Shape) (f1 f2 f3 : List Form)
    → after text tokens read action.EqualAt (pushed (pushed (pushed b s l s1 f1) t o s2 f2) u r s3 f3)
    ≡ pushed b s (joined_raw (((b.forms ++ f1) ++ f2) ++ f3) s) (s1 ++ (s2 ++ s3)) (f1 ++ (f2 ++ (f3 ++ form.EqualAt o l r ∷ [])))
after_equal_at text tokens read b s t u l o r s1 s2 s3 f1 f2 f3 = act_equal_at text tokens read (grown (grown (grown b s1 f1) s2 f2) s3 f3) s t u l o r ∙ simp append_assoc

abbrev pub equality_tree : Tree → Tree → Tree → Tree
equality_tree left of right = At (form.EqualAt no_raw no_raw no_raw) [] (And left (And of (And right Nil)))

equality_is : (b : Builder) (l o r : Raw) (s1 s2 s3 : List Shape) (f1 f2 f3 : List Form) (left of right : Tree)
    → IsTree (b.shapes ++ s1) (b.forms ++ f1) l.form left → IsTree ((b.shapes ++ s1) ++ s2) ((b.forms ++ f1) ++ f2) o.form of
    → IsTree (((b.shapes ++ s1) ++ s2) ++ s3) (((b.forms ++ f1) ++ f2) ++ f3) r.form right
    → IsTree (b.shapes ++ (s1 ++ (s2 ++ s3))) (b.forms ++ (f1 ++ (f2 ++ (f3 ++ form.EqualAt o l r ∷ [])))) (length (((b.forms ++ f1) ++ f2) ++ f3)) (equality_tree left of right)
equality_is b l o r s1 s2 s3 f1 f2 f3 left of right hl ho hr =
    let new = form.EqualAt o l r in
    let S = ((b.shapes ++ s1) ++ s2) ++ s3 in
    let F = ((b.forms ++ f1) ++ f2) ++ f3 in
    let l2 : IsTree ((b.shapes ++ s1) ++ s2) ((b.forms ++ f1) ++ f2) l.form left = tree_grows (b.shapes ++ s1) s2 (b.forms ++ f1) f2 l.form left hl in
    let one : IsTree S (F ++ new ∷ []) l.form left = forms_grow S F (new ∷ []) l.form left (tree_grows ((b.shapes ++ s1) ++ s2) s3 ((b.forms ++ f1) ++ f2) f3 l.form left l2) in
    let two : IsTree S (F ++ new ∷ []) o.form of = forms_grow S F (new ∷ []) o.form of (tree_grows ((b.shapes ++ s1) ++ s2) s3 ((b.forms ++ f1) ++ f2) f3 o.form of ho) in
    let three : IsTree S (F ++ new ∷ []) r.form right = forms_grow S F (new ∷ []) r.form right hr in
    tree_at (length F) (equality_tree left of right) (simp append_assoc) (simp append_assoc)
    (node S F new (form.EqualAt no_raw no_raw no_raw) [] (And left (And of (And right Nil))) refl tt (one, (two, (three, tt))))

relation_is : IsOneOf (Sub rule.Product ∷ Sub rule.RightSide ∷ []) (alternatives rule.Relation)
unfolding alternatives
relation_is = inl refl

equality_side : IsOneOf (One token.EqualAt ∷ Sub rule.Term ∷ One token.CloseBrace ∷ Sub rule.Product ∷ Do action.EqualAt ∷ []) (alternatives rule.RightSide)
unfolding alternatives
equality_side = inr (inr (inr (inr (inl refl))))

pub equality_by : (before behind : List ℕ) (xs ys zs : List Word) (left of right : Tree) → Reads rule.Product xs left → Reads rule.Term ys of → Reads rule.Product zs right
    → Reads rule.Relation (xs ++ record { kind = token.EqualAt; bytes = before } ∷ (ys ++ record { kind = token.CloseBrace; bytes = behind } ∷ zs)) (equality_tree left of right)
equality_by before behind xs ys zs left of right p q r text tokens read b h =
    let first : Word = record { kind = token.EqualAt; bytes = before } in
    let last : Word = record { kind = token.CloseBrace; bytes = behind } in
    let s = stand_split text tokens read xs (first ∷ (ys ++ last ∷ zs)) h in
    let t = p text tokens read b s.0 in
    let b1 = pushed b t.start t.raw t.shapes t.forms in
    let at = read + length xs in
    let s' = stand_split text tokens (at + 1) ys (last ∷ zs) s.1.1 in
    let u = q text tokens (at + 1) b1 s'.0 in
    let b2 = pushed b1 u.start u.raw u.shapes u.forms in
    let mid = at + 1 + length ys in
    let v = r text tokens (mid + 1) b2 s'.1.1 in
    let b3 = pushed b2 v.start v.raw v.shapes v.forms in
    let end = mid + 1 + length zs in
    let raw = joined_raw (((b.forms ++ t.forms) ++ u.forms) ++ v.forms) t.start in
    let shapes = t.shapes ++ (u.shapes ++ v.shapes) in
    let forms = t.forms ++ (u.forms ++ (v.forms ++ form.EqualAt u.raw t.raw v.raw ∷ [])) in
    let b4 = pushed b t.start raw shapes forms in
    let acted : Runs (Do action.EqualAt ∷ []) [] text tokens end b3 b4 =
    runs_action action.EqualAt end b3 b4
    (runs_to b4 (after_equal_at text tokens end b t.start u.start v.start t.raw u.raw v.raw t.shapes u.shapes v.shapes t.forms u.forms v.forms) (runs_nothing end (after text tokens end action.EqualAt b3))) in
    let last_part : Runs (Sub rule.Product ∷ Do action.EqualAt ∷ []) zs text tokens (mid + 1) b2 b4 =
    runs_words zs (append-nil zs) (runs_append (mid + 1) b2 b3 b4 v.runs acted) in
    let side : Runs (Sub rule.RightSide ∷ []) (first ∷ (ys ++ last ∷ zs)) text tokens at b1 b4 =
    runs_rule rule.RightSide at b1 b4 equality_side
    (runs_token first at b1 b4 (runs_append (at + 1) b1 b2 b4 u.runs (runs_token last mid b2 b4 last_part))) in
    record {
      start = t.start;
      raw = raw;
      shapes = shapes;
      forms = forms;
      runs = runs_rule rule.Relation read b b4 relation_is (runs_append read b b1 b4 t.runs side);
      is = equality_is b t.raw u.raw v.raw t.shapes u.shapes v.shapes t.forms u.forms v.forms left of right t.is u.is v.is;
    }
