-- Words that are read as patterns and binders.
use Rattle.std.proofs.Common.{◌≡◌, ℕ, ◌+◌, List, [], ◌∷◌, ◌++◌, inl, inr, Option, None, Some, length, map, refl, sym, ap, ◌∙◌, subst, arith, append_assoc, append-nil}
use Rattle.std.proofs.lemmas.List.{map-append}
use Rattle.rz_lex.specs.declared.token.Tok.TheVariants as token
use Rattle.rz_lex.specs.declared.token.Token.{Token}
use Rattle.rz_syntax.specs.declared.action.Action.TheVariants as action
use Rattle.rz_syntax.specs.declared.builder.Builder.{Builder}
use Rattle.rz_syntax.specs.declared.forms.Raw.{Raw}
use Rattle.rz_syntax.specs.declared.forms.Pat.{Pat}
use Rattle.rz_syntax.specs.declared.forms.Bind.{Bind}
use Rattle.rz_syntax.specs.declared.forms.Shape.{Shape}
use Rattle.rz_syntax.specs.declared.forms.Shape.TheVariants as shape
use Rattle.rz_syntax.specs.declared.forms.Form.{Form}
use Rattle.rz_syntax.specs.declared.grammar.Symbol.TheVariants.{One, Sub, Do}
use Rattle.rz_syntax.specs.declared.grammar.Rule.TheVariants as rule
use Rattle.rz_syntax.specs.Grammar.{IsOneOf, alternatives}
use Rattle.rz_syntax.specs.Building.{after, last_place, next_place, last_bytes, no_raw, no_pattern}
use Rattle.rz_print.specs.Text.{Word}
use Rattle.rz_print.specs.Meaning.{PatternTree, NameOf, NoName, PairOf, IsPattern, ArePatterns, Tree, Trees, Nil, And, IsTree, AreTrees, bare_option, bare_bind, optional, bind_parts}
use Rattle.rz_print.proofs.Runs.{Runs, runs_nothing, runs_token, runs_action, runs_append, runs_rule, runs_to, runs_words}
use Rattle.rz_print.proofs.Terms.{StandAt, stand_split, get_last, pattern_grows, patterns_grow, Reads, tree_at, trees_grow, tree_grows}
use Rattle.rz_print.proofs.Applications.{trees_at}
use Rattle.rz_print.proofs.Atoms.{runs_here, name_here}
use Rattle.rz_print.proofs.Actions.{after_pair_pattern, after_pattern, after_untyped, after_restricted}
use Rattle.rz_print.proofs.Gathering.{Gathers, Joins, gathers_then, gathers_none, gathers_rule, onto, trees_join}
use Rattle.rz_print.proofs.States.{pushed, noted, grown, shaped, operand, drawn, grouped, bound}
use Rattle.rz_print.proofs.Doing.{act_name_pattern, act_blank_pattern, act_open_patterns, act_typed}

-- ---- patterns

pub record Drawing (words : List Word) (tree : PatternTree) (text : List ℕ) (tokens : List Token) (read : ℕ) (b : Builder) : Type 0 where
  pub pat : Pat
  pub shapes : List Shape
  pub runs : Runs (Sub rule.Pattern ∷ []) words text tokens read b (drawn b pat shapes)
  pub is : IsPattern (b.shapes ++ shapes) pat.shape tree

-- Wherever they stand, the words are read as the pattern.
abbrev pub ReadsPattern : List Word → PatternTree → Type 0
ReadsPattern words tree = (text : List ℕ) (tokens : List Token) (read : ℕ) (b : Builder) → StandAt text tokens read words → Drawing words tree text tokens read b

pattern_name : IsOneOf (One token.Name ∷ Do action.NamePattern ∷ []) (alternatives rule.Pattern)
unfolding alternatives
pattern_name = inl refl

pattern_blank : IsOneOf (One token.Blank ∷ Do action.BlankPattern ∷ []) (alternatives rule.Pattern)
unfolding alternatives
pattern_blank = inr (inl refl)

pattern_pair : IsOneOf (Do action.Here ∷ One token.OpenParen ∷ Sub rule.Pattern ∷ One token.Comma ∷ Sub rule.Pattern ∷ One token.CloseParen ∷ Do action.PairPattern ∷ []) (alternatives rule.Pattern)
unfolding alternatives
pattern_pair = inr (inr (inl refl))

pub name_pattern_by : (name : List ℕ) → ReadsPattern (record { kind = token.Name; bytes = name } ∷ []) (NameOf name)
name_pattern_by name text tokens read b h =
    let spelled = last_bytes text tokens (read + 1) in
    let pat : Pat = record { shape = length b.shapes; at = last_place b (read + 1) } in
    let b1 = drawn b pat (shape.Named spelled ∷ []) in
    record {
      pat = pat;
      shapes = shape.Named spelled ∷ [];
      runs = runs_rule rule.Pattern read b b1 pattern_name
          (runs_token (record { kind = token.Name; bytes = name }) read b b1
          (runs_action action.NamePattern (read + 1) b b1
          (runs_to b1 (act_name_pattern text tokens (read + 1) b) (runs_nothing (read + 1) (after text tokens (read + 1) action.NamePattern b)))));
      is = get_last b.shapes (shape.Named spelled) ∙ ap (λ (n : List ℕ). Some (shape.Named n)) (name_here text tokens read name h.0);
    }

pub blank_pattern_by : (bytes : List ℕ) → ReadsPattern (record { kind = token.Blank; bytes = bytes } ∷ []) NoName
blank_pattern_by bytes text tokens read b h =
    let pat : Pat = record { shape = length b.shapes; at = last_place b (read + 1) } in
    let b1 = drawn b pat (shape.Blank ∷ []) in
    record {
      pat = pat;
      shapes = shape.Blank ∷ [];
      runs = runs_rule rule.Pattern read b b1 pattern_blank
          (runs_token (record { kind = token.Blank; bytes = bytes }) read b b1
          (runs_action action.BlankPattern (read + 1) b b1
          (runs_to b1 (act_blank_pattern text tokens (read + 1) b) (runs_nothing (read + 1) (after text tokens (read + 1) action.BlankPattern b)))));
      is = get_last b.shapes shape.Blank;
    }

pair_is_pattern : (S s s' : List Shape) (l r : Pat) (left right : PatternTree) → IsPattern (S ++ s) l.shape left → IsPattern ((S ++ s) ++ s') r.shape right
    → IsPattern (S ++ (s ++ (s' ++ shape.Pair l r ∷ []))) (length ((S ++ s) ++ s')) (PairOf left right)
pair_is_pattern S s s' l r left right p q =
    let T = (S ++ s) ++ s' in
    let new = shape.Pair l r ∷ [] in
    let same : T ++ new ≡ S ++ (s ++ (s' ++ new)) = simp append_assoc in
    subst (λ (ss : List Shape). IsPattern ss (length T) (PairOf left right)) same
    (l, r, get_last T (shape.Pair l r), pattern_grows T new l.shape left (pattern_grows (S ++ s) s' l.shape left p), pattern_grows T new r.shape right q)

pub pair_pattern_by : (opening middle closing : List ℕ) (front behind : List Word) (left right : PatternTree) → ReadsPattern front left → ReadsPattern behind right
    → ReadsPattern (record { kind = token.OpenParen; bytes = opening } ∷ (front ++ record { kind = token.Comma; bytes = middle } ∷ (behind ++ record { kind = token.CloseParen; bytes = closing } ∷ []))) (PairOf left right)
pair_pattern_by opening middle closing front behind left right r q text tokens read b h =
    let first : Word = record { kind = token.OpenParen; bytes = opening } in
    let mid : Word = record { kind = token.Comma; bytes = middle } in
    let last : Word = record { kind = token.CloseParen; bytes = closing } in
    let at = next_place b read in
    let s = stand_split text tokens (read + 1) front (mid ∷ (behind ++ last ∷ [])) h.1 in
    let t = r text tokens (read + 1) (noted b at) s.0 in
    let b1 = drawn (noted b at) t.pat t.shapes in
    let place = read + 1 + length front in
    let s' = stand_split text tokens (place + 1) behind (last ∷ []) s.1.1 in
    let u = q text tokens (place + 1) b1 s'.0 in
    let b2 = drawn b1 u.pat u.shapes in
    let pat : Pat = record { shape = length ((b.shapes ++ t.shapes) ++ u.shapes); at = at } in
    let shapes = t.shapes ++ (u.shapes ++ shape.Pair t.pat u.pat ∷ []) in
    let b3 = drawn b pat shapes in
    let end = place + 1 + length behind in
    let acted : Runs (Do action.PairPattern ∷ []) [] text tokens (end + 1) b2 b3 =
    runs_action action.PairPattern (end + 1) b2 b3
    (runs_to b3 (after_pair_pattern text tokens (end + 1) b at t.pat u.pat t.shapes u.shapes) (runs_nothing (end + 1) (after text tokens (end + 1) action.PairPattern b2))) in
    let later : Runs (Sub rule.Pattern ∷ One token.CloseParen ∷ Do action.PairPattern ∷ []) (behind ++ last ∷ []) text tokens (place + 1) b1 b3 =
    runs_append (place + 1) b1 b2 b3 u.runs (runs_token last end b2 b3 acted) in
    record {
      pat = pat;
      shapes = shapes;
      runs = runs_rule rule.Pattern read b b3 pattern_pair
          (runs_here read b b3 (runs_token first read (noted b at) b3 (runs_append (read + 1) (noted b at) b1 b3 t.runs (runs_token mid place b1 b3 later))));
      is = pair_is_pattern b.shapes t.shapes u.shapes t.pat u.pat left right t.is u.is;
    }

-- ---- binders

abbrev pub pats_of : List Bind → List Pat
pats_of binds = map (λ bind. bind.pat) binds

pub record AreBinds (heads : List Bind) (patterns : List PatternTree) (trees : Trees) (shapes : List Shape) (forms : List Form) (binds : List Bind) : Type 0 where
  pub bare_are : map bare_bind binds ≡ heads
  pub drawn_so : ArePatterns shapes (pats_of binds) patterns
  pub parts : AreTrees shapes forms (bind_parts binds) trees

abbrev pub bare_of : Option Raw → Option Raw → Bind
bare_of of tope = record { pat = no_pattern; of = of; tope = tope }

patterns_join : (shapes : List Shape) (xs ys : List Pat) (ps qs : List PatternTree) → ArePatterns shapes xs ps → ArePatterns shapes ys qs → ArePatterns shapes (xs ++ ys) (ps ++ qs)
patterns_join shapes [] ys [] qs a b = b
patterns_join shapes [] ys (p ∷ ps) qs a b = absurd a
patterns_join shapes (x ∷ xs) ys [] qs a b = absurd a
patterns_join shapes (x ∷ xs) ys (p ∷ ps) qs a b = (a.0, patterns_join shapes xs ys ps qs a.1 b)

pub bind_parts_join : (xs ys : List Bind) → bind_parts (xs ++ ys) ≡ bind_parts xs ++ bind_parts ys
bind_parts_join [] ys = refl
bind_parts_join (x ∷ xs) ys =
    ap (λ (rs : List Raw). (optional x.of ++ optional x.tope) ++ rs) (bind_parts_join xs ys)
    ∙ sym (append_assoc (optional x.of ++ optional x.tope) (bind_parts xs) (bind_parts ys))

pub binds_join : (hs ks : List Bind) (ps qs : List PatternTree) (ts us : Trees) → Joins (AreBinds hs ps ts) (AreBinds ks qs us) (AreBinds (hs ++ ks) (ps ++ qs) (onto ts us))
binds_join hs ks ps qs ts us shapes s forms f xs ys a b =
    let pats : ArePatterns (shapes ++ s) (pats_of xs ++ pats_of ys) (ps ++ qs) = patterns_join (shapes ++ s) (pats_of xs) (pats_of ys) ps qs (patterns_grow shapes s (pats_of xs) ps a.drawn_so) b.drawn_so in
    let parts : AreTrees (shapes ++ s) (forms ++ f) (bind_parts xs ++ bind_parts ys) (onto ts us) =
    trees_join (shapes ++ s) (forms ++ f) (bind_parts xs) (bind_parts ys) ts us (trees_grow shapes s forms f (bind_parts xs) ts a.parts) b.parts in
    record {
      bare_are = map-append bare_bind xs ys ∙ ap (λ (rs : List Bind). rs ++ map bare_bind ys) a.bare_are ∙ ap (λ (rs : List Bind). hs ++ rs) b.bare_are;
      drawn_so = subst (λ (zs : List Pat). ArePatterns (shapes ++ s) zs (ps ++ qs)) (sym (map-append (λ (bind : Bind). bind.pat) xs ys)) pats;
      parts = subst (λ (rs : List Raw). AreTrees (shapes ++ s) (forms ++ f) rs (onto ts us)) (sym (bind_parts_join xs ys)) parts;
    }

-- ---- what stands behind the type of a binder

pub record Toping (words : List Word) (head : Option Raw) (trees : Trees) (text : List ℕ) (tokens : List Token) (read : ℕ) (b : Builder) (list : List Bind) (pat : Pat) (start : ℕ) (of : Raw) : Type 0 where
  pub tope : Option Raw
  pub shapes : List Shape
  pub forms : List Form
  pub runs : Runs (Sub rule.Tope ∷ []) words text tokens read (operand (grouped (bound b list) (pat ∷ [])) start of)
      (bound (grown b shapes forms) (list ++ record { pat = pat; of = Some of; tope = tope } ∷ []))
  pub bare_is : bare_option tope ≡ head
  pub parts : AreTrees (b.shapes ++ shapes) (b.forms ++ forms) (optional tope) trees

abbrev pub ReadsTope : List Word → Option Raw → Trees → Type 0
ReadsTope words head trees =
    (text : List ℕ) (tokens : List Token) (read : ℕ) (b : Builder) (list : List Bind) (pat : Pat) (start : ℕ) (of : Raw) → StandAt text tokens read words
    → Toping words head trees text tokens read b list pat start of

no_tope : IsOneOf (Do action.AddTyped ∷ []) (alternatives rule.Tope)
unfolding alternatives
no_tope = inl refl

a_tope : IsOneOf (One token.Bar ∷ Sub rule.Term ∷ Do action.AddRestricted ∷ []) (alternatives rule.Tope)
unfolding alternatives
a_tope = inr (inl refl)

pub no_tope_by : ReadsTope [] None Nil
no_tope_by text tokens read b list pat start of h =
    let b1 = operand (grouped (bound b list) (pat ∷ [])) start of in
    let bind : Bind = record { pat = pat; of = Some of; tope = None } in
    let b2 = bound (grown b [] []) (list ++ bind ∷ []) in
    let same : bound b (list ++ bind ∷ []) ≡ b2 = simp append-nil in
    record {
      tope = None;
      shapes = [];
      forms = [];
      runs = runs_rule rule.Tope read b1 b2 no_tope
          (runs_action action.AddTyped read b1 b2
          (runs_to b2 (act_typed text tokens read b list (pat ∷ []) start of ∙ same) (runs_nothing read (after text tokens read action.AddTyped b1))));
      bare_is = refl;
      parts = tt;
    }

pub tope_by : (bytes : List ℕ) (words : List Word) (tree : Tree) → Reads rule.Term words tree → ReadsTope (record { kind = token.Bar; bytes = bytes } ∷ words) (Some no_raw) (And tree Nil)
tope_by bytes words tree r text tokens read b list pat start of h =
    let mark : Word = record { kind = token.Bar; bytes = bytes } in
    let b1 = operand (grouped (bound b list) (pat ∷ [])) start of in
    let t = r text tokens (read + 1) b1 h.1 in
    let b2 = pushed b1 t.start t.raw t.shapes t.forms in
    let bind : Bind = record { pat = pat; of = Some of; tope = Some t.raw } in
    let b3 = bound (grown b t.shapes t.forms) (list ++ bind ∷ []) in
    let at = read + 1 + length words in
    let acted : Runs (Do action.AddRestricted ∷ []) [] text tokens at b2 b3 =
    runs_action action.AddRestricted at b2 b3
    (runs_to b3 (after_restricted text tokens at b list (pat ∷ []) start t.start of t.raw t.shapes t.forms) (runs_nothing at (after text tokens at action.AddRestricted b2))) in
    let later : Runs (Sub rule.Term ∷ Do action.AddRestricted ∷ []) words text tokens (read + 1) b1 b3 =
    runs_words words (append-nil words) (runs_append (read + 1) b1 b2 b3 t.runs acted) in
    record {
      tope = Some t.raw;
      shapes = t.shapes;
      forms = t.forms;
      runs = runs_rule rule.Tope read b1 b3 a_tope (runs_token mark read b1 b3 later);
      bare_is = refl;
      parts = (t.is, tt);
    }

-- ---- a binder in brackets

binder_is : IsOneOf (One token.OpenParen ∷ Do action.OpenPatterns ∷ Sub rule.Pattern ∷ Do action.AddPattern ∷ Sub rule.Patterns ∷ One token.Colon ∷ Sub rule.Term ∷ Sub rule.Tope ∷ One token.CloseParen ∷ []) (alternatives rule.Binder)
unfolding alternatives
binder_is = inl refl

no_patterns : IsOneOf [] (alternatives rule.Patterns)
unfolding alternatives
no_patterns = inl refl

none_after : (n : ℕ) → n + 0 ≡ n
none_after n = omega arith

bind_trees : (b : Builder) (s1 s2 s3 : List Shape) (f2 f3 : List Form) (pat : Pat) (of : Raw) (tope head : Option Raw) (p : PatternTree) (tree : Tree) (trees : Trees)
    → IsPattern (b.shapes ++ s1) pat.shape p → IsTree ((b.shapes ++ s1) ++ s2) (b.forms ++ f2) of.form tree
    → bare_option tope ≡ head → AreTrees (((b.shapes ++ s1) ++ s2) ++ s3) ((b.forms ++ f2) ++ f3) (optional tope) trees
    → AreBinds (bare_of (Some no_raw) head ∷ []) (p ∷ []) (And tree trees) (b.shapes ++ (s1 ++ (s2 ++ s3))) (b.forms ++ (f2 ++ f3)) (record { pat = pat; of = Some of; tope = tope } ∷ [])
bind_trees b s1 s2 s3 f2 f3 pat of tope head p tree trees hp ht e hs =
    let S = ((b.shapes ++ s1) ++ s2) ++ s3 in
    let F = (b.forms ++ f2) ++ f3 in
    let S' = b.shapes ++ (s1 ++ (s2 ++ s3)) in
    let F' = b.forms ++ (f2 ++ f3) in
    let es : S ≡ S' = simp append_assoc in
    let ef : F ≡ F' = append_assoc b.forms f2 f3 in
    let pattern : IsPattern S pat.shape p = pattern_grows ((b.shapes ++ s1) ++ s2) s3 pat.shape p (pattern_grows (b.shapes ++ s1) s2 pat.shape p hp) in
    let one : IsTree S F of.form tree = tree_grows ((b.shapes ++ s1) ++ s2) s3 (b.forms ++ f2) f3 of.form tree ht in
    let rest : AreTrees S F (optional tope ++ []) trees = subst (λ (rs : List Raw). AreTrees S F rs trees) (sym (append-nil (optional tope))) hs in
    record {
      bare_are = ap (λ (o : Option Raw). bare_of (Some no_raw) o ∷ []) e;
      drawn_so = (subst (λ (ss : List Shape). IsPattern ss pat.shape p) es pattern, tt);
      parts = (tree_at of.form tree es ef one, trees_at (optional tope ++ []) trees es ef rest);
    }

pub binder_by : (opening colon closing : List ℕ) (xs ys zs : List Word) (head : Option Raw) (p : PatternTree) (tree : Tree) (trees : Trees) → ReadsPattern xs p → Reads rule.Term ys tree → ReadsTope zs head trees
    → Gathers bound (AreBinds (bare_of (Some no_raw) head ∷ []) (p ∷ []) (And tree trees)) (Sub rule.Binder ∷ [])
    (record { kind = token.OpenParen; bytes = opening } ∷ (xs ++ record { kind = token.Colon; bytes = colon } ∷ (ys ++ (zs ++ record { kind = token.CloseParen; bytes = closing } ∷ []))))
binder_by opening colon closing xs ys zs head p tree trees r q o text tokens read b list h =
    let first : Word = record { kind = token.OpenParen; bytes = opening } in
    let mid : Word = record { kind = token.Colon; bytes = colon } in
    let last : Word = record { kind = token.CloseParen; bytes = closing } in
    let c = bound b list in
    let g = grouped c [] in
    let s = stand_split text tokens (read + 1) xs (mid ∷ (ys ++ (zs ++ last ∷ []))) h.1 in
    let t = r text tokens (read + 1) g s.0 in
    let b1 = drawn g t.pat t.shapes in
    let on = read + 1 + length xs in
    let b2 = grouped (bound (shaped b t.shapes) list) (t.pat ∷ []) in
    let s' = stand_split text tokens (on + 1) ys (zs ++ last ∷ []) s.1.1 in
    let u = q text tokens (on + 1) b2 s'.0 in
    let n = grown (shaped b t.shapes) u.shapes u.forms in
    let b3 = operand (grouped (bound n list) (t.pat ∷ [])) u.start u.raw in
    let place = on + 1 + length ys in
    let s'' = stand_split text tokens place zs (last ∷ []) s'.1 in
    let v = o text tokens place n list t.pat u.start u.raw s''.0 in
    let bind : Bind = record { pat = t.pat; of = Some u.raw; tope = v.tope } in
    let shapes = t.shapes ++ (u.shapes ++ v.shapes) in
    let forms = u.forms ++ v.forms in
    let b4 = bound (grown n v.shapes v.forms) (list ++ bind ∷ []) in
    let b5 = bound (grown b shapes forms) (list ++ bind ∷ []) in
    let same : b4 ≡ b5 = simp append_assoc in
    let end = place + length zs in
    let ended : Runs (One token.CloseParen ∷ []) (last ∷ []) text tokens end b4 b5 = runs_token last end b4 b5 (runs_to b5 same (runs_nothing (end + 1) b4)) in
    let toped : Runs (Sub rule.Tope ∷ One token.CloseParen ∷ []) (zs ++ last ∷ []) text tokens place b3 b5 = runs_append place b3 b4 b5 v.runs ended in
    let typed : Runs (Sub rule.Term ∷ Sub rule.Tope ∷ One token.CloseParen ∷ []) (ys ++ (zs ++ last ∷ [])) text tokens (on + 1) b2 b5 = runs_append (on + 1) b2 b3 b5 u.runs toped in
    let colons : Runs (One token.Colon ∷ Sub rule.Term ∷ Sub rule.Tope ∷ One token.CloseParen ∷ []) (mid ∷ (ys ++ (zs ++ last ∷ []))) text tokens on b2 b5 = runs_token mid on b2 b5 typed in
    let none : Runs (Sub rule.Patterns ∷ []) [] text tokens on b2 b2 = runs_rule rule.Patterns on b2 b2 no_patterns (runs_nothing on b2) in
    let moved : Runs (One token.Colon ∷ Sub rule.Term ∷ Sub rule.Tope ∷ One token.CloseParen ∷ []) (mid ∷ (ys ++ (zs ++ last ∷ []))) text tokens (on + 0) b2 b5 =
    subst (λ (k : ℕ). Runs (One token.Colon ∷ Sub rule.Term ∷ Sub rule.Tope ∷ One token.CloseParen ∷ []) (mid ∷ (ys ++ (zs ++ last ∷ []))) text tokens k b2 b5) (sym (none_after on)) colons in
    let pats : Runs (Sub rule.Patterns ∷ One token.Colon ∷ Sub rule.Term ∷ Sub rule.Tope ∷ One token.CloseParen ∷ []) (mid ∷ (ys ++ (zs ++ last ∷ []))) text tokens on b2 b5 =
    runs_append on b2 b2 b5 none moved in
    let added : Runs (Do action.AddPattern ∷ Sub rule.Patterns ∷ One token.Colon ∷ Sub rule.Term ∷ Sub rule.Tope ∷ One token.CloseParen ∷ []) (mid ∷ (ys ++ (zs ++ last ∷ []))) text tokens on b1 b5 =
    runs_action action.AddPattern on b1 b5
    (subst (λ (x : Builder). Runs (Sub rule.Patterns ∷ One token.Colon ∷ Sub rule.Term ∷ Sub rule.Tope ∷ One token.CloseParen ∷ []) (mid ∷ (ys ++ (zs ++ last ∷ []))) text tokens on x b5)
    (sym (after_pattern text tokens on c [] t.pat t.shapes)) pats) in
    let inside : Runs (Sub rule.Pattern ∷ Do action.AddPattern ∷ Sub rule.Patterns ∷ One token.Colon ∷ Sub rule.Term ∷ Sub rule.Tope ∷ One token.CloseParen ∷ []) (xs ++ mid ∷ (ys ++ (zs ++ last ∷ []))) text tokens (read + 1) g b5 =
    runs_append (read + 1) g b1 b5 t.runs added in
    let opened : Runs (Do action.OpenPatterns ∷ Sub rule.Pattern ∷ Do action.AddPattern ∷ Sub rule.Patterns ∷ One token.Colon ∷ Sub rule.Term ∷ Sub rule.Tope ∷ One token.CloseParen ∷ []) (xs ++ mid ∷ (ys ++ (zs ++ last ∷ []))) text tokens (read + 1) c b5 =
    runs_action action.OpenPatterns (read + 1) c b5
    (subst (λ (x : Builder). Runs (Sub rule.Pattern ∷ Do action.AddPattern ∷ Sub rule.Patterns ∷ One token.Colon ∷ Sub rule.Term ∷ Sub rule.Tope ∷ One token.CloseParen ∷ []) (xs ++ mid ∷ (ys ++ (zs ++ last ∷ []))) text tokens (read + 1) x b5)
    (sym (act_open_patterns text tokens (read + 1) c)) inside) in
    record {
      new = bind ∷ [];
      shapes = shapes;
      forms = forms;
      runs = runs_rule rule.Binder read c b5 binder_is (runs_token first read c b5 opened);
      are = bind_trees b t.shapes u.shapes v.shapes u.forms v.forms t.pat u.raw v.tope head p tree trees t.is u.is v.bare_is v.parts;
    }

-- ---- a pattern alone, and parameters in a row

untyped_is : IsOneOf (Sub rule.Pattern ∷ Do action.AddUntyped ∷ []) (alternatives rule.Parameter)
unfolding alternatives
untyped_is = inl refl

typed_is : IsOneOf (Sub rule.Binder ∷ []) (alternatives rule.Parameter)
unfolding alternatives
typed_is = inr (inl refl)

no_parameters : IsOneOf [] (alternatives rule.Parameters)
unfolding alternatives
no_parameters = inl refl

more_parameters : IsOneOf (Sub rule.Parameter ∷ Sub rule.Parameters ∷ []) (alternatives rule.Parameters)
unfolding alternatives
more_parameters = inr (inl refl)

pub untyped_by : (words : List Word) (p : PatternTree) → ReadsPattern words p → Gathers bound (AreBinds (bare_of None None ∷ []) (p ∷ []) Nil) (Sub rule.Parameter ∷ []) words
untyped_by words p r text tokens read b list h =
    let c = bound b list in
    let t = r text tokens read c h in
    let b1 = drawn c t.pat t.shapes in
    let bind : Bind = record { pat = t.pat; of = None; tope = None } in
    let b2 = bound (grown b t.shapes []) (list ++ bind ∷ []) in
    let at = read + length words in
    let same : bound (shaped b t.shapes) (list ++ bind ∷ []) ≡ b2 = simp append-nil in
    let acted : Runs (Do action.AddUntyped ∷ []) [] text tokens at b1 b2 =
    runs_action action.AddUntyped at b1 b2 (runs_to b2 (after_untyped text tokens at b list t.pat t.shapes ∙ same) (runs_nothing at (after text tokens at action.AddUntyped b1))) in
    record {
      new = bind ∷ [];
      shapes = t.shapes;
      forms = [];
      runs = runs_rule rule.Parameter read c b2 untyped_is (runs_words words (append-nil words) (runs_append read c b1 b2 t.runs acted));
      are = record { bare_are = refl; drawn_so = (t.is, tt); parts = tt };
    }

pub parameter_by : (M : List Shape → List Form → List Bind → Type 0) (words : List Word) → Gathers bound M (Sub rule.Binder ∷ []) words → Gathers bound M (Sub rule.Parameter ∷ []) words
parameter_by M words r = gathers_rule bound M (Sub rule.Binder ∷ []) words rule.Parameter typed_is r

pub parameters_end : Gathers bound (AreBinds [] [] Nil) (Sub rule.Parameters ∷ []) []
parameters_end = gathers_rule bound (AreBinds [] [] Nil) [] [] rule.Parameters no_parameters (gathers_none bound (AreBinds [] [] Nil) (λ shapes forms. record { bare_are = refl; drawn_so = tt; parts = tt }))

-- a parameter and more of them
pub parameters_then : (hs ks : List Bind) (ps qs : List PatternTree) (ts us : Trees) (front behind : List Word) → Gathers bound (AreBinds hs ps ts) (Sub rule.Parameter ∷ []) front → Gathers bound (AreBinds ks qs us) (Sub rule.Parameters ∷ []) behind
    → Gathers bound (AreBinds (hs ++ ks) (ps ++ qs) (onto ts us)) (Sub rule.Parameter ∷ Sub rule.Parameters ∷ []) (front ++ behind)
parameters_then hs ks ps qs ts us front behind r q =
    gathers_then bound (AreBinds hs ps ts) (AreBinds ks qs us) (AreBinds (hs ++ ks) (ps ++ qs) (onto ts us)) (Sub rule.Parameter ∷ []) (Sub rule.Parameters ∷ []) front behind (binds_join hs ks ps qs ts us) r q

pub parameters_more : (hs : List Bind) (ps : List PatternTree) (ts : Trees) (words : List Word) → Gathers bound (AreBinds hs ps ts) (Sub rule.Parameter ∷ Sub rule.Parameters ∷ []) words
    → Gathers bound (AreBinds hs ps ts) (Sub rule.Parameters ∷ []) words
parameters_more hs ps ts words r = gathers_rule bound (AreBinds hs ps ts) (Sub rule.Parameter ∷ Sub rule.Parameters ∷ []) words rule.Parameters more_parameters r
