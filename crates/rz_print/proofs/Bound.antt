-- Words that are read as a form with binders.
use Rattle.std.proofs.Common.{◌≡◌, ℕ, ◌+◌, List, [], ◌∷◌, ◌++◌, inl, inr, None, Some, length, map, refl, sym, ap, ◌∙◌, subst, append_assoc, append-nil}
use Rattle.rz_lex.specs.declared.token.Tok.TheVariants as token
use Rattle.rz_syntax.specs.declared.action.Action.TheVariants as action
use Rattle.rz_syntax.specs.declared.builder.Builder.{Builder}
use Rattle.rz_syntax.specs.declared.forms.Raw.{Raw}
use Rattle.rz_syntax.specs.declared.forms.Bind.{Bind}
use Rattle.rz_syntax.specs.declared.forms.Shape.{Shape}
use Rattle.rz_syntax.specs.declared.forms.Shape.TheVariants as shape
use Rattle.rz_syntax.specs.declared.forms.Form.{Form}
use Rattle.rz_syntax.specs.declared.forms.Form.TheVariants as form
use Rattle.rz_syntax.specs.declared.grammar.Symbol.TheVariants.{One, Sub, Do}
use Rattle.rz_syntax.specs.declared.grammar.Rule.TheVariants as rule
use Rattle.rz_syntax.specs.Grammar.{IsOneOf, alternatives}
use Rattle.rz_syntax.specs.Building.{after, next_place, no_raw}
use Rattle.rz_print.specs.Text.{Word}
use Rattle.rz_print.specs.Meaning.{PatternTree, NoName, IsPattern, ArePatterns, Tree, At, Trees, Nil, And, IsTree, AreTrees, bare_bind, bind_parts}
use Rattle.rz_print.proofs.Runs.{Runs, runs_nothing, runs_token, runs_action, runs_append, runs_rule, runs_to, runs_words}
use Rattle.rz_print.proofs.Terms.{stand_split, get_last, pattern_grows, patterns_grow, Reads, node, tree_at, trees_grow, tree_grows, forms_grow}
use Rattle.rz_print.proofs.Applications.{trees_more}
use Rattle.rz_print.proofs.Atoms.{runs_here}
use Rattle.rz_print.proofs.Actions.{after_lambda, after_arrows, after_arrow, after_sigma}
use Rattle.rz_print.proofs.Gathering.{Gathers, onto, trees_join}
use Rattle.rz_print.proofs.Binding.{ReadsPattern, AreBinds, pats_of, bare_of}
use Rattle.rz_print.proofs.States.{pushed, joined_raw, noted, grown, drawn, bound, wrapped, grown_pushed}
use Rattle.rz_print.proofs.Doing.{act_open_binds}

-- the parts of binders and a body, in tables that have grown
bound_parts : (S s : List Shape) (F f : List Form) (new : Form) (binds : List Bind) (body : Raw) (ts : Trees) (tree : Tree) → AreTrees S F (bind_parts binds) ts → IsTree (S ++ s) (F ++ f) body.form tree
    → AreTrees (S ++ s) ((F ++ f) ++ new ∷ []) (bind_parts binds ++ body ∷ []) (onto ts (And tree Nil))
bound_parts S s F f new binds body ts tree hs h =
    trees_join (S ++ s) ((F ++ f) ++ new ∷ []) (bind_parts binds) (body ∷ []) ts (And tree Nil)
    (trees_more (S ++ s) (F ++ f) (new ∷ []) (bind_parts binds) ts (trees_grow S s F f (bind_parts binds) ts hs))
    (forms_grow (S ++ s) (F ++ f) (new ∷ []) body.form tree h, tt)

-- ---- a function

lambda_is : IsOneOf (Do action.Here ∷ Do action.OpenBinds ∷ One token.Lambda ∷ Sub rule.Parameter ∷ Sub rule.Parameters ∷ One token.Arrow ∷ Sub rule.Term ∷ Do action.Lambda ∷ []) (alternatives rule.Term)
unfolding alternatives
lambda_is = inl refl

pub lambda_by : (before middle : List ℕ) (front behind : List Word) (heads : List Bind) (ps : List PatternTree) (ts : Trees) (tree : Tree)
    → Gathers bound (AreBinds heads ps ts) (Sub rule.Parameter ∷ Sub rule.Parameters ∷ []) front → Reads rule.Term behind tree
    → Reads rule.Term (record { kind = token.Lambda; bytes = before } ∷ (front ++ record { kind = token.Arrow; bytes = middle } ∷ behind)) (At (form.Lambda heads no_raw) ps (onto ts (And tree Nil)))
lambda_by before middle front behind heads ps ts tree r q text tokens read b h =
    let first : Word = record { kind = token.Lambda; bytes = before } in
    let mid : Word = record { kind = token.Arrow; bytes = middle } in
    let at = next_place b read in
    let c = noted b at in
    let s = stand_split text tokens (read + 1) front (mid ∷ behind) h.1 in
    let t = r text tokens (read + 1) c [] s.0 in
    let g = grown b t.shapes t.forms in
    let b1 = bound (noted g at) t.new in
    let on = read + 1 + length front in
    let u = q text tokens (on + 1) b1 s.1.1 in
    let b2 = pushed b1 u.start u.raw u.shapes u.forms in
    let S = b.shapes ++ t.shapes in
    let F = b.forms ++ t.forms in
    let new = form.Lambda t.new u.raw in
    let raw = joined_raw (F ++ u.forms) at in
    let shapes = t.shapes ++ u.shapes in
    let forms = t.forms ++ (u.forms ++ new ∷ []) in
    let b3 = pushed b at raw shapes forms in
    let end = on + 1 + length behind in
    let made : after text tokens end action.Lambda b2 ≡ b3 =
    after_lambda text tokens end g at t.new u.start u.raw u.shapes u.forms ∙ grown_pushed b at raw t.shapes u.shapes t.forms (u.forms ++ new ∷ []) in
    let acted : Runs (Do action.Lambda ∷ []) [] text tokens end b2 b3 = runs_action action.Lambda end b2 b3 (runs_to b3 made (runs_nothing end (after text tokens end action.Lambda b2))) in
    let later : Runs (Sub rule.Term ∷ Do action.Lambda ∷ []) behind text tokens (on + 1) b1 b3 = runs_words behind (append-nil behind) (runs_append (on + 1) b1 b2 b3 u.runs acted) in
    let inside : Runs (Sub rule.Parameter ∷ Sub rule.Parameters ∷ One token.Arrow ∷ Sub rule.Term ∷ Do action.Lambda ∷ []) (front ++ mid ∷ behind) text tokens (read + 1) (bound c []) b3 =
    runs_append (read + 1) (bound c []) b1 b3 t.runs (runs_token mid on b1 b3 later) in
    let marked : Runs (One token.Lambda ∷ Sub rule.Parameter ∷ Sub rule.Parameters ∷ One token.Arrow ∷ Sub rule.Term ∷ Do action.Lambda ∷ []) (first ∷ (front ++ mid ∷ behind)) text tokens read (bound c []) b3 =
    runs_token first read (bound c []) b3 inside in
    record {
      start = at;
      raw = raw;
      shapes = shapes;
      forms = forms;
      runs = runs_rule rule.Term read b b3 lambda_is
          (runs_here read b b3 (runs_action action.OpenBinds read c b3
          (subst (λ (x : Builder). Runs (One token.Lambda ∷ Sub rule.Parameter ∷ Sub rule.Parameters ∷ One token.Arrow ∷ Sub rule.Term ∷ Do action.Lambda ∷ []) (first ∷ (front ++ mid ∷ behind)) text tokens read x b3)
          (sym (act_open_binds text tokens read c)) marked)));
      is = tree_at (length (F ++ u.forms)) (At (form.Lambda heads no_raw) ps (onto ts (And tree Nil))) (append_assoc b.shapes t.shapes u.shapes) (simp append_assoc)
          (node (S ++ u.shapes) (F ++ u.forms) new (form.Lambda heads no_raw) ps (onto ts (And tree Nil)) (ap (λ (hs : List Bind). form.Lambda hs no_raw) t.are.bare_are)
          (patterns_grow S u.shapes (pats_of t.new) ps t.are.drawn_so) (bound_parts S u.shapes F u.forms new t.new u.raw ts tree t.are.parts u.is));
    }

-- ---- a function type behind a binder

arrows_is : IsOneOf (Do action.Here ∷ Do action.OpenBinds ∷ Sub rule.Binder ∷ One token.Arrow ∷ Sub rule.Term ∷ Do action.Arrows ∷ []) (alternatives rule.Term)
unfolding alternatives
arrows_is = inr (inl refl)

-- the one binder of a list with one head
pub record Alone (head : Bind) (ps : List PatternTree) (ts : Trees) (S : List Shape) (F : List Form) (binds : List Bind) : Type 0 where
  pub bind : Bind
  pub are : binds ≡ bind ∷ []
  pub bare_is : bare_bind bind ≡ head
  pub drawn_so : ArePatterns S (bind.pat ∷ []) ps
  pub parts : AreTrees S F (bind_parts (bind ∷ [])) ts

alone : (head : Bind) (ps : List PatternTree) (ts : Trees) (S : List Shape) (F : List Form) (binds : List Bind) → AreBinds (head ∷ []) ps ts S F binds → Alone head ps ts S F binds
alone head ps ts S F [] a = let e : [] ≡ head ∷ [] = a.bare_are in absurd (cc)
alone head ps ts S F (x ∷ []) a =
    let e : bare_bind x ∷ [] ≡ head ∷ [] = a.bare_are in
    record { bind = x; are = refl; bare_is = cc; drawn_so = a.drawn_so; parts = a.parts }
alone head ps ts S F (x ∷ y ∷ zs) a = let e : bare_bind x ∷ bare_bind y ∷ map bare_bind zs ≡ head ∷ [] = a.bare_are in absurd (cc)

pub arrows_by : (middle : List ℕ) (front behind : List Word) (head : Bind) (ps : List PatternTree) (ts : Trees) (tree : Tree)
    → Gathers bound (AreBinds (head ∷ []) ps ts) (Sub rule.Binder ∷ []) front → Reads rule.Term behind tree
    → Reads rule.Term (front ++ record { kind = token.Arrow; bytes = middle } ∷ behind) (At (form.Arrow head no_raw) ps (onto ts (And tree Nil)))
arrows_by middle front behind head ps ts tree r q text tokens read b h =
    let mid : Word = record { kind = token.Arrow; bytes = middle } in
    let at = next_place b read in
    let c = noted b at in
    let s = stand_split text tokens read front (mid ∷ behind) h in
    let t = r text tokens read c [] s.0 in
    let g = grown b t.shapes t.forms in
    let S = b.shapes ++ t.shapes in
    let F = b.forms ++ t.forms in
    let a = alone head ps ts S F t.new t.are in
    let bind = a.bind in
    let b1 = bound (noted g at) (bind ∷ []) in
    let on = read + length front in
    let u = q text tokens (on + 1) b1 s.1.1 in
    let b2 = pushed b1 u.start u.raw u.shapes u.forms in
    let new = form.Arrow bind u.raw in
    let raw = joined_raw (F ++ u.forms) at in
    let shapes = t.shapes ++ u.shapes in
    let forms = t.forms ++ (u.forms ++ new ∷ []) in
    let b3 = pushed b at raw shapes forms in
    let end = on + 1 + length behind in
    let whole : wrapped (grown g u.shapes u.forms) at ((F ++ u.forms) ++ new ∷ [], raw) ≡ b3 = simp append_assoc in
    let made : after text tokens end action.Arrows b2 ≡ b3 = after_arrows text tokens end g at (bind ∷ []) u.start u.raw u.shapes u.forms ∙ whole in
    let acted : Runs (Do action.Arrows ∷ []) [] text tokens end b2 b3 = runs_action action.Arrows end b2 b3 (runs_to b3 made (runs_nothing end (after text tokens end action.Arrows b2))) in
    let later : Runs (Sub rule.Term ∷ Do action.Arrows ∷ []) behind text tokens (on + 1) b1 b3 = runs_words behind (append-nil behind) (runs_append (on + 1) b1 b2 b3 u.runs acted) in
    let first : Runs (Sub rule.Binder ∷ []) front text tokens read (bound c []) b1 = subst (λ (zs : List Bind). Runs (Sub rule.Binder ∷ []) front text tokens read (bound c []) (bound (noted g at) zs)) a.are t.runs in
    let inside : Runs (Sub rule.Binder ∷ One token.Arrow ∷ Sub rule.Term ∷ Do action.Arrows ∷ []) (front ++ mid ∷ behind) text tokens read (bound c []) b3 =
    runs_append read (bound c []) b1 b3 first (runs_token mid on b1 b3 later) in
    record {
      start = at;
      raw = raw;
      shapes = shapes;
      forms = forms;
      runs = runs_rule rule.Term read b b3 arrows_is
          (runs_here read b b3 (runs_action action.OpenBinds read c b3
          (subst (λ (x : Builder). Runs (Sub rule.Binder ∷ One token.Arrow ∷ Sub rule.Term ∷ Do action.Arrows ∷ []) (front ++ mid ∷ behind) text tokens read x b3)
          (sym (act_open_binds text tokens read c)) inside)));
      is = tree_at (length (F ++ u.forms)) (At (form.Arrow head no_raw) ps (onto ts (And tree Nil))) (append_assoc b.shapes t.shapes u.shapes) (simp append_assoc)
          (node (S ++ u.shapes) (F ++ u.forms) new (form.Arrow head no_raw) ps (onto ts (And tree Nil)) (ap (λ (x : Bind). form.Arrow x no_raw) a.bare_is)
          (patterns_grow S u.shapes (bind.pat ∷ []) ps a.drawn_so) (bound_parts S u.shapes F u.forms new (bind ∷ []) u.raw ts tree a.parts u.is));
    }

-- ---- a function type behind a type

term_is : IsOneOf (Sub rule.Rest ∷ Sub rule.Tail ∷ []) (alternatives rule.Term)
unfolding alternatives
term_is = inr (inr (inr (inl refl)))

arrow_is : IsOneOf (One token.Arrow ∷ Sub rule.Term ∷ Do action.Arrow ∷ []) (alternatives rule.Tail)
unfolding alternatives
arrow_is = inr (inl refl)

pub arrow_by : (middle : List ℕ) (front behind : List Word) (of tree : Tree) → Reads rule.Rest front of → Reads rule.Term behind tree
    → Reads rule.Term (front ++ record { kind = token.Arrow; bytes = middle } ∷ behind) (At (form.Arrow (bare_of (Some no_raw) None) no_raw) (NoName ∷ []) (And of (And tree Nil)))
arrow_by middle front behind of tree r q text tokens read b h =
    let mid : Word = record { kind = token.Arrow; bytes = middle } in
    let s = stand_split text tokens read front (mid ∷ behind) h in
    let t = r text tokens read b s.0 in
    let b1 = pushed b t.start t.raw t.shapes t.forms in
    let on = read + length front in
    let u = q text tokens (on + 1) b1 s.1.1 in
    let b2 = pushed b1 u.start u.raw u.shapes u.forms in
    let S = (b.shapes ++ t.shapes) ++ u.shapes in
    let F = (b.forms ++ t.forms) ++ u.forms in
    let bind : Bind = record { pat = record { shape = length S; at = t.raw.at }; of = Some t.raw; tope = None } in
    let new = form.Arrow bind u.raw in
    let raw = joined_raw F t.start in
    let shapes = t.shapes ++ (u.shapes ++ shape.Blank ∷ []) in
    let forms = t.forms ++ (u.forms ++ new ∷ []) in
    let b3 = pushed b t.start raw shapes forms in
    let end = on + 1 + length behind in
    let acted : Runs (Do action.Arrow ∷ []) [] text tokens end b2 b3 =
    runs_action action.Arrow end b2 b3
    (runs_to b3 (after_arrow text tokens end b t.start u.start t.raw u.raw t.shapes u.shapes t.forms u.forms) (runs_nothing end (after text tokens end action.Arrow b2))) in
    let later : Runs (Sub rule.Term ∷ Do action.Arrow ∷ []) behind text tokens (on + 1) b1 b3 = runs_words behind (append-nil behind) (runs_append (on + 1) b1 b2 b3 u.runs acted) in
    let tail : Runs (Sub rule.Tail ∷ []) (mid ∷ behind) text tokens on b1 b3 = runs_rule rule.Tail on b1 b3 arrow_is (runs_token mid on b1 b3 later) in
    let S' = S ++ shape.Blank ∷ [] in
    let one : IsTree S' (F ++ new ∷ []) t.raw.form of = tree_grows S (shape.Blank ∷ []) F (new ∷ []) t.raw.form of (tree_grows (b.shapes ++ t.shapes) u.shapes (b.forms ++ t.forms) u.forms t.raw.form of t.is) in
    let two : IsTree S' (F ++ new ∷ []) u.raw.form tree = tree_grows S (shape.Blank ∷ []) F (new ∷ []) u.raw.form tree u.is in
    record {
      start = t.start;
      raw = raw;
      shapes = shapes;
      forms = forms;
      runs = runs_rule rule.Term read b b3 term_is (runs_append read b b1 b3 t.runs tail);
      is = tree_at (length F) (At (form.Arrow (bare_of (Some no_raw) None) no_raw) (NoName ∷ []) (And of (And tree Nil))) (simp append_assoc) (simp append_assoc)
          (node S' F new (form.Arrow (bare_of (Some no_raw) None) no_raw) (NoName ∷ []) (And of (And tree Nil)) refl (get_last S shape.Blank, tt) (one, (two, tt)));
    }

-- ---- a type of pairs

sigma_is : IsOneOf (Do action.Here ∷ One token.Sigma ∷ One token.OpenParen ∷ Sub rule.Pattern ∷ One token.Colon ∷ Sub rule.Term ∷ One token.CloseParen ∷ One token.Comma ∷ Sub rule.Term ∷ Do action.Sigma ∷ []) (alternatives rule.Term)
unfolding alternatives
sigma_is = inr (inr (inl refl))

pub sigma_by : (before opening colon closing comma : List ℕ) (xs ys zs : List Word) (p : PatternTree) (of tree : Tree) → ReadsPattern xs p → Reads rule.Term ys of → Reads rule.Term zs tree
    → Reads rule.Term (record { kind = token.Sigma; bytes = before } ∷ record { kind = token.OpenParen; bytes = opening } ∷ (xs ++ record { kind = token.Colon; bytes = colon }
    ∷ (ys ++ record { kind = token.CloseParen; bytes = closing } ∷ record { kind = token.Comma; bytes = comma } ∷ zs))) (At (form.Sigma (bare_of (Some no_raw) None) no_raw) (p ∷ []) (And of (And tree Nil)))
sigma_by before opening colon closing comma xs ys zs p of tree r q o text tokens read b h =
    let first : Word = record { kind = token.Sigma; bytes = before } in
    let open1 : Word = record { kind = token.OpenParen; bytes = opening } in
    let mid : Word = record { kind = token.Colon; bytes = colon } in
    let close1 : Word = record { kind = token.CloseParen; bytes = closing } in
    let last : Word = record { kind = token.Comma; bytes = comma } in
    let at = next_place b read in
    let c = noted b at in
    let s = stand_split text tokens (read + 1 + 1) xs (mid ∷ (ys ++ close1 ∷ last ∷ zs)) h.1.1 in
    let t = r text tokens (read + 1 + 1) c s.0 in
    let b1 = drawn c t.pat t.shapes in
    let on = read + 1 + 1 + length xs in
    let s' = stand_split text tokens (on + 1) ys (close1 ∷ last ∷ zs) s.1.1 in
    let u = q text tokens (on + 1) b1 s'.0 in
    let b2 = pushed b1 u.start u.raw u.shapes u.forms in
    let place = on + 1 + length ys in
    let v = o text tokens (place + 1 + 1) b2 s'.1.1.1 in
    let b3 = pushed b2 v.start v.raw v.shapes v.forms in
    let S = ((b.shapes ++ t.shapes) ++ u.shapes) ++ v.shapes in
    let F = (b.forms ++ u.forms) ++ v.forms in
    let new = form.Sigma (record { pat = t.pat; of = Some u.raw; tope = None }) v.raw in
    let raw = joined_raw F at in
    let shapes = t.shapes ++ (u.shapes ++ v.shapes) in
    let forms = u.forms ++ (v.forms ++ new ∷ []) in
    let b4 = pushed b at raw shapes forms in
    let end = place + 1 + 1 + length zs in
    let acted : Runs (Do action.Sigma ∷ []) [] text tokens end b3 b4 =
    runs_action action.Sigma end b3 b4
    (runs_to b4 (after_sigma text tokens end b at t.pat u.start v.start u.raw v.raw t.shapes u.shapes v.shapes u.forms v.forms) (runs_nothing end (after text tokens end action.Sigma b3))) in
    let body : Runs (Sub rule.Term ∷ Do action.Sigma ∷ []) zs text tokens (place + 1 + 1) b2 b4 = runs_words zs (append-nil zs) (runs_append (place + 1 + 1) b2 b3 b4 v.runs acted) in
    let closed : Runs (One token.CloseParen ∷ One token.Comma ∷ Sub rule.Term ∷ Do action.Sigma ∷ []) (close1 ∷ last ∷ zs) text tokens place b2 b4 =
    runs_token close1 place b2 b4 (runs_token last (place + 1) b2 b4 body) in
    let typed : Runs (Sub rule.Term ∷ One token.CloseParen ∷ One token.Comma ∷ Sub rule.Term ∷ Do action.Sigma ∷ []) (ys ++ close1 ∷ last ∷ zs) text tokens (on + 1) b1 b4 =
    runs_append (on + 1) b1 b2 b4 u.runs closed in
    let inside : Runs (Sub rule.Pattern ∷ One token.Colon ∷ Sub rule.Term ∷ One token.CloseParen ∷ One token.Comma ∷ Sub rule.Term ∷ Do action.Sigma ∷ []) (xs ++ mid ∷ (ys ++ close1 ∷ last ∷ zs)) text tokens (read + 1 + 1) c b4 =
    runs_append (read + 1 + 1) c b1 b4 t.runs (runs_token mid on b1 b4 typed) in
    let one : IsTree S (F ++ new ∷ []) u.raw.form of =
    forms_grow S F (new ∷ []) u.raw.form of (tree_grows ((b.shapes ++ t.shapes) ++ u.shapes) v.shapes (b.forms ++ u.forms) v.forms u.raw.form of u.is) in
    let two : IsTree S (F ++ new ∷ []) v.raw.form tree = forms_grow S F (new ∷ []) v.raw.form tree v.is in
    let pattern : IsPattern S t.pat.shape p = pattern_grows ((b.shapes ++ t.shapes) ++ u.shapes) v.shapes t.pat.shape p (pattern_grows (b.shapes ++ t.shapes) u.shapes t.pat.shape p t.is) in
    record {
      start = at;
      raw = raw;
      shapes = shapes;
      forms = forms;
      runs = runs_rule rule.Term read b b4 sigma_is
          (runs_here read b b4 (runs_token first read c b4 (runs_token open1 (read + 1) c b4 inside)));
      is = tree_at (length F) (At (form.Sigma (bare_of (Some no_raw) None) no_raw) (p ∷ []) (And of (And tree Nil))) (simp append_assoc) (simp append_assoc)
          (node S F new (form.Sigma (bare_of (Some no_raw) None) no_raw) (p ∷ []) (And of (And tree Nil)) refl (pattern, tt) (one, (two, tt)));
    }
