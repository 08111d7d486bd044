-- Words that are read as more of a list on top: arguments, faces, or binders.
use Rattle.std.proofs.Common.{◌≡◌, ℕ, ◌+◌, List, [], ◌∷◌, ◌++◌, inl, inr, length, map, refl, sym, ap, ◌∙◌, subst, append_assoc, append-nil}
use Rattle.std.proofs.lemmas.List.{map-append}
use Rattle.rz_lex.specs.declared.token.Tok.TheVariants as token
use Rattle.rz_lex.specs.declared.token.Token.{Token}
use Rattle.rz_syntax.specs.declared.action.Action.TheVariants as action
use Rattle.rz_syntax.specs.declared.builder.Builder.{Builder}
use Rattle.rz_syntax.specs.declared.forms.Raw.{Raw}
use Rattle.rz_syntax.specs.declared.forms.RawFace.{RawFace}
use Rattle.rz_syntax.specs.declared.forms.Shape.{Shape}
use Rattle.rz_syntax.specs.declared.forms.Form.{Form}
use Rattle.rz_syntax.specs.declared.grammar.Symbol.{Symbol}
use Rattle.rz_syntax.specs.declared.grammar.Symbol.TheVariants.{One, Sub, Do}
use Rattle.rz_syntax.specs.declared.grammar.Rule.{Rule}
use Rattle.rz_syntax.specs.declared.grammar.Rule.TheVariants as rule
use Rattle.rz_syntax.specs.Grammar.{IsOneOf, alternatives}
use Rattle.rz_syntax.specs.Building.{after, no_raw}
use Rattle.rz_print.specs.Text.{Word}
use Rattle.rz_print.specs.Meaning.{Tree, Trees, Nil, And, AreTrees, bare_face, bare_parts, face_parts}
use Rattle.rz_print.proofs.Runs.{Runs, runs_nothing, runs_token, runs_action, runs_append, runs_rule, runs_to, runs_words}
use Rattle.rz_print.proofs.Terms.{StandAt, stand_split, Reads, tree_at, trees_grow, tree_grows}
use Rattle.rz_print.proofs.Actions.{after_part, after_face}
use Rattle.rz_print.proofs.States.{pushed, grown, argued, faced, grown_none, grown_twice}

-- Some symbols read the words, and items are added to the list on top, which is put there by `put`.
pub record Gathered {X : Type 0} (put : Builder → List X → Builder) (M : List Shape → List Form → List X → Type 0) (symbols : List Symbol) (words : List Word) (text : List ℕ) (tokens : List Token) (read : ℕ) (b : Builder) (list : List X) : Type 0 where
  pub new : List X
  pub shapes : List Shape
  pub forms : List Form
  pub runs : Runs symbols words text tokens read (put b list) (put (grown b shapes forms) (list ++ new))
  pub are : M (b.shapes ++ shapes) (b.forms ++ forms) new

abbrev pub Gathers : {X : Type 0} → (Builder → List X → Builder) → (List Shape → List Form → List X → Type 0) → List Symbol → List Word → Type 0
Gathers {X} put M symbols words =
    (text : List ℕ) (tokens : List Token) (read : ℕ) (b : Builder) (list : List X) → StandAt text tokens read words
    → Gathered put M symbols words text tokens read b list

-- what two lists of new items are together
abbrev pub Joins : {X : Type 0} → (List Shape → List Form → List X → Type 0) → (List Shape → List Form → List X → Type 0) → (List Shape → List Form → List X → Type 0) → Type 0
Joins {X} M N L =
    (shapes s : List Shape) (forms f : List Form) (xs ys : List X) → M shapes forms xs → N (shapes ++ s) (forms ++ f) ys → L (shapes ++ s) (forms ++ f) (xs ++ ys)

made_at : {X : Type 0} (L : List Shape → List Form → List X → Type 0) {s s' : List Shape} {f f' : List Form} {xs : List X} → s ≡ s' → f ≡ f' → L s f xs → L s' f' xs
made_at L {s} {s'} {f} {xs} e g h = subst (λ (fs : List Form). L s' fs xs) g (subst (λ (ss : List Shape). L ss f xs) e h)

pub gathers_then : {X : Type 0} (put : Builder → List X → Builder) (M N L : List Shape → List Form → List X → Type 0) (xs ys : List Symbol) (front behind : List Word) → Joins M N L
    → Gathers put M xs front → Gathers put N ys behind → Gathers put L (xs ++ ys) (front ++ behind)
gathers_then put M N L xs ys front behind join r q text tokens read b list h =
    let s = stand_split text tokens read front behind h in
    let t = r text tokens read b list s.0 in
    let u = q text tokens (read + length front) (grown b t.shapes t.forms) (list ++ t.new) s.1 in
    let last = put (grown (grown b t.shapes t.forms) u.shapes u.forms) ((list ++ t.new) ++ u.new) in
    let same : last ≡ put (grown b (t.shapes ++ u.shapes) (t.forms ++ u.forms)) (list ++ (t.new ++ u.new)) =
    ap (λ (c : Builder). put c ((list ++ t.new) ++ u.new)) (grown_twice b t.shapes u.shapes t.forms u.forms)
    ∙ ap (λ (zs : List _). put (grown b (t.shapes ++ u.shapes) (t.forms ++ u.forms)) zs) (append_assoc list t.new u.new) in
    record {
      new = t.new ++ u.new;
      shapes = t.shapes ++ u.shapes;
      forms = t.forms ++ u.forms;
      runs = runs_to (put (grown b (t.shapes ++ u.shapes) (t.forms ++ u.forms)) (list ++ (t.new ++ u.new))) same
          (runs_append read (put b list) (put (grown b t.shapes t.forms) (list ++ t.new)) last t.runs u.runs);
      are = made_at L (append_assoc b.shapes t.shapes u.shapes) (append_assoc b.forms t.forms u.forms) (join (b.shapes ++ t.shapes) u.shapes (b.forms ++ t.forms) u.forms t.new u.new t.are u.are);
    }

pub gathers_none : {X : Type 0} (put : Builder → List X → Builder) (M : List Shape → List Form → List X → Type 0) → ((shapes : List Shape) (forms : List Form) → M shapes forms []) → Gathers put M [] []
gathers_none put M m text tokens read b list h = record {
  new = [];
  shapes = [];
  forms = [];
  runs = runs_to (put (grown b [] []) (list ++ []))
      (ap (λ (c : Builder). put c list) (grown_none b) ∙ ap (λ (zs : List _). put (grown b [] []) zs) (sym (append-nil list)))
      (runs_nothing read (put b list));
  are = m (b.shapes ++ []) (b.forms ++ []);
}

pub gathers_mark : {X : Type 0} (put : Builder → List X → Builder) (M : List Shape → List Form → List X → Type 0) (symbols : List Symbol) (mark : Word) (words : List Word) → Gathers put M symbols words → Gathers put M (One mark.kind ∷ symbols) (mark ∷ words)
gathers_mark put M symbols mark words r text tokens read b list h =
    let t = r text tokens (read + 1) b list h.1 in
    record {
      new = t.new;
      shapes = t.shapes;
      forms = t.forms;
      runs = runs_token mark read (put b list) (put (grown b t.shapes t.forms) (list ++ t.new)) t.runs;
      are = t.are;
    }

pub gathers_rule : {X : Type 0} (put : Builder → List X → Builder) (M : List Shape → List Form → List X → Type 0) (symbols : List Symbol) (words : List Word) (rule : Rule) → IsOneOf symbols (alternatives rule)
    → Gathers put M symbols words → Gathers put M (Sub rule ∷ []) words
gathers_rule put M symbols words rule among r text tokens read b list h =
    let t = r text tokens read b list h in
    record {
      new = t.new;
      shapes = t.shapes;
      forms = t.forms;
      runs = runs_rule rule read (put b list) (put (grown b t.shapes t.forms) (list ++ t.new)) among t.runs;
      are = t.are;
    }

-- ---- trees in a row

abbrev pub onto : Trees → Trees → Trees
onto Nil others = others
onto (And tree trees) others = And tree (onto trees others)

pub trees_join : (shapes : List Shape) (forms : List Form) (xs ys : List Raw) (ts us : Trees) → AreTrees shapes forms xs ts → AreTrees shapes forms ys us → AreTrees shapes forms (xs ++ ys) (onto ts us)
trees_join shapes forms [] ys Nil us a b = b
trees_join shapes forms [] ys (And t ts) us a b = absurd a
trees_join shapes forms (x ∷ xs) ys Nil us a b = absurd a
trees_join shapes forms (x ∷ xs) ys (And t ts) us a b = (a.0, trees_join shapes forms xs ys ts us a.1 b)

-- ---- six terms

abbrev pub AreArguments : List Raw → Trees → List Shape → List Form → List Raw → Type 0
AreArguments heads trees shapes forms raws = AreTrees shapes forms raws trees × (bare_parts raws ≡ heads)

pub arguments_join : (hs ks : List Raw) (ts us : Trees) → Joins (AreArguments hs ts) (AreArguments ks us) (AreArguments (hs ++ ks) (onto ts us))
arguments_join hs ks ts us shapes s forms f xs ys a b = (
  trees_join (shapes ++ s) (forms ++ f) xs ys ts us (trees_grow shapes s forms f xs ts a.0) b.0,
  map-append (λ (r : Raw). no_raw) xs ys ∙ ap (λ (rs : List Raw). rs ++ bare_parts ys) a.1 ∙ ap (λ (rs : List Raw). hs ++ rs) b.1,
)

pub argument_gathers : (words : List Word) (tree : Tree) → Reads rule.Term words tree → Gathers argued (AreArguments (no_raw ∷ []) (And tree Nil)) (Sub rule.Term ∷ Do action.AddArgument ∷ []) words
argument_gathers words tree r text tokens read b list h =
    let t = r text tokens read (argued b list) h in
    let b1 = pushed (argued b list) t.start t.raw t.shapes t.forms in
    let b2 = argued (grown b t.shapes t.forms) (list ++ t.raw ∷ []) in
    let at = read + length words in
    record {
      new = t.raw ∷ [];
      shapes = t.shapes;
      forms = t.forms;
      runs = runs_words words (append-nil words)
          (runs_append read (argued b list) b1 b2 t.runs
          (runs_action action.AddArgument at b1 b2 (runs_to b2 (after_part text tokens at b list t.start t.raw t.shapes t.forms) (runs_nothing at (after text tokens at action.AddArgument b1)))));
      are = ((t.is, tt), refl);
    }

-- ---- faces

abbrev pub AreFaces : List RawFace → Trees → List Shape → List Form → List RawFace → Type 0
AreFaces heads trees shapes forms faces = AreTrees shapes forms (face_parts faces) trees × (map bare_face faces ≡ heads)

pub parts_join : (xs ys : List RawFace) → face_parts (xs ++ ys) ≡ face_parts xs ++ face_parts ys
parts_join [] ys = refl
parts_join (x ∷ xs) ys = ap (λ (rs : List Raw). x.tope ∷ x.term ∷ rs) (parts_join xs ys)

pub faces_join : (hs ks : List RawFace) (ts us : Trees) → Joins (AreFaces hs ts) (AreFaces ks us) (AreFaces (hs ++ ks) (onto ts us))
faces_join hs ks ts us shapes s forms f xs ys a b = (
  subst (λ (rs : List Raw). AreTrees (shapes ++ s) (forms ++ f) rs (onto ts us)) (sym (parts_join xs ys))
      (trees_join (shapes ++ s) (forms ++ f) (face_parts xs) (face_parts ys) ts us (trees_grow shapes s forms f (face_parts xs) ts a.0) b.0),
  map-append bare_face xs ys ∙ ap (λ (rs : List RawFace). rs ++ map bare_face ys) a.1 ∙ ap (λ (rs : List RawFace). hs ++ rs) b.1,
)

abbrev pub no_face : RawFace
no_face = record { tope = no_raw; term = no_raw }

face_is : IsOneOf (Sub rule.Disjunction ∷ One token.MapsTo ∷ Sub rule.Term ∷ Do action.AddFace ∷ []) (alternatives rule.Face)
unfolding alternatives
face_is = inl refl

pub face_gathers : (bytes : List ℕ) (front behind : List Word) (tope term : Tree) → Reads rule.Disjunction front tope → Reads rule.Term behind term
    → Gathers faced (AreFaces (no_face ∷ []) (And tope (And term Nil))) (Sub rule.Face ∷ []) (front ++ record { kind = token.MapsTo; bytes = bytes } ∷ behind)
face_gathers bytes front behind tope term r q text tokens read b list h =
    let mark : Word = record { kind = token.MapsTo; bytes = bytes } in
    let s = stand_split text tokens read front (mark ∷ behind) h in
    let t = r text tokens read (faced b list) s.0 in
    let b1 = pushed (faced b list) t.start t.raw t.shapes t.forms in
    let u = q text tokens (read + length front + 1) b1 s.1.1 in
    let b2 = pushed b1 u.start u.raw u.shapes u.forms in
    let face : RawFace = record { tope = t.raw; term = u.raw } in
    let b3 = faced (grown b (t.shapes ++ u.shapes) (t.forms ++ u.forms)) (list ++ face ∷ []) in
    let at = read + length front + 1 + length behind in
    let act : Runs (Do action.AddFace ∷ []) [] text tokens at b2 b3 =
    runs_action action.AddFace at b2 b3
    (runs_to b3 (after_face text tokens at b list t.start u.start t.raw u.raw t.shapes u.shapes t.forms u.forms) (runs_nothing at (after text tokens at action.AddFace b2))) in
    let later : Runs (Sub rule.Term ∷ Do action.AddFace ∷ []) behind text tokens (read + length front + 1) b1 b3 =
    runs_words behind (append-nil behind) (runs_append (read + length front + 1) b1 b2 b3 u.runs act) in
    record {
      new = face ∷ [];
      shapes = t.shapes ++ u.shapes;
      forms = t.forms ++ u.forms;
      runs = runs_rule rule.Face read (faced b list) b3 face_is
          (runs_append read (faced b list) b1 b3 t.runs (runs_token mark (read + length front) b1 b3 later));
      are = (
        (
          tree_at t.raw.form tope (append_assoc b.shapes t.shapes u.shapes) (append_assoc b.forms t.forms u.forms) (tree_grows (b.shapes ++ t.shapes) u.shapes (b.forms ++ t.forms) u.forms t.raw.form tope t.is),
          (tree_at u.raw.form term (append_assoc b.shapes t.shapes u.shapes) (append_assoc b.forms t.forms u.forms) u.is, tt),
        ),
        refl,
      );
    }

no_more_faces : IsOneOf [] (alternatives rule.MoreFaces)
unfolding alternatives
no_more_faces = inl refl

one_more_face : IsOneOf (One token.Comma ∷ Sub rule.Face ∷ Sub rule.MoreFaces ∷ []) (alternatives rule.MoreFaces)
unfolding alternatives
one_more_face = inr (inl refl)

pub faces_end : Gathers faced (AreFaces [] Nil) (Sub rule.MoreFaces ∷ []) []
faces_end = gathers_rule faced (AreFaces [] Nil) [] [] rule.MoreFaces no_more_faces (gathers_none faced (AreFaces [] Nil) (λ shapes forms. (tt, refl)))

-- a comma, a face, and more of them
pub face_behind : (comma : List ℕ) (front behind : List Word) (ts us : Trees) (hs ks : List RawFace)
    → Gathers faced (AreFaces hs ts) (Sub rule.Face ∷ []) front → Gathers faced (AreFaces ks us) (Sub rule.MoreFaces ∷ []) behind
    → Gathers faced (AreFaces (hs ++ ks) (onto ts us)) (One token.Comma ∷ Sub rule.Face ∷ Sub rule.MoreFaces ∷ []) (record { kind = token.Comma; bytes = comma } ∷ (front ++ behind))
face_behind comma front behind ts us hs ks r q =
    gathers_mark faced (AreFaces (hs ++ ks) (onto ts us)) (Sub rule.Face ∷ Sub rule.MoreFaces ∷ []) (record { kind = token.Comma; bytes = comma }) (front ++ behind)
    (gathers_then faced (AreFaces hs ts) (AreFaces ks us) (AreFaces (hs ++ ks) (onto ts us)) (Sub rule.Face ∷ []) (Sub rule.MoreFaces ∷ []) front behind (faces_join hs ks ts us) r q)

pub face_more : (words : List Word) (ts : Trees) (hs : List RawFace) → Gathers faced (AreFaces hs ts) (One token.Comma ∷ Sub rule.Face ∷ Sub rule.MoreFaces ∷ []) words
    → Gathers faced (AreFaces hs ts) (Sub rule.MoreFaces ∷ []) words
face_more words ts hs r = gathers_rule faced (AreFaces hs ts) (One token.Comma ∷ Sub rule.Face ∷ Sub rule.MoreFaces ∷ []) words rule.MoreFaces one_more_face r
