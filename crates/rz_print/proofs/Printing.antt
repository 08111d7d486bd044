-- Every tree that fits has a text that is read as it, form by form.
use Rattle.std.proofs.Common.{◌≡◌, ℕ, zero, suc, true, List, [], ◌∷◌, ◌++◌, Option, None, Some, map, refl, sym, ap, subst, append-nil}
use Rattle.std.specs.Prelude.{slice_get}
use Rattle.rz_lex.specs.declared.token.Tok.{Tok}
use Rattle.rz_lex.specs.declared.token.Tok.TheVariants as token
use Rattle.rz_syntax.specs.declared.action.Action.TheVariants as action
use Rattle.rz_syntax.specs.declared.action.Join.{Join}
use Rattle.rz_syntax.specs.declared.forms.Raw.{Raw}
use Rattle.rz_syntax.specs.declared.forms.Pat.{Pat}
use Rattle.rz_syntax.specs.declared.forms.Bind.{Bind}
use Rattle.rz_syntax.specs.declared.forms.RawFace.{RawFace}
use Rattle.rz_syntax.specs.declared.forms.Shape.{Shape}
use Rattle.rz_syntax.specs.declared.forms.Shape.TheVariants as shape
use Rattle.rz_syntax.specs.declared.forms.Form.{Form}
use Rattle.rz_syntax.specs.declared.forms.Form.TheVariants as form
use Rattle.rz_syntax.specs.declared.grammar.Symbol.{Symbol}
use Rattle.rz_syntax.specs.declared.grammar.Symbol.TheVariants.{One, Sub, Do}
use Rattle.rz_syntax.specs.declared.grammar.Rule.{Rule}
use Rattle.rz_syntax.specs.declared.grammar.Rule.TheVariants as rule
use Rattle.rz_syntax.specs.Grammar.{IsOneOf, alternatives}
use Rattle.rz_syntax.specs.Building.{no_raw}
use Rattle.rz_print.specs.declared.layout.Piece.{Piece}
use Rattle.rz_print.specs.declared.layout.Piece.TheVariants.{Part, Pattern, Domain}
use Rattle.rz_print.specs.declared.level.Level.{Level}
use Rattle.rz_print.specs.declared.level.Level.TheVariants as level
use Rattle.rz_print.specs.Layout.{layout, between, argument_pieces, listed_terms, face_pieces, more_faces, listed_faces, typed_pieces, parameter_pieces, domain_pieces, shape_pieces}
use Rattle.rz_print.specs.Text.{Word}
use Rattle.rz_print.specs.Words.{mark_word, name_word, opened_pattern, opened_domain, nothing, writes}
use Rattle.rz_print.specs.Meaning.{PatternTree, NameOf, NoName, PairOf, IsPattern, ArePatterns, Tree, At, Trees, Nil, And, bare_option, bare_bind, bare_face, bare_parts, optional, face_parts, bind_parts}
use Rattle.rz_print.proofs.Marks.{is_mark}
use Rattle.rz_print.proofs.Terms.{Reads, joins_by, joined_tree}
use Rattle.rz_print.proofs.Applications.{ReadsArguments, arguments_end, argument_then, application_by, blanks}
use Rattle.rz_print.proofs.Products.{ReadsFactors}
use Rattle.rz_print.proofs.Climbing.{rule_of}
use Rattle.rz_print.proofs.Gathering.{Gathers, gathers_then, gathers_mark, onto, AreArguments, arguments_join, argument_gathers, AreFaces, faces_join, no_face, face_gathers, faces_end, face_behind, face_more}
use Rattle.rz_print.proofs.Binding.{ReadsPattern, name_pattern_by, blank_pattern_by, pair_pattern_by, AreBinds, bare_of, no_tope_by, tope_by, binder_by, untyped_by, parameter_by, parameters_end, parameters_then, parameters_more}
use Rattle.rz_print.proofs.Bound.{lambda_by, arrows_by, arrow_by, sigma_by}
use Rattle.rz_print.proofs.Printed.{Printed, spelt_none, spelt_then, spelt_mark, printed, printed_as, printed_opened, Prints, PrintsPart}
use Rattle.rz_print.proofs.Fitting.{counts, some, two_or_more, is_typed, is_plain_bind, is_parameter, AreParameters, IsNamed, AreNamed}
use Rattle.rz_print.proofs.States.{argued, faced, bound}

-- ---- parts that are printed

pub record PrintsTree (shapes : List Shape) (forms : List Form) (raw : Raw) (tree : Tree) : Type 0 where
  pub part : PrintsPart shapes forms raw tree
  pub factors : Printed shapes forms (Part raw level.Product ∷ []) (λ words. ReadsFactors words tree)

abbrev pub PrintTrees : List Shape → List Form → List Raw → Trees → Type 0
PrintTrees shapes forms [] Nil = Unit {0}
PrintTrees shapes forms (raw ∷ raws) (And tree trees) = PrintsTree shapes forms raw tree × PrintTrees shapes forms raws trees
PrintTrees shapes forms raws trees = ⊥

abbrev pub PrintsPattern : List Shape → List Form → Pat → PatternTree → Type 0
PrintsPattern shapes forms pat tree = Printed shapes forms (Pattern pat ∷ []) (λ words. ReadsPattern words tree)

abbrev pub PrintPatterns : List Shape → List Form → List Pat → List PatternTree → Type 0
PrintPatterns shapes forms [] [] = Unit {0}
PrintPatterns shapes forms (pat ∷ pats) (tree ∷ trees) = PrintsPattern shapes forms pat tree × PrintPatterns shapes forms pats trees
PrintPatterns shapes forms pats trees = ⊥

pub no_parts : (shapes : List Shape) (forms : List Form) (P : Trees → Type 0) (parts : Trees) → PrintTrees shapes forms [] parts → P Nil → P parts
no_parts shapes forms P Nil h f = f
no_parts shapes forms P (And t ts) h f = absurd h

pub one_part : (shapes : List Shape) (forms : List Form) (P : Trees → Type 0) (a : Raw) (parts : Trees) → PrintTrees shapes forms (a ∷ []) parts
    → ((t : Tree) → PrintsTree shapes forms a t → P (And t Nil)) → P parts
one_part shapes forms P a Nil h f = absurd h
one_part shapes forms P a (And t Nil) h f = f t h.0
one_part shapes forms P a (And t (And u ts)) h f = absurd h.1

pub two_parts : (shapes : List Shape) (forms : List Form) (P : Trees → Type 0) (a b : Raw) (parts : Trees) → PrintTrees shapes forms (a ∷ b ∷ []) parts
    → ((t u : Tree) → PrintsTree shapes forms a t → PrintsTree shapes forms b u → P (And t (And u Nil))) → P parts
two_parts shapes forms P a b Nil h f = absurd h
two_parts shapes forms P a b (And t ts) h f = one_part shapes forms (λ us. P (And t us)) b ts h.1 (λ u k. f t u h.0 k)

pub no_patterns : (shapes : List Shape) (forms : List Form) (P : List PatternTree → Type 0) (patterns : List PatternTree) → PrintPatterns shapes forms [] patterns → P [] → P patterns
no_patterns shapes forms P [] h f = f
no_patterns shapes forms P (p ∷ ps) h f = absurd h

pub one_pattern : (shapes : List Shape) (forms : List Form) (P : List PatternTree → Type 0) (pat : Pat) (patterns : List PatternTree) → PrintPatterns shapes forms (pat ∷ []) patterns
    → ((p : PatternTree) → PrintsPattern shapes forms pat p → P (p ∷ [])) → P patterns
one_pattern shapes forms P pat [] h f = absurd h
one_pattern shapes forms P pat (p ∷ []) h f = f p h.0
one_pattern shapes forms P pat (p ∷ q ∷ qs) h f = absurd h.1

-- parts of two lists
split_parts : (shapes : List Shape) (forms : List Form) (P : Trees → Type 0) (xs ys : List Raw) (parts : Trees) → PrintTrees shapes forms (xs ++ ys) parts
    → ((ts us : Trees) → PrintTrees shapes forms xs ts → PrintTrees shapes forms ys us → P (onto ts us)) → P parts
split_parts shapes forms P [] ys parts h f = f Nil parts tt h
split_parts shapes forms P (x ∷ xs) ys Nil h f = absurd h
split_parts shapes forms P (x ∷ xs) ys (And t ts) h f = split_parts shapes forms (λ us. P (And t us)) xs ys ts h.1 (λ us vs a b. f (And t us) vs (h.0, a) b)

-- ---- patterns

pub pattern_prints : (shapes : List Shape) (forms : List Form) (tree : PatternTree) (pat : Pat) → IsPattern shapes pat.shape tree → IsNamed tree → PrintsPattern shapes forms pat tree
pattern_prints shapes forms (NameOf name) pat e n =
    printed (record { spells = writes (name_word name) (ap opened_pattern e) nothing; names = (λ k. n, tt) }) (name_pattern_by name)
pattern_prints shapes forms NoName pat e n =
    printed_opened (λ words. ReadsPattern words NoName) (Pattern pat) (shape_pieces shape.Blank) (ap opened_pattern e)
    (printed (spelt_mark token.Blank refl spelt_none) (blank_pattern_by (mark_word token.Blank).bytes))
pattern_prints shapes forms (PairOf left right) pat h n =
    let l = pattern_prints shapes forms left h.0 h.3 n.0 in
    let r = pattern_prints shapes forms right h.1 h.4 n.1 in
    printed_opened (λ words. ReadsPattern words (PairOf left right)) (Pattern pat) (shape_pieces (shape.Pair h.0 h.1)) (ap opened_pattern h.2)
    (printed (spelt_mark token.OpenParen refl (spelt_then l.spelt (spelt_mark token.Comma refl (spelt_then r.spelt (spelt_mark token.CloseParen refl spelt_none)))))
    (pair_pattern_by (mark_word token.OpenParen).bytes (mark_word token.Comma).bytes (mark_word token.CloseParen).bytes l.words r.words left right l.means r.means))

pub patterns_print : (shapes : List Shape) (forms : List Form) (trees : List PatternTree) (pats : List Pat) → ArePatterns shapes pats trees → AreNamed trees → PrintPatterns shapes forms pats trees
patterns_print shapes forms [] [] h n = tt
patterns_print shapes forms [] (pat ∷ pats) h n = absurd h
patterns_print shapes forms (tree ∷ trees) [] h n = absurd h
patterns_print shapes forms (tree ∷ trees) (pat ∷ pats) h n = (pattern_prints shapes forms tree pat h.0 n.0, patterns_print shapes forms trees pats h.1 n.1)

-- ---- two parts and a mark

pub join_prints : (shapes : List Shape) (forms : List Form) (rule tail : Rule) (before after : Level) (kind : Tok) (how : Join) (left right : Raw) (l r : Tree)
    → IsOneOf (Sub (rule_of before) ∷ Sub tail ∷ []) (alternatives rule) → IsOneOf (One kind ∷ Sub (rule_of after) ∷ Do (action.Join how) ∷ []) (alternatives tail)
    → is_mark kind ≡ true → PrintsPart shapes forms left l → PrintsPart shapes forms right r
    → Prints shapes forms (between (Part left before) kind (Part right after)) rule (joined_tree how l r)
join_prints shapes forms rule tail before after kind how left right l r one two m p q =
    printed (spelt_then (p before).spelt (spelt_mark kind m (q after).spelt))
    (joins_by rule (rule_of before) tail (rule_of after) how (mark_word kind) one two (p before).words (q after).words l r (p before).means (q after).means)

-- ---- faces

face_prints : (shapes : List Shape) (forms : List Form) (face : RawFace) (t u : Tree) → PrintsPart shapes forms face.tope t → PrintsPart shapes forms face.term u
    → Printed shapes forms (face_pieces face) (λ words. Gathers faced (AreFaces (no_face ∷ []) (And t (And u Nil))) (Sub rule.Face ∷ []) words)
face_prints shapes forms face t u p q =
    let a = p level.Disjunction in
    let b = q level.Term in
    printed (spelt_then a.spelt (spelt_mark token.MapsTo refl b.spelt)) (face_gathers (mark_word token.MapsTo).bytes a.words b.words t u a.means b.means)

-- a comma, a face, and the others
face_behind_prints : (shapes : List Shape) (forms : List Form) (face : RawFace) (faces : List RawFace) (t u : Tree) (us : Trees) → PrintsPart shapes forms face.tope t → PrintsPart shapes forms face.term u
    → Printed shapes forms (more_faces faces) (λ words. Gathers faced (AreFaces (map bare_face faces) us) (Sub rule.MoreFaces ∷ []) words)
    → Printed shapes forms (more_faces (face ∷ faces)) (λ words. Gathers faced (AreFaces (map bare_face (face ∷ faces)) (And t (And u us))) (One token.Comma ∷ Sub rule.Face ∷ Sub rule.MoreFaces ∷ []) words)
face_behind_prints shapes forms face faces t u us p q r =
    let a = face_prints shapes forms face t u p q in
    printed (spelt_mark token.Comma refl (spelt_then a.spelt r.spelt))
    (face_behind (mark_word token.Comma).bytes a.words r.words (And t (And u Nil)) us (no_face ∷ []) (map bare_face faces) a.means r.means)

more_faces_print : (shapes : List Shape) (forms : List Form) (faces : List RawFace) (ts : Trees) → PrintTrees shapes forms (face_parts faces) ts
    → Printed shapes forms (more_faces faces) (λ words. Gathers faced (AreFaces (map bare_face faces) ts) (Sub rule.MoreFaces ∷ []) words)
more_faces_print shapes forms [] Nil h = printed spelt_none faces_end
more_faces_print shapes forms [] (And t ts) h = absurd h
more_faces_print shapes forms (face ∷ faces) Nil h = absurd h
more_faces_print shapes forms (face ∷ faces) (And t Nil) h = absurd h.1
more_faces_print shapes forms (face ∷ faces) (And t (And u ts)) h =
    printed_as (face_behind_prints shapes forms face faces t u ts h.0.part h.1.0.part (more_faces_print shapes forms faces ts h.1.1))
    (λ xs r. face_more xs (And t (And u ts)) (map bare_face (face ∷ faces)) r)

-- one face or more
pub faces_print : (shapes : List Shape) (forms : List Form) (faces : List RawFace) (ts : Trees) → some faces ≡ true → PrintTrees shapes forms (face_parts faces) ts
    → Printed shapes forms (listed_faces faces) (λ words. Gathers faced (AreFaces (map bare_face faces) ts) (Sub rule.Face ∷ Sub rule.MoreFaces ∷ []) words)
faces_print shapes forms [] ts e h = absurd (cc)
faces_print shapes forms (face ∷ faces) Nil e h = absurd h
faces_print shapes forms (face ∷ faces) (And t Nil) e h = absurd h.1
faces_print shapes forms (face ∷ faces) (And t (And u ts)) e h =
    let a = face_prints shapes forms face t u h.0.part h.1.0.part in
    let b = more_faces_print shapes forms faces ts h.1.1 in
    let one : List RawFace = no_face ∷ [] in
    let two = map bare_face faces in
    printed (spelt_then a.spelt b.spelt)
    (gathers_then faced (AreFaces one (And t (And u Nil))) (AreFaces two ts) (AreFaces (one ++ two) (And t (And u ts))) (Sub rule.Face ∷ []) (Sub rule.MoreFaces ∷ []) a.words b.words
    (faces_join one two (And t (And u Nil)) ts) a.means b.means)

-- two or more
pub cases_print : (shapes : List Shape) (forms : List Form) (faces : List RawFace) (ts : Trees) → two_or_more faces ≡ true → PrintTrees shapes forms (face_parts faces) ts
    → Printed shapes forms (listed_faces faces) (λ words. Gathers faced (AreFaces (map bare_face faces) ts) (Sub rule.Face ∷ One token.Comma ∷ Sub rule.Face ∷ Sub rule.MoreFaces ∷ []) words)
cases_print shapes forms [] ts e h = absurd (cc)
cases_print shapes forms (face ∷ []) ts e h = absurd (cc)
cases_print shapes forms (face ∷ other ∷ faces) Nil e h = absurd h
cases_print shapes forms (face ∷ other ∷ faces) (And t Nil) e h = absurd h.1
cases_print shapes forms (face ∷ other ∷ faces) (And t (And u Nil)) e h = absurd h.1.1
cases_print shapes forms (face ∷ other ∷ faces) (And t (And u (And v Nil))) e h = absurd h.1.1.1
cases_print shapes forms (face ∷ other ∷ faces) (And t (And u (And v (And w ts)))) e h =
    let a = face_prints shapes forms face t u h.0.part h.1.0.part in
    let b = face_behind_prints shapes forms other faces v w ts h.1.1.0.part h.1.1.1.0.part (more_faces_print shapes forms faces ts h.1.1.1.1) in
    let one : List RawFace = no_face ∷ [] in
    let two = map bare_face (other ∷ faces) in
    printed (spelt_then a.spelt b.spelt)
    (gathers_then faced (AreFaces one (And t (And u Nil))) (AreFaces two (And v (And w ts))) (AreFaces (one ++ two) (And t (And u (And v (And w ts))))) (Sub rule.Face ∷ []) (One token.Comma ∷ Sub rule.Face ∷ Sub rule.MoreFaces ∷ []) a.words b.words
    (faces_join one two (And t (And u Nil)) (And v (And w ts))) a.means b.means)

-- ---- arguments

arguments_print : (shapes : List Shape) (forms : List Form) (args : List Raw) (ts : Trees) → PrintTrees shapes forms args ts → Printed shapes forms (argument_pieces args) (λ words. ReadsArguments words ts)
arguments_print shapes forms [] Nil h = printed spelt_none arguments_end
arguments_print shapes forms [] (And t ts) h = absurd h
arguments_print shapes forms (arg ∷ args) Nil h = absurd h
arguments_print shapes forms (arg ∷ args) (And t ts) h =
    let a = h.0.part level.Atom in
    let b = arguments_print shapes forms args ts h.1 in
    printed (spelt_then a.spelt b.spelt) (argument_then a.words b.words t ts a.means b.means)

blank_parts : (shapes : List Shape) (forms : List Form) (raws : List Raw) (ts : Trees) → PrintTrees shapes forms raws ts → blanks ts ≡ bare_parts raws
blank_parts shapes forms [] Nil h = refl
blank_parts shapes forms [] (And t ts) h = absurd h
blank_parts shapes forms (raw ∷ raws) Nil h = absurd h
blank_parts shapes forms (raw ∷ raws) (And t ts) h = ap (λ (rs : List Raw). no_raw ∷ rs) (blank_parts shapes forms raws ts h.1)

pub application_prints : (shapes : List Shape) (forms : List Form) (head : Raw) (args : List Raw) (t : Tree) (ts : Trees) → some args ≡ true → PrintsTree shapes forms head t → PrintTrees shapes forms args ts
    → Prints shapes forms (layout (form.App head args)) rule.Application (At (form.App no_raw (bare_parts args)) [] (And t ts))
application_prints shapes forms head [] t ts e p h = absurd (cc)
application_prints shapes forms head (arg ∷ args) t Nil e p h = absurd h
application_prints shapes forms head (arg ∷ args) t (And u us) e p h =
    let a = p.part level.Head in
    let b = arguments_print shapes forms (arg ∷ args) (And u us) h in
    printed (spelt_then a.spelt b.spelt)
    (subst (λ (rs : List Raw). Reads rule.Application (a.words ++ b.words) (At (form.App no_raw rs) [] (And t (And u us)))) (blank_parts shapes forms (arg ∷ args) (And u us) h)
    (application_by a.words b.words t u us a.means b.means))

-- a term, a comma, and the terms behind it
term_then : (hs : List Raw) (ts : Trees) (t : Tree) (symbols : List Symbol) (xs ys : List Word) → Reads rule.Term xs t → Gathers argued (AreArguments hs ts) symbols ys
    → Gathers argued (AreArguments (no_raw ∷ hs) (And t ts)) (Sub rule.Term ∷ Do action.AddArgument ∷ One token.Comma ∷ symbols) (xs ++ mark_word token.Comma ∷ ys)
term_then hs ts t symbols xs ys r q =
    gathers_then argued (AreArguments (no_raw ∷ []) (And t Nil)) (AreArguments hs ts) (AreArguments (no_raw ∷ hs) (And t ts)) (Sub rule.Term ∷ Do action.AddArgument ∷ []) (One token.Comma ∷ symbols) xs (mark_word token.Comma ∷ ys)
    (arguments_join (no_raw ∷ []) hs (And t Nil) ts) (argument_gathers xs t r) (gathers_mark argued (AreArguments hs ts) symbols (mark_word token.Comma) ys q)

-- the symbols of so many more terms, behind one
abbrev pub more_symbols : ℕ → List Symbol
more_symbols zero = Sub rule.Term ∷ Do action.AddArgument ∷ []
more_symbols (suc n) = Sub rule.Term ∷ Do action.AddArgument ∷ One token.Comma ∷ more_symbols n

pub terms_print : (shapes : List Shape) (forms : List Form) (n : ℕ) (raws : List Raw) (ts : Trees) → counts (suc n) raws ≡ true → PrintTrees shapes forms raws ts
    → Printed shapes forms (listed_terms raws) (λ words. Gathers argued (AreArguments (bare_parts raws) ts) (more_symbols n) words)
terms_print shapes forms n [] ts e h = absurd (cc)
terms_print shapes forms n (raw ∷ raws) Nil e h = absurd h
terms_print shapes forms zero (raw ∷ []) (And t Nil) e h = let a = h.0.part level.Term in printed a.spelt (argument_gathers a.words t a.means)
terms_print shapes forms zero (raw ∷ []) (And t (And u us)) e h = absurd h.1
terms_print shapes forms zero (raw ∷ other ∷ raws) (And t ts) e h = absurd (cc)
terms_print shapes forms (suc n) (raw ∷ []) (And t ts) e h = absurd (cc)
terms_print shapes forms (suc n) (raw ∷ other ∷ raws) (And t ts) e h =
    let a = h.0.part level.Term in
    let b = terms_print shapes forms n (other ∷ raws) ts e h.1 in
    printed (spelt_then a.spelt (spelt_mark token.Comma refl b.spelt)) (term_then (bare_parts (other ∷ raws)) ts t (more_symbols n) a.words b.words a.means b.means)

-- ---- binders

-- a binder in brackets
typed_prints : (shapes : List Shape) (forms : List Form) (pat : Pat) (of : Raw) (tope : Option Raw) (p : PatternTree) (ts : Trees) → PrintsPattern shapes forms pat p → PrintTrees shapes forms (of ∷ optional tope) ts
    → Printed shapes forms (typed_pieces pat (Some of) tope) (λ words. Gathers bound (AreBinds (bare_of (Some no_raw) (bare_option tope) ∷ []) (p ∷ []) ts) (Sub rule.Binder ∷ []) words)
typed_prints shapes forms pat of tope p Nil q h = absurd h
typed_prints shapes forms pat of None p (And t (And u us)) q h = absurd h.1
typed_prints shapes forms pat of None p (And t Nil) q h =
    let a = h.0.part level.Term in
    printed (spelt_mark token.OpenParen refl (spelt_then q.spelt (spelt_mark token.Colon refl (spelt_then a.spelt (spelt_mark token.CloseParen refl spelt_none)))))
    (binder_by (mark_word token.OpenParen).bytes (mark_word token.Colon).bytes (mark_word token.CloseParen).bytes q.words a.words [] None p t Nil q.means a.means no_tope_by)
typed_prints shapes forms pat of (Some tope) p (And t Nil) q h = absurd h.1
typed_prints shapes forms pat of (Some tope) p (And t (And u (And v vs))) q h = absurd h.1.1
typed_prints shapes forms pat of (Some tope) p (And t (And u Nil)) q h =
    let a = h.0.part level.Term in
    let b = h.1.0.part level.Term in
    printed (spelt_mark token.OpenParen refl (spelt_then q.spelt (spelt_mark token.Colon refl (spelt_then a.spelt (spelt_mark token.Bar refl (spelt_then b.spelt (spelt_mark token.CloseParen refl spelt_none)))))))
    (binder_by (mark_word token.OpenParen).bytes (mark_word token.Colon).bytes (mark_word token.CloseParen).bytes q.words a.words (mark_word token.Bar ∷ b.words) (Some no_raw) p t (And u Nil) q.means a.means
    (tope_by (mark_word token.Bar).bytes b.words u b.means))

parameter_prints : (shapes : List Shape) (forms : List Form) (pat : Pat) (of tope : Option Raw) (p : PatternTree) (ts : Trees) → is_parameter of tope ≡ true → PrintsPattern shapes forms pat p → PrintTrees shapes forms (optional of ++ optional tope) ts
    → Printed shapes forms (typed_pieces pat of tope) (λ words. Gathers bound (AreBinds (bare_of (bare_option of) (bare_option tope) ∷ []) (p ∷ []) ts) (Sub rule.Parameter ∷ []) words)
parameter_prints shapes forms pat None (Some tope) p ts e q h = absurd (cc)
parameter_prints shapes forms pat None None p (And t ts) e q h = absurd h
parameter_prints shapes forms pat None None p Nil e q h = printed q.spelt (untyped_by q.words p q.means)
parameter_prints shapes forms pat (Some of) tope p ts e q h =
    printed_as (typed_prints shapes forms pat of tope p ts q h) (λ xs r. parameter_by (AreBinds (bare_of (Some no_raw) (bare_option tope) ∷ []) (p ∷ []) ts) xs r)

-- a binder, and the others
parameter_then_prints : (shapes : List Shape) (forms : List Form) (bind : Bind) (binds : List Bind) (p : PatternTree) (ps : List PatternTree) (ts us : Trees) → is_parameter bind.of bind.tope ≡ true → PrintsPattern shapes forms bind.pat p
    → PrintTrees shapes forms (optional bind.of ++ optional bind.tope) ts
    → Printed shapes forms (parameter_pieces binds) (λ words. Gathers bound (AreBinds (map bare_bind binds) ps us) (Sub rule.Parameters ∷ []) words)
    → Printed shapes forms (parameter_pieces (bind ∷ binds)) (λ words. Gathers bound (AreBinds (map bare_bind (bind ∷ binds)) (p ∷ ps) (onto ts us)) (Sub rule.Parameter ∷ Sub rule.Parameters ∷ []) words)
parameter_then_prints shapes forms bind binds p ps ts us e q h r =
    let a = parameter_prints shapes forms bind.pat bind.of bind.tope p ts e q h in
    printed (spelt_then a.spelt r.spelt)
    (parameters_then (bare_bind bind ∷ []) (map bare_bind binds) (p ∷ []) ps ts us a.words r.words a.means r.means)

abbrev Parametric : List Shape → List Form → List Bind → List PatternTree → List Symbol → Trees → Type 0
Parametric shapes forms binds ps symbols ts = Printed shapes forms (parameter_pieces binds) (λ words. Gathers bound (AreBinds (map bare_bind binds) ps ts) symbols words)

parameters_print : (shapes : List Shape) (forms : List Form) (binds : List Bind) (ps : List PatternTree) (ts : Trees) → AreParameters binds → PrintPatterns shapes forms (map (λ bind. bind.pat) binds) ps
    → PrintTrees shapes forms (bind_parts binds) ts → Parametric shapes forms binds ps (Sub rule.Parameters ∷ []) ts
parameters_print shapes forms [] [] Nil e q h = printed spelt_none parameters_end
parameters_print shapes forms [] [] (And t ts) e q h = absurd h
parameters_print shapes forms [] (p ∷ ps) ts e q h = absurd q
parameters_print shapes forms (bind ∷ binds) [] ts e q h = absurd q
parameters_print shapes forms (bind ∷ binds) (p ∷ ps) ts e q h =
    split_parts shapes forms (λ vs. Parametric shapes forms (bind ∷ binds) (p ∷ ps) (Sub rule.Parameters ∷ []) vs) (optional bind.of ++ optional bind.tope) (bind_parts binds) ts h
    (λ vs us a b. printed_as (parameter_then_prints shapes forms bind binds p ps vs us e.0 q.0 a (parameters_print shapes forms binds ps us e.1 q.1 b))
    (λ xs r. parameters_more (map bare_bind (bind ∷ binds)) (p ∷ ps) (onto vs us) xs r))

-- one binder or more
some_parameters_print : (shapes : List Shape) (forms : List Form) (binds : List Bind) (ps : List PatternTree) (ts : Trees) → some binds ≡ true → AreParameters binds → PrintPatterns shapes forms (map (λ bind. bind.pat) binds) ps
    → PrintTrees shapes forms (bind_parts binds) ts → Parametric shapes forms binds ps (Sub rule.Parameter ∷ Sub rule.Parameters ∷ []) ts
some_parameters_print shapes forms [] ps ts n e q h = absurd (cc)
some_parameters_print shapes forms (bind ∷ binds) [] ts n e q h = absurd q
some_parameters_print shapes forms (bind ∷ binds) (p ∷ ps) ts n e q h =
    split_parts shapes forms (λ vs. Parametric shapes forms (bind ∷ binds) (p ∷ ps) (Sub rule.Parameter ∷ Sub rule.Parameters ∷ []) vs) (optional bind.of ++ optional bind.tope) (bind_parts binds) ts h
    (λ vs us a b. parameter_then_prints shapes forms bind binds p ps vs us e.0 q.0 a (parameters_print shapes forms binds ps us e.1 q.1 b))

-- ---- forms with binders

pub lambda_prints : (shapes : List Shape) (forms : List Form) (binds : List Bind) (body : Raw) (ps : List PatternTree) (ts : Trees) → some binds ≡ true → AreParameters binds → PrintPatterns shapes forms (map (λ bind. bind.pat) binds) ps
    → PrintTrees shapes forms (bind_parts binds ++ body ∷ []) ts → Prints shapes forms (layout (form.Lambda binds body)) rule.Term (At (form.Lambda (map bare_bind binds) no_raw) ps ts)
lambda_prints shapes forms binds body ps ts n e q h =
    let tree = λ (vs : Trees). At (form.Lambda (map bare_bind binds) no_raw) ps vs in
    split_parts shapes forms (λ vs. Prints shapes forms (layout (form.Lambda binds body)) rule.Term (tree vs)) (bind_parts binds) (body ∷ []) ts h
    (λ vs us a b. one_part shapes forms (λ ws. Prints shapes forms (layout (form.Lambda binds body)) rule.Term (tree (onto vs ws))) body us b
    (λ t k.
    let x = some_parameters_print shapes forms binds ps vs n e q a in
    let y = k.part level.Term in
    printed (spelt_mark token.Lambda refl (spelt_then x.spelt (spelt_mark token.Arrow refl (spelt_then y.spelt spelt_none))))
    (subst (λ (ws : List Word). Reads rule.Term (mark_word token.Lambda ∷ (x.words ++ mark_word token.Arrow ∷ ws)) (tree (onto vs (And t Nil)))) (sym (append-nil y.words))
    (lambda_by (mark_word token.Lambda).bytes (mark_word token.Arrow).bytes x.words y.words (map bare_bind binds) ps vs t x.means y.means))))

pub sigma_prints : (shapes : List Shape) (forms : List Form) (pat : Pat) (of tope : Option Raw) (body : Raw) (ps : List PatternTree) (ts : Trees) → is_plain_bind of tope ≡ true → PrintPatterns shapes forms (pat ∷ []) ps
    → PrintTrees shapes forms (bind_parts (record { pat = pat; of = of; tope = tope } ∷ []) ++ body ∷ []) ts
    → Prints shapes forms (layout (form.Sigma (record { pat = pat; of = of; tope = tope }) body)) rule.Term (At (form.Sigma (bare_of (bare_option of) (bare_option tope)) no_raw) ps ts)
sigma_prints shapes forms pat None tope body ps ts e q h = absurd (cc)
sigma_prints shapes forms pat (Some of) (Some tope) body ps ts e q h = absurd (cc)
sigma_prints shapes forms pat (Some of) None body ps ts e q h =
    let made = form.Sigma (record { pat = pat; of = Some of; tope = None }) body in
    let tree = λ (qs : List PatternTree) (vs : Trees). At (form.Sigma (bare_of (Some no_raw) None) no_raw) qs vs in
    one_pattern shapes forms (λ qs. Prints shapes forms (layout made) rule.Term (tree qs ts)) pat ps q
    (λ p x. two_parts shapes forms (λ vs. Prints shapes forms (layout made) rule.Term (tree (p ∷ []) vs)) of body ts h
    (λ t u a b.
    let y = a.part level.Term in
    let z = b.part level.Term in
    printed (spelt_mark token.Sigma refl (spelt_mark token.OpenParen refl (spelt_then x.spelt (spelt_mark token.Colon refl (spelt_then y.spelt (spelt_mark token.CloseParen refl (spelt_mark token.Comma refl (spelt_then z.spelt spelt_none))))))))
    (subst (λ (ws : List Word). Reads rule.Term (mark_word token.Sigma ∷ mark_word token.OpenParen ∷ (x.words ++ mark_word token.Colon ∷ (y.words ++ mark_word token.CloseParen ∷ mark_word token.Comma ∷ ws))) (tree (p ∷ []) (And t (And u Nil)))) (sym (append-nil z.words))
    (sigma_by (mark_word token.Sigma).bytes (mark_word token.OpenParen).bytes (mark_word token.Colon).bytes (mark_word token.CloseParen).bytes (mark_word token.Comma).bytes x.words y.words z.words p t u x.means y.means z.means))))

-- a function type behind its binder
arrows_print : (shapes : List Shape) (forms : List Form) (pat : Pat) (of : Raw) (tope : Option Raw) (body : Raw) (p : PatternTree) (ts : Trees) → PrintsPattern shapes forms pat p
    → Printed shapes forms (Domain (record { pat = pat; of = Some of; tope = tope }) ∷ []) (λ words. Gathers bound (AreBinds (bare_of (Some no_raw) (bare_option tope) ∷ []) (p ∷ []) ts) (Sub rule.Binder ∷ []) words)
    → (t : Tree) → PrintsPart shapes forms body t
    → Prints shapes forms (layout (form.Arrow (record { pat = pat; of = Some of; tope = tope }) body)) rule.Term (At (form.Arrow (bare_of (Some no_raw) (bare_option tope)) no_raw) (p ∷ []) (onto ts (And t Nil)))
arrows_print shapes forms pat of tope body p ts q x t k =
    let y = k level.Term in
    printed (spelt_then x.spelt (spelt_mark token.Arrow refl y.spelt))
    (arrows_by (mark_word token.Arrow).bytes x.words y.words (bare_of (Some no_raw) (bare_option tope)) (p ∷ []) ts t x.means y.means)

-- the pieces of the domain, where its pattern isn't nameless or it has a tope
domain_prints : (shapes : List Shape) (forms : List Form) (pat : Pat) (of : Raw) (tope : Option Raw) (body : Raw) (p : PatternTree) (ts : Trees) (drawn : Shape) → slice_get shapes pat.shape ≡ Some drawn
    → domain_pieces drawn (record { pat = pat; of = Some of; tope = tope }) ≡ typed_pieces pat (Some of) tope → PrintsPattern shapes forms pat p
    → PrintTrees shapes forms ((of ∷ optional tope) ++ body ∷ []) ts
    → Prints shapes forms (layout (form.Arrow (record { pat = pat; of = Some of; tope = tope }) body)) rule.Term (At (form.Arrow (bare_of (Some no_raw) (bare_option tope)) no_raw) (p ∷ []) ts)
domain_prints shapes forms pat of tope body p ts drawn e same q h =
    let bind : Bind = record { pat = pat; of = Some of; tope = tope } in
    let made = form.Arrow bind body in
    let tree = λ (vs : Trees). At (form.Arrow (bare_of (Some no_raw) (bare_option tope)) no_raw) (p ∷ []) vs in
    split_parts shapes forms (λ vs. Prints shapes forms (layout made) rule.Term (tree vs)) (of ∷ optional tope) (body ∷ []) ts h
    (λ vs us a b. one_part shapes forms (λ ws. Prints shapes forms (layout made) rule.Term (tree (onto vs ws))) body us b
    (λ t k.
    let M : List Word → Type 0 = λ words. Gathers bound (AreBinds (bare_of (Some no_raw) (bare_option tope) ∷ []) (p ∷ []) vs) (Sub rule.Binder ∷ []) words in
    let x : Printed shapes forms (domain_pieces drawn bind) M = subst (λ (pieces : List Piece). Printed shapes forms pieces M) (sym same) (typed_prints shapes forms pat of tope p vs q a) in
    let y : Printed shapes forms (Domain bind ∷ []) M = printed_opened M (Domain bind) (domain_pieces drawn bind) (ap (opened_domain bind) e) x in
    arrows_print shapes forms pat of tope body p vs q y t k.part))

-- a function type behind a type alone
plain_prints : (shapes : List Shape) (forms : List Form) (pat : Pat) (of body : Raw) (ts : Trees) → slice_get shapes pat.shape ≡ Some shape.Blank → PrintTrees shapes forms (of ∷ body ∷ []) ts
    → Prints shapes forms (layout (form.Arrow (record { pat = pat; of = Some of; tope = None }) body)) rule.Term (At (form.Arrow (bare_of (Some no_raw) None) no_raw) (NoName ∷ []) ts)
plain_prints shapes forms pat of body ts e h =
    let bind : Bind = record { pat = pat; of = Some of; tope = None } in
    two_parts shapes forms (λ vs. Prints shapes forms (layout (form.Arrow bind body)) rule.Term (At (form.Arrow (bare_of (Some no_raw) None) no_raw) (NoName ∷ []) vs)) of body ts h
    (λ t u a b.
    let x = printed_opened (λ words. Reads rule.Rest words t) (Domain bind) (Part of level.Rest ∷ []) (ap (opened_domain bind) e) (a.part level.Rest) in
    let y = b.part level.Term in
    printed (spelt_then x.spelt (spelt_mark token.Arrow refl y.spelt)) (arrow_by (mark_word token.Arrow).bytes x.words y.words t u x.means y.means))

-- the pattern that a tree stands for
pub arrow_prints : (shapes : List Shape) (forms : List Form) (pat : Pat) (of tope : Option Raw) (body : Raw) (p : PatternTree) (ts : Trees) → is_typed of ≡ true → IsPattern shapes pat.shape p → PrintsPattern shapes forms pat p
    → PrintTrees shapes forms (bind_parts (record { pat = pat; of = of; tope = tope } ∷ []) ++ body ∷ []) ts
    → Prints shapes forms (layout (form.Arrow (record { pat = pat; of = of; tope = tope }) body)) rule.Term (At (form.Arrow (bare_of (bare_option of) (bare_option tope)) no_raw) (p ∷ []) ts)
arrow_prints shapes forms pat None tope body p ts e i q h = absurd (cc)
arrow_prints shapes forms pat (Some of) None body (NameOf name) ts e i q h = domain_prints shapes forms pat of None body (NameOf name) ts (shape.Named name) i refl q h
arrow_prints shapes forms pat (Some of) None body NoName ts e i q h = plain_prints shapes forms pat of body ts i h
arrow_prints shapes forms pat (Some of) None body (PairOf l r) ts e i q h = domain_prints shapes forms pat of None body (PairOf l r) ts (shape.Pair i.0 i.1) i.2 refl q h
arrow_prints shapes forms pat (Some of) (Some tope) body (NameOf name) ts e i q h = domain_prints shapes forms pat of (Some tope) body (NameOf name) ts (shape.Named name) i refl q h
arrow_prints shapes forms pat (Some of) (Some tope) body NoName ts e i q h = domain_prints shapes forms pat of (Some tope) body NoName ts shape.Blank i refl q h
arrow_prints shapes forms pat (Some of) (Some tope) body (PairOf l r) ts e i q h = domain_prints shapes forms pat of (Some tope) body (PairOf l r) ts (shape.Pair i.0 i.1) i.2 refl q h
