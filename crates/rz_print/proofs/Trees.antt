-- Each tree that a text may have is printed, and its text is read as it.
use Rattle.std.proofs.Common.{◌≡◌, ℕ, Bool, true, false, List, [], ◌∷◌, inl, inr, None, Some, map, refl, sym, ap, ◌∙◌, subst}
use Rattle.std.specs.Prelude.{slice_get}
use Rattle.std.proofs.Common.{◌+◌, arith}
use Rattle.rz_lex.specs.declared.token.Token.{Token}
use Rattle.rz_syntax.specs.declared.builder.Builder.{Builder}
use Rattle.rz_lex.specs.declared.token.Tok.{Tok}
use Rattle.rz_lex.specs.declared.token.Tok.TheVariants as token
use Rattle.rz_syntax.specs.declared.action.Action.{Action}
use Rattle.rz_syntax.specs.declared.action.Action.TheVariants as action
use Rattle.rz_syntax.specs.declared.action.Leaf.TheVariants as leaf
use Rattle.rz_syntax.specs.declared.action.Join.TheVariants as join
use Rattle.rz_syntax.specs.declared.forms.Raw.{Raw}
use Rattle.rz_syntax.specs.declared.forms.RawFace.{RawFace}
use Rattle.rz_syntax.specs.declared.forms.Shape.{Shape}
use Rattle.rz_syntax.specs.declared.forms.Form.{Form}
use Rattle.rz_syntax.specs.declared.forms.Form.TheVariants as form
use Rattle.rz_syntax.specs.declared.grammar.Symbol.TheVariants.{One, Sub, Do}
use Rattle.rz_syntax.specs.declared.grammar.Rule.{Rule}
use Rattle.rz_syntax.specs.declared.grammar.Rule.TheVariants as rule
use Rattle.rz_syntax.specs.Grammar.{IsOneOf, alternatives}
use Rattle.rz_syntax.specs.Building.{no_raw}
use Rattle.rz_print.specs.declared.layout.Piece.{Piece}
use Rattle.rz_print.specs.declared.layout.Piece.TheVariants.{Mark, Part}
use Rattle.rz_print.specs.declared.level.Level.{Level}
use Rattle.rz_print.specs.declared.level.Level.TheVariants as level
use Rattle.rz_print.specs.Level.{home, rank}
use Rattle.rz_print.specs.Layout.{layout, placed}
use Rattle.rz_print.specs.Words.{Opens, mark_word, name_word, opened_form, opened_part, nothing, writes}
use Rattle.rz_print.specs.Reading.{IsName}
use Rattle.rz_print.specs.Meaning.{PatternTree, ArePatterns, Tree, At, Trees, Nil, And, IsTree, AreTrees, bare, bare_face, bare_parts, parts_of, patterns_of, face_parts}
use Rattle.rz_print.proofs.Marks.{is_mark}
use Rattle.rz_print.proofs.Runs.{Runs, runs_rule, runs_token}
use Rattle.rz_print.proofs.Terms.{Reads}
use Rattle.rz_print.proofs.Atoms.{IsUnary, first_is, second_is, refl_at_is, unary_by, leaf_by, name_by}
use Rattle.rz_print.proofs.Products.{ReadsFactors, factor_alone, factor_more, factors_end}
use Rattle.rz_print.proofs.Enclosed.{pair_is, refl_typed_is, enclosed_by, equality_by}
use Rattle.rz_print.proofs.Climbing.{rule_of, climbs_to, rank_low}
use Rattle.rz_print.proofs.Gathering.{AreArguments, AreFaces}
use Rattle.rz_print.proofs.Listing.{listed_by, induction_is, cases_is, induction_head, cases_head, restrict_by}
use Rattle.rz_print.proofs.Printed.{Spelt, Printed, spelt_none, spelt_then, spelt_mark, printed, printed_as, printed_opened, Prints, placed_prints}
use Rattle.rz_print.proofs.Fitting.{six, some, two_or_more}
use Rattle.rz_print.proofs.Fitting.{Fits, fits_of, IsWritten, AreWritten}
use Rattle.rz_print.proofs.Printing.{PrintsTree, PrintTrees, PrintPatterns, patterns_print, no_parts, one_part, two_parts, no_patterns, join_prints, faces_print, cases_print, application_prints, terms_print, more_symbols, lambda_prints, sigma_prints, arrow_prints}
use Rattle.rz_print.proofs.States.{argued, faced}

abbrev is_plain : Form → Bool
is_plain (form.Named name) = false
is_plain (form.Product left right) = false
is_plain _ = true

-- ---- forms by the number of their parts

leaf_prints : (shapes : List Shape) (forms : List Form) (written : Form) (patterns : List PatternTree) (parts : Trees) → bare written ≡ written → PrintPatterns shapes forms [] patterns → PrintTrees shapes forms [] parts
    → Prints shapes forms (layout written) (rule_of (home written)) (At written [] Nil) → Prints shapes forms (layout written) (rule_of (home written)) (At (bare written) patterns parts)
leaf_prints shapes forms written patterns parts e p h a =
    no_patterns shapes forms (λ ps. Prints shapes forms (layout written) (rule_of (home written)) (At (bare written) ps parts)) patterns p
    (no_parts shapes forms (λ ts. Prints shapes forms (layout written) (rule_of (home written)) (At (bare written) [] ts)) parts h
    (subst (λ (f : Form). Prints shapes forms (layout written) (rule_of (home written)) (At f [] Nil)) (sym e) a))

-- a form of one part
unary_prints : (shapes : List Shape) (forms : List Form) (written head : Form) (rule : Rule) (arg : Raw) (patterns : List PatternTree) (parts : Trees) → PrintPatterns shapes forms [] patterns → PrintTrees shapes forms (arg ∷ []) parts
    → ((t : Tree) → PrintsTree shapes forms arg t → Prints shapes forms (layout written) rule (At head [] (And t Nil))) → Prints shapes forms (layout written) rule (At head patterns parts)
unary_prints shapes forms written head rule arg patterns parts p h f =
    no_patterns shapes forms (λ ps. Prints shapes forms (layout written) rule (At head ps parts)) patterns p
    (one_part shapes forms (λ ts. Prints shapes forms (layout written) rule (At head [] ts)) arg parts h f)

-- a form of two parts
binary_prints : (shapes : List Shape) (forms : List Form) (written head : Form) (rule : Rule) (left right : Raw) (patterns : List PatternTree) (parts : Trees) → PrintPatterns shapes forms [] patterns → PrintTrees shapes forms (left ∷ right ∷ []) parts
    → ((t u : Tree) → PrintsTree shapes forms left t → PrintsTree shapes forms right u → Prints shapes forms (layout written) rule (At head [] (And t (And u Nil)))) → Prints shapes forms (layout written) rule (At head patterns parts)
binary_prints shapes forms written head rule left right patterns parts p h f =
    no_patterns shapes forms (λ ps. Prints shapes forms (layout written) rule (At head ps parts)) patterns p
    (two_parts shapes forms (λ ts. Prints shapes forms (layout written) rule (At head [] ts)) left right parts h f)

-- forms of parts in brackets, and without patterns
listed_prints : (shapes : List Shape) (forms : List Form) (written head : Form) (rule : Rule) (patterns : List PatternTree) (parts : Trees) → PrintPatterns shapes forms [] patterns
    → Prints shapes forms (layout written) rule (At head [] parts) → Prints shapes forms (layout written) rule (At head patterns parts)
listed_prints shapes forms written head rule patterns parts p a = no_patterns shapes forms (λ ps. Prints shapes forms (layout written) rule (At head ps parts)) patterns p a

-- first and second
behind_prints : (shapes : List Shape) (forms : List Form) (make : Raw → Form) (act : Action) (kind : Tok) (is : IsUnary make act) (arg : Raw) (t : Tree) → is_mark kind ≡ true
    → IsOneOf (Do action.Here ∷ One kind ∷ Sub rule.Atom ∷ Do act ∷ []) (alternatives rule.Head) → PrintsTree shapes forms arg t
    → Prints shapes forms (Mark kind ∷ Part arg level.Atom ∷ []) rule.Head (At (make no_raw) [] (And t Nil))
behind_prints shapes forms make act kind is arg t m one k =
    let a = k.part level.Atom in
    printed (spelt_mark kind m (spelt_then a.spelt spelt_none))
    (unary_by make act is rule.Head rule.Atom (mark_word kind) (Do act ∷ []) [] one (λ text tokens read b b' r. at_once text tokens read b b' act r) a.words t a.means)
  where
    at_once : (text : List ℕ) (tokens : List Token) (read : ℕ) (b b' : Builder) (act : Action) → Runs (Do act ∷ []) [] text tokens (read + 0) b b' → Runs (Do act ∷ []) [] text tokens read b b'
    at_once text tokens read b b' act r = subst (λ (n : ℕ). Runs (Do act ∷ []) [] text tokens n b b') (omega arith) r

refl_at_prints : (shapes : List Shape) (forms : List Form) (arg : Raw) (t : Tree) → PrintsTree shapes forms arg t → Prints shapes forms (layout (form.ReflAt arg None)) rule.Atom (At (form.ReflAt no_raw None) [] (And t Nil))
unfolding alternatives
refl_at_prints shapes forms arg t k =
    let a = k.part level.Term in
    printed (spelt_mark token.ReflAt refl (spelt_then a.spelt (spelt_mark token.CloseBrace refl spelt_none)))
    (unary_by (λ raw. form.ReflAt raw None) action.ReflAt refl_at_is rule.Atom rule.Term (mark_word token.ReflAt) (Sub rule.ReflEnd ∷ []) (mark_word token.CloseBrace ∷ []) (inr (inr (inr (inr (inr (inr (inr (inr (inr (inr (inr (inr (inr (inr (inr (inl refl))))))))))))))))
    (λ text tokens read b b' r. runs_rule rule.ReflEnd read b b' (inr (inl refl)) (runs_token (mark_word token.CloseBrace) read b b' r)) a.words t a.means)

refl_typed_prints : (shapes : List Shape) (forms : List Form) (arg of : Raw) (t u : Tree) → PrintsTree shapes forms arg t → PrintsTree shapes forms of u
    → Prints shapes forms (layout (form.ReflAt arg (Some of))) rule.Atom (At (form.ReflAt no_raw (Some no_raw)) [] (And t (And u Nil)))
unfolding alternatives
refl_typed_prints shapes forms arg of t u k l =
    let a = k.part level.Term in
    let b = l.part level.Term in
    printed (spelt_mark token.ReflAt refl (spelt_then a.spelt (spelt_mark token.Colon refl (spelt_then b.spelt (spelt_mark token.CloseBrace refl spelt_none)))))
    (enclosed_by (λ x y. form.ReflAt x (Some y)) action.ReflTyped refl_typed_is rule.ReflEnd (mark_word token.ReflAt) (mark_word token.Colon) (mark_word token.CloseBrace) (inr (inr (inr (inr (inr (inr (inr (inr (inr (inr (inr (inr (inr (inr (inr (inl refl)))))))))))))))) (inl refl) a.words b.words t u a.means b.means)

pair_prints : (shapes : List Shape) (forms : List Form) (left right : Raw) (t u : Tree) → PrintsTree shapes forms left t → PrintsTree shapes forms right u
    → Prints shapes forms (layout (form.Pair left right)) rule.Atom (At (form.Pair no_raw no_raw) [] (And t (And u Nil)))
unfolding alternatives
pair_prints shapes forms left right t u k l =
    let a = k.part level.Term in
    let b = l.part level.Term in
    printed (spelt_mark token.OpenParen refl (spelt_then a.spelt (spelt_mark token.Comma refl (spelt_then b.spelt (spelt_mark token.CloseParen refl spelt_none)))))
    (enclosed_by form.Pair action.Pair pair_is rule.Closing (mark_word token.OpenParen) (mark_word token.Comma) (mark_word token.CloseParen) (inr (inr (inr (inr (inr (inr (inr (inr (inr (inr (inr (inr (inr (inr (inr (inr (inr (inr (inl refl))))))))))))))))))) (inr (inl refl)) a.words b.words t u a.means b.means)

equality_prints : (shapes : List Shape) (forms : List Form) (of left right : Raw) (t u v : Tree) → PrintsTree shapes forms left t → PrintsTree shapes forms of u → PrintsTree shapes forms right v
    → Prints shapes forms (layout (form.EqualAt of left right)) rule.Relation (At (form.EqualAt no_raw no_raw no_raw) [] (And t (And u (And v Nil))))
equality_prints shapes forms of left right t u v k l m =
    let a = k.part level.Product in
    let b = l.part level.Term in
    let c = m.part level.Product in
    printed (spelt_then a.spelt (spelt_mark token.EqualAt refl (spelt_then b.spelt (spelt_mark token.CloseBrace refl c.spelt))))
    (equality_by (mark_word token.EqualAt).bytes (mark_word token.CloseBrace).bytes a.words b.words c.words t u v a.means b.means c.means)

restrict_prints : (shapes : List Shape) (forms : List Form) (body : Raw) (faces : List RawFace) (parts : Trees) → some faces ≡ true → PrintTrees shapes forms (body ∷ face_parts faces) parts
    → Prints shapes forms (layout (form.Restrict body faces)) rule.Rest (At (form.Restrict no_raw (map bare_face faces)) [] parts)
restrict_prints shapes forms body faces Nil e h = absurd h
restrict_prints shapes forms body faces (And t ts) e h =
    let a = h.0.part level.Disjunction in
    let b = faces_print shapes forms faces ts e h.1 in
    printed (spelt_then a.spelt (spelt_mark token.OpenBracket refl (spelt_then b.spelt (spelt_mark token.CloseBracket refl spelt_none))))
    (restrict_by (mark_word token.OpenBracket).bytes (mark_word token.CloseBracket).bytes a.words b.words t (map bare_face faces) ts a.means b.means)

recor_prints : (shapes : List Shape) (forms : List Form) (faces : List RawFace) (parts : Trees) → two_or_more faces ≡ true → PrintTrees shapes forms (face_parts faces) parts
    → Prints shapes forms (layout (form.RecOr faces)) rule.Atom (At (form.RecOr (map bare_face faces)) [] parts)
unfolding alternatives
recor_prints shapes forms faces parts e h =
    let b = cases_print shapes forms faces parts e h in
    printed (spelt_mark token.RecOr refl (spelt_mark token.OpenParen refl (spelt_then b.spelt (spelt_mark token.CloseParen refl spelt_none))))
    (listed_by faced action.OpenFaces action.RecOr form.RecOr cases_is (AreFaces (map bare_face faces) parts) (form.RecOr (map bare_face faces)) parts (cases_head (map bare_face faces) parts)
    (mark_word token.RecOr) (mark_word token.OpenParen) (mark_word token.CloseParen) (Sub rule.Face ∷ One token.Comma ∷ Sub rule.Face ∷ Sub rule.MoreFaces ∷ []) (inr (inr (inr (inr (inr (inr (inr (inr (inr (inr (inr (inr (inr (inr (inr (inr (inr (inl refl)))))))))))))))))) b.words b.means)

idj_prints : (shapes : List Shape) (forms : List Form) (raws : List Raw) (parts : Trees) → six raws ≡ true → PrintTrees shapes forms raws parts
    → Prints shapes forms (layout (form.IdJ raws)) rule.Atom (At (form.IdJ (bare_parts raws)) [] parts)
unfolding alternatives
idj_prints shapes forms raws parts e h =
    let b = terms_print shapes forms 5 raws parts e h in
    printed (spelt_mark token.IdJ refl (spelt_mark token.OpenParen refl (spelt_then b.spelt (spelt_mark token.CloseParen refl spelt_none))))
    (listed_by argued action.OpenArguments action.IdJ form.IdJ induction_is (AreArguments (bare_parts raws) parts) (form.IdJ (bare_parts raws)) parts (induction_head (bare_parts raws) parts)
    (mark_word token.IdJ) (mark_word token.OpenParen) (mark_word token.CloseParen) (more_symbols 5) (inr (inr (inr (inr (inr (inr (inr (inr (inr (inr (inr (inr (inr (inr (inr (inr (inl refl))))))))))))))))) b.words b.means)

-- ---- each form but a name and a product, at its own level

abbrev FormPrints : List Shape → List Form → Form → List PatternTree → Trees → Type 0
FormPrints shapes forms written patterns parts = Prints shapes forms (layout written) (rule_of (home written)) (At (bare written) patterns parts)

form_prints : (shapes : List Shape) (forms : List Form) (written : Form) (patterns : List PatternTree) (parts : Trees) → is_plain written ≡ true → Fits written → ArePatterns shapes (patterns_of written) patterns
    → PrintPatterns shapes forms (patterns_of written) patterns → PrintTrees shapes forms (parts_of written) parts → FormPrints shapes forms written patterns parts
unfolding alternatives
form_prints shapes forms (form.Named name) patterns parts e f i p h = absurd (cc)
form_prints shapes forms (form.Product left right) patterns parts e f i p h = absurd (cc)
form_prints shapes forms (form.Bound up path) patterns parts e f i p h = absurd f
form_prints shapes forms (form.Assumed id) patterns parts e f i p h = absurd f
form_prints shapes forms (form.Global id args) patterns parts e f i p h = absurd f
form_prints shapes forms (form.ReflAt arg None) patterns parts e f i p h = unary_prints shapes forms (form.ReflAt arg None) (form.ReflAt no_raw None) rule.Atom arg patterns parts p h (refl_at_prints shapes forms arg)
form_prints shapes forms (form.ReflAt arg (Some of)) patterns parts e f i p h = binary_prints shapes forms (form.ReflAt arg (Some of)) (form.ReflAt no_raw (Some no_raw)) rule.Atom arg of patterns parts p h (refl_typed_prints shapes forms arg of)
form_prints shapes forms (form.IdJ raws) patterns parts e f i p h = listed_prints shapes forms (form.IdJ raws) (form.IdJ (bare_parts raws)) rule.Atom patterns parts p (idj_prints shapes forms raws parts f h)
form_prints shapes forms (form.RecOr faces) patterns parts e f i p h = listed_prints shapes forms (form.RecOr faces) (form.RecOr (map bare_face faces)) rule.Atom patterns parts p (recor_prints shapes forms faces parts f h)
form_prints shapes forms (form.Pair left right) patterns parts e f i p h = binary_prints shapes forms (form.Pair left right) (form.Pair no_raw no_raw) rule.Atom left right patterns parts p h (pair_prints shapes forms left right)
form_prints shapes forms (form.App head args) patterns Nil e f i p h = absurd h
form_prints shapes forms (form.App head args) patterns (And t ts) e f i p h = listed_prints shapes forms (form.App head args) (form.App no_raw (bare_parts args)) rule.Application patterns (And t ts) p (application_prints shapes forms head args t ts f h.0 h.1)
form_prints shapes forms (form.First arg) patterns parts e f i p h =
    unary_prints shapes forms (form.First arg) (form.First no_raw) rule.Head arg patterns parts p h (λ t k. behind_prints shapes forms form.First action.First token.First first_is arg t refl (inr (inl refl)) k)
form_prints shapes forms (form.Second arg) patterns parts e f i p h =
    unary_prints shapes forms (form.Second arg) (form.Second no_raw) rule.Head arg patterns parts p h (λ t k. behind_prints shapes forms form.Second action.Second token.Second second_is arg t refl (inr (inr (inl refl))) k)
form_prints shapes forms (form.EqualAt of left right) patterns Nil e f i p h = absurd h
form_prints shapes forms (form.EqualAt of left right) patterns (And t ts) e f i p h =
    listed_prints shapes forms (form.EqualAt of left right) (form.EqualAt no_raw no_raw no_raw) rule.Relation patterns (And t ts) p
    (two_parts shapes forms (λ us. Prints shapes forms (layout (form.EqualAt of left right)) rule.Relation (At (form.EqualAt no_raw no_raw no_raw) [] (And t us))) of right ts h.1
    (λ u v l m. equality_prints shapes forms of left right t u v h.0 l m))
form_prints shapes forms (form.Restrict body faces) patterns parts e f i p h = listed_prints shapes forms (form.Restrict body faces) (form.Restrict no_raw (map bare_face faces)) rule.Rest patterns parts p (restrict_prints shapes forms body faces parts f h)
form_prints shapes forms (form.Lambda binds body) patterns parts e f i p h = lambda_prints shapes forms binds body patterns parts f.0 f.1 p h
form_prints shapes forms (form.Sigma bind body) patterns parts e f i p h = sigma_prints shapes forms bind.pat bind.of bind.tope body patterns parts f p h
form_prints shapes forms (form.Arrow bind body) [] parts e f i p h = absurd p
form_prints shapes forms (form.Arrow bind body) (x ∷ y ∷ zs) parts e f i p h = absurd p.1
form_prints shapes forms (form.Arrow bind body) (x ∷ []) parts e f i p h = arrow_prints shapes forms bind.pat bind.of bind.tope body x parts f i.0 p.0 h
form_prints shapes forms (form.Or left right) patterns parts e f i p h =
    binary_prints shapes forms (form.Or left right) (form.Or no_raw no_raw) rule.Disjunction left right patterns parts p h
    (λ t u k l. join_prints shapes forms rule.Disjunction rule.MoreDisjunction level.Conjunction level.Disjunction token.Or join.Or left right t u (inl refl) (inr (inl refl)) refl k.part l.part)
form_prints shapes forms (form.And left right) patterns parts e f i p h =
    binary_prints shapes forms (form.And left right) (form.And no_raw no_raw) rule.Conjunction left right patterns parts p h
    (λ t u k l. join_prints shapes forms rule.Conjunction rule.MoreConjunction level.Relation level.Conjunction token.And join.And left right t u (inl refl) (inr (inl refl)) refl k.part l.part)
form_prints shapes forms (form.SamePoint left right) patterns parts e f i p h =
    binary_prints shapes forms (form.SamePoint left right) (form.SamePoint no_raw no_raw) rule.Relation left right patterns parts p h
    (λ t u k l. join_prints shapes forms rule.Relation rule.RightSide level.Product level.Product token.SamePoint join.SamePoint left right t u (inl refl) (inr (inl refl)) refl k.part l.part)
form_prints shapes forms (form.AtMost left right) patterns parts e f i p h =
    binary_prints shapes forms (form.AtMost left right) (form.AtMost no_raw no_raw) rule.Relation left right patterns parts p h
    (λ t u k l. join_prints shapes forms rule.Relation rule.RightSide level.Product level.Product token.AtMost join.AtMost left right t u (inl refl) (inr (inr (inl refl))) refl k.part l.part)
form_prints shapes forms (form.Equal left right) patterns parts e f i p h =
    binary_prints shapes forms (form.Equal left right) (form.Equal no_raw no_raw) rule.Relation left right patterns parts p h
    (λ t u k l. join_prints shapes forms rule.Relation rule.RightSide level.Product level.Product token.Equal join.Equal left right t u (inl refl) (inr (inr (inr (inl refl)))) refl k.part l.part)
form_prints shapes forms (form.As left right) patterns parts e f i p h =
    binary_prints shapes forms (form.As left right) (form.As no_raw no_raw) rule.Term left right patterns parts p h
    (λ t u k l. join_prints shapes forms rule.Term rule.Tail level.Rest level.Rest token.As join.As left right t u (inr (inr (inr (inl refl)))) (inr (inr (inl refl))) refl k.part l.part)
form_prints shapes forms form.Universe patterns parts e f i p h = leaf_prints shapes forms form.Universe patterns parts refl p h (printed (spelt_mark token.Universe refl spelt_none) (leaf_by leaf.Universe (mark_word token.Universe) (inr (inl refl))))
form_prints shapes forms form.CubeSort patterns parts e f i p h = leaf_prints shapes forms form.CubeSort patterns parts refl p h (printed (spelt_mark token.CubeSort refl spelt_none) (leaf_by leaf.CubeSort (mark_word token.CubeSort) (inr (inr (inl refl)))))
form_prints shapes forms form.TopeSort patterns parts e f i p h = leaf_prints shapes forms form.TopeSort patterns parts refl p h (printed (spelt_mark token.TopeSort refl spelt_none) (leaf_by leaf.TopeSort (mark_word token.TopeSort) (inr (inr (inr (inl refl))))))
form_prints shapes forms form.CubeOne patterns parts e f i p h = leaf_prints shapes forms form.CubeOne patterns parts refl p h (printed (spelt_mark token.CubeOne refl spelt_none) (leaf_by leaf.CubeOne (mark_word token.CubeOne) (inr (inr (inr (inr (inl refl)))))))
form_prints shapes forms form.CubeTwo patterns parts e f i p h = leaf_prints shapes forms form.CubeTwo patterns parts refl p h (printed (spelt_mark token.CubeTwo refl spelt_none) (leaf_by leaf.CubeTwo (mark_word token.CubeTwo) (inr (inr (inr (inr (inr (inl refl))))))))
form_prints shapes forms form.Star patterns parts e f i p h = leaf_prints shapes forms form.Star patterns parts refl p h (printed (spelt_mark token.Star refl spelt_none) (leaf_by leaf.Star (mark_word token.Star) (inr (inr (inr (inr (inr (inr (inl refl)))))))))
form_prints shapes forms form.EndZero patterns parts e f i p h = leaf_prints shapes forms form.EndZero patterns parts refl p h (printed (spelt_mark token.EndZero refl spelt_none) (leaf_by leaf.EndZero (mark_word token.EndZero) (inr (inr (inr (inr (inr (inr (inr (inl refl))))))))))
form_prints shapes forms form.EndOne patterns parts e f i p h = leaf_prints shapes forms form.EndOne patterns parts refl p h (printed (spelt_mark token.EndOne refl spelt_none) (leaf_by leaf.EndOne (mark_word token.EndOne) (inr (inr (inr (inr (inr (inr (inr (inr (inl refl)))))))))))
form_prints shapes forms form.Top patterns parts e f i p h = leaf_prints shapes forms form.Top patterns parts refl p h (printed (spelt_mark token.Top refl spelt_none) (leaf_by leaf.Top (mark_word token.Top) (inr (inr (inr (inr (inr (inr (inr (inr (inr (inl refl))))))))))))
form_prints shapes forms form.Bottom patterns parts e f i p h = leaf_prints shapes forms form.Bottom patterns parts refl p h (printed (spelt_mark token.Bottom refl spelt_none) (leaf_by leaf.Bottom (mark_word token.Bottom) (inr (inr (inr (inr (inr (inr (inr (inr (inr (inr (inl refl)))))))))))))
form_prints shapes forms form.UnitType patterns parts e f i p h = leaf_prints shapes forms form.UnitType patterns parts refl p h (printed (spelt_mark token.UnitType refl spelt_none) (leaf_by leaf.UnitType (mark_word token.UnitType) (inr (inr (inr (inr (inr (inr (inr (inr (inr (inr (inr (inl refl))))))))))))))
form_prints shapes forms form.UnitTerm patterns parts e f i p h = leaf_prints shapes forms form.UnitTerm patterns parts refl p h (printed (spelt_mark token.UnitTerm refl spelt_none) (leaf_by leaf.UnitTerm (mark_word token.UnitTerm) (inr (inr (inr (inr (inr (inr (inr (inr (inr (inr (inr (inr (inl refl)))))))))))))))
form_prints shapes forms form.RecBot patterns parts e f i p h = leaf_prints shapes forms form.RecBot patterns parts refl p h (printed (spelt_mark token.RecBot refl spelt_none) (leaf_by leaf.RecBot (mark_word token.RecBot) (inr (inr (inr (inr (inr (inr (inr (inr (inr (inr (inr (inr (inr (inl refl))))))))))))))))
form_prints shapes forms form.Refl patterns parts e f i p h = leaf_prints shapes forms form.Refl patterns parts refl p h (printed (spelt_mark token.Refl refl spelt_none) (leaf_by leaf.Refl (mark_word token.Refl) (inr (inr (inr (inr (inr (inr (inr (inr (inr (inr (inr (inr (inr (inr (inl refl)))))))))))))))))

-- ---- a form at each level

-- no other form stands as a product alone
same_place : (written : Form) → is_plain written ≡ true → placed level.Product written ≡ placed level.Application written
same_place (form.Named name) e = absurd (cc)
same_place (form.Product left right) e = absurd (cc)
same_place _ e = refl

taken_apart : (at : Level) (written : Form) → is_plain written ≡ true → opened_form at written ≡ Opens (placed at written)
taken_apart at (form.Named name) e = absurd (cc)
taken_apart at (form.Product left right) e = absurd (cc)
taken_apart at _ e = refl

plain_tree : (shapes : List Shape) (forms : List Form) (raw : Raw) (written : Form) (tree : Tree) → is_plain written ≡ true → slice_get forms raw.form ≡ Some written
    → Prints shapes forms (layout written) (rule_of (home written)) tree → PrintsTree shapes forms raw tree
plain_tree shapes forms raw written tree e i a =
    let alone : Printed shapes forms (placed level.Application written) (λ words. ReadsFactors words tree) = printed_as (placed_prints shapes forms level.Application written tree a) (λ xs r. factor_alone xs tree r) in
    let factors : Printed shapes forms (placed level.Product written) (λ words. ReadsFactors words tree) = subst (λ (ps : List Piece). Printed shapes forms ps (λ words. ReadsFactors words tree)) (sym (same_place written e)) alone in
    record {
      part = λ at. printed_opened (λ words. Reads (rule_of at) words tree) (Part raw at) (placed at written) (ap (opened_part at) i ∙ taken_apart at written e) (placed_prints shapes forms at written tree a);
      factors = printed_opened (λ words. ReadsFactors words tree) (Part raw level.Product) (placed level.Product written) (ap (opened_part level.Product) i ∙ taken_apart level.Product written e) factors;
    }

product_tree : (shapes : List Shape) (forms : List Form) (raw left right : Raw) (t u : Tree) → slice_get forms raw.form ≡ Some (form.Product left right) → PrintsTree shapes forms left t → PrintsTree shapes forms right u
    → PrintsTree shapes forms raw (At (form.Product no_raw no_raw) [] (And t (And u Nil)))
product_tree shapes forms raw left right t u i k l =
    let tree = At (form.Product no_raw no_raw) [] (And t (And u Nil)) in
    let written = form.Product left right in
    let a = k.factors in
    let b = l.part level.Application in
    let whole : Printed shapes forms (layout written) (λ words. ReadsFactors words tree) =
    printed (spelt_then a.spelt (spelt_mark token.Product refl b.spelt)) (factor_more (mark_word token.Product).bytes a.words b.words t u a.means b.means) in
    record {
      part = λ at. printed_opened (λ words. Reads (rule_of at) words tree) (Part raw at) (placed at written) (ap (opened_part at) i)
          (placed_prints shapes forms at written tree (printed_as whole (λ xs r. factors_end xs tree r)));
      factors = printed_opened (λ words. ReadsFactors words tree) (Part raw level.Product) (placed level.Product written) (ap (opened_part level.Product) i) whole;
    }

name_tree : (shapes : List Shape) (forms : List Form) (raw : Raw) (name : List ℕ) → IsName name → slice_get forms raw.form ≡ Some (form.Named name) → PrintsTree shapes forms raw (At (form.Named name) [] Nil)
name_tree shapes forms raw name n i =
    let spells : (at : Level) → Spelt shapes forms (Part raw at ∷ []) (name_word name ∷ []) = λ at. record { spells = writes (name_word name) (ap (opened_part at) i) nothing; names = (λ k. n, tt) } in
    record {
      part = λ at. printed (spells at) (climbs_to (rank at) 8 (name_word name ∷ []) (At (form.Named name) [] Nil) (rank_low at) (name_by name));
      factors = printed (spells level.Product) (factor_alone (name_word name ∷ []) (At (form.Named name) [] Nil) (climbs_to 6 8 (name_word name ∷ []) (At (form.Named name) [] Nil) (omega arith) (name_by name)));
    }

form_tree : (shapes : List Shape) (forms : List Form) (raw : Raw) (written : Form) (patterns : List PatternTree) (parts : Trees) → slice_get forms raw.form ≡ Some written → Fits written → ArePatterns shapes (patterns_of written) patterns
    → PrintPatterns shapes forms (patterns_of written) patterns → PrintTrees shapes forms (parts_of written) parts → PrintsTree shapes forms raw (At (bare written) patterns parts)
form_tree shapes forms raw (form.Named name) patterns parts i f a p h =
    no_patterns shapes forms (λ ps. PrintsTree shapes forms raw (At (form.Named name) ps parts)) patterns p
    (no_parts shapes forms (λ ts. PrintsTree shapes forms raw (At (form.Named name) [] ts)) parts h (name_tree shapes forms raw name f i))
form_tree shapes forms raw (form.Product left right) patterns parts i f a p h =
    no_patterns shapes forms (λ ps. PrintsTree shapes forms raw (At (form.Product no_raw no_raw) ps parts)) patterns p
    (two_parts shapes forms (λ ts. PrintsTree shapes forms raw (At (form.Product no_raw no_raw) [] ts)) left right parts h (λ t u k l. product_tree shapes forms raw left right t u i k l))
form_tree shapes forms raw other patterns parts i f a p h = plain_tree shapes forms raw other (At (bare other) patterns parts) refl i (form_prints shapes forms other patterns parts refl f a p h)

-- ---- all trees

mutual
  pub tree_prints : (tree : Tree) (shapes : List Shape) (forms : List Form) (raw : Raw) → IsWritten tree → IsTree shapes forms raw.form tree → PrintsTree shapes forms raw tree
  tree_prints (At head patterns parts) shapes forms raw w h =
      let f : Fits (bare h.0) = subst Fits (sym h.2) w.0 in
      subst (λ (x : Form). PrintsTree shapes forms raw (At x patterns parts)) h.2
      (form_tree shapes forms raw h.0 patterns parts h.1 (fits_of h.0 f) h.3 (patterns_print shapes forms patterns (patterns_of h.0) h.3 w.1) (trees_print parts shapes forms (parts_of h.0) w.2 h.4))

  pub trees_print : (trees : Trees) (shapes : List Shape) (forms : List Form) (raws : List Raw) → AreWritten trees → AreTrees shapes forms raws trees → PrintTrees shapes forms raws trees
  trees_print Nil shapes forms [] w h = tt
  trees_print Nil shapes forms (raw ∷ raws) w h = absurd h
  trees_print (And tree trees) shapes forms [] w h = absurd h
  trees_print (And tree trees) shapes forms (raw ∷ raws) w h = (tree_prints tree shapes forms raw w.0 h.0, trees_print trees shapes forms raws w.1 h.1)
