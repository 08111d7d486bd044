-- Words that are read as a list in brackets: an induction, a term by cases, a restriction.
use Rattle.std.proofs.Common.{◌≡◌, ℕ, ◌+◌, List, [], ◌∷◌, ◌++◌, inl, inr, length, refl, sym, ap, ◌∙◌, subst, append_assoc, append-nil}
use Rattle.rz_lex.specs.declared.token.Tok.TheVariants as token
use Rattle.rz_lex.specs.declared.token.Token.{Token}
use Rattle.rz_syntax.specs.declared.action.Action.{Action}
use Rattle.rz_syntax.specs.declared.action.Action.TheVariants as action
use Rattle.rz_syntax.specs.declared.builder.Builder.{Builder}
use Rattle.rz_syntax.specs.declared.forms.Raw.{Raw}
use Rattle.rz_syntax.specs.declared.forms.RawFace.{RawFace}
use Rattle.rz_syntax.specs.declared.forms.Shape.{Shape}
use Rattle.rz_syntax.specs.declared.forms.Form.{Form}
use Rattle.rz_syntax.specs.declared.forms.Form.TheVariants as form
use Rattle.rz_syntax.specs.declared.grammar.Symbol.{Symbol}
use Rattle.rz_syntax.specs.declared.grammar.Symbol.TheVariants.{One, Sub, Do}
use Rattle.rz_syntax.specs.declared.grammar.Rule.TheVariants as rule
use Rattle.rz_syntax.specs.Grammar.{IsOneOf, alternatives}
use Rattle.rz_syntax.specs.Building.{after, next_place, no_raw}
use Rattle.rz_print.specs.Text.{Word}
use Rattle.rz_print.specs.Meaning.{Tree, At, Trees, And, IsTree, AreTrees, ArePatterns, bare, parts_of, patterns_of, face_parts}
use Rattle.rz_print.proofs.Runs.{Runs, runs_nothing, runs_token, runs_action, runs_append, runs_rule, runs_to}
use Rattle.rz_print.proofs.Terms.{stand_split, Reads, node, tree_at, tree_grows, forms_grow}
use Rattle.rz_print.proofs.Atoms.{runs_here}
use Rattle.rz_print.proofs.Applications.{trees_more}
use Rattle.rz_print.proofs.Actions.{after_induction, after_cases, after_restrict}
use Rattle.rz_print.proofs.Gathering.{Gathers, AreArguments, AreFaces}
use Rattle.rz_print.proofs.States.{pushed, joined_raw, noted, grown, argued, faced, grown_pushed}
use Rattle.rz_print.proofs.Doing.{act_open_arguments, act_open_faces}

-- an action makes a form of the list on top, at the place that was noted
pub record IsListing {X : Type 0} (put : Builder → List X → Builder) (opener act : Action) (make : List X → Form) : Type 0 where
  pub opens : (text : List ℕ) (tokens : List Token) (read : ℕ) (b : Builder) → after text tokens read opener b ≡ put b []
  pub makes : (text : List ℕ) (tokens : List Token) (read : ℕ) (b : Builder) (at : ℕ) (list : List X)
      → after text tokens read act (put (noted b at) list) ≡ pushed b at (joined_raw b.forms at) [] (make list ∷ [])

pub induction_is : IsListing argued action.OpenArguments action.IdJ form.IdJ
induction_is = record { opens = act_open_arguments; makes = after_induction }

pub cases_is : IsListing faced action.OpenFaces action.RecOr form.RecOr
cases_is = record { opens = act_open_faces; makes = after_cases }

-- what the form of such a list is
pub record IsHead {X : Type 0} (M : List Shape → List Form → List X → Type 0) (make : List X → Form) (head : Form) (trees : Trees) : Type 0 where
  pub bare_is : (shapes : List Shape) (forms : List Form) (list : List X) → M shapes forms list → bare (make list) ≡ head
  pub parts : (shapes : List Shape) (forms : List Form) (list : List X) → M shapes forms list → AreTrees shapes forms (parts_of (make list)) trees
  pub patterns : (shapes : List Shape) (list : List X) → ArePatterns shapes (patterns_of (make list)) []

pub induction_head : (heads : List Raw) (trees : Trees) → IsHead (AreArguments heads trees) form.IdJ (form.IdJ heads) trees
induction_head heads trees = record {
  bare_is = λ shapes forms list m. ap form.IdJ m.1;
  parts = λ shapes forms list m. m.0;
  patterns = λ shapes list. tt;
}

pub cases_head : (heads : List RawFace) (trees : Trees) → IsHead (AreFaces heads trees) form.RecOr (form.RecOr heads) trees
cases_head heads trees = record {
  bare_is = λ shapes forms list m. ap form.RecOr m.1;
  parts = λ shapes forms list m. m.0;
  patterns = λ shapes list. tt;
}

pub listed_by : {X : Type 0} (put : Builder → List X → Builder) (opener act : Action) (make : List X → Form) → IsListing put opener act make
    → (M : List Shape → List Form → List X → Type 0) (head : Form) (trees : Trees) → IsHead M make head trees
    → (first opening closing : Word) (symbols : List Symbol)
    → IsOneOf (Do action.Here ∷ Do opener ∷ One first.kind ∷ One opening.kind ∷ (symbols ++ One closing.kind ∷ Do act ∷ [])) (alternatives rule.Atom)
    → (words : List Word) → Gathers put M symbols words
    → Reads rule.Atom (first ∷ opening ∷ (words ++ closing ∷ [])) (At head [] trees)
listed_by put opener act make is M head trees shaped first opening closing symbols among words r text tokens read b h =
    let at = next_place b read in
    let c = noted b at in
    let s = stand_split text tokens (read + 1 + 1) words (closing ∷ []) h.1.1 in
    let t = r text tokens (read + 1 + 1) c [] s.0 in
    let g = grown b t.shapes t.forms in
    let b1 = put (noted g at) t.new in
    let F = b.forms ++ t.forms in
    let S = b.shapes ++ t.shapes in
    let new = make t.new in
    let b2 = pushed b at (joined_raw F at) (t.shapes ++ []) (t.forms ++ new ∷ []) in
    let place = read + 1 + 1 + length words in
    let made : after text tokens (place + 1) act b1 ≡ b2 = is.makes text tokens (place + 1) g at t.new ∙ grown_pushed b at (joined_raw F at) t.shapes [] t.forms (new ∷ []) in
    let acted : Runs (Do act ∷ []) [] text tokens (place + 1) b1 b2 =
    runs_action act (place + 1) b1 b2 (runs_to b2 made (runs_nothing (place + 1) (after text tokens (place + 1) act b1))) in
    let inside : Runs (symbols ++ One closing.kind ∷ Do act ∷ []) (words ++ closing ∷ []) text tokens (read + 1 + 1) (put c []) b2 =
    runs_append (read + 1 + 1) (put c []) b1 b2 t.runs (runs_token closing place b1 b2 acted) in
    let marked : Runs (One first.kind ∷ One opening.kind ∷ (symbols ++ One closing.kind ∷ Do act ∷ [])) (first ∷ opening ∷ (words ++ closing ∷ [])) text tokens read (put c []) b2 =
    runs_token first read (put c []) b2 (runs_token opening (read + 1) (put c []) b2 inside) in
    record {
      start = at;
      raw = joined_raw F at;
      shapes = t.shapes ++ [];
      forms = t.forms ++ new ∷ [];
      runs = runs_rule rule.Atom read b b2 among
          (runs_here read b b2 (runs_action opener read c b2
          (subst (λ (x : Builder). Runs (One first.kind ∷ One opening.kind ∷ (symbols ++ One closing.kind ∷ Do act ∷ [])) (first ∷ opening ∷ (words ++ closing ∷ [])) text tokens read x b2) (sym (is.opens text tokens read c)) marked)));
      is = tree_at (length F) (At head [] trees) (ap (λ (ss : List Shape). b.shapes ++ ss) (sym (append-nil t.shapes))) (append_assoc b.forms t.forms (new ∷ []))
          (node S F new head [] trees (shaped.bare_is S F t.new t.are) (shaped.patterns S t.new) (trees_more S F (new ∷ []) (parts_of new) trees (shaped.parts S F t.new t.are)));
    }

-- ---- a restriction

rest_is : IsOneOf (Sub rule.Disjunction ∷ Sub rule.Faces ∷ []) (alternatives rule.Rest)
unfolding alternatives
rest_is = inl refl

faces_are : IsOneOf (Do action.OpenFaces ∷ One token.OpenBracket ∷ Sub rule.Face ∷ Sub rule.MoreFaces ∷ One token.CloseBracket ∷ Do action.Restrict ∷ []) (alternatives rule.Faces)
unfolding alternatives
faces_are = inr (inl refl)

pub restrict_by : (before behind : List ℕ) (front words : List Word) (body : Tree) (heads : List RawFace) (trees : Trees) → Reads rule.Disjunction front body
    → Gathers faced (AreFaces heads trees) (Sub rule.Face ∷ Sub rule.MoreFaces ∷ []) words
    → Reads rule.Rest (front ++ record { kind = token.OpenBracket; bytes = before } ∷ (words ++ record { kind = token.CloseBracket; bytes = behind } ∷ [])) (At (form.Restrict no_raw heads) [] (And body trees))
restrict_by before behind front words body heads trees q r text tokens read b h =
    let opening : Word = record { kind = token.OpenBracket; bytes = before } in
    let closing : Word = record { kind = token.CloseBracket; bytes = behind } in
    let s = stand_split text tokens read front (opening ∷ (words ++ closing ∷ [])) h in
    let u = q text tokens read b s.0 in
    let c = pushed b u.start u.raw u.shapes u.forms in
    let on = read + length front in
    let s' = stand_split text tokens (on + 1) words (closing ∷ []) s.1.1 in
    let t = r text tokens (on + 1) c [] s'.0 in
    let b1 = faced (grown c t.shapes t.forms) t.new in
    let S = (b.shapes ++ u.shapes) ++ t.shapes in
    let F = (b.forms ++ u.forms) ++ t.forms in
    let new = form.Restrict u.raw t.new in
    let raw = joined_raw F u.start in
    let b2 = pushed b u.start raw (u.shapes ++ t.shapes) (u.forms ++ (t.forms ++ new ∷ [])) in
    let place = on + 1 + length words in
    let one : b1 ≡ faced (pushed b u.start u.raw (u.shapes ++ t.shapes) (u.forms ++ t.forms)) t.new = simp append_assoc in
    let two : pushed b u.start (joined_raw (b.forms ++ (u.forms ++ t.forms)) u.start) (u.shapes ++ t.shapes) ((u.forms ++ t.forms) ++ new ∷ []) ≡ b2 = simp append_assoc in
    let made : after text tokens (place + 1) action.Restrict b1 ≡ b2 =
    ap (after text tokens (place + 1) action.Restrict) one ∙ after_restrict text tokens (place + 1) b u.start u.raw t.new (u.shapes ++ t.shapes) (u.forms ++ t.forms) ∙ two in
    let acted : Runs (Do action.Restrict ∷ []) [] text tokens (place + 1) b1 b2 =
    runs_action action.Restrict (place + 1) b1 b2 (runs_to b2 made (runs_nothing (place + 1) (after text tokens (place + 1) action.Restrict b1))) in
    let inside : Runs (Sub rule.Face ∷ Sub rule.MoreFaces ∷ One token.CloseBracket ∷ Do action.Restrict ∷ []) (words ++ closing ∷ []) text tokens (on + 1) (faced c []) b2 =
    runs_append (on + 1) (faced c []) b1 b2 t.runs (runs_token closing place b1 b2 acted) in
    let marked : Runs (One token.OpenBracket ∷ Sub rule.Face ∷ Sub rule.MoreFaces ∷ One token.CloseBracket ∷ Do action.Restrict ∷ []) (opening ∷ (words ++ closing ∷ [])) text tokens on (faced c []) b2 =
    runs_token opening on (faced c []) b2 inside in
    let end : Runs (Sub rule.Faces ∷ []) (opening ∷ (words ++ closing ∷ [])) text tokens on c b2 =
    runs_rule rule.Faces on c b2 faces_are (runs_action action.OpenFaces on c b2
    (subst (λ (x : Builder). Runs (One token.OpenBracket ∷ Sub rule.Face ∷ Sub rule.MoreFaces ∷ One token.CloseBracket ∷ Do action.Restrict ∷ []) (opening ∷ (words ++ closing ∷ [])) text tokens on x b2) (sym (act_open_faces text tokens on c)) marked)) in
    let whole : IsTree S F u.raw.form body = tree_grows (b.shapes ++ u.shapes) t.shapes (b.forms ++ u.forms) t.forms u.raw.form body u.is in
    record {
      start = u.start;
      raw = raw;
      shapes = u.shapes ++ t.shapes;
      forms = u.forms ++ (t.forms ++ new ∷ []);
      runs = runs_rule rule.Rest read b b2 rest_is (runs_append read b c b2 u.runs end);
      is = tree_at (length F) (At (form.Restrict no_raw heads) [] (And body trees)) (append_assoc b.shapes u.shapes t.shapes) (simp append_assoc)
          (node S F new (form.Restrict no_raw heads) [] (And body trees) (ap (form.Restrict no_raw) t.are.1) tt
          (forms_grow S F (new ∷ []) u.raw.form body whole, trees_more S F (new ∷ []) (face_parts t.new) trees t.are.0));
    }
