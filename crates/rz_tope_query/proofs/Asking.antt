-- The question that is read.
use Rattle.std.proofs.Common.{◌≡◌, ℕ, List, length, Ok, sym, ap, ◌∙◌, subst}
use Rattle.std.specs.Prelude.{map}
use Rattle.std.proofs.lemmas.List.{length-map}
use Rattle.rz_rules.specs.declared.nodes.Node.{Node}
use Rattle.rz_rules.specs.Tree.{Tree, blank}
use Rattle.rz_syntax.specs.declared.forms.CubeNames.{CubeNames}
use Rattle.rz_syntax.specs.declared.forms.Form.{Form}
use Rattle.rz_syntax.specs.declared.forms.Raw.{Raw}
use Rattle.rz_syntax.specs.declared.forms.RawSequent.{RawSequent}
use Rattle.rz_shape.specs.Reading.{Reading, and_then, bindings_of, tope_reading}
use Rattle.rz_tope_query.specs.declared.topes.Reader.{Reader}
use Rattle.rz_tope_query.specs.Sequent.{bound_form, cube_context, names_of, point_binders, question_of, question_over, tope_context, tope_over}
use Rattle.rz_tope_query.specs.Parts.{IsNoReading, tope_of}
use Rattle.rz_tope_query.proofs.Opening.{none_then}

-- ---- the goal behind the hypotheses

module _ (tope : Raw → Reading Tree) (context : Tree) (hypotheses : List Raw) (goal : Raw) where
  abbrev with_goal : Tree → Reading (Tree × Tree)
  with_goal whole = and_then (tope goal) (λ phi. Ok (whole, phi))

  pub no_context : IsNoReading (tope_context tope context hypotheses) → IsNoReading (question_over tope context hypotheses goal)
  no_context none = none_then (tope_context tope context hypotheses) with_goal none

  pub no_goal : (whole : Tree) → tope_context tope context hypotheses ≡ Ok whole → IsNoReading (tope goal) → IsNoReading (question_over tope context hypotheses goal)
  no_goal whole e none =
      subst (λ (r : Reading Tree). IsNoReading (and_then r with_goal)) (sym e) (none_then (tope goal) (λ phi. Ok (whole, phi)) none)

  pub goal_over : (whole phi : Tree) → tope_context tope context hypotheses ≡ Ok whole → tope goal ≡ Ok phi → question_over tope context hypotheses goal ≡ Ok (whole, phi)
  goal_over whole phi e f =
      ap (λ (r : Reading Tree). and_then r with_goal) e ∙ ap (λ (r : Reading Tree). and_then r (λ phi. Ok (whole, phi))) f

-- ---- the question over the context of its names

module _ (raw : RawSequent) where
  abbrev over : Tree → Reading (Tree × Tree)
  over context = question_over (tope_over (names_of raw.names) raw.forms context) context raw.hypotheses raw.goal

  pub no_cubes : IsNoReading (cube_context raw.forms blank raw.names) → IsNoReading (question_of raw)
  no_cubes none = none_then (cube_context raw.forms blank raw.names) over none

  -- the topes of a sequent are those that a reader of its bound forms reads
  topes_are : (names : List (List ℕ)) (bound : List Form) (context there : Tree) → names ≡ names_of raw.names → bound ≡ map (bound_form names) raw.forms → there ≡ context
      → tope_reading (bindings_of there (point_binders names)) bound (length bound) ≡ tope_over (names_of raw.names) raw.forms context
  topes_are names bound context there names_are bound_are here =
      let long : length bound ≡ length raw.forms = ap length bound_are ∙ length-map raw.forms (bound_form names) in
      let forms_are : bound ≡ map (bound_form (names_of raw.names)) raw.forms = bound_are ∙ ap (λ (ns : List (List ℕ)). map (bound_form ns) raw.forms) names_are in
      ap (λ (t : Tree). tope_reading (bindings_of t (point_binders names)) bound (length bound)) here
      ∙ (ap (λ (ns : List (List ℕ)). tope_reading (bindings_of context (point_binders ns)) bound (length bound)) names_are
      ∙ (ap (λ (fs : List Form). tope_reading (bindings_of context (point_binders (names_of raw.names))) fs (length bound)) forms_are
      ∙ ap (λ (n : ℕ). tope_reading (bindings_of context (point_binders (names_of raw.names))) (map (bound_form (names_of raw.names)) raw.forms) n) long))

  -- the question is what the reader reads
  pub question_is : (nodes : List Node) (reader : Reader) (names : List (List ℕ)) (bound : List Form) (context there : Tree)
      → names ≡ names_of raw.names → bound ≡ map (bound_form names) raw.forms → cube_context raw.forms blank raw.names ≡ Ok context → there ≡ context
      → tope_of nodes reader ≡ tope_reading (bindings_of there (point_binders names)) bound (length bound)
      → question_of raw ≡ question_over (tope_of nodes reader) there raw.hypotheses raw.goal
  question_is nodes reader names bound context there names_are bound_are cubes here topes =
      let same : tope_of nodes reader ≡ tope_over (names_of raw.names) raw.forms context = topes ∙ topes_are names bound context there names_are bound_are here in
      ap (λ (r : Reading Tree). and_then r over) cubes
      ∙ (sym (ap (λ (t : Raw → Reading Tree). question_over t context raw.hypotheses raw.goal) same)
      ∙ sym (ap (λ (t : Tree). question_over (tope_of nodes reader) t raw.hypotheses raw.goal) here))

  -- the question is what the reader reads, where the parts of the sequent are these
  pub question_read : (nodes : List Node) (reader : Reader) (names : List (List ℕ)) (bound forms : List Form) (groups : List CubeNames) (hypotheses : List Raw) (context there : Tree)
      → forms ≡ raw.forms → groups ≡ raw.names → hypotheses ≡ raw.hypotheses → names ≡ names_of raw.names → bound ≡ map (bound_form names) raw.forms
      → cube_context forms blank groups ≡ Ok context → there ≡ context → tope_of nodes reader ≡ tope_reading (bindings_of there (point_binders names)) bound (length bound)
      → question_of raw ≡ question_over (tope_of nodes reader) there hypotheses raw.goal
  question_read nodes reader names bound forms groups hypotheses context there forms_are groups_are hypotheses_are names_are bound_are cubes here topes =
      question_is nodes reader names bound context there names_are bound_are
      (sym (ap (λ (fs : List Form). cube_context fs blank raw.names) forms_are) ∙ (sym (ap (cube_context forms blank) groups_are) ∙ cubes)) here topes
      ∙ sym (ap (λ (hs : List Raw). question_over (tope_of nodes reader) there hs raw.goal) hypotheses_are)
