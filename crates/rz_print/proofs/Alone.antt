-- A text is read as one term at most, since a file that computes the term is read in one way.
use Rattle.std.proofs.Common.{◌≡◌, ℕ, List, [], ◌∷◌, ◌++◌, inl, inr, refl, subst}
use Rattle.std.proofs.lemmas.List.{append_cancel_right}
use Rattle.rz_lex.specs.declared.token.Tok.{Tok}
use Rattle.rz_lex.specs.declared.token.Tok.TheVariants as token
use Rattle.rz_lex.specs.declared.token.Token.{Token}
use Rattle.rz_lex.specs.Text.{Lexed}
use Rattle.rz_syntax.specs.declared.action.Action.TheVariants as action
use Rattle.rz_syntax.specs.declared.action.Step.{Step}
use Rattle.rz_syntax.specs.declared.action.Step.TheVariants.{Take, Act}
use Rattle.rz_syntax.specs.declared.grammar.Symbol.TheVariants.{One, Sub, Do}
use Rattle.rz_syntax.specs.declared.grammar.Rule.TheVariants as rule
use Rattle.rz_syntax.specs.Grammar.{IsOneOf, Gives, Phrase, nothing, token, action, part, alternatives, kinds_of}
use Rattle.rz_syntax.specs.Building.{built, nothing_read, top_operand}
use Rattle.rz_print.specs.Meaning.{Tree, IsTerm, Makes}
use Rattle.rz_print.proofs.Runs.{phrases}
use Rattle.rz_print.proofs.Soundness.{tree_same}

-- the tokens and the steps of a file that computes a term
abbrev file_kinds : List Tok → List Tok
file_kinds kinds = token.LangCommand ∷ token.RzkOne ∷ token.ComputeCommand ∷ ((((kinds ++ []) ++ []) ++ []) ++ [])

abbrev file_steps : List Step → List Step
file_steps steps = Take ∷ Take ∷ Take ∷ Act action.Begin ∷ ((((steps ++ Act action.Compute ∷ []) ++ []) ++ []) ++ [])

file_is : IsOneOf (One token.LangCommand ∷ One token.RzkOne ∷ Sub rule.Semicolons ∷ Sub rule.Commands ∷ []) (alternatives rule.File)
unfolding alternatives
file_is = inl refl

no_semicolons : IsOneOf [] (alternatives rule.Semicolons)
unfolding alternatives
no_semicolons = inl refl

no_commands : IsOneOf [] (alternatives rule.Commands)
unfolding alternatives
no_commands = inl refl

a_command : IsOneOf (Sub rule.Command ∷ Sub rule.Semicolons ∷ Sub rule.Commands ∷ []) (alternatives rule.Commands)
unfolding alternatives
a_command = inr (inl refl)

compute_is : IsOneOf (One token.ComputeCommand ∷ Do action.Begin ∷ Sub rule.Term ∷ Do action.Compute ∷ []) (alternatives rule.Command)
unfolding alternatives
compute_is = inr (inr (inr (inr (inl refl))))

whole : (kinds : List Tok) (steps : List Step) → Gives rule.Term kinds steps → Gives rule.File (file_kinds kinds) (file_steps steps)
whole kinds steps gives =
    let last : Phrase (Do action.Compute ∷ []) [] (Act action.Compute ∷ []) = action nothing in
    let computed : Phrase (Sub rule.Term ∷ Do action.Compute ∷ []) (kinds ++ []) (steps ++ Act action.Compute ∷ []) = phrases gives last in
    let none : Phrase (Sub rule.Commands ∷ []) [] [] = part no_commands nothing nothing in
    let ended : Phrase (Sub rule.Semicolons ∷ Sub rule.Commands ∷ []) [] [] = part no_semicolons nothing none in
    let one : Phrase (Sub rule.Command ∷ Sub rule.Semicolons ∷ Sub rule.Commands ∷ []) (token.ComputeCommand ∷ ((kinds ++ []) ++ [])) (Take ∷ Act action.Begin ∷ ((steps ++ Act action.Compute ∷ []) ++ [])) =
    part compute_is (token (action computed)) ended in
    let commands : Phrase (Sub rule.Commands ∷ []) (token.ComputeCommand ∷ (((kinds ++ []) ++ []) ++ [])) (Take ∷ Act action.Begin ∷ (((steps ++ Act action.Compute ∷ []) ++ []) ++ [])) =
    part a_command one nothing in
    let behind : Phrase (Sub rule.Semicolons ∷ Sub rule.Commands ∷ []) (token.ComputeCommand ∷ (((kinds ++ []) ++ []) ++ [])) (Take ∷ Act action.Begin ∷ (((steps ++ Act action.Compute ∷ []) ++ []) ++ [])) =
    part no_semicolons nothing commands in
    part file_is (token (token behind)) nothing

inner_steps : (these those : List Step) → Take ∷ Take ∷ Take ∷ Act action.Begin ∷ these ≡ Take ∷ Take ∷ Take ∷ Act action.Begin ∷ those → these ≡ those
inner_steps these those e = cc

same_steps : (these those : List Step) → file_steps these ≡ file_steps those → these ≡ those
same_steps these those e =
    let last : List Step = Act action.Compute ∷ [] in
    append_cancel_right these those last
    (append_cancel_right (these ++ last) (those ++ last) []
    (append_cancel_right ((these ++ last) ++ []) ((those ++ last) ++ []) []
    (append_cancel_right (((these ++ last) ++ []) ++ []) (((those ++ last) ++ []) ++ []) []
    (inner_steps ((((these ++ last) ++ []) ++ []) ++ []) ((((those ++ last) ++ []) ++ []) ++ []) e))))

pub one_tree : ((text : List ℕ) (these those : List Token) → Lexed text these → Lexed text those → these ≡ those)
    → ((kinds : List Tok) (these those : List Step) → Gives rule.File kinds these → Gives rule.File kinds those → these ≡ those)
    → (text : List ℕ) (these those : Tree) → IsTerm text these → IsTerm text those → these ≡ those
one_tree once_lexed once_given text these those r q =
    let tokens : q.tokens ≡ r.tokens = once_lexed text q.tokens r.tokens q.lexed r.lexed in
    let gives : Gives rule.Term (kinds_of r.tokens) q.steps = subst (λ (ts : List Token). Gives rule.Term (kinds_of ts) q.steps) tokens q.gives in
    let steps : q.steps ≡ r.steps = same_steps q.steps r.steps
    (once_given (file_kinds (kinds_of r.tokens)) (file_steps q.steps) (file_steps r.steps) (whole (kinds_of r.tokens) q.steps gives) (whole (kinds_of r.tokens) r.steps r.gives)) in
    let b = built text r.tokens 0 r.steps nothing_read in
    let made : Makes (built text r.tokens 0 q.steps nothing_read) those = subst (λ (ts : List Token). Makes (built text ts 0 q.steps nothing_read) those) tokens q.is in
    let other : Makes b those = subst (λ (ss : List Step). Makes (built text r.tokens 0 ss nothing_read) those) steps made in
    tree_same b.shapes b.forms (top_operand b).raw.form these those r.is other
