-- What the actions leave of a builder whose tables grew while they were read.
use Rattle.std.proofs.Common.{◌≡◌, ℕ, List, [], ◌∷◌, ◌++◌, None, Some, length, ap, ◌∙◌, append_assoc}
use Rattle.rz_lex.specs.declared.token.Token.{Token}
use Rattle.rz_syntax.specs.declared.action.Action.TheVariants as action
use Rattle.rz_syntax.specs.declared.builder.Builder.{Builder}
use Rattle.rz_syntax.specs.declared.forms.Raw.{Raw}
use Rattle.rz_syntax.specs.declared.forms.Pat.{Pat}
use Rattle.rz_syntax.specs.declared.forms.Bind.{Bind}
use Rattle.rz_syntax.specs.declared.forms.RawFace.{RawFace}
use Rattle.rz_syntax.specs.declared.forms.Shape.{Shape}
use Rattle.rz_syntax.specs.declared.forms.Shape.TheVariants as shape
use Rattle.rz_syntax.specs.declared.forms.Form.{Form}
use Rattle.rz_syntax.specs.declared.forms.Form.TheVariants as form
use Rattle.rz_syntax.specs.Building.{after, wrap, bind_each}
use Rattle.rz_print.proofs.States.{noted, operand, argued, faced, grouped, bound, grown, shaped, drawn, pushed, joined_raw, wrapped, grown_twice, topped_new, topped_once}
use Rattle.rz_print.proofs.Doing.{act_argument, act_induction, act_face, act_cases, act_restrict, act_pair_pattern, act_pattern, act_untyped, act_restricted, act_arrow, act_arrows, act_sigma, act_lambda}

pub after_part : (text : List ℕ) (tokens : List Token) (read : ℕ) (b : Builder) (list : List Raw) (start : ℕ) (raw : Raw) (s : List Shape) (f : List Form)
    → after text tokens read action.AddArgument (pushed (argued b list) start raw s f) ≡ argued (grown b s f) (list ++ raw ∷ [])
after_part text tokens read b list start raw s f = act_argument text tokens read (grown b s f) list start raw

pub after_induction : (text : List ℕ) (tokens : List Token) (read : ℕ) (b : Builder) (at : ℕ) (list : List Raw)
    → after text tokens read action.IdJ (argued (noted b at) list) ≡ pushed b at (joined_raw b.forms at) [] (form.IdJ list ∷ [])
after_induction text tokens read b at list = act_induction text tokens read b at list ∙ topped_new b at (form.IdJ list)

pub after_face : (text : List ℕ) (tokens : List Token) (read : ℕ) (b : Builder) (list : List RawFace) (t u : ℕ) (tope term : Raw) (s s' : List Shape) (f f' : List Form)
    → after text tokens read action.AddFace (pushed (pushed (faced b list) t tope s f) u term s' f') ≡ faced (grown b (s ++ s') (f ++ f')) (list ++ record { tope = tope; term = term } ∷ [])
after_face text tokens read b list t u tope term s s' f f' =
    act_face text tokens read (grown (grown b s f) s' f') list t u tope term
    ∙ ap (λ (x : Builder). faced x (list ++ record { tope = tope; term = term } ∷ [])) (grown_twice b s s' f f')

pub after_cases : (text : List ℕ) (tokens : List Token) (read : ℕ) (b : Builder) (at : ℕ) (list : List RawFace)
    → after text tokens read action.RecOr (faced (noted b at) list) ≡ pushed b at (joined_raw b.forms at) [] (form.RecOr list ∷ [])
after_cases text tokens read b at list = act_cases text tokens read b at list ∙ topped_new b at (form.RecOr list)

pub after_restrict : (text : List ℕ) (tokens : List Token) (read : ℕ) (b : Builder) (start : ℕ) (raw : Raw) (list : List RawFace) (s : List Shape) (f : List Form)
    → after text tokens read action.Restrict (faced (pushed b start raw s f) list) ≡ pushed b start (joined_raw (b.forms ++ f) start) s (f ++ form.Restrict raw list ∷ [])
after_restrict text tokens read b start raw list s f = act_restrict text tokens read (grown b s f) start raw list ∙ topped_once b start s f (form.Restrict raw list)

pub after_pair_pattern : (text : List ℕ) (tokens : List Token) (read : ℕ) (b : Builder) (at : ℕ) (l r : Pat) (s s' : List Shape)
    → after text tokens read action.PairPattern (drawn (drawn (noted b at) l s) r s') ≡ drawn b (record { shape = length ((b.shapes ++ s) ++ s'); at = at }) (s ++ (s' ++ shape.Pair l r ∷ []))
after_pair_pattern text tokens read b at l r s s' = act_pair_pattern text tokens read (shaped (shaped b s) s') at l r ∙ simp append_assoc

pub after_pattern : (text : List ℕ) (tokens : List Token) (read : ℕ) (b : Builder) (list : List Pat) (pat : Pat) (s : List Shape)
    → after text tokens read action.AddPattern (drawn (grouped b list) pat s) ≡ grouped (shaped b s) (list ++ pat ∷ [])
after_pattern text tokens read b list pat s = act_pattern text tokens read (shaped b s) list pat

pub after_untyped : (text : List ℕ) (tokens : List Token) (read : ℕ) (b : Builder) (list : List Bind) (pat : Pat) (s : List Shape)
    → after text tokens read action.AddUntyped (drawn (bound b list) pat s) ≡ bound (shaped b s) (list ++ record { pat = pat; of = None; tope = None } ∷ [])
after_untyped text tokens read b list pat s = act_untyped text tokens read (shaped b s) list pat

pub after_restricted : (text : List ℕ) (tokens : List Token) (read : ℕ) (b : Builder) (list : List Bind) (group : List Pat) (t u : ℕ) (of tope : Raw) (s : List Shape) (f : List Form)
    → after text tokens read action.AddRestricted (pushed (operand (grouped (bound b list) group) t of) u tope s f) ≡ bound (grown b s f) (list ++ bind_each group (Some of) (Some tope))
after_restricted text tokens read b list group t u of tope s f = act_restricted text tokens read (grown b s f) list group t u of tope

pub after_arrow : (text : List ℕ) (tokens : List Token) (read : ℕ) (b : Builder) (t u : ℕ) (of body : Raw) (s s' : List Shape) (f f' : List Form)
    → after text tokens read action.Arrow (pushed (pushed b t of s f) u body s' f')
    ≡ pushed b t (joined_raw ((b.forms ++ f) ++ f') t) (s ++ (s' ++ shape.Blank ∷ []))
    (f ++ (f' ++ form.Arrow (record { pat = record { shape = length ((b.shapes ++ s) ++ s'); at = of.at }; of = Some of; tope = None }) body ∷ []))
after_arrow text tokens read b t u of body s s' f f' = act_arrow text tokens read (grown (grown b s f) s' f') t u of body ∙ simp append_assoc

pub after_arrows : (text : List ℕ) (tokens : List Token) (read : ℕ) (b : Builder) (at : ℕ) (list : List Bind) (t : ℕ) (body : Raw) (s : List Shape) (f : List Form)
    → after text tokens read action.Arrows (pushed (bound (noted b at) list) t body s f) ≡ wrapped (grown b s f) at (wrap (b.forms ++ f) at list body)
after_arrows text tokens read b at list t body s f = act_arrows text tokens read (grown b s f) at list t body

pub after_sigma : (text : List ℕ) (tokens : List Token) (read : ℕ) (b : Builder) (at : ℕ) (pat : Pat) (t u : ℕ) (of body : Raw) (s s' s'' : List Shape) (f f' : List Form)
    → after text tokens read action.Sigma (pushed (pushed (drawn (noted b at) pat s) t of s' f) u body s'' f')
    ≡ pushed b at (joined_raw ((b.forms ++ f) ++ f') at) (s ++ (s' ++ s'')) (f ++ (f' ++ form.Sigma (record { pat = pat; of = Some of; tope = None }) body ∷ []))
after_sigma text tokens read b at pat t u of body s s' s'' f f' = act_sigma text tokens read (grown (grown (shaped b s) s' f) s'' f') at pat t u of body ∙ simp append_assoc

pub after_lambda : (text : List ℕ) (tokens : List Token) (read : ℕ) (b : Builder) (at : ℕ) (list : List Bind) (t : ℕ) (body : Raw) (s : List Shape) (f : List Form)
    → after text tokens read action.Lambda (pushed (bound (noted b at) list) t body s f) ≡ pushed b at (joined_raw (b.forms ++ f) at) s (f ++ form.Lambda list body ∷ [])
after_lambda text tokens read b at list t body s f = act_lambda text tokens read (grown b s f) at list t body ∙ topped_once b at s f (form.Lambda list body)
