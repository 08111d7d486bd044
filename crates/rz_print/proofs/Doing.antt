-- What each action leaves of a builder, over the items that it takes.
use Rattle.std.proofs.Common.{◌≡◌, ℕ, List, [], ◌∷◌, ◌++◌, None, Some, length, refl}
use Rattle.rz_lex.specs.declared.token.Token.{Token}
use Rattle.rz_syntax.specs.declared.action.Action.TheVariants as action
use Rattle.rz_syntax.specs.declared.action.Leaf.{Leaf}
use Rattle.rz_syntax.specs.declared.action.Join.{Join}
use Rattle.rz_syntax.specs.declared.builder.Builder.{Builder}
use Rattle.rz_syntax.specs.declared.forms.Raw.{Raw}
use Rattle.rz_syntax.specs.declared.forms.Pat.{Pat}
use Rattle.rz_syntax.specs.declared.forms.Bind.{Bind}
use Rattle.rz_syntax.specs.declared.forms.RawFace.{RawFace}
use Rattle.rz_syntax.specs.declared.forms.Shape.TheVariants as shape
use Rattle.rz_syntax.specs.declared.forms.Form.TheVariants as form
use Rattle.rz_syntax.specs.Building.{after, last_place, next_place, last_bytes, with_place, bind_each, wrap, join_form, leaf_form, top_place, without_place, top_operand, without_operand, with_operand, with_form, top_pattern, without_pattern, with_pattern, top_arguments, without_arguments, with_arguments, top_faces, without_faces, with_faces, top_group, without_group, with_group, top_binds, without_binds, with_binds}
use Rattle.rz_print.proofs.Runs.{top_last, below_last}
use Rattle.rz_print.proofs.States.{noted, operand, patterned, argued, faced, grouped, bound, shaped, topped, wrapped}

pub act_join : (text : List ℕ) (tokens : List Token) (read : ℕ) (g : Builder) (how : Join) (s t : ℕ) (l r : Raw)
    → after text tokens read (action.Join how) (operand (operand g s l) t r) ≡ topped g s (join_form how l r)
unfolding after top_operand without_operand with_operand with_form
act_join text tokens read g how s t l r = simp (top_last, below_last)

pub act_equal_at : (text : List ℕ) (tokens : List Token) (read : ℕ) (g : Builder) (s t u : ℕ) (l o r : Raw)
    → after text tokens read action.EqualAt (operand (operand (operand g s l) t o) u r) ≡ topped g s (form.EqualAt o l r)
unfolding after top_operand without_operand with_operand with_form
act_equal_at text tokens read g s t u l o r = simp (top_last, below_last)

pub act_first : (text : List ℕ) (tokens : List Token) (read : ℕ) (g : Builder) (at s : ℕ) (l : Raw)
    → after text tokens read action.First (operand (noted g at) s l) ≡ topped g at (form.First l)
unfolding after top_place without_place top_operand without_operand with_operand with_form
act_first text tokens read g at s l = simp (top_last, below_last)

pub act_second : (text : List ℕ) (tokens : List Token) (read : ℕ) (g : Builder) (at s : ℕ) (l : Raw)
    → after text tokens read action.Second (operand (noted g at) s l) ≡ topped g at (form.Second l)
unfolding after top_place without_place top_operand without_operand with_operand with_form
act_second text tokens read g at s l = simp (top_last, below_last)

pub act_refl_at : (text : List ℕ) (tokens : List Token) (read : ℕ) (g : Builder) (at s : ℕ) (l : Raw)
    → after text tokens read action.ReflAt (operand (noted g at) s l) ≡ topped g at (form.ReflAt l None)
unfolding after top_place without_place top_operand without_operand with_operand with_form
act_refl_at text tokens read g at s l = simp (top_last, below_last)

pub act_pair : (text : List ℕ) (tokens : List Token) (read : ℕ) (g : Builder) (at s t : ℕ) (l r : Raw)
    → after text tokens read action.Pair (operand (operand (noted g at) s l) t r) ≡ topped g at (form.Pair l r)
unfolding after top_place without_place top_operand without_operand with_operand with_form
act_pair text tokens read g at s t l r = simp (top_last, below_last)

pub act_refl_typed : (text : List ℕ) (tokens : List Token) (read : ℕ) (g : Builder) (at s t : ℕ) (l r : Raw)
    → after text tokens read action.ReflTyped (operand (operand (noted g at) s l) t r) ≡ topped g at (form.ReflAt l (Some r))
unfolding after top_place without_place top_operand without_operand with_operand with_form
act_refl_typed text tokens read g at s t l r = simp (top_last, below_last)

pub act_bracketed : (text : List ℕ) (tokens : List Token) (read : ℕ) (g : Builder) (at s : ℕ) (l : Raw)
    → after text tokens read action.Bracketed (operand (noted g at) s l) ≡ operand g at l
unfolding after top_place without_place top_operand without_operand with_operand with_form
act_bracketed text tokens read g at s l = simp (top_last, below_last)

pub act_argument : (text : List ℕ) (tokens : List Token) (read : ℕ) (g : Builder) (list : List Raw) (s : ℕ) (raw : Raw)
    → after text tokens read action.AddArgument (operand (argued g list) s raw) ≡ argued g (list ++ raw ∷ [])
unfolding after top_operand without_operand with_operand with_form top_arguments without_arguments with_arguments
act_argument text tokens read g list s raw = simp (top_last, below_last)

pub act_head : (text : List ℕ) (tokens : List Token) (read : ℕ) (g : Builder) (s : ℕ) (raw : Raw)
    → after text tokens read action.Apply (argued (operand g s raw) []) ≡ operand g s raw
unfolding after top_operand without_operand with_operand with_form top_arguments without_arguments
act_head text tokens read g s raw = simp (top_last, below_last)

pub act_apply : (text : List ℕ) (tokens : List Token) (read : ℕ) (g : Builder) (s : ℕ) (raw arg : Raw) (args : List Raw)
    → after text tokens read action.Apply (argued (operand g s raw) (arg ∷ args)) ≡ topped g s (form.App raw (arg ∷ args))
unfolding after top_operand without_operand with_operand with_form top_arguments without_arguments
act_apply text tokens read g s raw arg args = simp (top_last, below_last)

pub act_induction : (text : List ℕ) (tokens : List Token) (read : ℕ) (g : Builder) (at : ℕ) (list : List Raw)
    → after text tokens read action.IdJ (argued (noted g at) list) ≡ topped g at (form.IdJ list)
unfolding after top_place without_place top_operand without_operand with_operand with_form top_arguments without_arguments
act_induction text tokens read g at list = simp (top_last, below_last)

pub act_face : (text : List ℕ) (tokens : List Token) (read : ℕ) (g : Builder) (list : List RawFace) (t u : ℕ) (tope term : Raw)
    → after text tokens read action.AddFace (operand (operand (faced g list) t tope) u term) ≡ faced g (list ++ record { tope = tope; term = term } ∷ [])
unfolding after top_operand without_operand with_operand with_form top_faces without_faces with_faces
act_face text tokens read g list t u tope term = simp (top_last, below_last)

pub act_cases : (text : List ℕ) (tokens : List Token) (read : ℕ) (g : Builder) (at : ℕ) (list : List RawFace)
    → after text tokens read action.RecOr (faced (noted g at) list) ≡ topped g at (form.RecOr list)
unfolding after top_place without_place top_operand without_operand with_operand with_form top_faces without_faces
act_cases text tokens read g at list = simp (top_last, below_last)

pub act_restrict : (text : List ℕ) (tokens : List Token) (read : ℕ) (g : Builder) (s : ℕ) (raw : Raw) (list : List RawFace)
    → after text tokens read action.Restrict (faced (operand g s raw) list) ≡ topped g s (form.Restrict raw list)
unfolding after top_operand without_operand with_operand with_form top_faces without_faces
act_restrict text tokens read g s raw list = simp (top_last, below_last)

pub act_arrow : (text : List ℕ) (tokens : List Token) (read : ℕ) (g : Builder) (t u : ℕ) (of body : Raw)
    → after text tokens read action.Arrow (operand (operand g t of) u body) ≡ topped (shaped g (shape.Blank ∷ [])) t (form.Arrow (record { pat = record { shape = length g.shapes; at = of.at }; of = Some of; tope = None }) body)
unfolding after top_operand without_operand with_operand with_form
act_arrow text tokens read g t u of body = simp (top_last, below_last)

pub act_arrows : (text : List ℕ) (tokens : List Token) (read : ℕ) (g : Builder) (at : ℕ) (list : List Bind) (t : ℕ) (body : Raw)
    → after text tokens read action.Arrows (operand (bound (noted g at) list) t body) ≡ wrapped g at (wrap g.forms at list body)
unfolding after top_place without_place top_operand without_operand with_operand with_form top_binds without_binds
act_arrows text tokens read g at list t body = simp (top_last, below_last)

pub act_sigma : (text : List ℕ) (tokens : List Token) (read : ℕ) (g : Builder) (at : ℕ) (pat : Pat) (t u : ℕ) (of body : Raw)
    → after text tokens read action.Sigma (operand (operand (patterned (noted g at) pat) t of) u body) ≡ topped g at (form.Sigma (record { pat = pat; of = Some of; tope = None }) body)
unfolding after top_place without_place top_operand without_operand with_operand with_form top_pattern without_pattern
act_sigma text tokens read g at pat t u of body = simp (top_last, below_last)

pub act_lambda : (text : List ℕ) (tokens : List Token) (read : ℕ) (g : Builder) (at : ℕ) (list : List Bind) (t : ℕ) (body : Raw)
    → after text tokens read action.Lambda (operand (bound (noted g at) list) t body) ≡ topped g at (form.Lambda list body)
unfolding after top_place without_place top_operand without_operand with_operand with_form top_binds without_binds
act_lambda text tokens read g at list t body = simp (top_last, below_last)

pub act_pair_pattern : (text : List ℕ) (tokens : List Token) (read : ℕ) (g : Builder) (at : ℕ) (l r : Pat)
    → after text tokens read action.PairPattern (patterned (patterned (noted g at) l) r) ≡ patterned (shaped g (shape.Pair l r ∷ [])) (record { shape = length g.shapes; at = at })
unfolding after top_place without_place top_pattern without_pattern with_pattern
act_pair_pattern text tokens read g at l r = simp (top_last, below_last)

pub act_pattern : (text : List ℕ) (tokens : List Token) (read : ℕ) (g : Builder) (list : List Pat) (pat : Pat)
    → after text tokens read action.AddPattern (patterned (grouped g list) pat) ≡ grouped g (list ++ pat ∷ [])
unfolding after top_pattern without_pattern top_group without_group with_group
act_pattern text tokens read g list pat = simp (top_last, below_last)

pub act_untyped : (text : List ℕ) (tokens : List Token) (read : ℕ) (g : Builder) (list : List Bind) (pat : Pat)
    → after text tokens read action.AddUntyped (patterned (bound g list) pat) ≡ bound g (list ++ record { pat = pat; of = None; tope = None } ∷ [])
unfolding after top_pattern without_pattern top_binds without_binds with_binds
act_untyped text tokens read g list pat = simp (top_last, below_last)

pub act_typed : (text : List ℕ) (tokens : List Token) (read : ℕ) (g : Builder) (list : List Bind) (group : List Pat) (t : ℕ) (of : Raw)
    → after text tokens read action.AddTyped (operand (grouped (bound g list) group) t of) ≡ bound g (list ++ bind_each group (Some of) None)
unfolding after top_operand without_operand top_group without_group top_binds without_binds with_binds
act_typed text tokens read g list group t of = simp (top_last, below_last)

pub act_restricted : (text : List ℕ) (tokens : List Token) (read : ℕ) (g : Builder) (list : List Bind) (group : List Pat) (t u : ℕ) (of tope : Raw)
    → after text tokens read action.AddRestricted (operand (operand (grouped (bound g list) group) t of) u tope) ≡ bound g (list ++ bind_each group (Some of) (Some tope))
unfolding after top_operand without_operand top_group without_group top_binds without_binds with_binds
act_restricted text tokens read g list group t u of tope = simp (top_last, below_last)

pub act_named : (text : List ℕ) (tokens : List Token) (read : ℕ) (g : Builder) → after text tokens read action.Named g ≡ topped g (last_place g read) (form.Named (last_bytes text tokens read))
unfolding after with_form with_operand
act_named text tokens read g = refl

pub act_leaf : (text : List ℕ) (tokens : List Token) (read : ℕ) (g : Builder) (kind : Leaf) → after text tokens read (action.Leaf kind) g ≡ topped g (last_place g read) (leaf_form kind)
unfolding after with_form with_operand
act_leaf text tokens read g kind = refl

pub act_name_pattern : (text : List ℕ) (tokens : List Token) (read : ℕ) (g : Builder) → after text tokens read action.NamePattern g ≡ patterned (shaped g (shape.Named (last_bytes text tokens read) ∷ [])) (record { shape = length g.shapes; at = last_place g read })
unfolding after with_pattern
act_name_pattern text tokens read g = refl

pub act_blank_pattern : (text : List ℕ) (tokens : List Token) (read : ℕ) (g : Builder) → after text tokens read action.BlankPattern g ≡ patterned (shaped g (shape.Blank ∷ [])) (record { shape = length g.shapes; at = last_place g read })
unfolding after with_pattern
act_blank_pattern text tokens read g = refl

-- ---- actions that begin something

pub act_here : (text : List ℕ) (tokens : List Token) (read : ℕ) (b : Builder) → after text tokens read action.Here b ≡ noted b (next_place b read)
unfolding after with_place
act_here text tokens read b = refl

pub act_open_arguments : (text : List ℕ) (tokens : List Token) (read : ℕ) (b : Builder) → after text tokens read action.OpenArguments b ≡ argued b []
unfolding after with_arguments
act_open_arguments text tokens read b = refl

pub act_open_faces : (text : List ℕ) (tokens : List Token) (read : ℕ) (b : Builder) → after text tokens read action.OpenFaces b ≡ faced b []
unfolding after with_faces
act_open_faces text tokens read b = refl

pub act_open_patterns : (text : List ℕ) (tokens : List Token) (read : ℕ) (b : Builder) → after text tokens read action.OpenPatterns b ≡ grouped b []
unfolding after with_group
act_open_patterns text tokens read b = refl

pub act_open_binds : (text : List ℕ) (tokens : List Token) (read : ℕ) (b : Builder) → after text tokens read action.OpenBinds b ≡ bound b []
unfolding after with_binds
act_open_binds text tokens read b = refl
