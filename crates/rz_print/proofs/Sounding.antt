-- Each rule does what is said of it, and so every text that is read makes sound tables.
use Rattle.std.proofs.Common.{◌≡◌, ℕ, ◌+◌, suc, List, [], ◌∷◌, ◌++◌, None, Some, length, refl, sym, ap, ◌∙◌, subst, arith, add-zero, append_assoc, length-append}
use Rattle.std.specs.Prelude.{slice_get}
use Rattle.rz_lex.specs.declared.token.Tok.{Tok}
use Rattle.rz_lex.specs.declared.token.Token.{Token}
use Rattle.rz_syntax.specs.declared.action.Action.TheVariants as action
use Rattle.rz_syntax.specs.declared.action.Leaf.TheVariants as leaf
use Rattle.rz_syntax.specs.declared.action.Join.TheVariants as join
use Rattle.rz_syntax.specs.declared.action.Step.{Step}
use Rattle.rz_syntax.specs.declared.builder.Builder.{Builder}
use Rattle.rz_syntax.specs.declared.forms.Form.TheVariants as form
use Rattle.rz_syntax.specs.declared.grammar.Symbol.{Symbol}
use Rattle.rz_syntax.specs.declared.grammar.Rule.{Rule}
use Rattle.rz_syntax.specs.declared.grammar.Rule.TheVariants as rule
use Rattle.rz_syntax.specs.Grammar.{kinds_of, IsOneOf, alternatives, Phrase, nothing, token, action, part}
use Rattle.rz_syntax.specs.Building.{after, built}
use Rattle.rz_print.proofs.Effects.{MakesForm, Lists, GoodArguments, GoodFaces, GoodPatterns, GoodBinds, TakesForm, TakesPlace, TakesType, Effect, Chain, NamesAre, Cases, each, Filed}
use Rattle.rz_print.proofs.Filing.{keeps, adds, defines, postulates, checks, computes, assumes}
use Rattle.rz_print.proofs.Doing.{act_first, act_second, act_refl_at, act_refl_typed, act_pair}
use Rattle.rz_print.proofs.Making.{makes_then, takes_then, takes_none, place_then, join_takes, equal_takes, lists_none, argument_lists, application_makes, unary_takes, binary_takes, first_stands, second_stands, refl_stands, refl_typed_stands, pair_stands, brackets_take, name_makes, leaf_makes, face_lists, more_faces_list, restrict_takes, cases_make, induction_makes}
use Rattle.rz_print.proofs.Tying.{name_draws, blank_draws, pair_draws, pattern_lists, typed_takes, restricted_takes, binder_lists, untyped_lists, parameter_lists, parameters_list, binders_list, lambda_makes, arrows_make, arrow_takes, sigma_makes}
use Rattle.rz_print.proofs.States.{argued, faced, grouped, bound}

-- ---- all rules

does_file : (text : List ℕ) (tokens : List Token) → NamesAre text tokens → (read : ℕ) (b b' : Builder) → Cases (λ ss. Chain text tokens ss read b b') (Effect rule.File b b') (alternatives rule.File)
unfolding alternatives
does_file text tokens names read b b' = (
  (λ p s. let x = p.1.1 in subst Filed x.3.3 (x.3.2 (x.2 s))),
  tt,
)

does_semicolons : (text : List ℕ) (tokens : List Token) → NamesAre text tokens → (read : ℕ) (b b' : Builder) → Cases (λ ss. Chain text tokens ss read b b') (Effect rule.Semicolons b b') (alternatives rule.Semicolons)
unfolding alternatives
does_semicolons text tokens names read b b' = (
  (λ p s. subst Filed p s),
  (
    (λ p s. let x = p.1 in subst Filed x.3 (x.2 s)),
    tt,
  ),
)

does_commands : (text : List ℕ) (tokens : List Token) → NamesAre text tokens → (read : ℕ) (b b' : Builder) → Cases (λ ss. Chain text tokens ss read b b') (Effect rule.Commands b b') (alternatives rule.Commands)
unfolding alternatives
does_commands text tokens names read b b' = (
  (λ p s. subst Filed p s),
  (
    (λ p s. let y = p.3 in subst Filed y.3.3 (y.3.2 (y.2 (p.2 s)))),
    tt,
  ),
)

does_command : (text : List ℕ) (tokens : List Token) → NamesAre text tokens → (read : ℕ) (b b' : Builder) → Cases (λ ss. Chain text tokens ss read b b') (Effect rule.Command b b') (alternatives rule.Command)
unfolding alternatives
does_command text tokens names read b b' = (
  (λ p s. defines text tokens (read + 1) b b' p.1 s),
  (
    (λ p s. defines text tokens (read + 1) b b' p.1 s),
    (
      (λ p s. postulates text tokens (read + 1) b b' p.1 s),
      (
        (λ p s. checks text tokens (read + 1) b b' p.1 s),
        (
          (λ p s. computes text tokens (read + 1) b b' p.1 s),
          (
            (λ p s. computes text tokens (read + 1) b b' p.1 s),
            (
              (λ p s. computes text tokens (read + 1) b b' p.1 s),
              (
                (λ p s. let x = p.1 in subst Filed x.3 (adds text tokens x.0 action.Section x.1 refl (x.2 (keeps text tokens (read + 1) action.Begin b refl s)))),
                (
                  (λ p s. let x = p.1 in subst Filed x.3 (adds text tokens x.0 action.End x.1 refl (x.2 (keeps text tokens (read + 1) action.Begin b refl s)))),
                  (
                    (λ p s. assumes text tokens (read + 1) b b' p.1 s),
                    (
                      (λ p s. assumes text tokens (read + 1) b b' p.1 s),
                      (
                        (λ p s. assumes text tokens (read + 1) b b' p.1 s),
                        (
                          (λ p s. subst Filed p.1.1.1.1 (adds text tokens (read + 1 + 1 + 1 + 1) action.SetOption (after text tokens (read + 1) action.Begin b) refl (keeps text tokens (read + 1) action.Begin b refl s))),
                          (
                            (λ p s. subst Filed p.1.1 (adds text tokens (read + 1 + 1) action.SetOption (after text tokens (read + 1) action.Begin b) refl (keeps text tokens (read + 1) action.Begin b refl s))),
                            tt,
                          ),
                        ),
                      ),
                    ),
                  ),
                ),
              ),
            ),
          ),
        ),
      ),
    ),
  ),
)

does_uses : (text : List ℕ) (tokens : List Token) → NamesAre text tokens → (read : ℕ) (b b' : Builder) → Cases (λ ss. Chain text tokens ss read b b') (Effect rule.Uses b b') (alternatives rule.Uses)
unfolding alternatives
does_uses text tokens names read b b' = (
  (λ p s. subst Filed p s),
  (
    (λ p s. let x = p.1.1.1 in subst Filed x.3.1 (x.2 (keeps text tokens (read + 1 + 1 + 1) action.AddWord b refl s))),
    tt,
  ),
)

does_words : (text : List ℕ) (tokens : List Token) → NamesAre text tokens → (read : ℕ) (b b' : Builder) → Cases (λ ss. Chain text tokens ss read b b') (Effect rule.Words b b') (alternatives rule.Words)
unfolding alternatives
does_words text tokens names read b b' = (
  (λ p s. subst Filed p s),
  (
    (λ p s. let x = p.1 in subst Filed x.3 (x.2 (keeps text tokens (read + 1) action.AddWord b refl s))),
    tt,
  ),
)

does_title : (text : List ℕ) (tokens : List Token) → NamesAre text tokens → (read : ℕ) (b b' : Builder) → Cases (λ ss. Chain text tokens ss read b b') (Effect rule.Title b b') (alternatives rule.Title)
unfolding alternatives
does_title text tokens names read b b' = (
  (λ p s. subst Filed p s),
  (
    (λ p s. subst Filed p.1 (keeps text tokens (read + 1) action.CommandName b refl s)),
    tt,
  ),
)

does_binders : (text : List ℕ) (tokens : List Token) → NamesAre text tokens → (read : ℕ) (b b' : Builder) → Cases (λ ss. Chain text tokens ss read b b') (Effect rule.Binders b b') (alternatives rule.Binders)
unfolding alternatives
does_binders text tokens names read b b' = (
  (λ p. lists_none bound GoodBinds b b' p (λ a. record { parts = tt; patterns = tt; fit = tt })),
  (
    (λ p. binders_list b p.1 b' p.2 (subst (λ x. Lists bound GoodBinds p.1 x) p.3.3 p.3.2)),
    tt,
  ),
)

does_binder : (text : List ℕ) (tokens : List Token) → NamesAre text tokens → (read : ℕ) (b b' : Builder) → Cases (λ ss. Chain text tokens ss read b b') (Effect rule.Binder b b') (alternatives rule.Binder)
unfolding alternatives
does_binder text tokens names read b b' = (
  (λ p. let x = p.1 in let y = x.3 in let z = y.3.1 in let w = z.3 in binder_lists text tokens (read + 1) x.0 b x.1 y.1 z.1 b' x.2 y.2 z.2 (subst (λ v. TakesType z.1 v) w.3.1 w.2)),
  (
    (λ p. let x = p.1 in let y = x.3 in let z = y.3.1 in let v = z.3.1 in binder_lists text tokens (read + 1) x.0 b x.1 y.1 z.1 b' x.2 y.2 z.2 (restricted_takes text tokens v.0 z.1 v.1 b' v.2 v.3.1)),
    tt,
  ),
)

does_tope : (text : List ℕ) (tokens : List Token) → NamesAre text tokens → (read : ℕ) (b b' : Builder) → Cases (λ ss. Chain text tokens ss read b b') (Effect rule.Tope b b') (alternatives rule.Tope)
unfolding alternatives
does_tope text tokens names read b b' = (
  (λ p. typed_takes text tokens read b b' p),
  (
    (λ p. let x = p.1 in restricted_takes text tokens x.0 b x.1 b' x.2 x.3),
    tt,
  ),
)

does_patterns : (text : List ℕ) (tokens : List Token) → NamesAre text tokens → (read : ℕ) (b b' : Builder) → Cases (λ ss. Chain text tokens ss read b b') (Effect rule.Patterns b b') (alternatives rule.Patterns)
unfolding alternatives
does_patterns text tokens names read b b' = (
  (λ p. lists_none grouped GoodPatterns b b' p (λ a. tt)),
  (
    (λ p. pattern_lists text tokens p.0 b p.1 b' p.2 (subst (λ x. Lists grouped GoodPatterns (after text tokens p.0 action.AddPattern p.1) x) p.3.3 p.3.2)),
    tt,
  ),
)

does_pattern : (text : List ℕ) (tokens : List Token) → NamesAre text tokens → (read : ℕ) (b b' : Builder) → Cases (λ ss. Chain text tokens ss read b b') (Effect rule.Pattern b b') (alternatives rule.Pattern)
unfolding alternatives
does_pattern text tokens names read b b' = (
  (λ p. name_draws text tokens names read b b' p),
  (
    (λ p. blank_draws text tokens (read + 1) b b' p.1),
    (
      (λ p. let x = p.1 in let y = x.3.1 in pair_draws text tokens read (y.0 + 1) b x.1 y.1 b' x.2 y.2 y.3.1),
      tt,
    ),
  ),
)

does_term : (text : List ℕ) (tokens : List Token) → NamesAre text tokens → (read : ℕ) (b b' : Builder) → Cases (λ ss. Chain text tokens ss read b b') (Effect rule.Term b b') (alternatives rule.Term)
unfolding alternatives
does_term text tokens names read b b' = (
  (λ p. let x = p.1 in let y = x.3 in let z = y.3.1 in lambda_makes text tokens read z.0 b x.1 y.1 z.1 b' x.2 y.2 z.2 z.3),
  (
    (λ p. let z = p.3.1 in arrows_make text tokens read z.0 b p.1 z.1 b' p.2 z.2 z.3),
    (
      (λ p. let x = p.1.1 in let y = x.3.1 in let z = y.3.1.1 in sigma_makes text tokens read z.0 b x.1 y.1 z.1 b' x.2 y.2 z.2 z.3),
      (
        (λ p. makes_then b p.1 b' p.2 (subst (λ x. TakesForm p.1 x) p.3.3 p.3.2)),
        tt,
      ),
    ),
  ),
)

does_tail : (text : List ℕ) (tokens : List Token) → NamesAre text tokens → (read : ℕ) (b b' : Builder) → Cases (λ ss. Chain text tokens ss read b b') (Effect rule.Tail b b') (alternatives rule.Tail)
unfolding alternatives
does_tail text tokens names read b b' = (
  (λ p. takes_none b b' p),
  (
    (λ p. arrow_takes text tokens p.1.0 b p.1.1 b' p.1.2 p.1.3),
    (
      (λ p. join_takes text tokens p.1.0 join.As b p.1.1 b' p.1.2 p.1.3),
      tt,
    ),
  ),
)

does_parameters : (text : List ℕ) (tokens : List Token) → NamesAre text tokens → (read : ℕ) (b b' : Builder) → Cases (λ ss. Chain text tokens ss read b b') (Effect rule.Parameters b b') (alternatives rule.Parameters)
unfolding alternatives
does_parameters text tokens names read b b' = (
  (λ p. lists_none bound GoodBinds b b' p (λ a. record { parts = tt; patterns = tt; fit = tt })),
  (
    (λ p. parameters_list b p.1 b' p.2 (subst (λ x. Lists bound GoodBinds p.1 x) p.3.3 p.3.2)),
    tt,
  ),
)

does_parameter : (text : List ℕ) (tokens : List Token) → NamesAre text tokens → (read : ℕ) (b b' : Builder) → Cases (λ ss. Chain text tokens ss read b b') (Effect rule.Parameter b b') (alternatives rule.Parameter)
unfolding alternatives
does_parameter text tokens names read b b' = (
  (λ p. untyped_lists text tokens p.0 b p.1 b' p.2 p.3),
  (
    (λ p. parameter_lists b p.1 b' p.2 p.3),
    tt,
  ),
)

does_rest : (text : List ℕ) (tokens : List Token) → NamesAre text tokens → (read : ℕ) (b b' : Builder) → Cases (λ ss. Chain text tokens ss read b b') (Effect rule.Rest b b') (alternatives rule.Rest)
unfolding alternatives
does_rest text tokens names read b b' = (
  (λ p. makes_then b p.1 b' p.2 (subst (λ x. TakesForm p.1 x) p.3.3 p.3.2)),
  tt,
)

does_faces : (text : List ℕ) (tokens : List Token) → NamesAre text tokens → (read : ℕ) (b b' : Builder) → Cases (λ ss. Chain text tokens ss read b b') (Effect rule.Faces b b') (alternatives rule.Faces)
unfolding alternatives
does_faces text tokens names read b b' = (
  (λ p. takes_none b b' p),
  (
    (λ p. let x = p.1 in let y = x.3 in restrict_takes text tokens read (y.0 + 1) b x.1 y.1 b' x.2 y.2 y.3.1),
    tt,
  ),
)

does_morefaces : (text : List ℕ) (tokens : List Token) → NamesAre text tokens → (read : ℕ) (b b' : Builder) → Cases (λ ss. Chain text tokens ss read b b') (Effect rule.MoreFaces b b') (alternatives rule.MoreFaces)
unfolding alternatives
does_morefaces text tokens names read b b' = (
  (λ p. lists_none faced GoodFaces b b' p (λ a. tt)),
  (
    (λ p. let x = p.1 in more_faces_list b x.1 b' x.2 (subst (λ y. Lists faced GoodFaces x.1 y) x.3.3 x.3.2)),
    tt,
  ),
)

does_face : (text : List ℕ) (tokens : List Token) → NamesAre text tokens → (read : ℕ) (b b' : Builder) → Cases (λ ss. Chain text tokens ss read b b') (Effect rule.Face b b') (alternatives rule.Face)
unfolding alternatives
does_face text tokens names read b b' = (
  (λ p. let y = p.3.1 in face_lists text tokens y.0 b p.1 y.1 b' p.2 y.2 y.3),
  tt,
)

does_disjunction : (text : List ℕ) (tokens : List Token) → NamesAre text tokens → (read : ℕ) (b b' : Builder) → Cases (λ ss. Chain text tokens ss read b b') (Effect rule.Disjunction b b') (alternatives rule.Disjunction)
unfolding alternatives
does_disjunction text tokens names read b b' = (
  (λ p. makes_then b p.1 b' p.2 (subst (λ x. TakesForm p.1 x) p.3.3 p.3.2)),
  tt,
)

does_moredisjunction : (text : List ℕ) (tokens : List Token) → NamesAre text tokens → (read : ℕ) (b b' : Builder) → Cases (λ ss. Chain text tokens ss read b b') (Effect rule.MoreDisjunction b b') (alternatives rule.MoreDisjunction)
unfolding alternatives
does_moredisjunction text tokens names read b b' = (
  (λ p. takes_none b b' p),
  (
    (λ p. join_takes text tokens p.1.0 join.Or b p.1.1 b' p.1.2 p.1.3),
    tt,
  ),
)

does_conjunction : (text : List ℕ) (tokens : List Token) → NamesAre text tokens → (read : ℕ) (b b' : Builder) → Cases (λ ss. Chain text tokens ss read b b') (Effect rule.Conjunction b b') (alternatives rule.Conjunction)
unfolding alternatives
does_conjunction text tokens names read b b' = (
  (λ p. makes_then b p.1 b' p.2 (subst (λ x. TakesForm p.1 x) p.3.3 p.3.2)),
  tt,
)

does_moreconjunction : (text : List ℕ) (tokens : List Token) → NamesAre text tokens → (read : ℕ) (b b' : Builder) → Cases (λ ss. Chain text tokens ss read b b') (Effect rule.MoreConjunction b b') (alternatives rule.MoreConjunction)
unfolding alternatives
does_moreconjunction text tokens names read b b' = (
  (λ p. takes_none b b' p),
  (
    (λ p. join_takes text tokens p.1.0 join.And b p.1.1 b' p.1.2 p.1.3),
    tt,
  ),
)

does_relation : (text : List ℕ) (tokens : List Token) → NamesAre text tokens → (read : ℕ) (b b' : Builder) → Cases (λ ss. Chain text tokens ss read b b') (Effect rule.Relation b b') (alternatives rule.Relation)
unfolding alternatives
does_relation text tokens names read b b' = (
  (λ p. makes_then b p.1 b' p.2 (subst (λ x. TakesForm p.1 x) p.3.3 p.3.2)),
  tt,
)

does_rightside : (text : List ℕ) (tokens : List Token) → NamesAre text tokens → (read : ℕ) (b b' : Builder) → Cases (λ ss. Chain text tokens ss read b b') (Effect rule.RightSide b b') (alternatives rule.RightSide)
unfolding alternatives
does_rightside text tokens names read b b' = (
  (λ p. takes_none b b' p),
  (
    (λ p. join_takes text tokens p.1.0 join.SamePoint b p.1.1 b' p.1.2 p.1.3),
    (
      (λ p. join_takes text tokens p.1.0 join.AtMost b p.1.1 b' p.1.2 p.1.3),
      (
        (λ p. join_takes text tokens p.1.0 join.Equal b p.1.1 b' p.1.2 p.1.3),
        (
          (λ p. let x = p.1 in let y = x.3.1 in equal_takes text tokens y.0 b x.1 y.1 b' x.2 y.2 y.3),
          tt,
        ),
      ),
    ),
  ),
)

does_product : (text : List ℕ) (tokens : List Token) → NamesAre text tokens → (read : ℕ) (b b' : Builder) → Cases (λ ss. Chain text tokens ss read b b') (Effect rule.Product b b') (alternatives rule.Product)
unfolding alternatives
does_product text tokens names read b b' = (
  (λ p. makes_then b p.1 b' p.2 (subst (λ x. TakesForm p.1 x) p.3.3 p.3.2)),
  tt,
)

does_moreproduct : (text : List ℕ) (tokens : List Token) → NamesAre text tokens → (read : ℕ) (b b' : Builder) → Cases (λ ss. Chain text tokens ss read b b') (Effect rule.MoreProduct b b') (alternatives rule.MoreProduct)
unfolding alternatives
does_moreproduct text tokens names read b b' = (
  (λ p. takes_none b b' p),
  (
    (λ p. let x = p.1 in let c = after text tokens x.0 (action.Join join.Product) x.1 in takes_then b c b' (join_takes text tokens x.0 join.Product b x.1 c x.2 refl) (subst (λ y. TakesForm c y) x.3.3 x.3.2)),
    tt,
  ),
)

does_application : (text : List ℕ) (tokens : List Token) → NamesAre text tokens → (read : ℕ) (b b' : Builder) → Cases (λ ss. Chain text tokens ss read b b') (Effect rule.Application b b') (alternatives rule.Application)
unfolding alternatives
does_application text tokens names read b b' = (
  (λ p. application_makes text tokens read p.3.0 b p.1 p.3.1 b' p.2 p.3.2 p.3.3),
  tt,
)

does_head : (text : List ℕ) (tokens : List Token) → NamesAre text tokens → (read : ℕ) (b b' : Builder) → Cases (λ ss. Chain text tokens ss read b b') (Effect rule.Head b b') (alternatives rule.Head)
unfolding alternatives
does_head text tokens names read b b' = (
  (λ p. subst (λ x. MakesForm b x) p.3 p.2),
  (
    (λ p. let x = p.1 in place_then text tokens read b x.1 b' x.2 (unary_takes text tokens x.0 action.First form.First (act_first text tokens x.0) first_stands x.1 b' x.3)),
    (
      (λ p. let x = p.1 in place_then text tokens read b x.1 b' x.2 (unary_takes text tokens x.0 action.Second form.Second (act_second text tokens x.0) second_stands x.1 b' x.3)),
      tt,
    ),
  ),
)

does_arguments : (text : List ℕ) (tokens : List Token) → NamesAre text tokens → (read : ℕ) (b b' : Builder) → Cases (λ ss. Chain text tokens ss read b b') (Effect rule.Arguments b b') (alternatives rule.Arguments)
unfolding alternatives
does_arguments text tokens names read b b' = (
  (λ p. lists_none argued GoodArguments b b' p (λ a. tt)),
  (
    (λ p. argument_lists text tokens p.0 b p.1 b' p.2 (subst (λ x. Lists argued GoodArguments (after text tokens p.0 action.AddArgument p.1) x) p.3.3 p.3.2)),
    tt,
  ),
)

does_atom : (text : List ℕ) (tokens : List Token) → NamesAre text tokens → (read : ℕ) (b b' : Builder) → Cases (λ ss. Chain text tokens ss read b b') (Effect rule.Atom b b') (alternatives rule.Atom)
unfolding alternatives
does_atom text tokens names read b b' = (
  (λ p. name_makes text tokens names read b b' p),
  (
    (λ p. leaf_makes text tokens (read + 1) leaf.Universe b b' p.1),
    (
      (λ p. leaf_makes text tokens (read + 1) leaf.CubeSort b b' p.1),
      (
        (λ p. leaf_makes text tokens (read + 1) leaf.TopeSort b b' p.1),
        (
          (λ p. leaf_makes text tokens (read + 1) leaf.CubeOne b b' p.1),
          (
            (λ p. leaf_makes text tokens (read + 1) leaf.CubeTwo b b' p.1),
            (
              (λ p. leaf_makes text tokens (read + 1) leaf.Star b b' p.1),
              (
                (λ p. leaf_makes text tokens (read + 1) leaf.EndZero b b' p.1),
                (
                  (λ p. leaf_makes text tokens (read + 1) leaf.EndOne b b' p.1),
                  (
                    (λ p. leaf_makes text tokens (read + 1) leaf.Top b b' p.1),
                    (
                      (λ p. leaf_makes text tokens (read + 1) leaf.Bottom b b' p.1),
                      (
                        (λ p. leaf_makes text tokens (read + 1) leaf.UnitType b b' p.1),
                        (
                          (λ p. leaf_makes text tokens (read + 1) leaf.UnitTerm b b' p.1),
                          (
                            (λ p. leaf_makes text tokens (read + 1) leaf.RecBot b b' p.1),
                            (
                              (λ p. leaf_makes text tokens (read + 1) leaf.Refl b b' p.1),
                              (
                                (λ p. let x = p.1 in place_then text tokens read b x.1 b' x.2 (subst (λ y. TakesPlace x.1 y) x.3.3 x.3.2)),
                                (
                                  (λ p. let x1 = p.1.1 in let x2 = x1.3.1 in let x3 = x2.3.1 in let x4 = x3.3.1 in let x5 = x4.3.1 in let x6 = x5.3.1 in induction_makes text tokens read x1.0 x2.0 x3.0 x4.0 x5.0 x6.0 (x6.0 + 1) b x1.1 x2.1 x3.1 x4.1 x5.1 x6.1 b' x1.2 x2.2 x3.2 x4.2 x5.2 x6.2 x6.3.1),
                                  (
                                    (λ p. let x1 = p.1.1 in let x2 = x1.3.1 in let x3 = x2.3 in cases_make text tokens read (x3.0 + 1) b x1.1 x2.1 x3.1 b' x1.2 x2.2 x3.2 x3.3.1),
                                    (
                                      (λ p. let x = p.1 in place_then text tokens read b x.1 b' x.2 (subst (λ y. TakesPlace x.1 y) x.3.3 x.3.2)),
                                      tt,
                                    ),
                                  ),
                                ),
                              ),
                            ),
                          ),
                        ),
                      ),
                    ),
                  ),
                ),
              ),
            ),
          ),
        ),
      ),
    ),
  ),
)

does_reflend : (text : List ℕ) (tokens : List Token) → NamesAre text tokens → (read : ℕ) (b b' : Builder) → Cases (λ ss. Chain text tokens ss read b b') (Effect rule.ReflEnd b b') (alternatives rule.ReflEnd)
unfolding alternatives
does_reflend text tokens names read b b' = (
  (λ p. let x = p.1 in binary_takes text tokens (x.0 + 1) action.ReflTyped (λ l r. form.ReflAt l (Some r)) (act_refl_typed text tokens (x.0 + 1)) refl_typed_stands b x.1 b' x.2 x.3.1),
  (
    (λ p. unary_takes text tokens (read + 1) action.ReflAt (λ l. form.ReflAt l None) (act_refl_at text tokens (read + 1)) refl_stands b b' p.1),
    tt,
  ),
)

does_closing : (text : List ℕ) (tokens : List Token) → NamesAre text tokens → (read : ℕ) (b b' : Builder) → Cases (λ ss. Chain text tokens ss read b b') (Effect rule.Closing b b') (alternatives rule.Closing)
unfolding alternatives
does_closing text tokens names read b b' = (
  (λ p. brackets_take text tokens (read + 1) b b' p.1),
  (
    (λ p. let x = p.1 in binary_takes text tokens (x.0 + 1) action.Pair form.Pair (act_pair text tokens (x.0 + 1)) pair_stands b x.1 b' x.2 x.3.1),
    tt,
  ),
)

rule_does : (text : List ℕ) (tokens : List Token) → NamesAre text tokens → (rule : Rule) (inner : List Symbol) (read : ℕ) (b b' : Builder) → IsOneOf inner (alternatives rule) → Chain text tokens inner read b b' → Effect rule b b'
rule_does text tokens names rule.File inner read b b' among p = each (λ ss. Chain text tokens ss read b b') (Effect rule.File b b') inner (alternatives rule.File) (does_file text tokens names read b b') among p
rule_does text tokens names rule.Semicolons inner read b b' among p = each (λ ss. Chain text tokens ss read b b') (Effect rule.Semicolons b b') inner (alternatives rule.Semicolons) (does_semicolons text tokens names read b b') among p
rule_does text tokens names rule.Commands inner read b b' among p = each (λ ss. Chain text tokens ss read b b') (Effect rule.Commands b b') inner (alternatives rule.Commands) (does_commands text tokens names read b b') among p
rule_does text tokens names rule.Command inner read b b' among p = each (λ ss. Chain text tokens ss read b b') (Effect rule.Command b b') inner (alternatives rule.Command) (does_command text tokens names read b b') among p
rule_does text tokens names rule.Uses inner read b b' among p = each (λ ss. Chain text tokens ss read b b') (Effect rule.Uses b b') inner (alternatives rule.Uses) (does_uses text tokens names read b b') among p
rule_does text tokens names rule.Words inner read b b' among p = each (λ ss. Chain text tokens ss read b b') (Effect rule.Words b b') inner (alternatives rule.Words) (does_words text tokens names read b b') among p
rule_does text tokens names rule.Title inner read b b' among p = each (λ ss. Chain text tokens ss read b b') (Effect rule.Title b b') inner (alternatives rule.Title) (does_title text tokens names read b b') among p
rule_does text tokens names rule.Binders inner read b b' among p = each (λ ss. Chain text tokens ss read b b') (Effect rule.Binders b b') inner (alternatives rule.Binders) (does_binders text tokens names read b b') among p
rule_does text tokens names rule.Binder inner read b b' among p = each (λ ss. Chain text tokens ss read b b') (Effect rule.Binder b b') inner (alternatives rule.Binder) (does_binder text tokens names read b b') among p
rule_does text tokens names rule.Tope inner read b b' among p = each (λ ss. Chain text tokens ss read b b') (Effect rule.Tope b b') inner (alternatives rule.Tope) (does_tope text tokens names read b b') among p
rule_does text tokens names rule.Patterns inner read b b' among p = each (λ ss. Chain text tokens ss read b b') (Effect rule.Patterns b b') inner (alternatives rule.Patterns) (does_patterns text tokens names read b b') among p
rule_does text tokens names rule.Pattern inner read b b' among p = each (λ ss. Chain text tokens ss read b b') (Effect rule.Pattern b b') inner (alternatives rule.Pattern) (does_pattern text tokens names read b b') among p
rule_does text tokens names rule.Term inner read b b' among p = each (λ ss. Chain text tokens ss read b b') (Effect rule.Term b b') inner (alternatives rule.Term) (does_term text tokens names read b b') among p
rule_does text tokens names rule.Tail inner read b b' among p = each (λ ss. Chain text tokens ss read b b') (Effect rule.Tail b b') inner (alternatives rule.Tail) (does_tail text tokens names read b b') among p
rule_does text tokens names rule.Parameters inner read b b' among p = each (λ ss. Chain text tokens ss read b b') (Effect rule.Parameters b b') inner (alternatives rule.Parameters) (does_parameters text tokens names read b b') among p
rule_does text tokens names rule.Parameter inner read b b' among p = each (λ ss. Chain text tokens ss read b b') (Effect rule.Parameter b b') inner (alternatives rule.Parameter) (does_parameter text tokens names read b b') among p
rule_does text tokens names rule.Rest inner read b b' among p = each (λ ss. Chain text tokens ss read b b') (Effect rule.Rest b b') inner (alternatives rule.Rest) (does_rest text tokens names read b b') among p
rule_does text tokens names rule.Faces inner read b b' among p = each (λ ss. Chain text tokens ss read b b') (Effect rule.Faces b b') inner (alternatives rule.Faces) (does_faces text tokens names read b b') among p
rule_does text tokens names rule.MoreFaces inner read b b' among p = each (λ ss. Chain text tokens ss read b b') (Effect rule.MoreFaces b b') inner (alternatives rule.MoreFaces) (does_morefaces text tokens names read b b') among p
rule_does text tokens names rule.Face inner read b b' among p = each (λ ss. Chain text tokens ss read b b') (Effect rule.Face b b') inner (alternatives rule.Face) (does_face text tokens names read b b') among p
rule_does text tokens names rule.Disjunction inner read b b' among p = each (λ ss. Chain text tokens ss read b b') (Effect rule.Disjunction b b') inner (alternatives rule.Disjunction) (does_disjunction text tokens names read b b') among p
rule_does text tokens names rule.MoreDisjunction inner read b b' among p = each (λ ss. Chain text tokens ss read b b') (Effect rule.MoreDisjunction b b') inner (alternatives rule.MoreDisjunction) (does_moredisjunction text tokens names read b b') among p
rule_does text tokens names rule.Conjunction inner read b b' among p = each (λ ss. Chain text tokens ss read b b') (Effect rule.Conjunction b b') inner (alternatives rule.Conjunction) (does_conjunction text tokens names read b b') among p
rule_does text tokens names rule.MoreConjunction inner read b b' among p = each (λ ss. Chain text tokens ss read b b') (Effect rule.MoreConjunction b b') inner (alternatives rule.MoreConjunction) (does_moreconjunction text tokens names read b b') among p
rule_does text tokens names rule.Relation inner read b b' among p = each (λ ss. Chain text tokens ss read b b') (Effect rule.Relation b b') inner (alternatives rule.Relation) (does_relation text tokens names read b b') among p
rule_does text tokens names rule.RightSide inner read b b' among p = each (λ ss. Chain text tokens ss read b b') (Effect rule.RightSide b b') inner (alternatives rule.RightSide) (does_rightside text tokens names read b b') among p
rule_does text tokens names rule.Product inner read b b' among p = each (λ ss. Chain text tokens ss read b b') (Effect rule.Product b b') inner (alternatives rule.Product) (does_product text tokens names read b b') among p
rule_does text tokens names rule.MoreProduct inner read b b' among p = each (λ ss. Chain text tokens ss read b b') (Effect rule.MoreProduct b b') inner (alternatives rule.MoreProduct) (does_moreproduct text tokens names read b b') among p
rule_does text tokens names rule.Application inner read b b' among p = each (λ ss. Chain text tokens ss read b b') (Effect rule.Application b b') inner (alternatives rule.Application) (does_application text tokens names read b b') among p
rule_does text tokens names rule.Head inner read b b' among p = each (λ ss. Chain text tokens ss read b b') (Effect rule.Head b b') inner (alternatives rule.Head) (does_head text tokens names read b b') among p
rule_does text tokens names rule.Arguments inner read b b' among p = each (λ ss. Chain text tokens ss read b b') (Effect rule.Arguments b b') inner (alternatives rule.Arguments) (does_arguments text tokens names read b b') among p
rule_does text tokens names rule.Atom inner read b b' among p = each (λ ss. Chain text tokens ss read b b') (Effect rule.Atom b b') inner (alternatives rule.Atom) (does_atom text tokens names read b b') among p
rule_does text tokens names rule.ReflEnd inner read b b' among p = each (λ ss. Chain text tokens ss read b b') (Effect rule.ReflEnd b b') inner (alternatives rule.ReflEnd) (does_reflend text tokens names read b b') among p
rule_does text tokens names rule.Closing inner read b b' among p = each (λ ss. Chain text tokens ss read b b') (Effect rule.Closing b b') inner (alternatives rule.Closing) (does_closing text tokens names read b b') among p
rule_does text tokens names rule inner read b b' among p = tt

-- ---- phrases

-- the tokens from this number on are of these kinds
abbrev pub KindsAt : List Token → ℕ → List Tok → Type 0
KindsAt tokens read [] = Unit {0}
KindsAt tokens read (kind ∷ kinds) = (slice_get (kinds_of tokens) read ≡ Some kind) × KindsAt tokens (read + 1) kinds

kinds_split : (tokens : List Token) (read : ℕ) (front rest : List Tok) → KindsAt tokens read (front ++ rest) → KindsAt tokens read front × KindsAt tokens (read + length front) rest
kinds_split tokens read [] rest h = (tt, subst (λ (n : ℕ). KindsAt tokens n rest) (sym (add-zero read)) h)
kinds_split tokens read (kind ∷ front) rest h =
    let t = kinds_split tokens (read + 1) front rest h.1 in
    ((h.0, t.0), subst (λ (n : ℕ). KindsAt tokens n rest) (later (length front)) t.1)
  where
    later : (n : ℕ) → (read + 1) + n ≡ read + suc n
    later n = omega arith

-- the steps of symbols lead to a builder, and do what the symbols do
pub record Done (text : List ℕ) (tokens : List Token) (symbols : List Symbol) (kinds : List Tok) (steps : List Step) (read : ℕ) (b : Builder) : Type 0 where
  pub last : Builder
  pub makes : (rest : List Step) → built text tokens read (steps ++ rest) b ≡ built text tokens (read + length kinds) rest last
  pub chain : Chain text tokens symbols read b last

pub phrase_done : (text : List ℕ) (tokens : List Token) → NamesAre text tokens → {symbols : List Symbol} {kinds : List Tok} {steps : List Step} → Phrase symbols kinds steps
    → (read : ℕ) (b : Builder) → KindsAt tokens read kinds → Done text tokens symbols kinds steps read b
phrase_done text tokens names nothing read b h = record { last = b; makes = λ rest. ap (λ (n : ℕ). built text tokens n rest b) (sym (add-zero read)); chain = refl }
phrase_done text tokens names (token {kinds} p) read b h =
    let t = phrase_done text tokens names p (read + 1) b h.1 in
    record {
      last = t.last;
      makes = λ rest. t.makes rest ∙ ap (λ (n : ℕ). built text tokens n rest t.last) (later (length kinds));
      chain = (h.0, t.chain);
    }
  where
    later : (n : ℕ) → (read + 1) + n ≡ read + suc n
    later n = omega arith
phrase_done text tokens names (action {act} p) read b h =
    let t = phrase_done text tokens names p read (after text tokens read act b) h in
    record { last = t.last; makes = λ rest. t.makes rest; chain = t.chain }
phrase_done text tokens names (part {rule} {inner} {front} {rest = others} {before} {after = behind} among p q) read b h =
    let s = kinds_split tokens read front others h in
    let t = phrase_done text tokens names p read b s.0 in
    let u = phrase_done text tokens names q (read + length front) t.last s.1 in
    record {
      last = u.last;
      makes = λ rest.
          ap (λ (ss : List Step). built text tokens read ss b) (append_assoc before behind rest)
          ∙ t.makes (behind ++ rest)
          ∙ u.makes rest
          ∙ ap (λ (n : ℕ). built text tokens n rest u.last) (sums (length front) (length others) (length (front ++ others)) (length-append front others));
      chain = (read + length front, t.last, rule_does text tokens names rule inner read b t.last among t.chain, u.chain);
    }
  where
    sums : (m n k : ℕ) → k ≡ m + n → (read + m) + n ≡ read + k
    sums m n k e = omega arith

kinds_from : (tokens : List Token) (read : ℕ) (kinds : List Tok) → ((number : ℕ) → slice_get (kinds_of tokens) (read + number) ≡ slice_get kinds number) → KindsAt tokens read kinds
kinds_from tokens read [] h = tt
kinds_from tokens read (kind ∷ kinds) h = (
  ap (λ (n : ℕ). slice_get (kinds_of tokens) n) (sym (add-zero read)) ∙ h 0,
  kinds_from tokens (read + 1) kinds (λ number. ap (λ (n : ℕ). slice_get (kinds_of tokens) n) (next number) ∙ h (suc number)),
)
  where
    next : (number : ℕ) → (read + 1) + number ≡ read + suc number
    next number = omega arith

pub kinds_all : (tokens : List Token) → KindsAt tokens 0 (kinds_of tokens)
kinds_all tokens = kinds_from tokens 0 (kinds_of tokens) (λ number. ap (λ (n : ℕ). slice_get (kinds_of tokens) n) (same number))
  where
    same : (number : ℕ) → 0 + number ≡ number
    same number = omega arith
