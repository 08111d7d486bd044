-- Words that are read as a product, which groups to the left.
use Rattle.std.proofs.Common.{◌≡◌, ℕ, ◌+◌, List, [], ◌∷◌, ◌++◌, inl, inr, length, refl, sym, subst, arith, append_assoc, append-nil, length-append}
use Rattle.rz_lex.specs.declared.token.Tok.TheVariants as token
use Rattle.rz_lex.specs.declared.token.Token.{Token}
use Rattle.rz_syntax.specs.declared.action.Action.TheVariants as action
use Rattle.rz_syntax.specs.declared.action.Join.TheVariants as join
use Rattle.rz_syntax.specs.declared.builder.Builder.{Builder}
use Rattle.rz_syntax.specs.declared.forms.Raw.{Raw}
use Rattle.rz_syntax.specs.declared.forms.Shape.{Shape}
use Rattle.rz_syntax.specs.declared.forms.Form.{Form}
use Rattle.rz_syntax.specs.declared.grammar.Symbol.{Symbol}
use Rattle.rz_syntax.specs.declared.grammar.Symbol.TheVariants.{One, Sub, Do}
use Rattle.rz_syntax.specs.declared.grammar.Rule.TheVariants as rule
use Rattle.rz_syntax.specs.Grammar.{IsOneOf, alternatives}
use Rattle.rz_syntax.specs.Building.{after, join_form}
use Rattle.rz_print.specs.Text.{Word}
use Rattle.rz_print.specs.Meaning.{Tree, IsTree}
use Rattle.rz_print.proofs.Runs.{Runs, runs_nothing, runs_token, runs_action, runs_append, runs_rule, runs_words}
use Rattle.rz_print.proofs.Terms.{StandAt, stand_split, Reads, joined_tree, after_join, join_tree}
use Rattle.rz_print.proofs.States.{pushed, joined_raw}

one_product : IsOneOf (Sub rule.Application ∷ Sub rule.MoreProduct ∷ []) (alternatives rule.Product)
unfolding alternatives
one_product = inl refl

no_more : IsOneOf [] (alternatives rule.MoreProduct)
unfolding alternatives
no_more = inl refl

one_more : IsOneOf (One token.Product ∷ Sub rule.Application ∷ Do (action.Join join.Product) ∷ Sub rule.MoreProduct ∷ []) (alternatives rule.MoreProduct)
unfolding alternatives
one_more = inr (inl refl)

-- the words begin a product, and more factors may follow
pub record Factors (words : List Word) (tree : Tree) (text : List ℕ) (tokens : List Token) (read : ℕ) (b : Builder) : Type 0 where
  pub start : ℕ
  pub raw : Raw
  pub shapes : List Shape
  pub forms : List Form
  pub goes_on : (behind : List Word) (b2 : Builder) → Runs (Sub rule.MoreProduct ∷ []) behind text tokens (read + length words) (pushed b start raw shapes forms) b2
      → Runs (Sub rule.Product ∷ []) (words ++ behind) text tokens read b b2
  pub is : IsTree (b.shapes ++ shapes) (b.forms ++ forms) raw.form tree

abbrev pub ReadsFactors : List Word → Tree → Type 0
ReadsFactors words tree =
    (text : List ℕ) (tokens : List Token) (read : ℕ) (b : Builder) → StandAt text tokens read words → Factors words tree text tokens read b

pub factor_alone : (words : List Word) (tree : Tree) → Reads rule.Application words tree → ReadsFactors words tree
factor_alone words tree r text tokens read b h =
    let t = r text tokens read b h in
    record {
      start = t.start;
      raw = t.raw;
      shapes = t.shapes;
      forms = t.forms;
      goes_on = λ behind b2 more. runs_rule rule.Product read b b2 one_product (runs_append read b (pushed b t.start t.raw t.shapes t.forms) b2 t.runs more);
      is = t.is;
    }

place_of : {symbols : List Symbol} {words : List Word} (text : List ℕ) (tokens : List Token) (m n : ℕ) (b b' : Builder) → m ≡ n → Runs symbols words text tokens m b b' → Runs symbols words text tokens n b b'
place_of {symbols} {words} text tokens m n b b' e r = subst (λ (k : ℕ). Runs symbols words text tokens k b b') e r

further : (read : ℕ) (front behind : List Word) (mark : Word) → read + length (front ++ mark ∷ behind) ≡ read + length front + 1 + length behind
further read front behind mark = omega (arith, length-append front (mark ∷ behind))

pub factor_more : (bytes : List ℕ) (front behind : List Word) (left right : Tree) → ReadsFactors front left → Reads rule.Application behind right
    → ReadsFactors (front ++ record { kind = token.Product; bytes = bytes } ∷ behind) (joined_tree join.Product left right)
factor_more bytes front behind left right r q text tokens read b h =
    let mark : Word = record { kind = token.Product; bytes = bytes } in
    let s = stand_split text tokens read front (mark ∷ behind) h in
    let t = r text tokens read b s.0 in
    let b1 = pushed b t.start t.raw t.shapes t.forms in
    let u = q text tokens (read + length front + 1) b1 s.1.1 in
    let b2 = pushed b1 u.start u.raw u.shapes u.forms in
    let at = read + length front + 1 + length behind in
    let raw = joined_raw ((b.forms ++ t.forms) ++ u.forms) t.start in
    let shapes = t.shapes ++ u.shapes in
    let forms = t.forms ++ (u.forms ++ join_form join.Product t.raw u.raw ∷ []) in
    let b3 = pushed b t.start raw shapes forms in
    record {
      start = t.start;
      raw = raw;
      shapes = shapes;
      forms = forms;
      goes_on = λ more end go.
          let go_on : Runs (Sub rule.MoreProduct ∷ []) more text tokens at (after text tokens at (action.Join join.Product) b2) end =
          subst (λ (c : Builder). Runs (Sub rule.MoreProduct ∷ []) more text tokens at c end)
          (sym (after_join text tokens at b join.Product t.start u.start t.raw u.raw t.shapes u.shapes t.forms u.forms))
          (place_of text tokens (read + length (front ++ mark ∷ behind)) at b3 end (further read front behind mark) go) in
          let tail : Runs (Sub rule.MoreProduct ∷ []) (mark ∷ (behind ++ more)) text tokens (read + length front) b1 end =
          runs_rule rule.MoreProduct (read + length front) b1 end one_more
          (runs_token mark (read + length front) b1 end
          (runs_append (read + length front + 1) b1 b2 end u.runs (runs_action (action.Join join.Product) at b2 end go_on))) in
          runs_words ((front ++ mark ∷ behind) ++ more) (sym (append_assoc front (mark ∷ behind) more)) (t.goes_on (mark ∷ (behind ++ more)) end tail);
      is = join_tree b join.Product t.start t.raw u.raw t.shapes u.shapes t.forms u.forms left right t.is u.is;
    }

pub factors_end : (words : List Word) (tree : Tree) → ReadsFactors words tree → Reads rule.Product words tree
factors_end words tree r text tokens read b h =
    let t = r text tokens read b h in
    let b1 = pushed b t.start t.raw t.shapes t.forms in
    record {
      start = t.start;
      raw = t.raw;
      shapes = t.shapes;
      forms = t.forms;
      runs = runs_words words (append-nil words)
          (t.goes_on [] b1 (runs_rule rule.MoreProduct (read + length words) b1 b1 no_more (runs_nothing (read + length words) b1)));
      is = t.is;
    }
