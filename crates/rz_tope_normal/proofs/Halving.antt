-- The normal forms of the parts of points.
use Rattle.std.proofs.Common.{◌≡◌, ℕ, ◌<◌, List, [], ◌∷◌, length, Some, refl, sym, ap, subst, ◌∙◌}
use Rattle.std.specs.Prelude.{option_and_then}
use Rattle.std.proofs.lemmas.List.Elements.{All-nil, All-cons}
use Rattle.rz_rules.specs.declared.rows.Row.TheVariants as row
use Rattle.rz_rules.specs.declared.nodes.Node.{Node}
use Rattle.rz_rules.specs.Tree.{Tree, tree_of}
use Rattle.rz_rules.specs.Cube.{Binders, binders_of, product, left_part, right_part}
use Rattle.rz_rules.specs.Tope.{cube_of, equal_points, left, pair, right}
use Rattle.rz_pool.specs.Pool.{IsPool}
use Rattle.rz_tope_proof.specs.declared.proof.Inference.{Inference}
use Rattle.rz_tope_proof.specs.declared.proof.Claim.TheVariants as claim
use Rattle.rz_tope_proof.specs.Claim.{IsClaim}
use Rattle.rz_tope_proof.specs.Proving.{Infers, Lefts, Rights, LeftOfPair, RightOfPair}
use Rattle.rz_tope_normal.specs.declared.halves.Half.{Half}
use Rattle.rz_tope_normal.specs.Normal.{IsNoPair, left_of, right_of, normal}
use Rattle.rz_tope_normal.specs.Norm.{AreOfCube, IsCarriedBy, IsLeftHalf, IsPairAt, IsRightHalf, equation_of}
use Rattle.rz_tope_normal.proofs.NormalPoints.{left_cube, right_cube, normal_cube}

pub claim_of : (ns : List Node) (context : Tree) (of : ℕ × ℕ × ℕ) → AreOfCube ns context of → IsClaim ns context (claim.Equal of.0 of.1 of.2)
claim_of ns context of is = record {
  live = All-cons (λ id. id < length ns) of.0 (of.1 ∷ of.2 ∷ []) is.cube_live
      (All-cons (λ id. id < length ns) of.1 (of.2 ∷ []) is.first_live
      (All-cons (λ id. id < length ns) of.2 [] is.second_live (All-nil (λ id. id < length ns))));
  over = (is.first, is.second);
}

module _ (ns : List Node) (context : Tree) (all : List Inference) (half : Half) (is : IsLeftHalf ns context all half) where
  abbrev b : Binders
  b = binders_of context

  form_over : cube_of b (tree_of ns half.norm.form) ≡ Some (product (tree_of ns half.cube) is.other)
  form_over = ap (cube_of b) is.norm.form ∙ normal_cube b (tree_of ns half.whole) (product (tree_of ns half.cube) is.other) is.over

  point_over : cube_of b (tree_of ns half.point) ≡ Some (tree_of ns half.cube)
  point_over = ap (cube_of b) is.point ∙ ap (option_and_then left_part) is.over

  middle_over : cube_of b (tree_of ns half.middle) ≡ Some (tree_of ns half.cube)
  middle_over = ap (cube_of b) is.middle ∙ ap (option_and_then left_part) form_over

  pub left_of_cube : AreOfCube ns context (half.cube, half.point, half.middle)
  left_of_cube = record {
    cube_live = is.cube_live;
    first_live = is.point_live;
    second_live = is.middle_live;
    first = point_over;
    second =
        middle_over;
  }

  pub left_carried : IsPool ns → IsCarriedBy ns context all row.EqualLeft half.norm.equation (half.cube, half.point, half.middle)
  left_carried pool = record {
    whole = product (tree_of ns half.cube) is.other;
    first = half.whole;
    second = half.norm.form;
    equal_is = is.norm.equation;
    same = λ e. pool.shared half.point half.middle is.point_live is.middle_live (is.point ∙ ap (λ (id : ℕ). left (tree_of ns id)) e ∙ sym is.middle);
    infers = subst (λ (t : Tree). Infers row.EqualLeft (equal_points (product (tree_of ns half.cube) is.other) (tree_of ns half.whole)
        (tree_of ns half.norm.form) ∷ []) t)
        (λ i. equal_points (tree_of ns half.cube) (sym is.point i) (sym is.middle i)) Lefts;
  }

  pub left_of_no_pair : IsNoPair (tree_of ns half.norm.form) → tree_of ns half.middle ≡ normal (tree_of ns half.point)
  left_of_no_pair no_pair = is.middle ∙ sym no_pair.left_is ∙ ap left_of is.norm.form ∙ sym (ap normal is.point)

  module _ (form rest : ℕ) (pair_is : IsPairAt ns half.norm.form (form, rest)) where
    left_over : cube_of b (tree_of ns form) ≡ Some (tree_of ns half.cube)
    left_over =
        left_cube b (pair (tree_of ns form) (tree_of ns rest)) (product (tree_of ns half.cube) is.other) (tree_of ns half.cube)
        (ap (cube_of b) (sym pair_is.tree) ∙ form_over) refl

    pub left_taken : AreOfCube ns context (half.cube, half.middle, form)
    left_taken = record {
      cube_live = is.cube_live;
      first_live = is.middle_live;
      second_live = pair_is.first_live;
      first = middle_over;
      second =
          left_over;
    }

    pub left_infers : Infers row.EqualFirst [] (equation_of ns (half.cube, half.middle, form))
    left_infers = subst (λ (t : Tree). Infers row.EqualFirst [] (equal_points (tree_of ns half.cube) t (tree_of ns form)))
        (sym (is.middle ∙ ap left pair_is.tree)) LeftOfPair

    pub left_through : AreOfCube ns context (half.cube, half.point, form)
    left_through = record {
      cube_live = is.cube_live;
      first_live = is.point_live;
      second_live = pair_is.first_live;
      first = point_over;
      second =
          left_over;
    }

    pub left_of_pair : tree_of ns form ≡ normal (tree_of ns half.point)
    left_of_pair = ap left_of (sym pair_is.tree ∙ is.norm.form) ∙ sym (ap normal is.point)

module _ (ns : List Node) (context : Tree) (all : List Inference) (half : Half) (is : IsRightHalf ns context all half) where
  abbrev b' : Binders
  b' = binders_of context

  form_over' : cube_of b' (tree_of ns half.norm.form) ≡ Some (product is.other (tree_of ns half.cube))
  form_over' = ap (cube_of b') is.norm.form ∙ normal_cube b' (tree_of ns half.whole) (product is.other (tree_of ns half.cube)) is.over

  point_over' : cube_of b' (tree_of ns half.point) ≡ Some (tree_of ns half.cube)
  point_over' = ap (cube_of b') is.point ∙ ap (option_and_then right_part) is.over

  middle_over' : cube_of b' (tree_of ns half.middle) ≡ Some (tree_of ns half.cube)
  middle_over' = ap (cube_of b') is.middle ∙ ap (option_and_then right_part) form_over'

  pub right_of_cube : AreOfCube ns context (half.cube, half.point, half.middle)
  right_of_cube = record {
    cube_live = is.cube_live;
    first_live = is.point_live;
    second_live = is.middle_live;
    first = point_over';
    second =
        middle_over';
  }

  pub right_carried : IsPool ns → IsCarriedBy ns context all row.EqualRight half.norm.equation (half.cube, half.point, half.middle)
  right_carried pool = record {
    whole = product is.other (tree_of ns half.cube);
    first = half.whole;
    second = half.norm.form;
    equal_is = is.norm.equation;
    same = λ e. pool.shared half.point half.middle is.point_live is.middle_live (is.point ∙ ap (λ (id : ℕ). right (tree_of ns id)) e ∙ sym is.middle);
    infers = subst (λ (t : Tree). Infers row.EqualRight (equal_points (product is.other (tree_of ns half.cube)) (tree_of ns half.whole)
        (tree_of ns half.norm.form) ∷ []) t)
        (λ i. equal_points (tree_of ns half.cube) (sym is.point i) (sym is.middle i)) Rights;
  }

  pub right_of_no_pair : IsNoPair (tree_of ns half.norm.form) → tree_of ns half.middle ≡ normal (tree_of ns half.point)
  right_of_no_pair no_pair = is.middle ∙ sym no_pair.right_is ∙ ap right_of is.norm.form ∙ sym (ap normal is.point)

  module _ (rest form : ℕ) (pair_is : IsPairAt ns half.norm.form (rest, form)) where
    right_over : cube_of b' (tree_of ns form) ≡ Some (tree_of ns half.cube)
    right_over =
        right_cube b' (pair (tree_of ns rest) (tree_of ns form)) (product is.other (tree_of ns half.cube)) (tree_of ns half.cube)
        (ap (cube_of b') (sym pair_is.tree) ∙ form_over') refl

    pub right_taken : AreOfCube ns context (half.cube, half.middle, form)
    right_taken = record {
      cube_live = is.cube_live;
      first_live = is.middle_live;
      second_live = pair_is.second_live;
      first = middle_over';
      second =
          right_over;
    }

    pub right_infers : Infers row.EqualSecond [] (equation_of ns (half.cube, half.middle, form))
    right_infers = subst (λ (t : Tree). Infers row.EqualSecond [] (equal_points (tree_of ns half.cube) t (tree_of ns form)))
        (sym (is.middle ∙ ap right pair_is.tree)) RightOfPair

    pub right_through : AreOfCube ns context (half.cube, half.point, form)
    right_through = record {
      cube_live = is.cube_live;
      first_live = is.point_live;
      second_live = pair_is.second_live;
      first = point_over';
      second =
          right_over;
    }

    pub right_of_pair : tree_of ns form ≡ normal (tree_of ns half.point)
    right_of_pair = ap right_of (sym pair_is.tree ∙ is.norm.form) ∙ sym (ap normal is.point)
