-- The parts of a tope over a context are topes over it, points and cubes.
use Rattle.std.proofs.Common.{ℕ, List, [], ◌∷◌, ◌++◌, get_or, All, sym, subst}
use Rattle.std.proofs.lemmas.List.Elements.{All-nil, All-cons, All-contains, Contains-append_left, Contains-append_right, Contains-get_or}
use Rattle.rz_rules.specs.declared.kinds.Sort.{Sort}
use Rattle.rz_rules.specs.declared.kinds.Sort.TheVariants as sort
use Rattle.rz_rules.specs.declared.kinds.Kind.{Kind}
use Rattle.rz_rules.specs.declared.kinds.Kind.TheVariants as kind
use Rattle.rz_rules.specs.declared.coordinates.Coord.{Coord}
use Rattle.rz_rules.specs.Tree.{Tree, At, AreTrees, IsTree, sort_of, trees_of}
use Rattle.rz_rules.specs.Cube.{Binders}
use Rattle.rz_rules.specs.Tope.{IsTopeOver}
use Rattle.rz_rules.specs.Validity.{compared}
use Rattle.rz_pool.specs.Part.{IsPart, Itself, Kid}
use Rattle.rz_tope_normal.specs.Placed.{IsAmong}
use Rattle.rz_tope_normal.specs.Read.{AreAmong, IsFine}
use Rattle.rz_tope_normal.specs.Reader.{IsFineAs}
use Rattle.rz_tope_normal.proofs.Entering.{sort_is}

-- a list in two parts
pub all_left : {X : Type 0} (P : X → Type 0) (xs ys : List X) → All P (xs ++ ys) → All P xs
all_left P xs ys h k d l = All-contains P (xs ++ ys) (get_or xs k d) h (Contains-append_left xs ys (get_or xs k d) (Contains-get_or xs k d l))

pub all_right : {X : Type 0} (P : X → Type 0) (xs ys : List X) → All P (xs ++ ys) → All P ys
all_right P xs ys h k d l = All-contains P (xs ++ ys) (get_or ys k d) h (Contains-append_right xs ys (get_or ys k d) (Contains-get_or ys k d l))

module _ (binders : Binders) (list : List Coord) where
  -- a part of a tope may be a point or a cube, and if it is a tope, it is over the binders
  abbrev pub IsFit : Sort → Tree → Type 0
  IsFit sort.Tope tree = IsFine binders list tree
  IsFit sort.Point tree = Unit {0}
  IsFit sort.Cube tree = Unit {0}
  IsFit other tree = ⊥

  pub record IsGood (tree : Tree) : Type 0 where
    pub tree_is : IsTree (sort_of tree) tree
    pub fit : IsFit (sort_of tree) tree

  good : (s : Sort) (tree : Tree) → IsTree s tree → IsFit s tree → IsGood tree
  good s tree is fit =
      let e = sort_is s tree is in
      record { tree_is = subst (λ (t : Sort). IsTree t tree) (sym e) is; fit = subst (λ (t : Sort). IsFit t tree) (sym e) fit }

  none : (kids : List Tree) → AreTrees [] (trees_of kids) → All IsGood kids
  none [] h = All-nil IsGood
  none (t ∷ ts) h = absurd h

  one : (s : Sort) (kids : List Tree) → ((t : Tree) → IsFit s t) → AreTrees (s ∷ []) (trees_of kids) → All IsGood kids
  one s [] fit h = absurd h
  one s (t ∷ []) fit h = All-cons IsGood t [] (good s t h.0 (fit t)) (All-nil IsGood)
  one s (t ∷ u ∷ ts) fit h = absurd h.1

  two : (s : Sort) (kids : List Tree) → ((t : Tree) → IsFit s t) → AreTrees (s ∷ s ∷ []) (trees_of kids) → All IsGood kids
  two s [] fit h = absurd h
  two s (t ∷ ts) fit h = All-cons IsGood t ts (good s t h.0 (fit t)) (one s ts fit h.1)

  both_topes : (p q : Tree) → IsTree sort.Tope p → IsTree sort.Tope q → IsTopeOver binders p → IsTopeOver binders q
      → AreAmong list (compared binders p ++ compared binders q) → All IsGood (p ∷ q ∷ [])
  both_topes p q hp hq op oq among =
      All-cons IsGood p (q ∷ []) (good sort.Tope p hp (record {
        over = op;
        among = all_left (IsAmong list) (compared binders p) (compared binders q)
            among;
      }))
      (All-cons IsGood q [] (good sort.Tope q hq (record {
        over = oq;
        among = all_right (IsAmong list) (compared binders p) (compared binders q)
            among;
      })) (All-nil IsGood))

  good_kids : (k : Kind) (number : ℕ) (name : List ℕ) (kids : List Tree) → IsGood (At k number name (trees_of kids)) → All IsGood kids
  good_kids kind.CubeOne number name kids h = none kids h.tree_is.2
  good_kids kind.CubeTwo number name kids h = none kids h.tree_is.2
  good_kids kind.Product number name kids h = two sort.Cube kids (λ t. tt) h.tree_is.2
  good_kids kind.PointVariable number name kids h = none kids h.tree_is.2
  good_kids kind.OnlyPoint number name kids h = none kids h.tree_is.2
  good_kids kind.Zero number name kids h = none kids h.tree_is.2
  good_kids kind.One number name kids h = none kids h.tree_is.2
  good_kids kind.PointPair number name kids h = two sort.Point kids (λ t. tt) h.tree_is.2
  good_kids kind.PointLeft number name kids h = one sort.Point kids (λ t. tt) h.tree_is.2
  good_kids kind.PointRight number name kids h = one sort.Point kids (λ t. tt) h.tree_is.2
  good_kids kind.Top number name kids h = none kids h.tree_is.2
  good_kids kind.Bottom number name kids h = none kids h.tree_is.2
  good_kids kind.Conjunction number name (p ∷ q ∷ []) h = both_topes p q h.tree_is.2.0 h.tree_is.2.1.0 h.fit.over.0 h.fit.over.1 h.fit.among
  good_kids kind.Conjunction number name [] h = absurd h.tree_is.2
  good_kids kind.Conjunction number name (p ∷ []) h = absurd h.tree_is.2.1
  good_kids kind.Conjunction number name (p ∷ q ∷ r ∷ rest) h = absurd h.tree_is.2.1.1
  good_kids kind.Disjunction number name (p ∷ q ∷ []) h = both_topes p q h.tree_is.2.0 h.tree_is.2.1.0 h.fit.over.0 h.fit.over.1 h.fit.among
  good_kids kind.Disjunction number name [] h = absurd h.tree_is.2
  good_kids kind.Disjunction number name (p ∷ []) h = absurd h.tree_is.2.1
  good_kids kind.Disjunction number name (p ∷ q ∷ r ∷ rest) h = absurd h.tree_is.2.1.1
  good_kids kind.EqualPoints number name [] h = absurd h.tree_is.2
  good_kids kind.EqualPoints number name (cube ∷ kids) h =
      All-cons IsGood cube kids (good sort.Cube cube h.tree_is.2.0 tt) (two sort.Point kids (λ t. tt) h.tree_is.2.1)
  good_kids kind.AtMost number name kids h = two sort.Point kids (λ t. tt) h.tree_is.2
  good_kids other number name kids h = absurd h.fit

  pub good_parts : (whole part : Tree) → IsPart whole part → IsGood whole → IsGood part
  good_parts whole part Itself h = h
  good_parts whole part (Kid {kind = k} {number = number} {name = name} kids inner at) h =
      All-contains IsGood kids part (good_kids k number name kids (good_parts whole (At k number name (trees_of kids)) inner h)) at

pub fit_fine : (binders : Binders) (list : List Coord) (s : Sort) (tree : Tree) → IsFit binders list s tree → IsFineAs binders list s tree
fit_fine binders list sort.Tope tree h = h
fit_fine binders list sort.Point tree h = tt
fit_fine binders list sort.Cube tree h = tt
fit_fine binders list sort.Term tree h = absurd h
fit_fine binders list sort.Context tree h = absurd h
