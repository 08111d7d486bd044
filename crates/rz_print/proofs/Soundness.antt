-- Tables whose forms and patterns fit, and have their parts before them.
use Rattle.std.proofs.Common.{◌≡◌, ℕ, ◌<◌, ◌≤◌, zero, suc, List, [], ◌∷◌, ◌++◌, ◌⊎◌, inl, inr, Some, length, refl, sym, ap, ◌∙◌, subst, arith, length-append}
use Rattle.std.specs.Prelude.{slice_get}
use Rattle.rz_syntax.specs.declared.forms.Raw.{Raw}
use Rattle.rz_syntax.specs.declared.forms.Pat.{Pat}
use Rattle.rz_syntax.specs.declared.forms.Shape.{Shape}
use Rattle.rz_syntax.specs.declared.forms.Shape.TheVariants as shape
use Rattle.rz_syntax.specs.declared.forms.Form.{Form}
use Rattle.rz_print.specs.Reading.{IsName}
use Rattle.rz_print.specs.Meaning.{PatternTree, NameOf, NoName, PairOf, IsPattern, ArePatterns, Tree, At, Trees, Nil, And, IsTree, AreTrees, bare, parts_of, patterns_of}
use Rattle.rz_print.proofs.Fitting.{Fits, fits_bare, IsNamed, AreNamed, IsWritten, AreWritten}

-- the forms stand before this number
abbrev pub AreBelow : ℕ → List Raw → Type 0
AreBelow count [] = Unit {0}
AreBelow count (raw ∷ raws) = (raw.form < count) × AreBelow count raws

abbrev pub PatsBelow : ℕ → List Pat → Type 0
PatsBelow count [] = Unit {0}
PatsBelow count (pat ∷ pats) = (pat.shape < count) × PatsBelow count pats

pub below_more : (m n : ℕ) (raws : List Raw) → m ≤ n → AreBelow m raws → AreBelow n raws
below_more m n [] le h = tt
below_more m n (raw ∷ raws) le h = let first = h.0 in (omega arith, below_more m n raws le h.1)

pub pats_more : (m n : ℕ) (pats : List Pat) → m ≤ n → PatsBelow m pats → PatsBelow n pats
pats_more m n [] le h = tt
pats_more m n (pat ∷ pats) le h = let first = h.0 in (omega arith, pats_more m n pats le h.1)

pub below_join : (n : ℕ) (xs ys : List Raw) → AreBelow n xs → AreBelow n ys → AreBelow n (xs ++ ys)
below_join n [] ys a b = b
below_join n (x ∷ xs) ys a b = (a.0, below_join n xs ys a.1 b)

pub pats_join : (n : ℕ) (xs ys : List Pat) → PatsBelow n xs → PatsBelow n ys → PatsBelow n (xs ++ ys)
pats_join n [] ys a b = b
pats_join n (x ∷ xs) ys a b = (a.0, pats_join n xs ys a.1 b)

-- a pattern fits, and its parts stand before it
abbrev pub ShapeStands : ℕ → Shape → Type 0
ShapeStands number (shape.Named name) = IsName name
ShapeStands number shape.Blank = Unit {0}
ShapeStands number (shape.Pair left right) = (left.shape < number) × (right.shape < number)

-- a form fits, its parts stand before it, and there are its patterns
pub record FormStands (count number : ℕ) (written : Form) : Type 0 where
  pub parts : AreBelow number (parts_of written)
  pub patterns : PatsBelow count (patterns_of written)
  pub fits : Fits written

pub record IsSound (shapes : List Shape) (forms : List Form) : Type 0 where
  pub all_shapes : (number : ℕ) (drawn : Shape) → slice_get shapes number ≡ Some drawn → ShapeStands number drawn
  pub all_forms : (number : ℕ) (written : Form) → slice_get forms number ≡ Some written → FormStands (length shapes) number written

pub nothing_sound : IsSound [] []
nothing_sound = record { all_shapes = λ number drawn e. absurd (cc); all_forms = λ number written e. absurd (cc) }

-- ---- one more

same_some : {X : Type 0} (x y : X) → Some x ≡ Some y → x ≡ y
same_some x y e = cc

get_more : {X : Type 0} (xs : List X) (new item : X) (number : ℕ) → slice_get (xs ++ new ∷ []) number ≡ Some item → (slice_get xs number ≡ Some item) ⊎ ((number ≡ length xs) × (new ≡ item))
get_more [] new item zero e = inr (refl, same_some new item e)
get_more [] new item (suc number) e = absurd (cc)
get_more (x ∷ xs) new item zero e = inl e
get_more (x ∷ xs) new item (suc number) e =
    elim (get_more xs new item number e) [ inl h ↦ inl h | inr h ↦ inr (ap suc h.0, h.1) ]

pub sound_form : (shapes : List Shape) (forms : List Form) (new : Form) → IsSound shapes forms → FormStands (length shapes) (length forms) new → IsSound shapes (forms ++ new ∷ [])
sound_form shapes forms new s h = record {
  all_shapes = s.all_shapes;
  all_forms = λ number written e. either number written (get_more forms new written number e);
}
  where
    either : (number : ℕ) (written : Form) → (slice_get forms number ≡ Some written) ⊎ ((number ≡ length forms) × (new ≡ written)) → FormStands (length shapes) number written
    either number written (inl e) = s.all_forms number written e
    either number written (inr e) = subst (λ (n : ℕ). FormStands (length shapes) n written) (sym e.0) (subst (λ (w : Form). FormStands (length shapes) (length forms) w) e.1 h)

stands_more : (m n number : ℕ) (written : Form) → m ≤ n → FormStands m number written → FormStands n number written
stands_more m n number written le h = record { parts = h.parts; patterns = pats_more m n (patterns_of written) le h.patterns; fits = h.fits }

pub sound_shape : (shapes : List Shape) (forms : List Form) (new : Shape) → IsSound shapes forms → ShapeStands (length shapes) new → IsSound (shapes ++ new ∷ []) forms
sound_shape shapes forms new s h =
    let le : length shapes ≤ length (shapes ++ new ∷ []) = omega (arith, length-append shapes (new ∷ [])) in
    record {
      all_shapes = λ number drawn e. either number drawn (get_more shapes new drawn number e);
      all_forms = λ number written e. stands_more (length shapes) (length (shapes ++ new ∷ [])) number written le (s.all_forms number written e);
    }
  where
    either : (number : ℕ) (drawn : Shape) → (slice_get shapes number ≡ Some drawn) ⊎ ((number ≡ length shapes) × (new ≡ drawn)) → ShapeStands number drawn
    either number drawn (inl e) = s.all_shapes number drawn e
    either number drawn (inr e) = subst (λ (n : ℕ). ShapeStands n drawn) (sym e.0) (subst (λ (d : Shape). ShapeStands (length shapes) d) e.1 h)

-- ---- trees of sound tables are written

pub pattern_named : (shapes : List Shape) (forms : List Form) → IsSound shapes forms → (tree : PatternTree) (number : ℕ) → IsPattern shapes number tree → IsNamed tree
pattern_named shapes forms s (NameOf name) number h = s.all_shapes number (shape.Named name) h
pattern_named shapes forms s NoName number h = tt
pattern_named shapes forms s (PairOf left right) number h = (pattern_named shapes forms s left h.0.shape h.3, pattern_named shapes forms s right h.1.shape h.4)

patterns_named : (shapes : List Shape) (forms : List Form) → IsSound shapes forms → (pats : List Pat) (trees : List PatternTree) → ArePatterns shapes pats trees → AreNamed trees
patterns_named shapes forms s [] [] h = tt
patterns_named shapes forms s [] (tree ∷ trees) h = absurd h
patterns_named shapes forms s (pat ∷ pats) [] h = absurd h
patterns_named shapes forms s (pat ∷ pats) (tree ∷ trees) h = (pattern_named shapes forms s tree pat.shape h.0, patterns_named shapes forms s pats trees h.1)

mutual
  pub tree_written : (shapes : List Shape) (forms : List Form) → IsSound shapes forms → (number : ℕ) (tree : Tree) → IsTree shapes forms number tree → IsWritten tree
  tree_written shapes forms s number (At head patterns parts) h = (
    subst Fits h.2 (fits_bare h.0 (s.all_forms number h.0 h.1).fits),
    patterns_named shapes forms s (patterns_of h.0) patterns h.3,
    trees_written shapes forms s (parts_of h.0) parts h.4,
  )

  pub trees_written : (shapes : List Shape) (forms : List Form) → IsSound shapes forms → (raws : List Raw) (trees : Trees) → AreTrees shapes forms raws trees → AreWritten trees
  trees_written shapes forms s [] Nil h = tt
  trees_written shapes forms s [] (And tree trees) h = absurd h
  trees_written shapes forms s (raw ∷ raws) Nil h = absurd h
  trees_written shapes forms s (raw ∷ raws) (And tree trees) h = (tree_written shapes forms s raw.form tree h.0, trees_written shapes forms s raws trees h.1)

-- ---- each form of sound tables stands for a tree

there : {X : Type 0} (xs : List X) (number : ℕ) → number < length xs → (item : X) × (slice_get xs number ≡ Some item)
there [] number h = absurd (omega arith)
there (x ∷ xs) zero h = (x, refl)
there (x ∷ xs) (suc number) h = let less : number < length xs = omega arith in there xs number less

-- a pattern, with trees for those before it
pattern_here : (shapes : List Shape) (forms : List Form) → IsSound shapes forms → (number : ℕ) → ((other : ℕ) → other < number → (tree : PatternTree) × IsPattern shapes other tree)
    → (drawn : Shape) → slice_get shapes number ≡ Some drawn → (tree : PatternTree) × IsPattern shapes number tree
pattern_here shapes forms s number find (shape.Named name) e = (NameOf name, e)
pattern_here shapes forms s number find shape.Blank e = (NoName, e)
pattern_here shapes forms s number find (shape.Pair left right) e =
    let stands = s.all_shapes number (shape.Pair left right) e in
    let l = find left.shape stands.0 in
    let r = find right.shape stands.1 in
    (PairOf l.0 r.0, (left, right, e, l.1, r.1))

pattern_of : (shapes : List Shape) (forms : List Form) → IsSound shapes forms → (fuel number : ℕ) → number < length shapes → number < fuel → (tree : PatternTree) × IsPattern shapes number tree
pattern_of shapes forms s zero number h less = absurd (omega arith)
pattern_of shapes forms s (suc fuel) number h less =
    let t = there shapes number h in
    pattern_here shapes forms s number (λ other before. pattern_of shapes forms s fuel other (omega arith) (omega arith)) t.0 t.1

patterns_of_list : (shapes : List Shape) (forms : List Form) → IsSound shapes forms → (pats : List Pat) → PatsBelow (length shapes) pats → (trees : List PatternTree) × ArePatterns shapes pats trees
patterns_of_list shapes forms s [] h = ([], tt)
patterns_of_list shapes forms s (pat ∷ pats) h =
    let t = pattern_of shapes forms s (length shapes) pat.shape h.0 h.0 in
    let ts = patterns_of_list shapes forms s pats h.1 in
    (t.0 ∷ ts.0, (t.1, ts.1))

trees_of : (shapes : List Shape) (forms : List Form) (count : ℕ) → ((other : ℕ) → other < count → (tree : Tree) × IsTree shapes forms other tree)
    → (raws : List Raw) → AreBelow count raws → (trees : Trees) × AreTrees shapes forms raws trees
trees_of shapes forms count find [] h = (Nil, tt)
trees_of shapes forms count find (raw ∷ raws) h =
    let t = find raw.form h.0 in
    let ts = trees_of shapes forms count find raws h.1 in
    (And t.0 ts.0, (t.1, ts.1))

tree_below : (shapes : List Shape) (forms : List Form) → IsSound shapes forms → (fuel number : ℕ) → number < length forms → number < fuel → (tree : Tree) × IsTree shapes forms number tree
tree_below shapes forms s zero number h less = absurd (omega arith)
tree_below shapes forms s (suc fuel) number h less =
    let t = there forms number h in
    let stands = s.all_forms number t.0 t.1 in
    let ps = patterns_of_list shapes forms s (patterns_of t.0) stands.patterns in
    let ts = trees_of shapes forms number (λ other before. tree_below shapes forms s fuel other (omega arith) (omega arith)) (parts_of t.0) stands.parts in
    (At (bare t.0) ps.0 ts.0, (t.0, t.1, refl, ps.1, ts.1))

pub tree_of : (shapes : List Shape) (forms : List Form) → IsSound shapes forms → (number : ℕ) → number < length forms → (tree : Tree) × IsTree shapes forms number tree
tree_of shapes forms s number h = tree_below shapes forms s (length forms) number h h

-- ---- one tree at most

pattern_same : (shapes : List Shape) (number : ℕ) (t u : PatternTree) → IsPattern shapes number t → IsPattern shapes number u → t ≡ u
pattern_same shapes number (NameOf a) (NameOf b) x y = let e : Some (shape.Named a) ≡ Some (shape.Named b) = sym x ∙ y in cc
pattern_same shapes number (NameOf a) NoName x y = absurd (cc)
pattern_same shapes number (NameOf a) (PairOf l r) x y = let z = y.2 in absurd (cc)
pattern_same shapes number NoName (NameOf b) x y = absurd (cc)
pattern_same shapes number NoName NoName x y = refl
pattern_same shapes number NoName (PairOf l r) x y = let z = y.2 in absurd (cc)
pattern_same shapes number (PairOf l r) (NameOf b) x y = let z = x.2 in absurd (cc)
pattern_same shapes number (PairOf l r) NoName x y = let z = x.2 in absurd (cc)
pattern_same shapes number (PairOf l r) (PairOf l' r') x y =
    let e : Some (shape.Pair x.0 x.1) ≡ Some (shape.Pair y.0 y.1) = sym x.2 ∙ y.2 in
    let el : x.0 ≡ y.0 = cc in
    let er : x.1 ≡ y.1 = cc in
    let one : l ≡ l' = pattern_same shapes x.0.shape l l' x.3 (subst (λ (p : Pat). IsPattern shapes p.shape l') (sym el) y.3) in
    let two : r ≡ r' = pattern_same shapes x.1.shape r r' x.4 (subst (λ (p : Pat). IsPattern shapes p.shape r') (sym er) y.4) in
    cc

patterns_same : (shapes : List Shape) (pats : List Pat) (ts us : List PatternTree) → ArePatterns shapes pats ts → ArePatterns shapes pats us → ts ≡ us
patterns_same shapes [] [] [] x y = refl
patterns_same shapes [] [] (u ∷ us) x y = absurd y
patterns_same shapes [] (t ∷ ts) us x y = absurd x
patterns_same shapes (pat ∷ pats) [] us x y = absurd x
patterns_same shapes (pat ∷ pats) (t ∷ ts) [] x y = absurd y
patterns_same shapes (pat ∷ pats) (t ∷ ts) (u ∷ us) x y =
    let one : t ≡ u = pattern_same shapes pat.shape t u x.0 y.0 in
    let two : ts ≡ us = patterns_same shapes pats ts us x.1 y.1 in
    cc

mutual
  pub tree_same : (shapes : List Shape) (forms : List Form) (number : ℕ) (t u : Tree) → IsTree shapes forms number t → IsTree shapes forms number u → t ≡ u
  tree_same shapes forms number (At h ps ts) (At k qs us) x y =
      let w : x.0 ≡ y.0 = same_some x.0 y.0 (sym x.1 ∙ y.1) in
      let head : h ≡ k = sym x.2 ∙ ap bare w ∙ y.2 in
      let pats : ps ≡ qs = patterns_same shapes (patterns_of x.0) ps qs x.3 (subst (λ (f : Form). ArePatterns shapes (patterns_of f) qs) (sym w) y.3) in
      let parts : ts ≡ us = trees_same shapes forms (parts_of x.0) ts us x.4 (subst (λ (f : Form). AreTrees shapes forms (parts_of f) us) (sym w) y.4) in
      cc

  pub trees_same : (shapes : List Shape) (forms : List Form) (raws : List Raw) (ts us : Trees) → AreTrees shapes forms raws ts → AreTrees shapes forms raws us → ts ≡ us
  trees_same shapes forms [] Nil Nil x y = refl
  trees_same shapes forms [] Nil (And u us) x y = absurd y
  trees_same shapes forms [] (And t ts) us x y = absurd x
  trees_same shapes forms (raw ∷ raws) Nil us x y = absurd x
  trees_same shapes forms (raw ∷ raws) (And t ts) Nil x y = absurd y
  trees_same shapes forms (raw ∷ raws) (And t ts) (And u us) x y =
      let one : t ≡ u = tree_same shapes forms raw.form t u x.0 y.0 in
      let two : ts ≡ us = trees_same shapes forms raws ts us x.1 y.1 in
      cc
