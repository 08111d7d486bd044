-- What is read off a term is the term.
use Rattle.std.proofs.Common.{◌≡◌, ℕ, false, List, [], ◌∷◌, refl, sym, ap, ◌∙◌}
use Rattle.rz_rules.specs.declared.kinds.Sort.TheVariants.{Term}
use Rattle.rz_rules.specs.declared.kinds.Kind.{Kind}
use Rattle.rz_rules.specs.declared.kinds.Kind.TheVariants.{Pi, Lambda, Application, Sigma, Pair, First, Second, Identity, Reflexivity, IdentityInduction, UnitType, Extension, ExtensionLambda, ExtensionApplication}
use Rattle.rz_rules.specs.Form.{form, is_numbered, is_named}
use Rattle.rz_rules.specs.Tree.{Tree, Trees, At, Nil, And, IsLabelled, IsTree}
use Rattle.rz_reduction.specs.Views.{Eliminator, Applied, FirstOf, SecondOf, Induced, AppliedAt, whole, introduction, introduced, former, formed_by, spine_within, spine}

-- a node of a kind that has neither number nor name
unlabelled : (kind : Kind) (number : ℕ) (name : List ℕ) (kids : Trees) → is_numbered (form kind).role ≡ false → is_named (form kind).role ≡ false
    → IsLabelled kind number name → At kind 0 [] kids ≡ At kind number name kids
unlabelled kind number name kids numbered named label = λ i. At kind (sym (label.unnumbered numbered) i) (sym (label.unnamed named) i) kids

-- eliminators around a term, and the term's own
pub whole_within : (t : Tree) (outer : List Eliminator) → IsTree Term t → whole (spine_within t outer).head (spine_within t outer).eliminators ≡ whole t outer
whole_within (At Application number name (And A (And B (And f (And a Nil))))) outer is =
    let kids = And A (And B (And f (And a Nil))) in
    whole_within f (Applied A B a ∷ outer) is.2.1.1.0 ∙ ap (λ t. whole t outer) (unlabelled Application number name kids refl refl is.1)
whole_within (At First number name (And A (And B (And p Nil)))) outer is =
    let kids = And A (And B (And p Nil)) in
    whole_within p (FirstOf A B ∷ outer) is.2.1.1.0 ∙ ap (λ t. whole t outer) (unlabelled First number name kids refl refl is.1)
whole_within (At Second number name (And A (And B (And p Nil)))) outer is =
    let kids = And A (And B (And p Nil)) in
    whole_within p (SecondOf A B ∷ outer) is.2.1.1.0 ∙ ap (λ t. whole t outer) (unlabelled Second number name kids refl refl is.1)
whole_within (At IdentityInduction number name (And A (And a (And M (And d (And b (And p Nil))))))) outer is =
    let kids = And A (And a (And M (And d (And b (And p Nil))))) in
    whole_within p (Induced A a M d b ∷ outer) is.2.1.1.1.1.1.0 ∙ ap (λ t. whole t outer) (unlabelled IdentityInduction number name kids refl refl is.1)
whole_within (At ExtensionApplication number name (And I (And psi (And A (And phi (And a (And f (And s Nil)))))))) outer is =
    let kids = And I (And psi (And A (And phi (And a (And f (And s Nil)))))) in
    whole_within f (AppliedAt I psi A phi a s ∷ outer) is.2.1.1.1.1.1.0 ∙ ap (λ t. whole t outer) (unlabelled ExtensionApplication number name kids refl refl is.1)
whole_within other outer is = refl

pub spine_is : (t : Tree) → IsTree Term t → whole (spine t).head (spine t).eliminators ≡ t
spine_is t is = whole_within t [] is

pub introduction_is : (t : Tree) → IsTree Term t → introduced t (introduction t) ≡ t
introduction_is (At Lambda number name (And A (And B (And body Nil)))) is = unlabelled Lambda number name (And A (And B (And body Nil))) refl refl is.1
introduction_is (At Pair number name (And A (And B (And x (And y Nil))))) is = unlabelled Pair number name (And A (And B (And x (And y Nil)))) refl refl is.1
introduction_is (At Reflexivity number name (And A (And x Nil))) is = unlabelled Reflexivity number name (And A (And x Nil)) refl refl is.1
introduction_is (At ExtensionLambda number name (And I (And psi (And A (And phi (And a (And body Nil))))))) is =
    unlabelled ExtensionLambda number name (And I (And psi (And A (And phi (And a (And body Nil)))))) refl refl is.1
introduction_is other is = refl

pub former_is : (t : Tree) → IsTree Term t → formed_by t (former t) ≡ t
former_is (At Pi number name (And A (And B Nil))) is = unlabelled Pi number name (And A (And B Nil)) refl refl is.1
former_is (At Sigma number name (And A (And B Nil))) is = unlabelled Sigma number name (And A (And B Nil)) refl refl is.1
former_is (At Identity number name (And A (And a (And b Nil)))) is = unlabelled Identity number name (And A (And a (And b Nil))) refl refl is.1
former_is (At Reflexivity number name (And A (And a Nil))) is = unlabelled Reflexivity number name (And A (And a Nil)) refl refl is.1
former_is (At Extension number name (And I (And psi (And A (And phi (And a Nil)))))) is =
    unlabelled Extension number name (And I (And psi (And A (And phi (And a Nil))))) refl refl is.1
former_is (At UnitType number name Nil) is = unlabelled UnitType number name Nil refl refl is.1
former_is other is = refl
