-- The structural rules keep judgments good.
use Rattle.std.proofs.Common.{◌≡◌, ℕ, zero, suc, List, [], ◌∷◌, ◌++◌, Some, inl, inr, refl, sym, ap, ◌∙◌, subst, arith}
use Rattle.std.specs.Prelude.{slice_get}
use Rattle.std.specs.Cmp.{first_so, second_so}
use Rattle.rz_rules.specs.declared.kinds.Space.TheVariants.{Points, Terms}
use Rattle.rz_rules.specs.declared.rows.Scheme.{Scheme}
use Rattle.rz_rules.specs.declared.rows.Scheme.TheVariants as scheme
use Rattle.rz_rules.specs.Tree.{Tree, kind_at}
use Rattle.rz_rules.specs.Substitution.{none, only, raising, weakened}
use Rattle.rz_rules.specs.Context.{Entry, OfCube, OfTope, OfType, with_entry, with_entries, bound_by, depth_of, changed_entries}
use Rattle.rz_rules.specs.Judgment.{Statement}
use Rattle.rz_rules.specs.Structural.{formed, holds, has, same, term_variable, universe, IsHypothesis, IsVariable, Move, weakening, term_cut, cube_cut, tope_cut, IsMoved, IsTyped, IsInversion, IsOwnType, SameAsOwn, ConcludesBy}
use Rattle.rz_rules.proofs.Substitution.{weakened-weakened}
use Rattle.rz_metatheory.specs.Place.{is_true, place_of, allows_in}
use Rattle.rz_metatheory.specs.Scope.{binders_in}
use Rattle.rz_metatheory.specs.Good.{IsGood, IsGoodContext, IsGoodStatement}
use Rattle.rz_metatheory.proofs.Keeping.{EachGood, IsFirstGood, IsLastGood}
use Rattle.rz_metatheory.proofs.Places.{both_so, Carries, carried, carried_allowed, moved_tope}
use Rattle.rz_metatheory.proofs.Moves.{raising_only, past_cube, past_term, past_tope, raised_good, stays_good, put_point, put_term}
use Rattle.rz_metatheory.proofs.Uniform.{raising_uniform, putting_uniform}
use Rattle.rz_metatheory.proofs.Entries.{context_cubes, outer_good, moved_statement, stands_behind, past_entries}
use Rattle.rz_metatheory.proofs.rows.Table.{rows_return}

-- what stands in a list of good judgments
pub each_at : (list : List Statement) (place : ℕ) (says : Statement) → EachGood list → slice_get list place ≡ Some says → IsGoodStatement says
each_at [] place says all e = absurd cc
each_at (first ∷ rest) zero says all e = let same : first ≡ says = cc in subst IsGoodStatement same all.0
each_at (first ∷ rest) (suc place) says all e = each_at rest place says all.1 e

pub each_append : (list more : List Statement) → EachGood list → EachGood more → EachGood (list ++ more)
each_append [] more all others = others
each_append (first ∷ rest) more all others = (all.0, each_append rest more all.1 others)

each_front : (list more : List Statement) → EachGood (list ++ more) → EachGood list
each_front [] more all = tt
each_front (first ∷ rest) more all = (all.0, each_front rest more all.1)

each_back : (list more : List Statement) → EachGood (list ++ more) → EachGood more
each_back [] more all = all
each_back (first ∷ rest) more all = each_back rest more all.1

-- ---- what a context gives

hypothesis : (number : ℕ) (premises : List Statement) (conclusion : Statement) → IsHypothesis number premises conclusion → EachGood premises → IsGoodStatement conclusion
hypothesis number premises conclusion is all =
    let entry = with_entry is.outer (OfTope is.tope) in
    let formed_there = subst EachGood is.premises_are all in
    let context : IsGoodContext (with_entries entry is.inner) = subst IsGoodContext is.context formed_there.0.0 in
    let old = place_of entry in
    let new = place_of (with_entries entry is.inner) in
    let f = raising none (depth_of is.inner) in
    let c = past_entries entry is.inner context in
    let entry_good = outer_good entry is.inner context in
    let move = moved_tope f none old.scope new.scope c.points c.from_cubes is.tope entry_good.1 in
    let good : IsGoodStatement (holds (with_entries entry is.inner) (weakened (depth_of is.inner) is.tope)) = (
      context,
      (
        move.over,
        λ v allowed.
            let back = (carried_allowed f none old new c v allowed).allowed in
            let w = carried f none new.scope v in
            move.truth v ∙ second_so (allows_in is.outer w) (is_true (binders_in old.scope) w is.tope) back,
      ),
    ) in
    subst IsGoodStatement (sym is.says) (subst (λ c. IsGoodStatement (holds c (weakened (depth_of is.inner) is.tope))) (sym is.context) good)

-- a variable and its type are good
variable_good : (context term type : Tree) → IsVariable context term type → IsGoodContext context → IsGood (place_of context) term × IsGood (place_of context) type
variable_good context term type is good =
    let entry = with_entry is.outer (OfType is.stated) in
    let whole = with_entries entry is.inner in
    let there : IsGoodContext whole = subst IsGoodContext is.context_is good in
    let entry_good = outer_good entry is.inner there in
    let stated = (stays_good is.stated).under_term (place_of is.outer) (context_cubes is.outer entry_good.0) entry_good.1 in
    let deep = raised_good (depth_of is.inner) none (place_of entry) (place_of whole) (past_entries entry is.inner there) (weakened (only Terms 1) is.stated) stated in
    let same : weakened (depth_of is.inner) (weakened (only Terms 1) is.stated) ≡ type = weakened-weakened (depth_of is.inner) (only Terms 1) is.stated ∙ sym is.type_is in
    let behind = stands_behind entry is.inner in
    let variable : IsGood (place_of whole) (term_variable (depth_of is.inner Terms)) = (omega (arith, behind.terms), tt, tt) in
    subst (λ c. IsGood (place_of c) term × IsGood (place_of c) type) (sym is.context_is)
    (subst (IsGood (place_of whole)) (sym is.term_is) variable, subst (IsGood (place_of whole)) same deep)

-- ---- how judgments move

module _ (move : Move) (number : ℕ) (premises : List Statement) (conclusion : Statement) (is : IsMoved move number premises conclusion) (all : EachGood premises) where
  premise_good : IsGoodStatement is.premise
  premise_good = (subst EachGood is.premises_are all).0

  allowed_good : IsGoodStatement move.allowed
  allowed_good = (subst EachGood is.premises_are all).1.0

  before_good : IsGoodContext (with_entries move.before is.inner)
  before_good = subst IsGoodContext is.before premise_good.0

raising_moves : (outer : Tree) (entry : Entry) → IsGoodContext outer → IsGoodContext (with_entry outer entry)
    → Carries (raising none (bound_by entry)) none (place_of outer) (place_of (with_entry outer entry))
raising_moves outer (OfCube cube) good whole =
    past_cube (place_of outer) (place_of (with_entry outer (OfCube cube))) cube (context_cubes outer good) whole.1.tree refl (λ v allowed. allowed.allowed)
raising_moves outer (OfTope tope) good whole =
    past_tope (place_of outer) (place_of (with_entry outer (OfTope tope))) (context_cubes outer good) refl
    (λ v allowed. first_so (allows_in outer v) (is_true (binders_in (place_of outer).scope) v tope) allowed.allowed)
raising_moves outer (OfType type) good whole = past_term (place_of outer) (context_cubes outer good)

weakens : (number : ℕ) (premises : List Statement) (conclusion : Statement) (outer : Tree) (entry : Entry)
    → IsMoved (weakening outer entry conclusion.context) number premises conclusion → EachGood premises → IsGoodStatement conclusion
weakens number premises conclusion outer entry is all =
    let move = weakening outer entry conclusion.context in
    let new : IsGoodContext conclusion.context = (allowed_good move number premises conclusion is all).0 in
    let shape : conclusion.context ≡ with_entries (with_entry outer entry) (changed_entries move.changes is.inner) = ap (λ (s : Statement). s.context) is.says in
    let after = outer_good (with_entry outer entry) (changed_entries move.changes is.inner) (subst IsGoodContext shape new) in
    let before = outer_good outer is.inner (before_good move number premises conclusion is all) in
    subst IsGoodStatement (sym is.says)
    (moved_statement move.changes (raising_uniform none (bound_by entry)) (raising_only none (bound_by entry)) outer (with_entry outer entry)
    (raising_moves outer entry before after) after is.inner is.premise is.before (premise_good move number premises conclusion is all))

cuts_term : (number : ℕ) (premises : List Statement) (conclusion : Statement) (outer type value : Tree)
    → IsMoved (term_cut outer type value) number premises conclusion → EachGood premises → IsGoodStatement conclusion
cuts_term number premises conclusion outer type value is all =
    let move = term_cut outer type value in
    let allowed = allowed_good move number premises conclusion is all in
    subst IsGoodStatement (sym is.says)
    (moved_statement move.changes (putting_uniform Terms none value) (λ depth index t e. stays_good t) (with_entry outer (OfType type)) outer
    (put_term (place_of outer) value (context_cubes outer allowed.0) allowed.1.0) allowed.0 is.inner is.premise is.before (premise_good move number premises conclusion is all))

cuts_cube : (number : ℕ) (premises : List Statement) (conclusion : Statement) (outer cube point : Tree)
    → IsMoved (cube_cut outer cube point) number premises conclusion → EachGood premises → IsGoodStatement conclusion
cuts_cube number premises conclusion outer cube point is all =
    let move = cube_cut outer cube point in
    let allowed = allowed_good move number premises conclusion is all in
    let entry = outer_good (with_entry outer (OfCube cube)) is.inner (before_good move number premises conclusion is all) in
    subst IsGoodStatement (sym is.says)
    (moved_statement move.changes (putting_uniform Points none point) (λ depth index t e. stays_good t) (with_entry outer (OfCube cube)) outer
    (put_point (place_of outer) (place_of (with_entry outer (OfCube cube))) cube point (context_cubes outer allowed.0) entry.1.tree refl allowed.1.0.0 (λ v so. so.allowed))
    allowed.0 is.inner is.premise is.before (premise_good move number premises conclusion is all))

cuts_tope : (number : ℕ) (premises : List Statement) (conclusion : Statement) (outer tope : Tree)
    → IsMoved (tope_cut outer tope) number premises conclusion → EachGood premises → IsGoodStatement conclusion
cuts_tope number premises conclusion outer tope is all =
    let move = tope_cut outer tope in
    let allowed = allowed_good move number premises conclusion is all in
    subst IsGoodStatement (sym is.says)
    (moved_statement move.changes (raising_uniform none none) (raising_only none none) (with_entry outer (OfTope tope)) outer
    (past_tope (place_of (with_entry outer (OfTope tope))) (place_of outer) (context_cubes outer allowed.0) refl
    (λ v so. both_so (allows_in outer v) (is_true (binders_in (place_of outer).scope) v tope) so.allowed (allowed.1.1 v so)))
    allowed.0 is.inner is.premise is.before (premise_good move number premises conclusion is all))

-- ---- what a term's former tells

last_good : (above : List Statement) (says : Statement) → IsGoodContext says.context × IsFirstGood says.context says.parts → IsLastGood (above ++ says ∷ [])
last_good [] says good = good
last_good (first ∷ []) says good = good
last_good (first ∷ second ∷ above) says good = last_good (second ∷ above) says good

typed_good : (context term type : Tree) (above : List Statement) → IsTyped context term type above → IsGoodContext context → IsGood (place_of context) term
    → EachGood (above ++ has context term type ∷ [])
typed_good context term type above typed good term_good =
    subst EachGood typed.instance.spells
    (rows_return (kind_at term) typed.row typed.former typed.assignment
    (subst IsLastGood (sym typed.instance.spells) (last_good above (has context term type) (good, term_good))))

inverts : (number : ℕ) (premises : List Statement) (conclusion : Statement) → IsInversion number premises conclusion → EachGood premises → IsGoodStatement conclusion
inverts number premises conclusion is all =
    let premise = (subst EachGood is.premises_are all).0 in
    let each = typed_good is.context is.term is.type is.above is.typed premise.0 premise.1.0 in
    each_at is.above number conclusion (each_front is.above (has is.context is.term is.type ∷ []) each) is.says

own_good : (context term type : Tree) → IsOwnType context term type → IsGoodContext context → IsGood (place_of context) term → IsGood (place_of context) type
own_good context term type (inl typed) good term_good =
    (each_back typed.0 (has context term type ∷ []) (typed_good context term type typed.0 typed.1 good term_good)).0.1.1
own_good context term type (inr variable) good term_good = (variable_good context term type variable good).1

owns : (premises : List Statement) (conclusion : Statement) → SameAsOwn premises conclusion → EachGood premises → IsGoodStatement conclusion
owns premises conclusion is all =
    let premise = (subst EachGood is.premises_are all).0 in
    let good : IsGoodStatement (same is.context is.stated is.type universe) =
    (premise.0, (premise.1.1, own_good is.context is.term is.type is.own premise.0 premise.1.0, (refl, tt, tt))) in
    subst IsGoodStatement (sym is.says) good

-- ---- the schemes

pub schemes_keep : (scheme : Scheme) (number : ℕ) (premises : List Statement) (conclusion : Statement)
    → ConcludesBy scheme number premises conclusion → EachGood premises → IsGoodStatement conclusion
schemes_keep scheme.Text number premises conclusion is all = absurd is
schemes_keep scheme.Hypothesis number premises conclusion is all = hypothesis number premises conclusion is all
schemes_keep scheme.Variable number premises conclusion is all =
    let variable = is.1 in
    let context : IsGoodContext conclusion.context = (subst EachGood variable.3 all).0.0 in
    let good : IsGoodStatement (has conclusion.context variable.0 variable.1) = (context, variable_good conclusion.context variable.0 variable.1 variable.2 context) in
    subst IsGoodStatement (sym variable.4) good
schemes_keep scheme.Weakening number premises conclusion is all = weakens number premises conclusion is.0 is.1 is.2 all
schemes_keep scheme.TermCut number premises conclusion is all = cuts_term number premises conclusion is.0 is.1 is.2 is.3 all
schemes_keep scheme.CubeCut number premises conclusion is all = cuts_cube number premises conclusion is.0 is.1 is.2 is.3 all
schemes_keep scheme.TopeCut number premises conclusion is all = cuts_tope number premises conclusion is.0 is.1 is.2 all
schemes_keep scheme.ContextOf number premises conclusion is all =
    let of = is.1 in
    let premise = (subst EachGood of.1 all).0 in
    let good : IsGoodStatement (formed of.0.context) = (premise.0, tt) in
    subst IsGoodStatement (sym of.2) good
schemes_keep scheme.Inversion number premises conclusion is all = inverts number premises conclusion is all
schemes_keep scheme.OwnType number premises conclusion is all = owns premises conclusion is.1 all
