-- Variables that a change doesn't reach stay as they are, and those further out than the first that it reaches
-- change alike. These are lemmas with their proofs, by which the two changes meet the laws of their trait; no
-- contract speaks in them.
use Rattle.std.proofs.Common.{◌≡◌, ℕ, ◌+◌, ◌-◌, ◌<◌, ◌≤◌, ◌==◌, nat_lt, ◌⊎◌, inl, inr, Bool, true, false, None, Some, IfSome, if◌then◌else◌, refl, sym, ap, ◌∙◌, arith}
use Rattle.std.specs.Cmp.{unsigned_Decides}
use Rattle.std.proofs.lemmas.Bool.Decides.{nat_tests}
use Rattle.rz_rules.specs.declared.kinds.Space.{Space}
use Rattle.rz_rules.specs.declared.kinds.Space.TheVariants.{Points, Terms}
use Rattle.rz_rules.specs.Tree.{Tree}
use Rattle.rz_rules.specs.Substitution.{Depth, total, Renumbered, raising, shift, weakened, putting, NoneFrom}
use Rattle.rz_rules.proofs.Substitution.{weakened-shift, shift-shift_other, shift-none_from}
use Rattle.rz_rules.proofs.SubstitutionVariables.{raised, raised_by_none, raised_below, put_change, put_below}
use Rattle.rz_pool.specs.declared.counts.Counts.{Counts}
use Rattle.rz_pool.specs.Counts.{depth_of}
use Rattle.rz_pool.specs.Free.{free_bound}
use Rattle.rz_pool.proofs.FreeBounds.{NoneFrom-free_bound}
use Rattle.rz_subst.specs.Walk.{reach_of, IsWithin, IsSteady, MovesOnlyWith, raised_from, raising_reach, putting_reach}

stays_below : (from more depth number : ℕ) → IfSome (raised_from from more) (λ start. number < start + depth) → raised (from + depth) more number ≡ number
stays_below from more depth number low = at (more == 0) refl low
  where
    at : (b : Bool) → (more == 0) ≡ b → IfSome (if b then None else Some from) (λ start. number < start + depth) → raised (from + depth) more number ≡ number
    at true e low = ap (λ by. raised (from + depth) by number) ((unsigned_Decides more 0).0 e) ∙ raised_by_none (from + depth) number
    at false e low = raised_below (from + depth) more number low

pub IsWithin-raising : (from by : Counts) → IsWithin (reach_of (raising_reach from by)) (raising (depth_of from) (depth_of by))
IsWithin-raising from by Points depth number low = ap Renumbered (stays_below from.points by.points (depth Points) number low)
IsWithin-raising from by Terms depth number low = ap Renumbered (stays_below from.terms by.terms (depth Terms) number low)

pub IsWithin-putting : (space : Space) (at : Counts) (value : Tree)
    → IsWithin (reach_of (putting_reach space at value)) (putting space (depth_of at) value)
IsWithin-putting Points at value Points depth number low =
    put_below (at.points + depth Points) (weakened (total (depth_of at) depth) value) number low
IsWithin-putting Points at value Terms depth number low = refl
IsWithin-putting Terms at value Points depth number low = refl
IsWithin-putting Terms at value Terms depth number low =
    put_below (at.terms + depth Terms) (weakened (total (depth_of at) depth) value) number low

-- a number from the place on rises, wherever the place is
raised_above : (place by number : ℕ) → place < number → raised place by number ≡ number + by
raised_above place by number h = grind (arith, nat_tests)

rises : (from more depth other number : ℕ) → IfSome (raised_from from more) (λ start. (start + depth < number) × (start + other < number))
    → raised (from + depth) more number ≡ raised (from + other) more number
rises from more depth other number far = at (more == 0) refl far
  where
    at : (b : Bool) → (more == 0) ≡ b
        → IfSome (if b then None else Some from) (λ start. (start + depth < number) × (start + other < number))
        → raised (from + depth) more number ≡ raised (from + other) more number
    at true e far =
        let none = (unsigned_Decides more 0).0 e in
        ap (λ by. raised (from + depth) by number) none ∙ (raised_by_none (from + depth) number
        ∙ sym (ap (λ by. raised (from + other) by number) none ∙ raised_by_none (from + other) number))
    at false e far = raised_above (from + depth) more number far.0 ∙ sym (raised_above (from + other) more number far.1)

pub IsSteady-raising : (from by : Counts) → IsSteady (reach_of (raising_reach from by)) (raising (depth_of from) (depth_of by))
IsSteady-raising from by Points depth other number far =
    ap Renumbered (rises from.points by.points (depth Points) (other Points) number far)
IsSteady-raising from by Terms depth other number far =
    ap Renumbered (rises from.terms by.terms (depth Terms) (other Terms) number far)

-- a number behind the place loses one, wherever the place is
pub put_above : (place : ℕ) (value : Tree) (number : ℕ) → place < number → put_change place value number ≡ Renumbered (number - 1)
put_above place value number h = grind (arith, nat_tests)

pub IsSteady-putting : (space : Space) (at : Counts) (value : Tree)
    → IsSteady (reach_of (putting_reach space at value)) (putting space (depth_of at) value)
IsSteady-putting Points at value Points depth other number far =
    put_above (at.points + depth Points) (weakened (total (depth_of at) depth) value) number far.0
    ∙ sym (put_above (at.points + other Points) (weakened (total (depth_of at) other) value) number far.1)
IsSteady-putting Points at value Terms depth other number far = refl
IsSteady-putting Terms at value Points depth other number far = refl
IsSteady-putting Terms at value Terms depth other number far =
    put_above (at.terms + depth Terms) (weakened (total (depth_of at) depth) value) number far.0
    ∙ sym (put_above (at.terms + other Terms) (weakened (total (depth_of at) other) value) number far.1)

pub MovesOnlyWith-raising : (from by : Counts) → MovesOnlyWith (reach_of (raising_reach from by)) (raising (depth_of from) (depth_of by))
MovesOnlyWith-raising from by space depth other number here moved =
    ap (λ count. Renumbered (raised (depth_of from space + count) (depth_of by space) number)) here

-- what a value becomes further in depends on the spaces of which it has free variables
weakened_alike : (a b : Depth) (value : Tree) → (a Points ≡ b Points) ⊎ NoneFrom Points 0 value
    → (a Terms ≡ b Terms) ⊎ NoneFrom Terms 0 value → weakened a value ≡ weakened b value
weakened_alike a b value in_points in_terms =
    weakened-shift a value ∙ (points in_points ∙ (ap (shift Points 0 (b Points)) (terms in_terms) ∙ sym (weakened-shift b value)))
  where
    terms : (a Terms ≡ b Terms) ⊎ NoneFrom Terms 0 value → shift Terms 0 (a Terms) value ≡ shift Terms 0 (b Terms) value
    terms (inl same) = ap (λ by. shift Terms 0 by value) same
    terms (inr closed) = shift-none_from Terms 0 (a Terms) value closed ∙ sym (shift-none_from Terms 0 (b Terms) value closed)

    past : (by : ℕ) → NoneFrom Points 0 value → shift Points 0 by (shift Terms 0 (a Terms) value) ≡ shift Terms 0 (a Terms) value
    past by closed =
        shift-shift_other Points Terms 0 by 0 (a Terms) value refl
        ∙ ap (shift Terms 0 (a Terms)) (shift-none_from Points 0 by value closed)

    points : (a Points ≡ b Points) ⊎ NoneFrom Points 0 value
        → shift Points 0 (a Points) (shift Terms 0 (a Terms) value) ≡ shift Points 0 (b Points) (shift Terms 0 (a Terms) value)
    points (inl same) = ap (λ by. shift Points 0 by (shift Terms 0 (a Terms) value)) same
    points (inr closed) = past (a Points) closed ∙ sym (past (b Points) closed)

closed_where : (space : Space) (value : Tree) → nat_lt 0 (free_bound space value) ≡ false → NoneFrom space 0 value
closed_where space value e = (NoneFrom-free_bound space value 0).1 (at (free_bound space value) e)
  where
    at : (bound : ℕ) → nat_lt 0 bound ≡ false → bound ≤ 0
    at bound e = grind (arith, nat_tests)

pub MovesOnlyWith-putting : (space : Space) (at : Counts) (value : Tree)
    → MovesOnlyWith (reach_of (putting_reach space at value)) (putting space (depth_of at) value)
MovesOnlyWith-putting space at value x depth other number here moved = by space x (moved Points) (moved Terms) here
  where
    still : (s : Space) → (depth s ≡ other s) ⊎ (nat_lt 0 (free_bound s value) ≡ false)
        → (total (depth_of at) depth s ≡ total (depth_of at) other s) ⊎ NoneFrom s 0 value
    still s (inl same) = inl (ap (λ count. depth_of at s + count) same)
    still s (inr none) = inr (closed_where s value none)

    same_value : (depth Points ≡ other Points) ⊎ (nat_lt 0 (free_bound Points value) ≡ false)
        → (depth Terms ≡ other Terms) ⊎ (nat_lt 0 (free_bound Terms value) ≡ false)
        → weakened (total (depth_of at) depth) value ≡ weakened (total (depth_of at) other) value
    same_value p t = weakened_alike (total (depth_of at) depth) (total (depth_of at) other) value (still Points p) (still Terms t)

    by : (space x : Space) → (depth Points ≡ other Points) ⊎ ((reach_of (putting_reach space at value) Points).moves ≡ false)
        → (depth Terms ≡ other Terms) ⊎ ((reach_of (putting_reach space at value) Terms).moves ≡ false) → depth x ≡ other x
        → putting space (depth_of at) value x depth number ≡ putting space (depth_of at) value x other number
    by Points Points p t here = λ i. put_change (at.points + here i) (same_value p t i) number
    by Points Terms p t here = refl
    by Terms Points p t here = refl
    by Terms Terms p t here = λ i. put_change (at.terms + here i) (same_value p t i) number
