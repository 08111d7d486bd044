-- The laws of shifting and putting. They hold for all trees, well formed or not, and for all spaces.
-- Each stands on a fact about one variable, whose name ends in `_at`: what becomes of each variable tells what becomes of a tree.
use Rattle.std.proofs.Common.{◌≡◌, ℕ, ◌+◌, ◌<◌, ◌≤◌, false, IsTrue, List, refl, sym, ap, ◌∙◌, subst, arith}
use Rattle.rz_rules.specs.declared.kinds.Space.{Space}
use Rattle.rz_rules.specs.declared.kinds.Space.TheVariants.{Points, Terms}
use Rattle.rz_rules.specs.declared.kinds.Role.{Role}
use Rattle.rz_rules.specs.declared.kinds.Role.TheVariants.{Variable, Declared, Former}
use Rattle.rz_rules.specs.declared.kinds.Slot.{Slot}
use Rattle.rz_rules.specs.declared.kinds.Kind.{Kind}
use Rattle.rz_rules.specs.Form.{form, bound}
use Rattle.rz_rules.specs.Tree.{Tree, Trees, At, Nil, And}
use Rattle.rz_rules.specs.Substitution.{Depth, none, only, total, Renumbered, Replaced, Changes, changed_variable, changed_node, first_slot, other_slots, changed, changed_kids, raising, shift, weakened, same_space, putting, put, NoneFromHere, NoneFrom, NoneInKids}
use Rattle.rz_rules.proofs.SubstitutionRuns.{changed_alike, staying, changed_staying, deeper, changed_from, change_after, after, renumbered_then, runs_one, runs_alike, runs_nothing}
use Rattle.rz_rules.proofs.SubstitutionVariables.{raised, raised_by_none, raised_below, raised_within, raised_past, put_below, put-raised, put_within, put_then_same, put_then_above, put_then_below, put_then_put, Beside, same, apart, beside, same_here, only_here, only_apart, only-le, raising_here, raising_apart, putting_here, putting_apart}

shift-zero_at : (s : Space) (from : ℕ) (x : Space) → Beside s x → (depth : Depth) (number : ℕ)
    → raising (only s from) (only s 0) x depth number ≡ Renumbered number
shift-zero_at s from x same depth number = raising_here s from 0 depth number ∙ ap Renumbered (raised_by_none (from + depth s) number)
shift-zero_at s from x (apart e) depth number = raising_apart s x from 0 depth number e

-- A shift by nothing changes nothing.
pub shift-zero : (s : Space) (from : ℕ) (t : Tree) → shift s from 0 t ≡ t
shift-zero s from t =
    changed_alike (raising (only s from) (only s 0)) staying (λ x. shift-zero_at s from x (beside s x)) none t ∙ changed_staying none t

-- A tree that is read no further in stays as it is.
pub weakened-none : (t : Tree) → weakened none t ≡ t
weakened-none t =
    changed_alike (raising none none) staying (λ x depth number. ap Renumbered (raised_by_none (0 + depth x) number)) none t
    ∙ changed_staying none t

-- A tree that is read further in and then again is read further in by the total.
pub weakened-weakened : (a b : Depth) (t : Tree) → weakened a (weakened b t) ≡ weakened (total a b) t
weakened-weakened a b t =
    runs_one (raising none a) (raising none b) (raising none (total a b))
    (λ x depth number. ap Renumbered
    (raised_within (0 + depth x) (b x) (0 + depth x) (a x) (a x + b x) number (omega arith) (omega arith) (omega arith)))
    none t

weakened-shift_at : (by : Depth) (x : Space) (depth : Depth) (number : ℕ)
    → after (raising (only Points 0) (only Points (by Points))) (raising (only Terms 0) (only Terms (by Terms))) x depth number
    ≡ raising none by x depth number
weakened-shift_at by Points depth number =
    ap (λ m. Renumbered (raised (0 + depth Points) (by Points) m)) (raised_by_none (0 + depth Points) number)
weakened-shift_at by Terms depth number = ap Renumbered (raised_by_none (0 + depth Terms) (raised (0 + depth Terms) (by Terms) number))

-- To read a tree further in is to shift each space from its start.
pub weakened-shift : (by : Depth) (t : Tree) → weakened by t ≡ shift Points 0 (by Points) (shift Terms 0 (by Terms) t)
weakened-shift by t =
    sym (runs_one (raising (only Points 0) (only Points (by Points))) (raising (only Terms 0) (only Terms (by Terms))) (raising none by)
    (weakened-shift_at by) none t)

shift-shift_at : (s : Space) (from later by more : ℕ) → from ≤ later → (x : Space) → Beside s x → (depth : Depth) (number : ℕ)
    → after (raising (only s (later + by)) (only s more)) (raising (only s from) (only s by)) x depth number
    ≡ after (raising (only s from) (only s by)) (raising (only s later) (only s more)) x depth number
shift-shift_at s from later by more low x same depth number =
    let inner = raising (only s from) (only s by) in
    let m = raised (from + depth s) by number in
    let n = raised (later + depth s) more number in
    renumbered_then (raising (only s (later + by)) (only s more)) inner s depth number m _
    (raising_here s from by depth number) (raising_here s (later + by) more depth m)
    ∙ ap Renumbered (raised_past (from + depth s) by (later + depth s) (later + by + depth s) more number (omega arith) (omega arith))
    ∙ sym (renumbered_then inner (raising (only s later) (only s more)) s depth number n _
    (raising_here s later more depth number) (raising_here s from by depth n))
shift-shift_at s from later by more low x (apart e) depth number =
    let inner = raising (only s from) (only s by) in
    let stays : inner x depth number ≡ Renumbered number = raising_apart s x from by depth number e in
    renumbered_then (raising (only s (later + by)) (only s more)) inner x depth number number _
    stays (raising_apart s x (later + by) more depth number e)
    ∙ sym (renumbered_then inner (raising (only s later) (only s more)) x depth number number _
    (raising_apart s x later more depth number e) stays)

-- Of two shifts of one space the one that begins further out may as well come first: it then begins where it did before
-- the other opened its places.
pub shift-shift : (s : Space) (from later by more : ℕ) (t : Tree) → from ≤ later
    → shift s (later + by) more (shift s from by t) ≡ shift s from by (shift s later more t)
shift-shift s from later by more t low =
    runs_alike (raising (only s (later + by)) (only s more)) (raising (only s from) (only s by))
    (raising (only s from) (only s by)) (raising (only s later) (only s more))
    (λ x. shift-shift_at s from later by more low x (beside s x)) none t

passes : (s o : Space) (from by later more : ℕ) (x : Space) → same_space o x ≡ false → (depth : Depth) (number : ℕ)
    → after (raising (only s from) (only s by)) (raising (only o later) (only o more)) x depth number
    ≡ after (raising (only o later) (only o more)) (raising (only s from) (only s by)) x depth number
passes s o from by later more x e depth number =
    let m = raised (only s from x + depth x) (only s by x) number in
    renumbered_then (raising (only s from) (only s by)) (raising (only o later) (only o more)) x depth number number (Renumbered m)
    (raising_apart o x later more depth number e) refl
    ∙ sym (raising_apart o x later more depth m e)

shift-shift_other_at : (s o : Space) (from by later more : ℕ) → same_space s o ≡ false → (x : Space) → Beside o x → (depth : Depth) (number : ℕ)
    → after (raising (only s from) (only s by)) (raising (only o later) (only o more)) x depth number
    ≡ after (raising (only o later) (only o more)) (raising (only s from) (only s by)) x depth number
shift-shift_other_at s o from by later more other x same depth number = sym (passes o s later more from by o other depth number)
shift-shift_other_at s o from by later more other x (apart e) depth number = passes s o from by later more x e depth number

-- Shifts of two different spaces commute.
pub shift-shift_other : (s o : Space) (from by later more : ℕ) (t : Tree) → same_space s o ≡ false
    → shift s from by (shift o later more t) ≡ shift o later more (shift s from by t)
shift-shift_other s o from by later more t other =
    runs_alike (raising (only s from) (only s by)) (raising (only o later) (only o more))
    (raising (only o later) (only o more)) (raising (only s from) (only s by))
    (λ x. shift-shift_other_at s o from by later more other x (beside o x)) none t

put-shift_at : (s : Space) (at : Depth) (value : Tree) (x : Space) → Beside s x → (depth : Depth) (number : ℕ)
    → after (putting s at value) (raising (only s (at s)) (only s 1)) x depth number ≡ Renumbered number
put-shift_at s at value x same depth number =
    let m = raised (at s + depth s) 1 number in
    renumbered_then (putting s at value) (raising (only s (at s)) (only s 1)) s depth number m (Renumbered number)
    (raising_here s (at s) 1 depth number)
    (putting_here s at value depth m ∙ put-raised (at s + depth s) (weakened (total at depth) value) number)
put-shift_at s at value x (apart e) depth number =
    renumbered_then (putting s at value) (raising (only s (at s)) (only s 1)) x depth number number (Renumbered number)
    (raising_apart s x (at s) 1 depth number e) (putting_apart s x at value depth number e)

-- A put undoes the shift that opens its place, whatever the value.
pub put-shift : (s : Space) (at : Depth) (value t : Tree) → put s at value (shift s (at s) 1 t) ≡ t
put-shift s at value t =
    runs_nothing (putting s at value) (raising (only s (at s)) (only s 1)) (λ x. put-shift_at s at value x (beside s x)) none t

-- after a tree was read further in: a shift within what that opened adds to it,
within_weakened : (from by depth a b : Depth) (value : Tree)
    → ((x : Space) → from x + depth x ≤ a x) → ((x : Space) → b x ≡ a x + by x)
    → changed (raising from by) depth (weakened a value) ≡ weakened b value
within_weakened from by depth a b value low all =
    changed_from (raising from by) depth (weakened a value)
    ∙ runs_one (deeper (raising from by) depth) (raising none a) (raising none b)
    (λ x d number. ap Renumbered
    (raised_within (from x + (depth x + d x)) (a x) (0 + d x) (by x) (b x) number (omega arith) (omega (arith, low x)) (all x)))
    none value

-- and a shift beyond it may as well come first.
past_weakened_at : (o : Space) (at : Depth) (more by : ℕ) (depth : Depth) (x : Space) → Beside o x → (d : Depth) (number : ℕ)
    → after (deeper (raising (only o (at o + more)) (only o by)) depth) (raising none (total at depth)) x d number
    ≡ after (raising none (total at depth)) (raising (only o more) (only o by)) x d number
past_weakened_at o at more by depth x same d number =
    raising_here o (at o + more) by (total depth d) (raised (0 + d o) (at o + depth o) number)
    ∙ ap Renumbered
    (raised_past (0 + d o) (at o + depth o) (more + d o) (at o + more + (depth o + d o)) by number (omega arith) (omega arith))
    ∙ sym (ap (change_after (raising none (total at depth)) o d) (raising_here o more by d number))
past_weakened_at o at more by depth x (apart e) d number =
    raising_apart o x (at o + more) by (total depth d) (raised (0 + d x) (at x + depth x) number) e
    ∙ sym (ap (change_after (raising none (total at depth)) x d) (raising_apart o x more by d number e))

past_weakened : (o : Space) (at : Depth) (more by : ℕ) (depth : Depth) (value : Tree)
    → changed (raising (only o (at o + more)) (only o by)) depth (weakened (total at depth) value) ≡ weakened (total at depth) (shift o more by value)
past_weakened o at more by depth value =
    changed_from (raising (only o (at o + more)) (only o by)) depth (weakened (total at depth) value)
    ∙ runs_alike (deeper (raising (only o (at o + more)) (only o by)) depth) (raising none (total at depth))
    (raising none (total at depth)) (raising (only o more) (only o by))
    (λ x. past_weakened_at o at more by depth x (beside o x)) none value

-- a shift at a variable that is not of the space of the put
shift_over : (o s : Space) (from by : ℕ) (x : Space) → Beside o x → same_space s x ≡ false → (depth : Depth) (number : ℕ)
    → raising (only o from) (only o by) x depth number ≡ raising (only o (from + only s 1 o)) (only o by) x depth number
shift_over o s from by x same e depth number =
    let more : from ≡ from + only s 1 o = omega (arith, only_apart s o 1 e) in
    λ i. raising (only o (more i)) (only o by) o depth number
shift_over o s from by x (apart e) other depth number =
    raising_apart o x from by depth number e ∙ sym (raising_apart o x (from + only s 1 o) by depth number e)

shift-put_above_at : (o s : Space) (at : Depth) (more by : ℕ) (value : Tree) (x : Space) → Beside s x → Beside o x → (depth : Depth) (number : ℕ)
    → after (raising (only o (at o + more)) (only o by)) (putting s at value) x depth number
    ≡ after (putting s at (shift o more by value)) (raising (only o (at o + more + only s 1 o)) (only o by)) x depth number
shift-put_above_at o s at more by value x same same depth number =
    let next = change_after (raising (only s (at s + more)) (only s by)) s depth in
    let far = at s + more + only s 1 s in
    let new = shift s more by value in
    ap next (putting_here s at value depth number)
    ∙ put_then_above next (at s + depth s) (at s + more + depth s) (far + depth s) by
    (weakened (total at depth) value) (weakened (total at depth) new) number
    (λ m. raising_here s (at s + more) by depth m) (ap Replaced (past_weakened s at more by depth value))
    (omega arith) (omega (arith, only_here s 1))
    ∙ sym (renumbered_then (putting s at new) (raising (only s far) (only s by)) s depth number (raised (far + depth s) by number) _
    (raising_here s far by depth number) (putting_here s at new depth (raised (far + depth s) by number)))
shift-put_above_at o s at more by value x same (apart e) depth number =
    let next = change_after (raising (only o (at o + more)) (only o by)) s depth in
    let far = at o + more + only s 1 o in
    let new = shift o more by value in
    ap next (putting_here s at value depth number)
    ∙ put_then_same next (at s + depth s) (at s + depth s) (weakened (total at depth) value) (weakened (total at depth) new) number
    (λ m. raising_apart o s (at o + more) by depth m e) (ap Replaced (past_weakened o at more by depth value)) refl
    ∙ sym (renumbered_then (putting s at new) (raising (only o far) (only o by)) s depth number number _
    (raising_apart o s far by depth number e) (putting_here s at new depth number))
shift-put_above_at o s at more by value x (apart e) beside_o depth number =
    let outer = raising (only o (at o + more)) (only o by) in
    let far = at o + more + only s 1 o in
    let new = shift o more by value in
    let m = raised (only o far x + depth x) (only o by x) number in
    renumbered_then outer (putting s at value) x depth number number _ (putting_apart s x at value depth number e) refl
    ∙ shift_over o s (at o + more) by x beside_o e depth number
    ∙ sym (putting_apart s x at new depth m e)

-- A shift that begins outside of a put may as well come first. It then begins one place further out where the spaces are one,
-- since the place that the put fills is still there, and the value is shifted by itself, from where it stands.
pub shift-put_above : (o s : Space) (at : Depth) (more by : ℕ) (value t : Tree)
    → shift o (at o + more) by (put s at value t) ≡ put s at (shift o more by value) (shift o (at o + more + only s 1 o) by t)
shift-put_above o s at more by value t =
    runs_alike (raising (only o (at o + more)) (only o by)) (putting s at value)
    (putting s at (shift o more by value)) (raising (only o (at o + more + only s 1 o)) (only o by))
    (λ x. shift-put_above_at o s at more by value x (beside s x) (beside o x)) none t

-- what becomes of the value
below_value : (o : Space) (at : Depth) (from by : ℕ) → from ≤ at o → (depth : Depth) (value : Tree)
    → changed (raising (only o from) (only o by)) depth (weakened (total at depth) value) ≡ weakened (total (total at (only o by)) depth) value
below_value o at from by low depth value =
    within_weakened (only o from) (only o by) depth (total at depth) (total (total at (only o by)) depth) value
    (λ x. omega (arith, only-le o x (beside o x) from at low)) (λ x. omega arith)

shift-put_below_at : (o s : Space) (at : Depth) (from by : ℕ) (value : Tree) → from ≤ at o → (x : Space) → Beside s x → Beside o x
    → (depth : Depth) (number : ℕ)
    → after (raising (only o from) (only o by)) (putting s at value) x depth number
    ≡ after (putting s (total at (only o by)) value) (raising (only o from) (only o by)) x depth number
shift-put_below_at o s at from by value low x same same depth number =
    let outer = raising (only s from) (only s by) in
    let next = change_after outer s depth in
    let deep = total at (only s by) in
    let m = raised (from + depth s) by number in
    ap next (putting_here s at value depth number)
    ∙ put_then_below next (at s + depth s) (deep s + depth s) (from + depth s) by
    (weakened (total at depth) value) (weakened (total deep depth) value) number
    (λ k. raising_here s from by depth k) (ap Replaced (below_value s at from by low depth value))
    (omega arith) (omega (arith, only_here s by))
    ∙ sym (renumbered_then (putting s deep value) outer s depth number m _
    (raising_here s from by depth number) (putting_here s deep value depth m))
shift-put_below_at o s at from by value low x same (apart e) depth number =
    let outer = raising (only o from) (only o by) in
    let next = change_after outer s depth in
    let deep = total at (only o by) in
    ap next (putting_here s at value depth number)
    ∙ put_then_same next (at s + depth s) (deep s + depth s) (weakened (total at depth) value) (weakened (total deep depth) value) number
    (λ k. raising_apart o s from by depth k e) (ap Replaced (below_value o at from by low depth value))
    (omega (arith, only_apart o s by e))
    ∙ sym (renumbered_then (putting s deep value) outer s depth number number _
    (raising_apart o s from by depth number e) (putting_here s deep value depth number))
shift-put_below_at o s at from by value low x (apart e) beside_o depth number =
    let outer = raising (only o from) (only o by) in
    let m = raised (only o from x + depth x) (only o by x) number in
    renumbered_then outer (putting s at value) x depth number number _ (putting_apart s x at value depth number e) refl
    ∙ sym (putting_apart s x (total at (only o by)) value depth m e)

-- A shift that begins inside of a put may as well come first. The put is then behind so many more entries, and its value
-- stays as it is, since it stands where those entries begin.
pub shift-put_below : (o s : Space) (at : Depth) (from by : ℕ) (value t : Tree) → from ≤ at o
    → shift o from by (put s at value t) ≡ put s (total at (only o by)) value (shift o from by t)
shift-put_below o s at from by value t low =
    runs_alike (raising (only o from) (only o by)) (putting s at value)
    (putting s (total at (only o by)) value) (raising (only o from) (only o by))
    (λ x. shift-put_below_at o s at from by value low x (beside s x) (beside o x)) none t

-- after a tree was read further in: a put beyond what that opened may as well come first,
put_weakened_at : (o : Space) (at more : Depth) (outer : Tree) (depth : Depth) (x : Space) → Beside o x → (d : Depth) (number : ℕ)
    → after (deeper (putting o (total at more) outer) depth) (raising none (total at depth)) x d number
    ≡ after (raising none (total at depth)) (putting o more outer) x d number
put_weakened_at o at more outer depth x same d number =
    let next = change_after (raising none (total at depth)) o d in
    let deep = total (total at more) (total depth d) in
    putting_here o (total at more) outer (total depth d) (raised (0 + d o) (at o + depth o) number)
    ∙ sym (ap next (putting_here o more outer d number)
    ∙ put_then_below next (more o + d o) (deep o) (0 + d o) (at o + depth o) (weakened (total more d) outer) (weakened deep outer) number
    (λ m. refl) (ap Replaced (within_weakened none (total at depth) d (total more d) deep outer (λ y. omega arith) (λ y. omega arith)))
    (omega arith) (omega arith))
put_weakened_at o at more outer depth x (apart e) d number =
    putting_apart o x (total at more) outer (total depth d) (raised (0 + d x) (at x + depth x) number) e
    ∙ sym (ap (change_after (raising none (total at depth)) x d) (putting_apart o x more outer d number e))

put_weakened : (o : Space) (at more : Depth) (outer : Tree) (depth : Depth) (inner : Tree)
    → changed (putting o (total at more) outer) depth (weakened (total at depth) inner) ≡ weakened (total at depth) (put o more outer inner)
put_weakened o at more outer depth inner =
    changed_from (putting o (total at more) outer) depth (weakened (total at depth) inner)
    ∙ runs_alike (deeper (putting o (total at more) outer) depth) (raising none (total at depth))
    (raising none (total at depth)) (putting o more outer)
    (λ x. put_weakened_at o at more outer depth x (beside o x)) none inner

-- and a put within it finds nothing.
put_in_weakened_at : (s : Space) (at more : Depth) (inner : Tree) (depth : Depth) (x : Space) → Beside s x → (d : Depth) (number : ℕ)
    → after (deeper (putting s at inner) depth) (raising none (total (total (total at more) (only s 1)) depth)) x d number
    ≡ raising none (total (total at more) depth) x d number
put_in_weakened_at s at more inner depth x same d number =
    let opened = at s + more s + only s 1 s + depth s in
    putting_here s at inner (total depth d) (raised (0 + d s) opened number)
    ∙ put_within (at s + (depth s + d s)) (weakened (total at (total depth d)) inner) (0 + d s) opened (at s + more s + depth s) number
    (omega arith) (omega (arith, only_here s 1)) (omega (arith, only_here s 1))
put_in_weakened_at s at more inner depth x (apart e) d number =
    let fewer : at x + more x + only s 1 x + depth x ≡ at x + more x + depth x = omega (arith, only_apart s x 1 e) in
    putting_apart s x at inner (total depth d) (raised (0 + d x) (at x + more x + only s 1 x + depth x) number) e
    ∙ (λ i. Renumbered (raised (0 + d x) (fewer i) number))

put_in_weakened : (s : Space) (at more : Depth) (inner : Tree) (depth : Depth) (outer : Tree)
    → changed (putting s at inner) depth (weakened (total (total (total at more) (only s 1)) depth) outer) ≡ weakened (total (total at more) depth) outer
put_in_weakened s at more inner depth outer =
    changed_from (putting s at inner) depth (weakened (total (total (total at more) (only s 1)) depth) outer)
    ∙ runs_one (deeper (putting s at inner) depth) (raising none (total (total (total at more) (only s 1)) depth)) (raising none (total (total at more) depth))
    (λ x. put_in_weakened_at s at more inner depth x (beside s x)) none outer

put-put_at : (o s : Space) (at more : Depth) (outer inner : Tree) (x : Space) → Beside s x → Beside o x → (depth : Depth) (number : ℕ)
    → after (putting o (total at more) outer) (putting s at inner) x depth number
    ≡ after (putting s at (put o more outer inner)) (putting o (total (total at more) (only s 1)) outer) x depth number
put-put_at o s at more outer inner x same same depth number =
    let next = change_after (putting s (total at more) outer) s depth in
    let back = change_after (putting s at (put s more outer inner)) s depth in
    let far = total (total at more) (only s 1) in
    ap next (putting_here s at inner depth number)
    ∙ put_then_put next back (at s + depth s) (at s + more s + depth s) (far s + depth s)
    (weakened (total at depth) inner) (weakened (total at depth) (put s more outer inner))
    (weakened (total (total at more) depth) outer) (weakened (total far depth) outer) number
    (λ m. putting_here s (total at more) outer depth m) (ap Replaced (put_weakened s at more outer depth inner))
    (λ m. putting_here s at (put s more outer inner) depth m) (ap Replaced (put_in_weakened s at more (put s more outer inner) depth outer))
    (omega arith) (omega (arith, only_here s 1))
    ∙ sym (ap back (putting_here s far outer depth number))
put-put_at o s at more outer inner x same (apart e) depth number =
    let next = change_after (putting o (total at more) outer) s depth in
    let new = put o more outer inner in
    ap next (putting_here s at inner depth number)
    ∙ put_then_same next (at s + depth s) (at s + depth s) (weakened (total at depth) inner) (weakened (total at depth) new) number
    (λ m. putting_apart o s (total at more) outer depth m e) (ap Replaced (put_weakened o at more outer depth inner)) refl
    ∙ sym (renumbered_then (putting s at new) (putting o (total (total at more) (only s 1)) outer) s depth number number _
    (putting_apart o s (total (total at more) (only s 1)) outer depth number e) (putting_here s at new depth number))
put-put_at o s at more outer inner x (apart e) same depth number =
    let new = put o more outer inner in
    let back = change_after (putting s at new) o depth in
    let far = total (total at more) (only s 1) in
    renumbered_then (putting o (total at more) outer) (putting s at inner) o depth number number _
    (putting_apart s o at inner depth number e) (putting_here o (total at more) outer depth number)
    ∙ sym (ap back (putting_here o far outer depth number)
    ∙ put_then_same back (far o + depth o) (at o + more o + depth o) (weakened (total far depth) outer) (weakened (total (total at more) depth) outer) number
    (λ m. putting_apart s o at new depth m e) (ap Replaced (put_in_weakened s at more new depth outer))
    (omega (arith, only_apart s o 1 e)))
put-put_at o s at more outer inner x (apart e) (apart e') depth number =
    let far = total (total at more) (only s 1) in
    renumbered_then (putting o (total at more) outer) (putting s at inner) x depth number number _
    (putting_apart s x at inner depth number e) (putting_apart o x (total at more) outer depth number e')
    ∙ sym (renumbered_then (putting s at (put o more outer inner)) (putting o far outer) x depth number number _
    (putting_apart o x far outer depth number e') (putting_apart s x at (put o more outer inner) depth number e))

-- Of two puts the one further out may as well come first. It is then made one place further out where the spaces are one,
-- since the place that the inner one fills is still there, and it is made in the inner value too.
pub put-put : (o s : Space) (at more : Depth) (outer inner t : Tree)
    → put o (total at more) outer (put s at inner t) ≡ put s at (put o more outer inner) (put o (total (total at more) (only s 1)) outer t)
put-put o s at more outer inner t =
    runs_alike (putting o (total at more) outer) (putting s at inner)
    (putting s at (put o more outer inner)) (putting o (total (total at more) (only s 1)) outer)
    (λ x. put-put_at o s at more outer inner x (beside s x) (beside o x)) none t

-- changes that keep all variables but those of a space from a place on
abbrev Keeps : Changes → Space → ℕ → Type 0
Keeps f s from = (x : Space) (depth : Depth) (number : ℕ) → (IsTrue (same_space s x) → number < from + depth s) → f x depth number ≡ Renumbered number

kept_node : (f : Changes) (s : Space) (from : ℕ) → Keeps f s from → (depth : Depth) (limit : ℕ) → limit ≡ from + depth s
    → (role : Role) (kind : Kind) (number : ℕ) (name : List ℕ) (kids new : Trees) (NoneThere : Type 0)
    → NoneFromHere s limit role number NoneThere → (NoneThere → new ≡ kids)
    → changed_node f depth role kind number name kids new ≡ At kind number name kids
kept_node f s from keeps depth limit e (Variable x) kind number name kids new NoneThere free kept =
    let low : IsTrue (same_space s x) → number < from + depth s = λ is. subst (λ m. number < m) e (free.0 is) in
    ap (λ change. changed_variable change kind name new) (keeps x depth number low) ∙ ap (At kind number name) (kept free.1)
kept_node f s from keeps depth limit e Declared kind number name kids new NoneThere free kept = refl
kept_node f s from keeps depth limit e Former kind number name kids new NoneThere free kept = ap (At kind number name) (kept free)

-- they keep a tree that has none of these
mutual
  kept_tree : (f : Changes) (s : Space) (from : ℕ) → Keeps f s from → (depth : Depth) (limit : ℕ) → limit ≡ from + depth s
      → (t : Tree) → NoneFrom s limit t → changed f depth t ≡ t
  kept_tree f s from keeps depth limit e (At kind number name kids) free =
      kept_node f s from keeps depth limit e (form kind).role kind number name kids
      (changed_kids f depth (form kind).kids kids) (NoneInKids s limit (form kind).kids kids) free
      (kept_kids f s from keeps depth limit e (form kind).kids kids)

  kept_kids : (f : Changes) (s : Space) (from : ℕ) → Keeps f s from → (depth : Depth) (limit : ℕ) → limit ≡ from + depth s
      → (slots : List Slot) (ts : Trees) → NoneInKids s limit slots ts → changed_kids f depth slots ts ≡ ts
  kept_kids f s from keeps depth limit e slots Nil free = refl
  kept_kids f s from keeps depth limit e slots (And t ts) free =
      let more = bound (first_slot slots) in
      let first = kept_tree f s from keeps (total depth more) (limit + more s) (omega arith) t free.0 in
      λ i. And (first i) (kept_kids f s from keeps depth limit e (other_slots slots) ts free.1 i)

shift_keeps : (s : Space) (from by : ℕ) (x : Space) → Beside s x → (depth : Depth) (number : ℕ)
    → (IsTrue (same_space s x) → number < from + depth s) → raising (only s from) (only s by) x depth number ≡ Renumbered number
shift_keeps s from by x same depth number low =
    raising_here s from by depth number ∙ ap Renumbered (raised_below (from + depth s) by number (low (same_here s)))
shift_keeps s from by x (apart e) depth number low = raising_apart s x from by depth number e

-- A shift from a place on leaves a tree that has no variable of the space from there on.
pub shift-none_from : (s : Space) (from by : ℕ) (t : Tree) → NoneFrom s from t → shift s from by t ≡ t
shift-none_from s from by t free =
    kept_tree (raising (only s from) (only s by)) s from (λ x. shift_keeps s from by x (beside s x)) none from (omega arith) t free

put_keeps : (s : Space) (at : Depth) (value : Tree) (x : Space) → Beside s x → (depth : Depth) (number : ℕ)
    → (IsTrue (same_space s x) → number < at s + depth s) → putting s at value x depth number ≡ Renumbered number
put_keeps s at value x same depth number low =
    putting_here s at value depth number
    ∙ put_below (at s + depth s) (weakened (total at depth) value) number (low (same_here s))
put_keeps s at value x (apart e) depth number low = putting_apart s x at value depth number e

-- So does a put at that place, whatever the value.
pub put-none_from : (s : Space) (at : Depth) (value t : Tree) → NoneFrom s (at s) t → put s at value t ≡ t
put-none_from s at value t free =
    kept_tree (putting s at value) s (at s) (λ x. put_keeps s at value x (beside s x)) none (at s) (omega arith) t free
