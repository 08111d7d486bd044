-- Coordinates that are in a list.
use Rattle.std.proofs.Common.{◌≡◌, ℕ, zero, suc, ◌+◌, ◌<◌, Bool, true, false, cond, Some, List, [], ◌∷◌, ◌++◌, length, get_or, drop, filter, refl, sym, ap, subst, ◌∙◌, true≢false, add-one, arith}
use Rattle.std.proofs.Math.Seq.{drop-cons}
use Rattle.std.specs.Prelude.{not, Contains, slice_get}
use Rattle.std.proofs.lemmas.List.Elements.{Contains-append_left, Contains-append_right}
use Rattle.rz_rules.specs.declared.coordinates.Coord.{Coord}
use Rattle.rz_rules.specs.Tree.{Tree}
use Rattle.rz_rules.specs.Cube.{binders_of}
use Rattle.rz_rules.specs.Coordinate.{are_same, is_of_variable}
use Rattle.rz_rules.specs.Validity.{compared, compared_in, distinct, occurring}
use Rattle.rz_tope.proofs.Adding.{same_is, same_self}
use Rattle.rz_tope_normal.specs.Placed.{position, IsAmong}

-- a list has a coordinate at some position
abbrev pub Has : List Coord → Coord → Type 0
Has list c = position list c < length list

step : (b : Bool) (n l : ℕ) → (b ≡ false → n < l) → cond b 0 (n + 1) < suc l
step true n l h = omega arith
step false n l h = omega (arith, h refl)

has_step : (x : Coord) (xs : List Coord) (c : Coord) → (are_same x c ≡ false → Has xs c) → Has (x ∷ xs) c
has_step x xs c h = step (are_same x c) (position xs c) (length xs) h

pub has_rest : (b : Bool) (n l : ℕ) → b ≡ false → cond b 0 (n + 1) < suc l → n < l
has_rest true n l e h = absurd (true≢false e)
has_rest false n l e h = omega arith

pub has_at : (xs : List Coord) (k : ℕ) (d : Coord) → k < length xs → Has xs (get_or xs k d)
has_at [] k d l = absurd (omega arith)
has_at (x ∷ xs) zero d l = has_step x xs x (λ e. absurd (true≢false (sym (same_self x) ∙ e)))
has_at (x ∷ xs) (suc k) d l = has_step x xs (get_or xs k d) (λ e. has_at xs k d (omega arith))

pub contains_has : (xs : List Coord) (c : Coord) → Contains xs c → Has xs c
contains_has xs c at = subst (Has xs) at.2 (has_at xs at.0 c at.1)

filter_has : (test : Coord → Bool) (xs : List Coord) (c : Coord) → test c ≡ true → Has xs c → Has (filter test xs) c
filter_has test [] c t h = absurd (omega arith)
filter_has test (x ∷ xs) c t h =
    by (are_same x c) refl (test x) refl (λ e. filter_has test xs c t (has_rest (are_same x c) (position xs c) (length xs) e h)) where
      by : (b : Bool) → are_same x c ≡ b → (a : Bool) → test x ≡ a → (are_same x c ≡ false → Has (filter test xs) c)
          → Has (cond a (x ∷ filter test xs) (filter test xs)) c
      by b e true f rest = has_step x (filter test xs) c rest
      by true e false f rest = absurd (true≢false (sym t ∙ ap test (sym (same_is x c e)) ∙ f))
      by false e false f rest = rest e

distinct_has : (xs : List Coord) (c : Coord) → Has xs c → Has (distinct xs) c
distinct_has [] c h = absurd (omega arith)
distinct_has (x ∷ xs) c h =
    has_step x (filter (λ other. not (are_same x other)) (distinct xs)) c
    (λ e. filter_has (λ other. not (are_same x other)) (distinct xs) c (ap not e)
    (distinct_has xs c (has_rest (are_same x c) (position xs c) (length xs) e h)))

-- what a sequent's topes compare is among what occurs
pub among_occurring : (context tope : Tree) (c : Coord) → Contains (compared_in context ++ compared (binders_of context) tope) c → IsAmong
    (occurring context tope) c
among_occurring context tope c at variable =
    let all = compared_in context ++ compared (binders_of context) tope in
    distinct_has (filter is_of_variable all) c (filter_has is_of_variable all c variable (contains_has all c at))

pub among_given : (context tope : Tree) (c : Coord) → Contains (compared_in context) c → IsAmong (occurring context tope) c
among_given context tope c at = among_occurring context tope c (Contains-append_left (compared_in context) (compared (binders_of context) tope) c at)

pub among_asked : (context tope : Tree) (c : Coord) → Contains (compared (binders_of context) tope) c → IsAmong (occurring context tope) c
among_asked context tope c at = among_occurring context tope c (Contains-append_right (compared_in context) (compared (binders_of context) tope) c at)

-- ---- the position of a coordinate, found item by item

pub position_here : (list : List Coord) (i : ℕ) (x c : Coord) → i < length list → x ≡ get_or list i x → are_same x c ≡ true → position (drop i list) c
    ≡ 0
position_here list i x c lt is same =
    ap (λ (l : List Coord). position l c) (drop-cons list i x lt)
    ∙ ap (λ b. cond b 0 (position (drop (suc i) list) c + 1)) (ap (λ y. are_same y c) (sym is) ∙ same)

pub position_past : (list : List Coord) (i : ℕ) (x c : Coord) → i < length list → x ≡ get_or list i x → are_same x c ≡ false
    → position (drop i list) c ≡ position (drop (i + 1) list) c + 1
position_past list i x c lt is other =
    ap (λ (l : List Coord). position l c) (drop-cons list i x lt)
    ∙ ap (λ b. cond b 0 (position (drop (suc i) list) c + 1)) (ap (λ y. are_same y c) (sym is) ∙ other)
    ∙ ap (λ n. position (drop n list) c + 1) (sym (add-one i))

-- what stands at the position of a coordinate that a list has is that coordinate
pub has_is : (list : List Coord) (c : Coord) → Has list c → slice_get list (position list c) ≡ Some c
has_is [] c h = absurd (omega arith)
has_is (x ∷ xs) c h = by (are_same x c) refl (λ e. has_is xs c (has_rest (are_same x c) (position xs c) (length xs) e h)) where
  by : (b : Bool) → are_same x c ≡ b → (are_same x c ≡ false → slice_get xs (position xs c) ≡ Some c)
      → slice_get (x ∷ xs) (cond b 0 (position xs c + 1)) ≡ Some c
  by true e rest = ap Some (same_is x c e)
  by false e rest = ap (slice_get (x ∷ xs)) (add-one (position xs c)) ∙ rest e

-- the test of two coordinates, the other way round
pub same_flip : (a c : Coord) → are_same a c ≡ are_same c a
same_flip a c = by (are_same a c) refl (are_same c a) refl where
  by : (x : Bool) → are_same a c ≡ x → (y : Bool) → are_same c a ≡ y → are_same a c ≡ are_same c a
  by true e true f = e ∙ sym f
  by false e false f = e ∙ sym f
  by true e false f = absurd (true≢false (sym (ap (λ z. are_same c z) (same_is a c e) ∙ same_self c) ∙ f))
  by false e true f = absurd (true≢false (sym (ap (λ z. are_same a z) (same_is c a f) ∙ same_self a) ∙ e))
