-- Places: when two are the same, and the kids of one.
use Rattle.std.proofs.Common.{◌≡◌, ℕ, zero, suc, ◌+◌, ◌<◌, ◌&&◌, Bool, true, nat_eq, List, [], ◌∷◌, ◌++◌, length, get_or, take, refl, ap, subst, ◌∙◌, arith}
use Rattle.std.specs.Bool.{Decides}
use Rattle.std.specs.Cmp.{first_so, second_so, unsigned_Decides}
use Rattle.rz_rules.specs.declared.kinds.Slot.{Slot}
use Rattle.rz_rules.specs.declared.kinds.Space.{Space}
use Rattle.rz_rules.specs.declared.kinds.Space.TheVariants.{Points, Terms}
use Rattle.rz_rules.specs.Form.{bound, plain}
use Rattle.rz_rules.specs.declared.kinds.Sort.TheVariants.{Term}
use Rattle.rz_rules.specs.Substitution.{none, total, first_slot, other_slots}
use Rattle.rz_subst.specs.declared.walk.Place.{Place}
use Rattle.rz_subst.specs.contracts.walk.PlacePartialEq.TheImpl.{eq-value}
use Rattle.rz_pool.specs.Counts.{depth_of}
use Rattle.rz_subst.specs.Walk.{top_place, kid_place, kid_places}

pub same_counts : (a b : Place) → a.id ≡ b.id → a.depth.points ≡ b.depth.points → a.depth.terms ≡ b.depth.terms → a ≡ b
same_counts a b id points terms = λ i. record { id = id i; depth = record { points = points i; terms = terms i } }

both_so : (s t : Bool) → s ≡ true → t ≡ true → (s && t) ≡ true
both_so s t p q = ap (λ b. b && t) p ∙ q

equal_by_test : (a b : Place) → eq-value.it a b ≡ true → a ≡ b
equal_by_test a b e =
    let ids = nat_eq a.id b.id in
    let points = nat_eq a.depth.points b.depth.points in
    let terms = nat_eq a.depth.terms b.depth.terms in
    let rest = second_so ids (points && terms) e in
    same_counts a b ((unsigned_Decides a.id b.id).0 (first_so ids (points && terms) e))
    ((unsigned_Decides a.depth.points b.depth.points).0 (first_so points terms rest))
    ((unsigned_Decides a.depth.terms b.depth.terms).0 (second_so points terms rest))

same_by_test : (a : Place) → eq-value.it a a ≡ true
same_by_test a =
    let ids = nat_eq a.id a.id in
    let points = nat_eq a.depth.points a.depth.points in
    let terms = nat_eq a.depth.terms a.depth.terms in
    both_so ids (points && terms) ((unsigned_Decides a.id a.id).1 refl)
    (both_so points terms ((unsigned_Decides a.depth.points a.depth.points).1 refl) ((unsigned_Decides a.depth.terms a.depth.terms).1 refl))

pub places_Decides : (a b : Place) → Decides (eq-value.it a b) (a ≡ b)
places_Decides a b = (equal_by_test a b, λ e. subst (λ (k : Place). eq-value.it a k ≡ true) e (same_by_test a))

-- the depth of a whole tree, and of a kid
pub depth_top : (id : ℕ) → depth_of (top_place id).depth ≡ none
depth_top id = λ i s. by s i
  where
    by : (s : Space) → depth_of (top_place id).depth s ≡ none s
    by Points = refl
    by Terms = refl

pub depth_kid : (place : Place) (slot : Slot) (kid : ℕ) → depth_of (kid_place place slot kid).depth ≡ total (depth_of place.depth) (bound slot)
depth_kid place slot kid = λ i s. by s i
  where
    by : (s : Space) → depth_of (kid_place place slot kid).depth s ≡ total (depth_of place.depth) (bound slot) s
    by Points = refl
    by Terms = refl

-- one kid more
abbrev slot_at : List Slot → ℕ → Slot
slot_at slots i = get_or slots i (plain Term)

slot_first : (slots : List Slot) → first_slot slots ≡ slot_at slots 0
slot_first [] = refl
slot_first (slot ∷ slots) = refl

slot_other : (slots : List Slot) (i : ℕ) → slot_at (other_slots slots) i ≡ slot_at slots (suc i)
slot_other [] i = refl
slot_other (slot ∷ slots) i = refl

kid_places_suc : (place : Place) (slots : List Slot) (kids : List ℕ) (i : ℕ) → i < length kids
    → kid_places place slots (take (suc i) kids) ≡ kid_places place slots (take i kids) ++ kid_place place (slot_at slots i) (get_or kids i 0) ∷ []
kid_places_suc place slots [] i l = absurd (omega arith)
kid_places_suc place slots (kid ∷ kids) zero l = ap (λ (slot : Slot). kid_place place slot kid ∷ []) (slot_first slots)
kid_places_suc place slots (kid ∷ kids) (suc i) l =
    ap (λ (ps : List Place). kid_place place (first_slot slots) kid ∷ ps)
    (kid_places_suc place (other_slots slots) kids i (omega arith)
    ∙ ap (λ (slot : Slot). kid_places place (other_slots slots) (take i kids) ++ kid_place place slot (get_or kids i 0) ∷ []) (slot_other slots i))

slot_any : (slots : List Slot) (i : ℕ) (d e : Slot) → i < length slots → get_or slots i d ≡ get_or slots i e
slot_any [] i d e l = absurd (omega arith)
slot_any (slot ∷ slots) zero d e l = refl
slot_any (slot ∷ slots) (suc i) d e l = slot_any slots i d e (omega arith)

pub kid_places_more : (place : Place) (slots : List Slot) (kids : List ℕ) (i : ℕ) (d : Slot) → i < length kids → i < length slots
    → kid_places place slots (take (i + 1) kids) ≡ kid_places place slots (take i kids) ++ kid_place place (get_or slots i d) (get_or kids i 0) ∷ []
kid_places_more place slots kids i d l m =
    let one : i + 1 ≡ suc i = omega arith in
    ap (λ n. kid_places place slots (take n kids)) one ∙ kid_places_suc place slots kids i l
    ∙ ap (λ (slot : Slot). kid_places place slots (take i kids) ++ kid_place place slot (get_or kids i 0) ∷ []) (slot_any slots i (plain Term) d m)

pub length-kid_places : (place : Place) (slots : List Slot) (kids : List ℕ) → length (kid_places place slots kids) ≡ length kids
length-kid_places place slots [] = refl
length-kid_places place slots (kid ∷ kids) = ap suc (length-kid_places place (other_slots slots) kids)
