-- A world and claims have one part.
use Rattle.std.proofs.Common.{◌≡◌, ℕ, zero, suc, ◌<◌, List, [], ◌∷◌, length, get_or, map, Contains, Some, slice_get, refl, sym, ap, ◌∙◌, subst, arith, inl, inr}
use Rattle.std.specs.Prelude.{◌↔◌}
use Rattle.std.specs.List.{AllZip}
use Rattle.std.proofs.lemmas.Bool.{cases_lt}
use Rattle.rz_rules.specs.declared.nodes.Node.{Node}
use Rattle.rz_rules.specs.declared.judgments.Judgment.{Judgment}
use Rattle.rz_rules.specs.declared.judgments.Judgment.TheVariants.{Formed, Holds, Has, Same}
use Rattle.rz_rules.specs.declared.judgments.Line.{Line}
use Rattle.rz_rules.specs.Judgment.{ids_of, kind_of}
use Rattle.rz_drv.specs.declared.parts.Part.{Part}
use Rattle.rz_log.specs.declared.world.World.{World}
use Rattle.rz_log.specs.Reachable.{IsReachable, IsRising}
use Rattle.rz_export.specs.declared.claims.Claimed.{Claimed}
use Rattle.rz_export.specs.Claims.{steps_claimed}
use Rattle.rz_export.specs.Extract.{IsPartOf}
use Rattle.rz_export.specs.Moves.{AreMovedClaims, AreMovedLines, AreMovedNodes, ArePlaces, IsMovedClaim, IsMovedLine, IsMovedNode}
use Rattle.rz_export.specs.Needs.{IsNeeded, names_at}
use Rattle.rz_export.proofs.Places.{same_place}

-- ---- rising lists with the same numbers

-- the first of a rising list is less than the others
first_less : (x : ℕ) (xs : List ℕ) → IsRising (x ∷ xs) → (y : ℕ) → Contains xs y → x < y
first_less x xs rising y there =
    let less = rising 0 (suc there.0) 0 (omega arith) (omega (arith, there.1)) in
    let is : get_or xs there.0 0 ≡ y = get_or_any xs there.0 0 y there.1 ∙ there.2 in
    omega (arith, less, is) where
      get_or_any : (xs : List ℕ) (k d e : ℕ) → k < length xs → get_or xs k d ≡ get_or xs k e
      get_or_any [] k d e l = absurd (omega (arith, l))
      get_or_any (x ∷ xs) zero d e l = refl
      get_or_any (x ∷ xs) (suc k) d e l = get_or_any xs k d e (omega (arith, l))

rising_rest : (x : ℕ) (xs : List ℕ) → IsRising (x ∷ xs) → IsRising xs
rising_rest x xs rising = λ i j d less within. rising (suc i) (suc j) d (omega (arith, less)) (omega (arith, within))

here : (x : ℕ) (xs : List ℕ) → Contains (x ∷ xs) x
here x xs = (0, omega arith, refl)

behind : (x y : ℕ) (xs : List ℕ) → Contains xs y → Contains (x ∷ xs) y
behind x y xs there = (suc there.0, omega (arith, there.1), there.2)

-- what stands in a list is its first, or stands behind
first_or_behind : (x y : ℕ) (xs : List ℕ) → Contains (x ∷ xs) y → (y ≡ x → ⊥) → Contains xs y
first_or_behind x y xs (zero, within, is) other = absurd (other (sym is))
first_or_behind x y xs (suc k, within, is) other = (k, omega (arith, within), is)

not_less : (x y : ℕ) (xs : List ℕ) → IsRising (x ∷ xs) → Contains (x ∷ xs) y → y < x → ⊥
not_less x y xs rising (zero, within, is) less = absurd (omega (arith, less, is))
not_less x y xs rising (suc k, within, is) less =
    let more = first_less x xs rising y (k, omega (arith, within), is) in
    absurd (omega (arith, less, more))

same_first : (x y : ℕ) (xs ys : List ℕ) → IsRising (x ∷ xs) → IsRising (y ∷ ys) → Contains (y ∷ ys) x → Contains (x ∷ xs) y → x ≡ y
same_first x y xs ys one other there back =
    elim (cases_lt x y) [
      | inl less ↦ absurd (not_less y x ys other there less)
      | inr from ↦ elim (cases_lt y x) [
        | inl less ↦ absurd (not_less x y xs one back less)
        | inr upto ↦ omega (arith, from, upto)
      ]
    ]

none_there : (x : ℕ) → Contains [] x → ⊥
none_there x there = absurd (omega (arith, there.1))

rising_same : (xs ys : List ℕ) → IsRising xs → IsRising ys → ((x : ℕ) → Contains xs x → Contains ys x) → ((x : ℕ) → Contains ys x → Contains xs x) → xs ≡ ys
rising_same [] [] one other there back = refl
rising_same [] (y ∷ ys) one other there back = absurd (none_there y (back y (here y ys)))
rising_same (x ∷ xs) [] one other there back = absurd (none_there x (there x (here x xs)))
rising_same (x ∷ xs) (y ∷ ys) one other there back =
    let first = same_first x y xs ys one other (there x (here x xs)) (back y (here y ys)) in
    let rest = rising_same xs ys (rising_rest x xs one) (rising_rest y ys other)
    (λ z in_xs. first_or_behind y z ys (there z (behind x z xs in_xs)) (λ e. let less = first_less x xs one z in_xs in omega (arith, less, e, first)))
    (λ z in_ys. first_or_behind x z xs (back z (behind y z ys in_ys)) (λ e. let less = first_less y ys other z in_ys in omega (arith, less, e, first))) in
    λ i. first i ∷ rest i

-- two lists with the numbers of which one thing is said
same_numbers : (P : ℕ → Type 0) (xs ys : List ℕ) → IsRising xs → IsRising ys → ((x : ℕ) → Contains xs x ↔ P x) → ((x : ℕ) → Contains ys x ↔ P x) → xs ≡ ys
same_numbers P xs ys one other is are =
    rising_same xs ys one other (λ x there. (are x).1 ((is x).0 there)) (λ x there. (is x).1 ((are x).0 there))

-- ---- what is moved

-- what stands across from the elements of a list
same_across : {A B : Type 0} (R : A → B → Type 0) → ((x : A) (y z : B) → R x y → R x z → y ≡ z)
    → (xs : List A) (ys zs : List B) → AllZip R xs ys → AllZip R xs zs → ys ≡ zs
same_across R one [] [] [] first second = refl
same_across R one [] [] (z ∷ zs) first second = absurd second
same_across R one [] (y ∷ ys) zs first second = absurd first
same_across R one (x ∷ xs) [] zs first second = absurd first
same_across R one (x ∷ xs) (y ∷ ys) [] first second = absurd second
same_across R one (x ∷ xs) (y ∷ ys) (z ∷ zs) first second =
    let head = one x y z first.0 second.0 in
    let rest = same_across R one xs ys zs first.1 second.1 in
    λ i. head i ∷ rest i

same_places : (list : List ℕ) → IsRising list → (numbers one other : List ℕ) → ArePlaces list numbers one → ArePlaces list numbers other → one ≡ other
same_places list rising [] [] [] e f = refl
same_places list rising [] [] (q ∷ other) e f = absurd cc
same_places list rising [] (p ∷ one) other e f = absurd cc
same_places list rising (n ∷ numbers) [] other e f = absurd cc
same_places list rising (n ∷ numbers) (p ∷ one) [] e f = absurd cc
same_places list rising (n ∷ numbers) (p ∷ one) (q ∷ other) e f =
    let first : slice_get list p ≡ Some n = cc in
    let second : slice_get list q ≡ Some n = cc in
    let one_rest : map (slice_get list) one ≡ map (λ k. Some k) numbers = cc in
    let other_rest : map (slice_get list) other ≡ map (λ k. Some k) numbers = cc in
    let head = same_place list rising p q n first second in
    let rest = same_places list rising numbers one other one_rest other_rest in
    λ i. head i ∷ rest i

same_judgment : (one other : Judgment) → kind_of one ≡ kind_of other → ids_of one ≡ ids_of other → one ≡ other
same_judgment (Formed c) (Formed c') kind ids = let e : c ≡ c' = cc in ap (λ x. Formed x) e
same_judgment (Holds c phi) (Holds c' phi') kind ids =
    let e : c ≡ c' = cc in let f : phi ≡ phi' = cc in λ i. Holds (e i) (f i)
same_judgment (Has c a of) (Has c' a' of') kind ids =
    let e : c ≡ c' = cc in let f : a ≡ a' = cc in let g : of ≡ of' = cc in λ i. Has (e i) (f i) (g i)
same_judgment (Same c a b of) (Same c' a' b' of') kind ids =
    let e : c ≡ c' = cc in let f : a ≡ a' = cc in let g : b ≡ b' = cc in let h : of ≡ of' = cc in λ i. Same (e i) (f i) (g i) (h i)
same_judgment one other kind ids = absurd cc

module _ (ids : List ℕ) (rising : IsRising ids) where
  same_node : (old one other : Node) → IsMovedNode ids old one → IsMovedNode ids old other → one ≡ other
  same_node old one other is are =
      let kids = same_places ids rising old.kids one.kids other.kids is.kids are.kids in
      let kind = is.kind ∙ sym are.kind in
      let number = is.number ∙ sym are.number in
      let name = is.name ∙ sym are.name in
      λ i. record { kind = kind i; number = number i; name = name i; kids = kids i }

  module _ (steps : List ℕ) (steps_rise : IsRising steps) where
    same_line : (old one other : Line) → IsMovedLine ids steps old one → IsMovedLine ids steps old other → one ≡ other
    same_line old one other is are =
        let says = same_judgment one.says other.says (is.says.kind ∙ sym are.says.kind)
        (same_places ids rising (ids_of old.says) (ids_of one.says) (ids_of other.says) is.says.named are.says.named) in
        let from = same_places steps steps_rise old.from one.from other.from is.from are.from in
        let row = is.row ∙ sym are.row in
        let number = is.number ∙ sym are.number in
        λ i. record { row = row i; number = number i; says = says i; from = from i }

    same_claim : (old : Claimed) (one other : List ℕ × ℕ) → IsMovedClaim steps old one → IsMovedClaim steps old other → one ≡ other
    same_claim old one other is are =
        let name = is.name ∙ sym are.name in
        let step = same_place steps steps_rise one.1 other.1 old.step is.step are.step in
        λ i. (name i, step i)

    -- a line or a node of the world, where it stands
    found_once : {X : Type 0} (list : List X) (k : ℕ) (x y : X) → slice_get list k ≡ Some x → slice_get list k ≡ Some y → x ≡ y
    found_once list k x y e f = let both : Some x ≡ Some y = sym e ∙ f in cc

    one_made : (w : World) (claims : List Claimed) (one other : Part)
        → AreMovedNodes w.pool.nodes ids one.nodes → AreMovedLines w.log ids steps one.lines → AreMovedClaims steps claims one.claims
        → AreMovedNodes w.pool.nodes ids other.nodes → AreMovedLines w.log ids steps other.lines → AreMovedClaims steps claims other.claims
        → one ≡ other
    one_made w claims one other nodes lines named nodes' lines' named' =
        let all_nodes = same_across (λ id new. (old : Node) × (slice_get w.pool.nodes id ≡ Some old) × IsMovedNode ids old new)
        (λ id y z first second. same_node first.0 y z first.2
        (subst (λ (old : Node). IsMovedNode ids old z) (found_once w.pool.nodes id second.0 first.0 second.1 first.1) second.2))
        ids one.nodes other.nodes nodes nodes' in
        let all_lines = same_across (λ step new. (old : Line) × (slice_get w.log step ≡ Some old) × IsMovedLine ids steps old new)
        (λ step y z first second. same_line first.0 y z first.2
        (subst (λ (old : Line). IsMovedLine ids steps old z) (found_once w.log step second.0 first.0 second.1 first.1) second.2))
        steps one.lines other.lines lines lines' in
        let all_claims = same_across (IsMovedClaim steps) same_claim claims one.claims other.claims named named' in
        λ i. record { nodes = all_nodes i; lines = all_lines i; claims = all_claims i }

pub one_part : (w : World) (claims : List Claimed) (one other : Part) → IsPartOf w claims one → IsPartOf w claims other → one ≡ other
one_part w claims one other is are =
    let steps : are.steps ≡ is.steps = same_numbers (IsReachable w.log (steps_claimed claims)) are.steps is.steps are.steps_rise is.steps_rise are.steps_are is.steps_are in
    let needed : (id : ℕ) → Contains are.ids id ↔ IsNeeded w.pool.nodes (names_at w.log is.steps) id =
    subst (λ (l : List ℕ). (id : ℕ) → Contains are.ids id ↔ IsNeeded w.pool.nodes (names_at w.log l) id) steps are.ids_are in
    let ids : are.ids ≡ is.ids = same_numbers (IsNeeded w.pool.nodes (names_at w.log is.steps)) are.ids is.ids are.ids_rise is.ids_rise needed is.ids_are in
    one_made is.ids is.ids_rise is.steps is.steps_rise w claims one other is.nodes is.lines is.claims_are
    (subst (λ (l : List ℕ). AreMovedNodes w.pool.nodes l other.nodes) ids are.nodes)
    (subst (λ (l : List ℕ). AreMovedLines w.log l is.steps other.lines) ids
    (subst (λ (l : List ℕ). AreMovedLines w.log are.ids l other.lines) steps are.lines))
    (subst (λ (l : List ℕ). AreMovedClaims l claims other.claims) steps are.claims_are)
