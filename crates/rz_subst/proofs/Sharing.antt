-- A tree changes alike at two depths, where they differ in no space that is of account.
use Rattle.std.proofs.Common.{◌≡◌, ℕ, ◌+◌, ◌<◌, ◌≤◌, ◌==◌, ◌||◌, nat_lt, Bool, true, false, List, Option, None, Some, IfSome, ◌⊎◌, inl, inr, refl, sym, ap, subst, ◌∙◌, add_assoc, arith}
use Rattle.std.proofs.lemmas.Bool.{cases_lt}
use Rattle.std.proofs.lemmas.Bool.Decides.{nat_tests}
use Rattle.rz_rules.specs.declared.kinds.Kind.{Kind}
use Rattle.rz_rules.specs.declared.kinds.Role.{Role}
use Rattle.rz_rules.specs.declared.kinds.Role.TheVariants.{Variable, Declared, Former}
use Rattle.rz_rules.specs.declared.kinds.Slot.{Slot}
use Rattle.rz_rules.specs.declared.kinds.Space.{Space}
use Rattle.rz_rules.specs.declared.kinds.Space.TheVariants.{Points, Terms}
use Rattle.rz_rules.specs.declared.nodes.Node.{Node}
use Rattle.rz_rules.specs.Form.{form, bound}
use Rattle.rz_rules.specs.Tree.{Tree, Trees, At, Nil, And, tree_of}
use Rattle.rz_rules.specs.Substitution.{Depth, none, total, Changes, changed_variable, changed_node, changed, changed_kids, first_slot, other_slots}
use Rattle.rz_rules.proofs.SubstitutionVariables.{same_here}
use Rattle.rz_pool.specs.declared.counts.Counts.{Counts}
use Rattle.rz_pool.specs.Counts.{depth_of}
use Rattle.rz_pool.specs.Free.{free_bound, free_least, NoneBetweenHere, NoneBetween, NoneBetweenInKids}
use Rattle.rz_pool.proofs.FreeLeasts.{none_between}
use Rattle.rz_subst.specs.declared.walk.Extent.{Extent}
use Rattle.rz_subst.specs.declared.walk.Place.{Place}
use Rattle.rz_subst.specs.Walk.{answer, KeepsTo, lies_past, is_past, count_where, shared_place}
use Rattle.rz_subst.proofs.Staying.{under}

-- the first index that is past the first to change, at a depth and under so many binders more
abbrev past : ℕ → ℕ → ℕ → ℕ
past start depth more = start + depth + more + 1

either : (F A B : Type 0) → (A → B) → F ⊎ A → F ⊎ B
either F A B f (inl h) = inl h
either F A B f (inr h) = inr (f h)

-- the depths are the same in a space, and in those with which values move
abbrev IsSame : (Space → Extent) → Depth → Depth → Space → Type 0
IsSame reach depth other x = (depth x ≡ other x) × ((s : Space) → (depth s ≡ other s) ⊎ ((reach s).moves ≡ false))

module _ (reach : Space → Extent) (changes : Changes) (keeps : KeepsTo reach changes) (depth other : Depth) (less : (s : Space) → other s ≤ depth s) where
  abbrev Same : Space → Type 0
  Same x = IsSame reach depth other x

  -- a variable is bound further in, or lies past the first to change, or is in such a space
  same_variable : (more : Depth) (x : Space) (number : ℕ) → IfSome (reach x).start (λ start. Same x ⊎ (more x ≤ number → past start (depth x) (more x) ≤ number))
      → changes x (total depth more) number ≡ changes x (total other more) number
  same_variable more x number free = at (reach x).start refl free
    where
      low : (P : ℕ → Type 0) (o : Option ℕ) → (reach x).start ≡ o → IfSome o P → IfSome (reach x).start P
      low P o e h = subst (λ (k : Option ℕ). IfSome k P) (sym e) h

      below : (o : Option ℕ) → (reach x).start ≡ o → IfSome o (λ start. (number < start + total depth more x) × (number < start + total other more x))
          → changes x (total depth more) number ≡ changes x (total other more) number
      below o e h =
          let Both : ℕ → Type 0 = λ start. (number < start + total depth more x) × (number < start + total other more x) in
          keeps.within x (total depth more) number (low (λ start. number < start + total depth more x) o e (under o Both (λ start. number < start + total depth more x) (λ start b. b.0) h))
          ∙ sym (keeps.within x (total other more) number (low (λ start. number < start + total other more x) o e (under o Both (λ start. number < start + total other more x) (λ start b. b.1) h)))

      at : (o : Option ℕ) → (reach x).start ≡ o → IfSome o (λ start. Same x ⊎ (more x ≤ number → past start (depth x) (more x) ≤ number))
          → changes x (total depth more) number ≡ changes x (total other more) number
      at None e free = below None e tt
      at (Some start) e free = elim free [
        | inl same ↦
            keeps.moves x (total depth more) (total other more) number (ap (λ d. d + more x) same.0)
            (λ s. elim (same.1 s) [ inl d ↦ inl (ap (λ d. d + more s) d) | inr still ↦ inr still ])
        | inr far ↦ elim (cases_lt number (more x)) [
          | inl l ↦ below (Some start) e (omega arith, omega arith)
          | inr le ↦
              let out : past start (depth x) (more x) ≤ number = far le in
              let fewer : other x ≤ depth x = less x in
              keeps.steady x (total depth more) (total other more) number
              (low (λ start. (start + total depth more x < number) × (start + total other more x < number)) (Some start) e (omega arith, omega arith))
        ]
      ]

  -- a node, where that is told of its kids
  same_node : (more : Depth) (role : Role) (kind : Kind) (number : ℕ) (name : List ℕ) (kids here there : Trees) (NoneThere : Space → ℕ → ℕ → Type 0)
      → ((s : Space) → IfSome (reach s).start (λ start. Same s ⊎ NoneBetweenHere s (more s) (past start (depth s) (more s)) role number (NoneThere s (more s) (past start (depth s) (more s)))))
      → (((s : Space) → IfSome (reach s).start (λ start. Same s ⊎ NoneThere s (more s) (past start (depth s) (more s)))) → here ≡ there)
      → changed_node changes (total depth more) role kind number name kids here ≡ changed_node changes (total other more) role kind number name kids there
  same_node more (Variable x) kind number name kids here there NoneThere free alike =
      let Here : Space → ℕ → Type 0 = λ s start.
      NoneBetweenHere s (more s) (past start (depth s) (more s)) (Variable x) number (NoneThere s (more s) (past start (depth s) (more s))) in
      let Far : ℕ → Type 0 = λ start. more x ≤ number → past start (depth x) (more x) ≤ number in
      let There : Space → ℕ → Type 0 = λ s start. NoneThere s (more s) (past start (depth s) (more s)) in
      let far : IfSome (reach x).start (λ start. Same x ⊎ Far start) =
      under (reach x).start (λ start. Same x ⊎ Here x start) (λ start. Same x ⊎ Far start) (λ start. either (Same x) (Here x start) (Far start) (λ f. f.0 (same_here x))) (free x) in
      let others : (s : Space) → IfSome (reach s).start (λ start. Same s ⊎ There s start) = λ s.
      under (reach s).start (λ start. Same s ⊎ Here s start) (λ start. Same s ⊎ There s start) (λ start. either (Same s) (Here s start) (There s start) (λ f. f.1)) (free s) in
      λ i. changed_variable (same_variable more x number far i) kind name (alike others i)
  same_node more Declared kind number name kids here there NoneThere free alike = refl
  same_node more Former kind number name kids here there NoneThere free alike = ap (At kind number name) (alike free)

  mutual
    same_tree : (more : Depth) (t : Tree) → ((s : Space) → IfSome (reach s).start (λ start. Same s ⊎ NoneBetween s (more s) (past start (depth s) (more s)) t))
        → changed changes (total depth more) t ≡ changed changes (total other more) t
    same_tree more (At kind number name kids) free =
        same_node more (form kind).role kind number name kids (changed_kids changes (total depth more) (form kind).kids kids) (changed_kids changes (total other more) (form kind).kids kids)
        (λ s low high. NoneBetweenInKids s low high (form kind).kids kids) free (same_kids more (form kind).kids kids)

    same_kids : (more : Depth) (slots : List Slot) (ts : Trees)
        → ((s : Space) → IfSome (reach s).start (λ start. Same s ⊎ NoneBetweenInKids s (more s) (past start (depth s) (more s)) slots ts))
        → changed_kids changes (total depth more) slots ts ≡ changed_kids changes (total other more) slots ts
    same_kids more slots Nil free = refl
    same_kids more slots (And t ts) free =
        let binders = bound (first_slot slots) in
        let First : Space → ℕ → Type 0 = λ s start. NoneBetween s (more s + binders s) (past start (depth s) (more s) + binders s) t in
        let Deep : Space → ℕ → Type 0 = λ s start. NoneBetween s (more s + binders s) (past start (depth s) (more s + binders s)) t in
        let Rest : Space → ℕ → Type 0 = λ s start. NoneBetweenInKids s (more s) (past start (depth s) (more s)) (other_slots slots) ts in
        let first = same_tree (total more binders) t (λ s.
        under (reach s).start (λ start. Same s ⊎ First s start × Rest s start) (λ start. Same s ⊎ Deep s start)
        (λ start. either (Same s) (First s start × Rest s start) (Deep s start)
        (λ f. let same : past start (depth s) (more s) + binders s ≡ past start (depth s) (more s + binders s) = omega arith in
        subst (λ high. NoneBetween s (more s + binders s) high t) same f.0)) (free s)) in
        let rest = same_kids more (other_slots slots) ts (λ s.
        under (reach s).start (λ start. Same s ⊎ First s start × Rest s start) (λ start. Same s ⊎ Rest s start)
        (λ start. either (Same s) (First s start × Rest s start) (Rest s start) (λ f. f.1)) (free s)) in
        let deep : (d : Depth) → total (total d more) binders ≡ total d (total more binders) = λ d i s. add_assoc (d s) (more s) (binders s) i in
        let kid : changed changes (total (total depth more) binders) t ≡ changed changes (total (total other more) binders) t =
        ap (λ (d : Depth). changed changes d t) (deep depth) ∙ (first ∙ sym (ap (λ (d : Depth). changed changes d t) (deep other))) in
        λ i. And (kid i) (rest i)

plus_none : (n : ℕ) → n ≡ n + 0
plus_none n = omega arith

module _ (reach : Space → Extent) (changes : Changes) (keeps : KeepsTo reach changes) (nodes : List Node) (place : Place) where
  abbrev tree : Tree
  tree = tree_of nodes place.id

  abbrev depth : Depth
  depth = depth_of place.depth

  -- the same place with other counts, which differ in no space that is of account
  answer-alike : (other : Counts) → ((s : Space) → depth_of other s ≤ depth s)
      → ((s : Space) → IfSome (reach s).start (λ start. IsSame reach depth (depth_of other) s ⊎ NoneBetween s 0 (past start (depth s) 0) tree))
      → answer changes nodes (record { id = place.id; depth = other }) ≡ answer changes nodes place
  answer-alike other less free =
      let deep : (d : Depth) → d ≡ total d none = λ d i s. plus_none (d s) i in
      ap (λ (d : Depth). changed changes d tree) (deep (depth_of other))
      ∙ (sym (same_tree reach changes keeps depth (depth_of other) less none tree free)
      ∙ sym (ap (λ (d : Depth). changed changes d tree) (deep depth)))

  none_past : (o : Option ℕ) (s : Space) → lies_past o (depth s) (free_bound s tree) (free_least s tree) ≡ true → IfSome o (λ start. NoneBetween s 0 (past start (depth s) 0) tree)
  none_past None s far = tt
  none_past (Some start) s far = none_between s 0 (past start (depth s) 0) tree (λ _ some. told (free_bound s tree) (free_least s tree) far some)
    where
      told : (bound least : ℕ) → (bound == 0 || nat_lt (start + depth s) least) ≡ true → 0 < bound → past start (depth s) 0 ≤ least
      told bound least far some = grind (arith, nat_tests)

  module _ (other : Counts) where
    lies : (s : Space) → is_past reach nodes place s ≡ true → IfSome (reach s).start (λ start. IsSame reach depth (depth_of other) s ⊎ NoneBetween s 0 (past start (depth s) 0) tree)
    lies s far =
        under (reach s).start (λ start. NoneBetween s 0 (past start (depth s) 0) tree) (λ start. IsSame reach depth (depth_of other) s ⊎ NoneBetween s 0 (past start (depth s) 0) tree)
        (λ start. inr) (none_past (reach s).start s far)

    stays : (s : Space) → IsSame reach depth (depth_of other) s → IfSome (reach s).start (λ start. IsSame reach depth (depth_of other) s ⊎ NoneBetween s 0 (past start (depth s) 0) tree)
    stays s same = at (reach s).start
      where
        at : (o : Option ℕ) → IfSome o (λ start. IsSame reach depth (depth_of other) s ⊎ NoneBetween s 0 (past start (depth s) 0) tree)
        at None = tt
        at (Some start) = inl same

  -- a place has the answer of the place that it shares
  pub answer-shared : answer changes nodes (shared_place reach nodes place) ≡ answer changes nodes place
  answer-shared = by (is_past reach nodes place Points) (is_past reach nodes place Terms) refl refl (reach Points).moves (reach Terms).moves refl refl
    where
      neither : Counts
      neither = record { points = 0; terms = 0 }

      terms_alone : Counts
      terms_alone = record { points = 0; terms = place.depth.terms }

      points_alone : Counts
      points_alone = record { points = place.depth.points; terms = 0 }

      past_both : is_past reach nodes place Points ≡ true → is_past reach nodes place Terms ≡ true → answer changes nodes (record { id = place.id; depth = neither }) ≡ answer changes nodes place
      past_both p t = answer-alike neither
          (λ s. elim s as (λ (s : Space). depth_of neither s ≤ depth s) [ Points ↦ omega arith | Terms ↦ omega arith ])
          (λ s. elim s as (λ (s : Space). IfSome (reach s).start (λ start. IsSame reach depth (depth_of neither) s ⊎ NoneBetween s 0 (past start (depth s) 0) tree)) [
            | Points ↦ lies neither Points p
            | Terms ↦ lies neither Terms t
          ])

      past_points : is_past reach nodes place Points ≡ true → (reach Points).moves ≡ false → answer changes nodes (record { id = place.id; depth = terms_alone }) ≡ answer changes nodes place
      past_points p still = answer-alike terms_alone
          (λ s. elim s as (λ (s : Space). depth_of terms_alone s ≤ depth s) [ Points ↦ omega arith | Terms ↦ omega arith ])
          (λ s. elim s as (λ (s : Space). IfSome (reach s).start (λ start. IsSame reach depth (depth_of terms_alone) s ⊎ NoneBetween s 0 (past start (depth s) 0) tree)) [
            | Points ↦ lies terms_alone Points p
            | Terms ↦ stays terms_alone Terms (refl, λ s. elim s as (λ (s : Space). (depth s ≡ depth_of terms_alone s) ⊎ ((reach s).moves ≡ false)) [ Points ↦ inr still | Terms ↦ inl refl ])
          ])

      past_terms : is_past reach nodes place Terms ≡ true → (reach Terms).moves ≡ false → answer changes nodes (record { id = place.id; depth = points_alone }) ≡ answer changes nodes place
      past_terms t still = answer-alike points_alone
          (λ s. elim s as (λ (s : Space). depth_of points_alone s ≤ depth s) [ Points ↦ omega arith | Terms ↦ omega arith ])
          (λ s. elim s as (λ (s : Space). IfSome (reach s).start (λ start. IsSame reach depth (depth_of points_alone) s ⊎ NoneBetween s 0 (past start (depth s) 0) tree)) [
            | Points ↦ stays points_alone Points (refl, λ s. elim s as (λ (s : Space). (depth s ≡ depth_of points_alone s) ⊎ ((reach s).moves ≡ false)) [ Points ↦ inl refl | Terms ↦ inr still ])
            | Terms ↦ lies points_alone Terms t
          ])

      by : (p t : Bool) → is_past reach nodes place Points ≡ p → is_past reach nodes place Terms ≡ t → (a b : Bool) → (reach Points).moves ≡ a → (reach Terms).moves ≡ b
          → answer changes nodes (record { id = place.id; depth = record { points = count_where a p t place.depth.points; terms = count_where b t p place.depth.terms } }) ≡ answer changes nodes place
      by true true p t a b f g = past_both p t
      by true false p t true b f g = refl
      by true false p t false b f g = past_points p f
      by false true p t a true f g = refl
      by false true p t a false f g = past_terms t g
      by false false p t a b f g = refl

-- the place that is shared has the same id
pub id-shared : (reach : Space → Extent) (nodes : List Node) (place : Place) → (shared_place reach nodes place).id ≡ place.id
id-shared reach nodes place = refl
