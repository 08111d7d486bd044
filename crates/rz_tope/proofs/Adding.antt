-- Lists of coordinates, each once.
use Rattle.std.proofs.Common.{◌≡◌, Bool, true, false, cond, ◌&&◌, List, [], ◌∷◌, ◌++◌, filter, nat_eq, refl, sym, ap, subst, ◌∙◌, true≢false, append_assoc}
use Rattle.std.specs.Prelude.{◌||◌, not}
use Rattle.std.specs.List.{list_any}
use Rattle.std.specs.Str.{bytes_eq}
use Rattle.std.specs.Cmp.{first_so, second_so, unsigned_Decides}
use Rattle.std.proofs.lemmas.Slice.Eq.{bytes_eq-Decides}
use Rattle.rz_rules.specs.declared.coordinates.Coord.{Coord}
use Rattle.rz_rules.specs.declared.coordinates.Coord.TheVariants as coordinate
use Rattle.rz_rules.specs.Coordinate.{are_same, is_of_variable}
use Rattle.rz_rules.specs.Validity.{distinct}
use Rattle.rz_tope.specs.Occurrence.{occurrences, is_new, added}

both_so : (a b : Bool) → a ≡ true → b ≡ true → (a && b) ≡ true
both_so a b p q = ap (λ x. x && b) p ∙ q

-- ---- the test of two coordinates

pub same_is : (a b : Coord) → are_same a b ≡ true → a ≡ b
same_is coordinate.Zero coordinate.Zero e = refl
same_is coordinate.One coordinate.One e = refl
same_is (coordinate.Of v p) (coordinate.Of w q) e =
    let v_is : v ≡ w = (unsigned_Decides v w).0 (first_so (nat_eq v w) (bytes_eq p q) e) in
    let p_is : p ≡ q = (bytes_eq-Decides p q).0 (second_so (nat_eq v w) (bytes_eq p q) e) in
    λ i. coordinate.Of (v_is i) (p_is i)
same_is coordinate.Zero coordinate.One e = absurd (true≢false (sym e))
same_is coordinate.Zero (coordinate.Of w q) e = absurd (true≢false (sym e))
same_is coordinate.One coordinate.Zero e = absurd (true≢false (sym e))
same_is coordinate.One (coordinate.Of w q) e = absurd (true≢false (sym e))
same_is (coordinate.Of v p) coordinate.Zero e = absurd (true≢false (sym e))
same_is (coordinate.Of v p) coordinate.One e = absurd (true≢false (sym e))

pub same_self : (a : Coord) → are_same a a ≡ true
same_self coordinate.Zero = refl
same_self coordinate.One = refl
same_self (coordinate.Of v p) = both_so (nat_eq v v) (bytes_eq p p) ((unsigned_Decides v v).1 refl) ((bytes_eq-Decides p p).1 refl)

-- ---- one more

-- the list with a coordinate more, where it is new
abbrev pub with_new : List Coord → Coord → List Coord
with_new list new = cond (is_new list new) (list ++ new ∷ []) list

pub added-append : (list xs ys : List Coord) → added list (xs ++ ys) ≡ added (added list xs) ys
added-append list [] ys = refl
added-append list (x ∷ xs) ys = added-append (with_new list x) xs ys

list_any-append : {X : Type 0} (p : X → Bool) (xs ys : List X) → list_any p (xs ++ ys) ≡ (list_any p xs || list_any p ys)
list_any-append p [] ys = refl
list_any-append p (x ∷ xs) ys = by (p x) (list_any-append p xs ys) where
  by : (b : Bool) → list_any p (xs ++ ys) ≡ (list_any p xs || list_any p ys) → (b || list_any p (xs ++ ys)) ≡ ((b || list_any p xs) || list_any p ys)
  by true e = refl
  by false e = e

abbrev has : List Coord → Coord → Bool
has list c = list_any (λ other. are_same other c) list

or_true : (b : Bool) → (b || true) ≡ true
or_true true = refl
or_true false = refl

or_false : (b : Bool) → (b || false) ≡ b
or_false true = refl
or_false false = refl

has-push : (list : List Coord) (x c : Coord) → has (list ++ x ∷ []) c ≡ (has list c || are_same x c)
has-push list x c = list_any-append (λ other. are_same other c) list (x ∷ []) ∙ ap (λ b. has list c || b) (or_false (are_same x c))

-- what a list has it keeps
has-with_new : (list : List Coord) (x c : Coord) → has list c ≡ true → has (with_new list x) c ≡ true
has-with_new list x c e = by (is_new list x) where
  by : (b : Bool) → has (cond b (list ++ x ∷ []) list) c ≡ true
  by true = has-push list x c ∙ ap (λ b. b || are_same x c) e
  by false = e

-- a coordinate that a list has, or that is of no variable, is not new
abbrev IsSettled : List Coord → Coord → Type 0
IsSettled list c = is_new list c ≡ false

has_with : (list : List Coord) (x : Coord) → is_of_variable x ≡ true → has (with_new list x) x ≡ true
has_with list x v = by (has list x) refl where
  by : (b : Bool) → has list x ≡ b → has (with_new list x) x ≡ true
  by true e =
      let old : is_new list x ≡ false = (λ i. v i && not (e i)) in
      ap (λ b. has (cond b (list ++ x ∷ []) list) x) old ∙ e
  by false e =
      let new : is_new list x ≡ true = (λ i. v i && not (e i)) in
      ap (λ b. has (cond b (list ++ x ∷ []) list) x) new ∙ has-push list x x ∙ ap (λ b. has list x || b) (same_self x) ∙ or_true (has list x)

not_new : (list : List Coord) (c : Coord) → has list c ≡ true → is_new list c ≡ false
not_new list c e = ap (λ b. is_of_variable c && not b) e ∙ and_false (is_of_variable c) where
  and_false : (b : Bool) → (b && false) ≡ false
  and_false true = refl
  and_false false = refl

settled_here : (list : List Coord) (x : Coord) → IsSettled (with_new list x) x
settled_here list x = by (is_of_variable x) refl where
  by : (b : Bool) → is_of_variable x ≡ b → IsSettled (with_new list x) x
  by true v = not_new (with_new list x) x (has_with list x v)
  by false v = ap (λ b. b && not (has (with_new list x) x)) v

settled_still : (list : List Coord) (x c : Coord) → IsSettled list c → IsSettled (with_new list x) c
settled_still list x c s = by (is_of_variable c) (has list c) refl refl where
  by : (v h : Bool) → is_of_variable c ≡ v → has list c ≡ h → IsSettled (with_new list x) c
  by false h v e = ap (λ b. b && not (has (with_new list x) c)) v
  by true true v e = not_new (with_new list x) c (has-with_new list x c e)
  by true false v e =
      let new : is_new list c ≡ true = (λ i. v i && not (e i)) in
      absurd (true≢false (sym new ∙ s))

-- ---- what is added

-- coordinates that are settled may be left out
added-without : (list : List Coord) (c : Coord) (xs : List Coord) → IsSettled list c → added list (filter (λ other. not (are_same c other)) xs) ≡ added list xs
added-without list c [] s = refl
added-without list c (x ∷ xs) s = by (are_same c x) refl (added-without list c xs s) (added-without (with_new list x) c xs (settled_still list x c s)) where
  by : (b : Bool) → are_same c x ≡ b → added list (filter (λ other. not (are_same c other)) xs) ≡ added list xs
      → added (with_new list x) (filter (λ other. not (are_same c other)) xs) ≡ added (with_new list x) xs
      → added list (cond (not b) (x ∷ filter (λ other. not (are_same c other)) xs) (filter (λ other. not (are_same c other)) xs)) ≡ added (with_new list x) xs
  by true e there here =
      let same : c ≡ x = same_is c x e in
      let stays : with_new list x ≡ list = ap (λ b. cond b (list ++ x ∷ []) list) (subst (IsSettled list) same s) in
      there ∙ ap (λ l. added l xs) (sym stays)
  by false e there here = here

pub added-distinct : (list xs : List Coord) → added list (distinct xs) ≡ added list xs
added-distinct list [] = refl
added-distinct list (x ∷ xs) = added-without (with_new list x) x (distinct xs) (settled_here list x) ∙ added-distinct (with_new list x) xs

pub added-variables : (list xs : List Coord) → added list (filter is_of_variable xs) ≡ added list xs
added-variables list [] = refl
added-variables list (x ∷ xs) = by (is_of_variable x) refl (added-variables list xs) (added-variables (with_new list x) xs) where
  by : (b : Bool) → is_of_variable x ≡ b → added list (filter is_of_variable xs) ≡ added list xs → added (with_new list x) (filter is_of_variable xs) ≡ added (with_new list x) xs
      → added list (cond b (x ∷ filter is_of_variable xs) (filter is_of_variable xs)) ≡ added (with_new list x) xs
  by true v there here = here
  by false v there here =
      let stays : with_new list x ≡ list = ap (λ b. cond (b && not (has list x)) (list ++ x ∷ []) list) v in
      there ∙ ap (λ l. added l xs) (sym stays)

-- what is new in a list, in order
filter-filter : {X : Type 0} (p q r : X → Bool) → ((x : X) → r x ≡ (p x && q x)) → (xs : List X) → filter p (filter q xs) ≡ filter r xs
filter-filter p q r h [] = refl
filter-filter p q r h (x ∷ xs) = by (q x) (p x) refl refl (filter-filter p q r h xs) where
  by : (b a : Bool) → q x ≡ b → p x ≡ a → filter p (filter q xs) ≡ filter r xs → filter p (cond b (x ∷ filter q xs) (filter q xs)) ≡ cond (r x) (x ∷ filter r xs) (filter r xs)
  by true true e f rest =
      ap (λ b. cond b (x ∷ filter p (filter q xs)) (filter p (filter q xs))) f ∙ ap (λ xs. x ∷ xs) rest
      ∙ ap (λ b. cond b (x ∷ filter r xs) (filter r xs)) (sym (h x ∙ (λ i. f i && e i)))
  by true false e f rest =
      ap (λ b. cond b (x ∷ filter p (filter q xs)) (filter p (filter q xs))) f ∙ rest
      ∙ ap (λ b. cond b (x ∷ filter r xs) (filter r xs)) (sym (h x ∙ (λ i. f i && e i)))
  by false true e f rest = rest ∙ ap (λ b. cond b (x ∷ filter r xs) (filter r xs)) (sym (h x ∙ (λ i. f i && e i)))
  by false false e f rest = rest ∙ ap (λ b. cond b (x ∷ filter r xs) (filter r xs)) (sym (h x ∙ (λ i. f i && e i)))

abbrev missing : List Coord → Coord → Bool
missing list c = not (has list c)

not_or : (a b : Bool) → not (a || b) ≡ (not a && not b)
not_or true b = refl
not_or false b = refl

and_flip : (a b : Bool) → (a && b) ≡ (b && a)
and_flip true true = refl
and_flip true false = refl
and_flip false true = refl
and_flip false false = refl

missing-push : (list : List Coord) (x c : Coord) → missing (list ++ x ∷ []) c ≡ (missing list c && not (are_same x c))
missing-push list x c = ap not (has-push list x c) ∙ not_or (has list c) (are_same x c)

-- where a list has a coordinate, what it misses is another one
missing_other : (list : List Coord) (x : Coord) → has list x ≡ true → (c : Coord) → missing list c ≡ (missing list c && not (are_same x c))
missing_other list x h c = by (are_same x c) refl where
  by : (b : Bool) → are_same x c ≡ b → missing list c ≡ (missing list c && not b)
  by true e = let gone : missing list c ≡ false = ap not (ap (has list) (sym (same_is x c e)) ∙ h) in gone ∙ ap (λ b. b && false) (sym gone)
  by false e = and_true (missing list c) where
    and_true : (b : Bool) → b ≡ (b && true)
    and_true true = refl
    and_true false = refl

append_nil : (l : List Coord) → l ++ [] ≡ l
append_nil [] = refl
append_nil (x ∷ l) = ap (λ l. x ∷ l) (append_nil l)

-- the rest of what occurs behind a coordinate, where a list has it, and where it doesn't
missed_old : (list rest : List Coord) (x : Coord) → has list x ≡ true → filter (missing list) (x ∷ filter (λ other. not (are_same x other)) rest) ≡ filter (missing list) rest
missed_old list rest x h =
    ap (λ b. cond b (x ∷ filter (missing list) (filter (λ other. not (are_same x other)) rest)) (filter (missing list) (filter (λ other. not (are_same x other)) rest))) (ap not h)
    ∙ filter-filter (missing list) (λ other. not (are_same x other)) (missing list) (missing_other list x h) rest

missed_new : (list rest : List Coord) (x : Coord) → has list x ≡ false → filter (missing list) (x ∷ filter (λ other. not (are_same x other)) rest) ≡ x ∷ filter (missing (list ++ x ∷ [])) rest
missed_new list rest x h =
    ap (λ b. cond b (x ∷ filter (missing list) (filter (λ other. not (are_same x other)) rest)) (filter (missing list) (filter (λ other. not (are_same x other)) rest))) (ap not h)
    ∙ ap (λ l. x ∷ l) (filter-filter (missing list) (λ other. not (are_same x other)) (missing (list ++ x ∷ [])) (missing-push list x) rest)

added_new : (list xs : List Coord) (x : Coord) → is_of_variable x ≡ true
    → added list xs ≡ list ++ filter (missing list) (distinct xs)
    → added (list ++ x ∷ []) xs ≡ (list ++ x ∷ []) ++ filter (missing (list ++ x ∷ [])) (distinct xs)
    → added (with_new list x) xs ≡ list ++ filter (missing list) (distinct (x ∷ xs))
added_new list xs x v there here = by (has list x) refl where
  by : (h : Bool) → has list x ≡ h → added (with_new list x) xs ≡ list ++ filter (missing list) (x ∷ filter (λ other. not (are_same x other)) (distinct xs))
  by true h =
      let stays : with_new list x ≡ list = ap (λ b. cond b (list ++ x ∷ []) list) (not_new list x h) in
      ap (λ l. added l xs) stays ∙ there ∙ ap (λ l. list ++ l) (sym (missed_old list (distinct xs) x h))
  by false h =
      let is : is_new list x ≡ true = (λ i. v i && not (h i)) in
      let grown : with_new list x ≡ list ++ x ∷ [] = ap (λ b. cond b (list ++ x ∷ []) list) is in
      ap (λ l. added l xs) grown ∙ here
      ∙ append_assoc list (x ∷ []) (filter (missing (list ++ x ∷ [])) (distinct xs))
      ∙ ap (λ l. list ++ l) (sym (missed_new list (distinct xs) x h))

added_is : (list xs : List Coord) → added list (filter is_of_variable xs) ≡ list ++ filter (missing list) (occurrences xs)
added_is list [] = sym (append_nil list)
added_is list (x ∷ xs) = by (is_of_variable x) refl (added_is list xs) (added_is (list ++ x ∷ []) xs) where
  by : (b : Bool) → is_of_variable x ≡ b → added list (filter is_of_variable xs) ≡ list ++ filter (missing list) (occurrences xs)
      → added (list ++ x ∷ []) (filter is_of_variable xs) ≡ (list ++ x ∷ []) ++ filter (missing (list ++ x ∷ [])) (occurrences xs)
      → added list (cond b (x ∷ filter is_of_variable xs) (filter is_of_variable xs)) ≡ list ++ filter (missing list) (distinct (cond b (x ∷ filter is_of_variable xs) (filter is_of_variable xs)))
  by false v there here = there
  by true v there here = added_new list (filter is_of_variable xs) x v there here

filter_all : (xs : List Coord) → filter (missing []) xs ≡ xs
filter_all [] = refl
filter_all (x ∷ xs) = ap (λ xs. x ∷ xs) (filter_all xs)

-- what occurs is what is added to nothing
pub occurrences_added : (xs : List Coord) → added [] xs ≡ occurrences xs
occurrences_added xs = sym (added-variables [] xs) ∙ added_is [] xs ∙ filter_all (occurrences xs)

pub added_occurrences : (xs ys : List Coord) → added (occurrences xs) ys ≡ occurrences (xs ++ ys)
added_occurrences xs ys = ap (λ l. added l ys) (sym (occurrences_added xs)) ∙ sym (added-append [] xs ys) ∙ occurrences_added (xs ++ ys)

-- each part of a list may be replaced by what occurs in it
pub added-occurrences : (list xs : List Coord) → added list (occurrences xs) ≡ added list xs
added-occurrences list xs = added-distinct list (filter is_of_variable xs) ∙ added-variables list xs

pub occurrences-back : (xs ys : List Coord) → occurrences (xs ++ occurrences ys) ≡ occurrences (xs ++ ys)
occurrences-back xs ys = sym (added_occurrences xs (occurrences ys)) ∙ added-occurrences (occurrences xs) ys ∙ added_occurrences xs ys

pub occurrences-twice : (xs : List Coord) → occurrences (occurrences xs) ≡ occurrences xs
occurrences-twice xs = occurrences-back [] xs

pub occurrences-front : (xs ys : List Coord) → occurrences (occurrences xs ++ ys) ≡ occurrences (xs ++ ys)
occurrences-front xs ys = sym (added_occurrences (occurrences xs) ys) ∙ ap (λ l. added l ys) (occurrences-twice xs) ∙ added_occurrences xs ys

pub occurrences-both : (xs ys : List Coord) → occurrences (occurrences xs ++ occurrences ys) ≡ occurrences (xs ++ ys)
occurrences-both xs ys = occurrences-back (occurrences xs) ys ∙ occurrences-front xs ys

-- the other way of an added list's end
pub added-push : (list xs : List Coord) (x : Coord) → added list (xs ++ x ∷ []) ≡ with_new (added list xs) x
added-push list xs x = added-append list xs (x ∷ [])
