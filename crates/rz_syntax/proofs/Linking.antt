-- Lists in a table of cells.
use Rattle.std.proofs.Common.{◌≡◌, ℕ, zero, suc, ◌+◌, ◌<◌, ◌≤◌, ◌-◌, List, [], ◌∷◌, ◌++◌, length, get_or, drop, drop-cons, refl, sym, ap, ◌∙◌, subst, arith, add-zero, append_assoc, length-append, append-nil}
use Rattle.std.proofs.Math.ListN.{get_or-append}
use Rattle.std.proofs.Math.Seq.{get_or-append_seam}
use Rattle.rz_syntax.specs.Lists.{list_at, grown, IsLinked, Grows}

abbrev step : {T : Type 0} → List (List T) → T × ℕ → List (List T)
step lists cell = lists ++ (cell.0 ∷ list_at lists cell.1) ∷ []

length-step : {T : Type 0} (lists : List (List T)) (cell : T × ℕ) → length (step lists cell) ≡ length lists + 1
length-step lists cell = length-append lists ((cell.0 ∷ list_at lists cell.1) ∷ [])

pub length-grown : {T : Type 0} (lists : List (List T)) (cells : List (T × ℕ)) → length (grown lists cells) ≡ length lists + length cells
length-grown lists [] = sym (add-zero (length lists))
length-grown lists (cell ∷ cells) =
    omega (arith, length-grown (step lists cell) cells, length-step lists cell)

pub grown-push : {T : Type 0} (lists : List (List T)) (cells : List (T × ℕ)) (cell : T × ℕ)
    → grown lists (cells ++ cell ∷ []) ≡ grown lists cells ++ (cell.0 ∷ list_at (grown lists cells) cell.1) ∷ []
grown-push lists [] cell = refl
grown-push lists (first ∷ cells) cell = grown-push (step lists first) cells cell

list_at-step : {T : Type 0} (lists : List (List T)) (cell : T × ℕ) (i : ℕ) → i < length lists → list_at (step lists cell) i ≡ list_at lists i
unfolding list_at
list_at-step lists cell i h = get_or-append lists ((cell.0 ∷ get_or lists cell.1 []) ∷ []) [] i h

pub list_at-grown : {T : Type 0} (lists : List (List T)) (cells : List (T × ℕ)) (i : ℕ) → i < length lists → list_at (grown lists cells) i ≡ list_at lists i
list_at-grown lists [] i h = refl
list_at-grown lists (cell ∷ cells) i h =
    list_at-grown (step lists cell) cells i (omega (arith, length-step lists cell)) ∙ list_at-step lists cell i h

list_at-new : {T : Type 0} (lists : List (List T)) (cell : T × ℕ) → list_at (step lists cell) (length lists) ≡ cell.0 ∷ list_at lists cell.1
unfolding list_at
list_at-new lists cell = get_or-append_seam lists (cell.0 ∷ get_or lists cell.1 []) [] []

pub linked-at : {T : Type 0} (count : ℕ) (cells : List (T × ℕ)) (i : ℕ) (d : T × ℕ) → IsLinked count cells → i < length cells → (get_or cells i d).1 < count + i
linked-at count [] i d l h = absurd (omega (arith, h))
linked-at count (cell ∷ cells) zero d l h = omega (arith, l.0)
linked-at count (cell ∷ cells) (suc i) d l h = omega (arith, linked-at (count + 1) cells i d l.1 (omega (arith, h)))

pub linked-push : {T : Type 0} (count : ℕ) (cells : List (T × ℕ)) (cell : T × ℕ) → IsLinked count cells → cell.1 < count + length cells → IsLinked count (cells ++ cell ∷ [])
linked-push count [] cell l h = (omega (arith, h), tt)
linked-push count (first ∷ cells) cell l h = (l.0, linked-push (count + 1) cells cell l.1 (omega (arith, h)))

pub list_at-cell : {T : Type 0} (lists : List (List T)) (cells : List (T × ℕ)) (i : ℕ) (d : T × ℕ) → IsLinked (length lists) cells → i < length cells
    → list_at (grown lists cells) (length lists + i) ≡ (get_or cells i d).0 ∷ list_at (grown lists cells) (get_or cells i d).1
list_at-cell lists [] i d l h = absurd (omega (arith, h))
list_at-cell lists (cell ∷ cells) zero d l h =
    ap (list_at (grown (step lists cell) cells)) (add-zero (length lists))
    ∙ list_at-grown (step lists cell) cells (length lists) (omega (arith, length-step lists cell))
    ∙ list_at-new lists cell
    ∙ ap (λ (x : List _). cell.0 ∷ x) (sym (list_at-grown (step lists cell) cells cell.1 (omega (arith, length-step lists cell, l.0)) ∙ list_at-step lists cell cell.1 l.0))
list_at-cell lists (cell ∷ cells) (suc i) d l h =
    let linked : IsLinked (length (step lists cell)) cells = subst (λ (n : ℕ). IsLinked n cells) (sym (length-step lists cell)) l.1 in
    let same : length lists + suc i ≡ length (step lists cell) + i = omega (arith, length-step lists cell) in
    ap (list_at (grown (step lists cell) cells)) same
    ∙ list_at-cell (step lists cell) cells i d linked (omega (arith, h))

-- ---- as the code has them

pub count-of : {T : Type 0} (cells : List (T × ℕ)) (lists : List (List T)) → grown ([] ∷ []) cells ≡ lists → length lists ≡ length cells + 1
count-of cells lists e = ap length (sym e) ∙ omega (arith, length-grown ([] ∷ []) cells)

pub empty-of : {T : Type 0} (cells : List (T × ℕ)) (lists : List (List T)) → grown ([] ∷ []) cells ≡ lists → list_at lists 0 ≡ []
unfolding list_at
empty-of cells lists e = ap (λ (ls : List (List _)). get_or ls 0 []) (sym e) ∙ list_at-grown ([] ∷ []) cells 0 (omega arith)

pub first-of : {T : Type 0} (cells : List (T × ℕ)) (lists : List (List T)) (list : ℕ) (cell : T × ℕ) → grown ([] ∷ []) cells ≡ lists → IsLinked 1 cells → 0 < list → list < length lists
    → cell ≡ get_or cells (list - 1) cell → (list_at lists list ≡ cell.0 ∷ list_at lists cell.1) × (cell.1 < list)
first-of {T} cells lists list cell e l positive within is =
    let inside : list - 1 < length cells = omega (arith, count-of cells lists e, positive, within) in
    let number : list ≡ 1 + (list - 1) = omega (arith, positive) in
    let here : list_at (grown ([] ∷ []) cells) (1 + (list - 1)) ≡ (get_or cells (list - 1) cell).0 ∷ list_at (grown ([] ∷ []) cells) (get_or cells (list - 1) cell).1 = list_at-cell ([] ∷ []) cells (list - 1) cell l inside in
    let before : (get_or cells (list - 1) cell).1 < 1 + (list - 1) = linked-at 1 cells (list - 1) cell l inside in (
      ap (λ (ls : List (List T)). list_at ls list) (sym e) ∙ ap (list_at (grown ([] ∷ []) cells)) number ∙ here
          ∙ ap (λ (k : T × ℕ). k.0 ∷ list_at (grown ([] ∷ []) cells) k.1) (sym is) ∙ ap (λ (ls : List (List T)). cell.0 ∷ list_at ls cell.1) e,
      omega (arith, before, ap (λ (k : T × ℕ). k.1) is, positive),
    )

-- ---- lists that are added to

pub grows_not : {T : Type 0} (lists : List (List T)) → Grows lists lists
grows_not lists = record { more = []; is = sym (append-nil lists) }

pub grows_on : {T : Type 0} (a b c : List (List T)) → Grows a b → Grows b c → Grows a c
grows_on a b c x y = record { more = x.more ++ y.more; is = y.is ∙ ap (λ (ls : List (List _)). ls ++ y.more) x.is ∙ append_assoc a x.more y.more }

pub grows_one : {T : Type 0} (a b : List (List T)) (list : List T) → b ≡ a ++ list ∷ [] → Grows a b
grows_one a b list e = record { more = list ∷ []; is = e }

pub longer : {T : Type 0} (a b : List (List T)) → Grows a b → length a ≤ length b
longer a b x = omega (arith, ap length x.is, length-append a x.more)

pub list_at-grows : {T : Type 0} (a b : List (List T)) (i : ℕ) → Grows a b → i < length a → list_at b i ≡ list_at a i
unfolding list_at
list_at-grows a b i x h = ap (λ (ls : List (List _)). get_or ls i []) x.is ∙ get_or-append a x.more [] i h

pub list_at-last : {T : Type 0} (a b : List (List T)) (list : List T) → b ≡ a ++ list ∷ [] → list_at b (length a) ≡ list
unfolding list_at
list_at-last a b list e = ap (λ (ls : List (List _)). get_or ls (length a) []) e ∙ get_or-append_seam a list [] []

-- one more item of some put in front
pub stacked : {T : Type 0} (items : List T) (item : T) (count : ℕ) (before after others : List T) → count < length items → item ≡ get_or items (length items - 1 - count) item
    → before ≡ drop (length items - count) items ++ others → after ≡ item ∷ before → after ≡ drop (length items - (count + 1)) items ++ others
stacked {T} items item count before after others h is x y =
    let here : length items - (count + 1) ≡ length items - 1 - count = omega arith in
    let next : suc (length items - 1 - count) ≡ length items - count = omega (arith, h) in
    let inside : length items - 1 - count < length items = omega (arith, h) in
    y ∙ ap (λ (xs : List T). item ∷ xs) x
    ∙ ap (λ (i : ℕ). item ∷ (drop i items ++ others)) (sym next)
    ∙ ap (λ (z : T). z ∷ (drop (suc (length items - 1 - count)) items ++ others)) is
    ∙ ap (λ (xs : List T). xs ++ others) (sym (drop-cons items (length items - 1 - count) item inside))
    ∙ ap (λ (i : ℕ). drop i items ++ others) (sym here)

pub last_in : {T : Type 0} (a b : List (List T)) (list : List T) → b ≡ a ++ list ∷ [] → length a < length b
last_in a b list e = omega (arith, ap length e, length-append a (list ∷ []))
