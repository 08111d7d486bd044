-- Trying all rank lists tells whether a tope follows.
use Rattle.std.proofs.Common.{◌≡◌, ℕ, zero, suc, ◌+◌, ◌<◌, ◌≤◌, Bool, true, false, ◌&&◌, true≢false, List, [], ◌∷◌, length, map, All, refl, sym, ap, ◌∙◌, inl, inr, arith}
use Rattle.std.specs.Prelude.{◌↔◌, ◌||◌, not, IsTrue}
use Rattle.std.specs.List.{flat_map, list_all, range_with_len}
use Rattle.std.specs.Cmp.{first_so, second_so}
use Rattle.std.proofs.lemmas.Bool.{cases_lt}
use Rattle.std.proofs.lemmas.List.{length-map}
use Rattle.std.proofs.lemmas.List.Folds.{list_all-append, list_all-map}
use Rattle.std.proofs.lemmas.List.Elements.{All-head, All-tail, All-cons, All-nil}
use Rattle.rz_rules.specs.declared.coordinates.Coord.{Coord}
use Rattle.rz_rules.specs.Tree.{Tree}
use Rattle.rz_rules.specs.Cube.{binders_of}
use Rattle.rz_rules.specs.Validity.{RankList, rank_in, truth, are_true, occurring, IsRankList, keeps_truth, IsValid, lists_below, is_valid}

both_so : (a b : Bool) → a ≡ true → b ≡ true → (a && b) ≡ true
both_so a b p q = ap (λ x. x && b) p ∙ q

-- a test of all items of joined lists tests all items of each of them
list_all-flat_map : {X Y : Type 0} (p : Y → Bool) (f : X → List Y) (xs : List X) → list_all p (flat_map f xs) ≡ list_all (λ x. list_all p (f x)) xs
list_all-flat_map p f [] = refl
list_all-flat_map p f (x ∷ xs) = list_all-append p (f x) (flat_map f xs) ∙ ap (λ b. list_all p (f x) && b) (list_all-flat_map p f xs)

-- a test that passes in a range passes at each of its numbers, and the other way round
passes_at : (p : ℕ → Bool) (from count : ℕ) → list_all p (range_with_len from count) ≡ true → (n : ℕ) → from ≤ n → n < from + count → p n ≡ true
passes_at p from zero all n low high = absurd (omega arith)
passes_at p from (suc count) all n low high = elim (cases_lt from n) [
  | inl above ↦ passes_at p (from + 1) count (second_so (p from) (list_all p (range_with_len (from + 1) count)) all) n (omega arith) (omega arith)
  | inr here ↦
      let same : from ≡ n = omega arith in
      ap p (sym same) ∙ first_so (p from) (list_all p (range_with_len (from + 1) count)) all
]

passes_all : (p : ℕ → Bool) (from count : ℕ) → ((n : ℕ) → n < from + count → p n ≡ true) → list_all p (range_with_len from count) ≡ true
passes_all p from zero each = refl
passes_all p from (suc count) each =
    both_so (p from) (list_all p (range_with_len (from + 1) count)) (each from (omega arith))
    (passes_all p (from + 1) count (λ n high. each n (omega arith)))

-- a list that gives each of these coordinates a number below a limit
record IsBelow (limit : ℕ) (coordinates : List Coord) (ranks : RankList) : Type 0 where
  pub coordinates_are : map (λ pair. pair.0) ranks ≡ coordinates
  pub small : All (λ pair. pair.1 < limit) ranks

first_lists : ℕ → Coord → RankList → List RankList
first_lists limit first ranks = map (λ rank. (first, rank) ∷ ranks) (range_with_len 0 limit)

-- the test of all lists for one coordinate more
all_lists : (limit : ℕ) (first : Coord) (rest : List Coord) (p : RankList → Bool)
    → list_all p (lists_below limit (first ∷ rest)) ≡ list_all (λ ranks. list_all (λ rank. p ((first, rank) ∷ ranks)) (range_with_len 0 limit)) (lists_below limit rest)
all_lists limit first rest p =
    list_all-flat_map p (λ ranks. map (λ rank. (first, rank) ∷ ranks) (range_with_len 0 limit)) (lists_below limit rest)
    ∙ ap (λ test. list_all test (lists_below limit rest)) (λ i ranks. list_all-map p (λ rank. (first, rank) ∷ ranks) (range_with_len 0 limit) i)

passes_list : (limit : ℕ) (coordinates : List Coord) (p : RankList → Bool) → list_all p (lists_below limit coordinates) ≡ true
    → (ranks : RankList) → IsBelow limit coordinates ranks → p ranks ≡ true
passes_list limit [] p all [] below = first_so (p []) true all
passes_list limit [] p all (pair ∷ ranks) below = absurd (let e = below.coordinates_are in cc)
passes_list limit (first ∷ rest) p all [] below = absurd (let e = below.coordinates_are in cc)
passes_list limit (first ∷ rest) p all (pair ∷ ranks) below =
    let are = below.coordinates_are in
    let same : pair.0 ≡ first = cc in
    let others : map (λ pair. pair.0) ranks ≡ rest = cc in
    let test : ℕ → Bool = λ rank. p ((first, rank) ∷ ranks) in
    let tail : IsBelow limit rest ranks = record { coordinates_are = others; small = All-tail (λ pair. pair.1 < limit) pair ranks below.small } in
    let each = passes_list limit rest (λ ranks. list_all (λ rank. p ((first, rank) ∷ ranks)) (range_with_len 0 limit)) (sym (all_lists limit first rest p) ∙ all) ranks tail in
    let low : pair.1 < limit = All-head (λ pair. pair.1 < limit) pair ranks below.small in
    ap (λ c. p ((c, pair.1) ∷ ranks)) same ∙ passes_at test 0 limit each pair.1 (omega arith) (omega arith)

passes_lists : (limit : ℕ) (coordinates : List Coord) (p : RankList → Bool) → ((ranks : RankList) → IsBelow limit coordinates ranks → p ranks ≡ true)
    → list_all p (lists_below limit coordinates) ≡ true
passes_lists limit [] p each = both_so (p []) true (each [] (record { coordinates_are = refl; small = All-nil (λ pair. pair.1 < limit) })) refl
passes_lists limit (first ∷ rest) p each =
    all_lists limit first rest p
    ∙ passes_lists limit rest (λ ranks. list_all (λ rank. p ((first, rank) ∷ ranks)) (range_with_len 0 limit))
    (λ ranks below. passes_all (λ rank. p ((first, rank) ∷ ranks)) 0 limit
    (λ rank low. each ((first, rank) ∷ ranks) (record {
      coordinates_are = ap (λ cs. first ∷ cs) below.coordinates_are;
      small = All-cons (λ pair. pair.1 < limit) (first, rank) ranks (omega arith) below.small;
    })))

-- a rank list is a list of numbers below n + 2
IsBelow-ranks : (coordinates : List Coord) (ranks : RankList) → IsRankList coordinates ranks → IsBelow (length coordinates + 2) coordinates ranks
IsBelow-ranks coordinates ranks list =
    let long : length coordinates ≡ length ranks = sym (ap length list.coordinates_are) ∙ length-map ranks (λ (pair : Coord × ℕ). pair.0) in
    record { coordinates_are = list.coordinates_are; small = λ k d lt. omega (arith, list.small k d lt, long) }

IsRankList-below : (coordinates : List Coord) (ranks : RankList) → IsBelow (length coordinates + 2) coordinates ranks → IsRankList coordinates ranks
IsRankList-below coordinates ranks below =
    let long : length coordinates ≡ length ranks = sym (ap length below.coordinates_are) ∙ length-map ranks (λ (pair : Coord × ℕ). pair.0) in
    record { coordinates_are = below.coordinates_are; small = λ k d lt. omega (arith, below.small k d lt, long) }

implied : (a b : Bool) → (not a || b) ≡ true → a ≡ true → b ≡ true
implied true b h e = h
implied false b h e = absurd (true≢false (sym e))

implies : (a b : Bool) → (a ≡ true → b ≡ true) → (not a || b) ≡ true
implies true b h = h refl
implies false b h = refl

pub is_valid_iff : (context tope : Tree) → IsTrue (is_valid context tope) ↔ IsValid context tope
is_valid_iff context tope =
    let coordinates = occurring context tope in
    let holds : RankList → Bool = λ ranks. are_true (rank_in ranks) context in
    let follows : RankList → Bool = λ ranks. truth (binders_of context) (rank_in ranks) tope in (
      λ all ranks list so. implied (holds ranks) (follows ranks)
          (passes_list (length coordinates + 2) coordinates (keeps_truth context tope) all ranks (IsBelow-ranks coordinates ranks list)) so,
      λ valid. passes_lists (length coordinates + 2) coordinates (keeps_truth context tope)
          (λ ranks below. implies (holds ranks) (follows ranks) (valid ranks (IsRankList-below coordinates ranks below))),
    )
