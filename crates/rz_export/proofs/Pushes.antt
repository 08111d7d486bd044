-- Lists that a loop makes, with one element more.
use Rattle.std.proofs.Common.{◌≡◌, ℕ, ◌+◌, ◌<◌, List, [], ◌∷◌, ◌++◌, Option, Some, length, get_or, take, map, slice_get, sym, ap, subst, ◌∙◌, append_assoc}
use Rattle.std.specs.List.{AllZip, concat}
use Rattle.std.proofs.lemmas.List.{append-nil, map-append, take_more}
use Rattle.std.proofs.lemmas.List.Folds.{concat-append}
use Rattle.rz_rules.specs.declared.judgments.Line.{Line}
use Rattle.rz_rules.specs.Judgment.{context_of, parts_of}
use Rattle.rz_export.specs.Moves.{ArePlaces}
use Rattle.rz_export.specs.Needs.{names_at, names_of}

zip_push : {A B : Type 0} (R : A → B → Type 0) (xs : List A) (ys : List B) (x : A) (y : B) → AllZip R xs ys → R x y → AllZip R (xs ++ x ∷ []) (ys ++ y ∷ [])
zip_push R [] [] x y zip r = (r, tt)
zip_push R [] (b ∷ ys) x y zip r = absurd zip
zip_push R (a ∷ xs) [] x y zip r = absurd zip
zip_push R (a ∷ xs) (b ∷ ys) x y zip r = (zip.0, zip_push R xs ys x y zip.1 r)

pub zip_more : {A B : Type 0} (R : A → B → Type 0) (xs : List A) (i : ℕ) (d : A) (ys : List B) (y : B) → i < length xs
    → AllZip R (take i xs) ys → R (get_or xs i d) y → AllZip R (take (i + 1) xs) (ys ++ y ∷ [])
zip_more R xs i d ys y within zip r =
    subst (λ front. AllZip R front (ys ++ y ∷ [])) (sym (take_more xs i d within)) (zip_push R (take i xs) ys (get_or xs i d) y zip r)

pub places_more : (list numbers places : List ℕ) (i place : ℕ) → i < length numbers → ArePlaces list (take i numbers) places
    → slice_get list place ≡ Some (get_or numbers i 0) → ArePlaces list (take (i + 1) numbers) (places ++ place ∷ [])
places_more list numbers places i place within before here =
    map-append (slice_get list) places (place ∷ [])
    ∙ (λ j. before j ++ here j ∷ [])
    ∙ sym (ap (map (λ (n : ℕ). Some n)) (take_more numbers i 0 within) ∙ map-append (λ (n : ℕ). Some n) (take i numbers) (get_or numbers i 0 ∷ []))

pub names_more : (lines : List Line) (steps : List ℕ) (i : ℕ) → i < length steps
    → names_at lines (take (i + 1) steps) ≡ names_at lines (take i steps) ++ names_of (slice_get lines (get_or steps i 0))
names_more lines steps i within =
    let f : ℕ → List ℕ = λ step. names_of (slice_get lines step) in
    let step = get_or steps i 0 in
    ap (λ (front : List ℕ). concat (map f front)) (take_more steps i 0 within)
    ∙ (ap concat (map-append f (take i steps) (step ∷ []))
    ∙ (concat-append (map f (take i steps)) (f step ∷ []) ∙ ap (λ (ids : List ℕ). concat (map f (take i steps)) ++ ids) (append-nil (f step))))

-- the ids of one line more
pub names_pushed : (lines : List Line) (steps : List ℕ) (i : ℕ) (line : Line) (ids pushed new parts : List ℕ) (context : ℕ) → i < length steps
    → slice_get lines (get_or steps i 0) ≡ Some line → ids ≡ names_at lines (take i steps) → context ≡ context_of line.says → parts ≡ parts_of line.says
    → pushed ≡ ids ++ context ∷ [] → new ≡ pushed ++ parts → new ≡ names_at lines (take (i + 1) steps)
names_pushed lines steps i line ids pushed new parts context within at before context_is parts_are first all =
    all
    ∙ (ap (λ (xs : List ℕ). xs ++ parts) first
    ∙ (append_assoc ids (context ∷ []) parts
    ∙ ((λ j. before j ++ context_is j ∷ parts_are j)
    ∙ (ap (λ (found : Option Line). names_at lines (take i steps) ++ names_of found) (sym at)
    ∙ sym (names_more lines steps i within)))))
