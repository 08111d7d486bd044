-- Names, and how many of them stand behind each.
use Rattle.std.proofs.Common.{◌≡◌, ℕ, ◌+◌, ◌<◌, Bool, true, false, cond, not, ◌||◌, ◌&&◌, Decides, List, [], ◌∷◌, ◌++◌, length, get_or, take, drop, reverse, Option, Some, None, refl, sym, ap, ◌∙◌, subst, arith}
use Rattle.std.specs.Prelude.{is_some}
use Rattle.std.specs.Borrow.{Bor}
use Rattle.std.specs.HashMap.{HashMap, get_by}
use Rattle.std.specs.List.{list_any}
use Rattle.std.specs.Option.{option_map}
use Rattle.std.specs.Str.{bytes_eq}
use Rattle.std.proofs.lemmas.Bool.Decides.{same_from_decides}
use Rattle.std.proofs.lemmas.List.{map-append, reverse-append, take-append-drop, take_more}
use Rattle.std.proofs.lemmas.List.Folds.{list_any-append}
use Rattle.std.proofs.lemmas.Slice.Eq.{bytes_eq-Decides}
use Rattle.rz_pool.specs.declared.keys.HashKey.{HashKey}
use Rattle.rz_syntax.specs.declared.forms.Form.{Form}
use Rattle.rz_syntax.specs.declared.forms.Form.TheVariants as form
use Rattle.rz_shape.specs.declared.local.Binder.{Binder}
use Rattle.rz_shape.specs.declared.local.Binder.TheVariants.{Point}
use Rattle.rz_tope_query.specs.Sequent.{are_distinct, bound_form, bound_name, place_of, point_binders}
use Rattle.rz_tope_query.specs.Parts.{HasPlaces}

abbrev Table : Type 0
Table = HashMap (Bor (List ℕ)) ℕ HashKey

-- what a table has for a name
abbrev pub told : Table → List ℕ → Option ℕ
told places name = get_by (λ key. bytes_eq name key.now) places

bytes_sym : (x y : List ℕ) → bytes_eq x y ≡ bytes_eq y x
bytes_sym x y =
    let one : Decides (bytes_eq x y) (x ≡ y) = bytes_eq-Decides x y in
    let back = bytes_eq-Decides y x in
    let other : Decides (bytes_eq y x) (x ≡ y) = (λ e. sym (back.0 e), λ p. back.1 (sym p)) in
    same_from_decides (bytes_eq x y) (bytes_eq y x) one other

-- ---- distinct names

regroup : (a d b e : Bool) → (not (a || (e || false)) && (d && not b)) ≡ ((not a && d) && not (e || b))
regroup true true true true = refl
regroup true true true false = refl
regroup true true false true = refl
regroup true true false false = refl
regroup true false true true = refl
regroup true false true false = refl
regroup true false false true = refl
regroup true false false false = refl
regroup false true true true = refl
regroup false true true false = refl
regroup false true false true = refl
regroup false true false false = refl
regroup false false true true = refl
regroup false false true false = refl
regroup false false false true = refl
regroup false false false false = refl

-- one name more is distinct where it isn't among the others
distinct_push : (xs : List (List ℕ)) (x : List ℕ) → are_distinct (xs ++ x ∷ []) ≡ (are_distinct xs && not (list_any (bytes_eq x) xs))
distinct_push [] x = refl
distinct_push (y ∷ ys) x =
    let a = list_any (bytes_eq y) ys in
    let d = are_distinct ys in
    let b = list_any (bytes_eq x) ys in
    ap (λ (t : Bool). not t && are_distinct (ys ++ x ∷ [])) (list_any-append (bytes_eq y) ys (x ∷ []))
    ∙ (ap (λ (t : Bool). not (a || (bytes_eq y x || false)) && t) (distinct_push ys x)
    ∙ (regroup a d b (bytes_eq y x) ∙ ap (λ (t : Bool). (not a && d) && not (t || b)) (bytes_sym y x)))

and_false : (a : Bool) → (a && false) ≡ false
and_false true = refl
and_false false = refl

or_true : (a : Bool) → (a || true) ≡ true
or_true true = refl
or_true false = refl

or_false : (a : Bool) → (a || false) ≡ a
or_false true = refl
or_false false = refl

-- names some of which aren't distinct
distinct_front : (xs ys : List (List ℕ)) → are_distinct xs ≡ false → are_distinct (xs ++ ys) ≡ false
distinct_front [] ys h = let wrong : true ≡ false = h in absurd cc
distinct_front (x ∷ xs) ys h = cases (list_any (bytes_eq x) xs) refl (distinct_front xs ys) where
  cases : (a : Bool) → list_any (bytes_eq x) xs ≡ a → (are_distinct xs ≡ false → are_distinct (xs ++ ys) ≡ false) → are_distinct ((x ∷ xs) ++ ys) ≡ false
  cases true e front =
      ap (λ (t : Bool). not t && are_distinct (xs ++ ys)) (list_any-append (bytes_eq x) xs ys ∙ ap (λ (t : Bool). t || list_any (bytes_eq x) ys) e)
  cases false e front =
      let rest : are_distinct xs ≡ false = sym (ap (λ (t : Bool). not t && are_distinct xs) e) ∙ h in
      ap (λ (t : Bool). not (list_any (bytes_eq x) (xs ++ ys)) && t) (front rest) ∙ and_false (not (list_any (bytes_eq x) (xs ++ ys)))

-- ---- the table

-- The table has each of these distinct names, with how many stand behind it, where some more follow.
pub record IsTold (names : List (List ℕ)) (more : ℕ) (places : Table) : Type 0 where
  pub distinct : are_distinct names ≡ true
  pub any : (name : List ℕ) → is_some (told places name) ≡ list_any (bytes_eq name) names
  pub place : (name : List ℕ) → told places name ≡ option_map (λ up. more + up) (place_of name (reverse names))

-- the empty table
pub told_none : (more : ℕ) (places : Table) → ((name : List ℕ) → told places name ≡ None) → IsTold [] more places
told_none more places none = record {
  distinct = refl;
  any = λ name. ap is_some (none name);
  place = none;
}

further : (high more : ℕ) (o : Option ℕ) → high ≡ more + 1 → option_map (λ up. high + up) o ≡ option_map (λ up. more + up) (option_map (λ up. 1 + up) o)
further high more None h = refl
further high more (Some up) h = ap Some (let e : high + up ≡ more + (1 + up) = omega (arith, h) in e)

-- one name more, which the table doesn't have
pub told_push : (names : List (List ℕ)) (name : List ℕ) (high more : ℕ) (old new : Table) → IsTold names high old → high ≡ more + 1 → told old name ≡ None
    → ((other : List ℕ) → told new other ≡ cond (bytes_eq name other) (Some more) (told old other)) → IsTold (names ++ name ∷ []) more new
told_push names name high more old new is step absent update = record {
  distinct = distinct_push names name
      ∙ (ap (λ (t : Bool). are_distinct names && not t) (sym (is.any name) ∙ ap is_some absent)
      ∙ ap (λ (t : Bool). t && true) is.distinct);
  any = λ other. ap is_some (update other) ∙ (among other (bytes_eq name other) refl
      ∙ sym (list_any-append (bytes_eq other) names (name ∷ [])));
  place = λ other. update other ∙ (placed other (bytes_eq name other) refl
      ∙ sym (ap (λ (ns : List (List ℕ)). option_map (λ up. more + up) (place_of other ns)) (reverse-append names (name ∷ []))));
}
  where
    among : (other : List ℕ) (b : Bool) → bytes_eq name other ≡ b
        → is_some (cond b (Some more) (told old other)) ≡ (list_any (bytes_eq other) names || (bytes_eq other name || false))
    among other true e =
        let same : bytes_eq other name ≡ true = bytes_sym other name ∙ e in
        sym (ap (λ (t : Bool). list_any (bytes_eq other) names || (t || false)) same ∙ or_true (list_any (bytes_eq other) names))
    among other false e =
        let same : bytes_eq other name ≡ false = bytes_sym other name ∙ e in
        is.any other ∙ sym (ap (λ (t : Bool). list_any (bytes_eq other) names || (t || false)) same ∙ or_false (list_any (bytes_eq other) names))

    placed : (other : List ℕ) (b : Bool) → bytes_eq name other ≡ b
        → cond b (Some more) (told old other) ≡ option_map (λ up. more + up) (place_of other (name ∷ reverse names))
    placed other true e =
        let same : bytes_eq other name ≡ true = bytes_sym other name ∙ e in
        ap Some (let e : more ≡ more + 0 = omega arith in e)
        ∙ sym (ap (λ (t : Bool). option_map (λ up. more + up) (cond t (Some 0) (option_map (λ up. 1 + up) (place_of other (reverse names))))) same)
    placed other false e =
        let same : bytes_eq other name ≡ false = bytes_sym other name ∙ e in
        is.place other ∙ further high more (place_of other (reverse names)) step
        ∙ sym (ap (λ (t : Bool). option_map (λ up. more + up) (cond t (Some 0) (option_map (λ up. 1 + up) (place_of other (reverse names))))) same)

-- a name that the table has stands twice
pub stands_twice : (names : List (List ℕ)) (name : List ℕ) (rest : List (List ℕ)) (more : ℕ) (places : Table) → IsTold names more places
    → is_some (told places name) ≡ true → are_distinct ((names ++ name ∷ []) ++ rest) ≡ false
stands_twice names name rest more places is there =
    distinct_front (names ++ name ∷ []) rest
    (distinct_push names name ∙ (ap (λ (t : Bool). are_distinct names && not t) (sym (is.any name) ∙ there) ∙ and_false (are_distinct names)))

-- ---- a name at a place

names_at : (names : List (List ℕ)) (place : ℕ) (name : List ℕ) → place < length names → name ≡ get_or names place name → take (place + 1) names ≡ take place names ++ name ∷ []
names_at names place name less here = take_more names place name less ∙ ap (λ (n : List ℕ). take place names ++ n ∷ []) (sym here)

none_there : (o : Option ℕ) → is_some o ≡ false → o ≡ None
none_there None h = refl
none_there (Some x) h = absurd cc

pub told_more : (names : List (List ℕ)) (place : ℕ) (name key : List ℕ) (high more : ℕ) (old new : Table) (there : Option ℕ) → place < length names → name ≡ get_or names place name → key ≡ name
    → IsTold (take place names) high old → high ≡ more + 1 → there ≡ told old key → is_some there ≡ false
    → ((other : List ℕ) → told new other ≡ cond (bytes_eq key other) (Some more) (told old other)) → IsTold (take (place + 1) names) more new
told_more names place name key high more old new there less here same is step found absent update =
    subst (λ (ns : List (List ℕ)). IsTold ns more new) (sym (names_at names place name less here))
    (told_push (take place names) name high more old new is step (none_there (told old name) (ap is_some (ap (told old) (sym same) ∙ sym found) ∙ absent))
    (subst (λ (k : List ℕ). (other : List ℕ) → told new other ≡ cond (bytes_eq k other) (Some more) (told old other)) same update))

pub told_twice : (names : List (List ℕ)) (place : ℕ) (name key : List ℕ) (more : ℕ) (places : Table) (there : Option ℕ) → place < length names → name ≡ get_or names place name → key ≡ name
    → IsTold (take place names) more places → there ≡ told places key → is_some there ≡ true → are_distinct names ≡ false
told_twice names place name key more places there less here same is found present =
    ap are_distinct (sym (take-append-drop (place + 1) names) ∙ ap (λ (ns : List (List ℕ)). ns ++ drop (place + 1) names) (names_at names place name less here))
    ∙ stands_twice (take place names) name (drop (place + 1) names) more places is (ap is_some (ap (told places) (sym same) ∙ sym found) ∙ present)

none_more : (o : Option ℕ) → option_map (λ up. 0 + up) o ≡ o
none_more None = refl
none_more (Some up) = ap Some (let e : 0 + up ≡ up = omega arith in e)

-- the table of all names
pub told_all : (names : List (List ℕ)) (places : Table) → IsTold names 0 places → HasPlaces names places
told_all names places is name = is.place name ∙ none_more (place_of name (reverse names))

-- ---- forms

-- a name that the table has is a bound name
pub bound_is : (names : List (List ℕ)) (name key : List ℕ) (of : Form) (found : Option ℕ) → of ≡ form.Named name → key ≡ name → found ≡ place_of key (reverse names)
    → bound_name name found ≡ bound_form names of
bound_is names name key of found is same there =
    ap (bound_name name) (there ∙ ap (λ (k : List ℕ). place_of k (reverse names)) same) ∙ sym (ap (bound_form names) is)

-- ---- binders

-- a binder for one name more
pub binders_more : (names : List (List ℕ)) (place : ℕ) (binders : List Binder) → place < length names → binders ≡ point_binders (take place names)
    → binders ++ Point ∷ [] ≡ point_binders (take (place + 1) names)
binders_more names place binders less so =
    ap (λ (bs : List Binder). bs ++ Point ∷ []) so
    ∙ (sym (map-append (λ name. Point) (take place names) (get_or names place [] ∷ [])) ∙ sym (ap point_binders (take_more names place [] less)))
