-- Which answer is right on a file, and that it alone is.
use Rattle.std.proofs.Common.{◌≡◌, ℕ, zero, suc, ◌+◌, ◌<◌, ◌≤◌, ◌^◌, Bool, true, false, cond, eqb, List, [], ◌∷◌, ◌++◌, length, take, drop, refl, sym, ap, subst, ◌∙◌, append_assoc, arith, inl, inr}
use Rattle.std.specs.List.{onto_first, concat}
use Rattle.std.proofs.Math.Seq.{take-append_seam}
use Rattle.std.proofs.lemmas.Bool.{cases_order}
use Rattle.std.proofs.lemmas.List.{length-append, length-map, take-append-drop}
use Rattle.rz_rules.specs.File.{Item, FileState, empty_state, header, end_line, lines, lines_of, Fits, ItemFollows, extended, AllFit, AllFollow, state_after, BeginsFile, BeginsDerivations}
use Rattle.rz_drv.specs.declared.faults.DrvFault.{DrvFault}
use Rattle.rz_drv.specs.declared.faults.DrvFault.TheVariants as faults
use Rattle.rz_drv.specs.declared.reading.Reader.{Reader}
use Rattle.rz_drv.specs.Lines.{item_line, item_lines, BreaksAt}
use Rattle.rz_drv.specs.Reading.{HasRead, IsFirstFault, IsNextFault}
use Rattle.rz_drv.proofs.Runs.{IsRoomy, roomy_nothing, fit_more, known_more, lines_more, next_item, same_items, lines_concat, spelling_long}
use Rattle.rz_drv.proofs.Spellings.{last_fits}
use Rattle.rz_drv.proofs.Texts.{concat_lines}
use Rattle.rz_kernel.specs.declared.answer.KernelAnswer.{KernelAnswer}
use Rattle.rz_kernel.specs.declared.answer.KernelAnswer.TheVariants.{Yes, Malformed, BadRow}
use Rattle.rz_kernel.specs.Answer.{IsFirstBad, KernelSays}
use Rattle.rz_kernel.specs.Run.{LinesSay, FaultSays, HasTaken}

follow_more : (known : FileState) (p r : List Item) → AllFollow known p → AllFollow (state_after known p) r → AllFollow known (p ++ r)
follow_more known [] r hp hr = hr
follow_more known (x ∷ p) r hp hr = (hp.0, follow_more (extended known x) p r hp.1 hr)

follow_rest : (known : FileState) (p r : List Item) → AllFollow known (p ++ r) → AllFollow (state_after known p) r
follow_rest known [] r h = h
follow_rest known (x ∷ p) r h = follow_rest (extended known x) p r h.1

-- ---- beginnings

begins : (p : List Item) → AllFit empty_state p → AllFollow empty_state p → BeginsDerivations (header ∷ item_lines p)
begins p fit follows = (p, fit, follows, end_line ∷ [] ∷ [], refl)

begins_file : (front : List (List ℕ)) → BeginsDerivations front → BeginsFile front
begins_file front (items, fit, follows, rest, e) = (items, fit, rest, e)

-- no file of derivations begins with these items and then a step that doesn't follow
no_follow : (p : List Item) (x : Item) → IsRoomy empty_state (length p) → AllFit empty_state p → Fits (state_after empty_state p) x → (ItemFollows (state_after empty_state p) x → ⊥)
    → BeginsDerivations ((header ∷ item_lines p) ++ item_line x ∷ []) → ⊥
no_follow p x roomy fp fits none (q, fq, follows, rest, e) =
    let on = next_item p q x rest roomy fp fits fq e in
    none (follow_rest empty_state p (x ∷ on.0) (subst (λ (z : List Item). AllFollow empty_state z) on.1 follows)).0

-- a file begins with these items and another that fits
begins_more : (p : List Item) (x : Item) → AllFit empty_state p → Fits (state_after empty_state p) x → BeginsFile ((header ∷ item_lines p) ++ item_line x ∷ [])
begins_more p x fp fits = (
  p ++ x ∷ [],
  fit_more empty_state p (x ∷ []) fp (fits, tt),
  end_line ∷ [] ∷ [],
  ap (λ ls. header ∷ ls) (lines_more p x (end_line ∷ [] ∷ []) ∙ sym (append_assoc (item_lines p) (item_line x ∷ []) (end_line ∷ [] ∷ []))),
)

-- ---- answers

taken_front : (front : List (List ℕ)) (line : List ℕ) (more : List (List ℕ)) → take (suc (length front)) (front ++ line ∷ more) ≡ front ++ line ∷ []
taken_front [] line more = refl
taken_front (l ∷ front) line more = ap (λ ls. l ∷ ls) (taken_front front line more)

first_bad : (front : List (List ℕ)) (line : List ℕ) (more : List (List ℕ)) → BeginsDerivations front → (BeginsDerivations (front ++ line ∷ []) → ⊥) → IsFirstBad (front ++ line ∷ more) (suc (length front))
first_bad front line more good bad = record {
  place = length front;
  counted = refl;
  there = let long = length-append front (line ∷ more) in omega (arith, long);
  good = subst BeginsDerivations (sym (take-append_seam front (line ∷ more))) good;
  bad = (λ h. bad (subst BeginsDerivations (taken_front front line more) h));
}

bad_row : (all front : List (List ℕ)) (line : List ℕ) (more : List (List ℕ)) (number : ℕ) → all ≡ front ++ line ∷ more → number ≡ suc (length front) → BeginsDerivations front
    → BeginsFile (front ++ line ∷ []) → (BeginsDerivations (front ++ line ∷ []) → ⊥) → LinesSay all (BadRow number)
bad_row all front line more number is at good some none =
    subst (λ (n : ℕ). LinesSay all (BadRow n)) (sym at) (subst (λ (ls : List (List ℕ)). LinesSay ls (BadRow (suc (length front)))) (sym is)
    (first_bad front line more good none, subst BeginsFile (sym (taken_front front line more)) some))

-- ---- no other answer

prefix : (i j : ℕ) (ls : List (List ℕ)) → i ≤ j → (more : List (List ℕ)) × (take j ls ≡ take i ls ++ more)
prefix zero j ls le = (take j ls, refl)
prefix (suc i) zero ls le = absurd (omega arith)
prefix (suc i) (suc j) [] le = ([], refl)
prefix (suc i) (suc j) (l ∷ ls) le = let rest = prefix i j ls (omega arith) in (rest.0, ap (λ ms. l ∷ ms) rest.1)

begins_less : (i j : ℕ) (ls : List (List ℕ)) → i ≤ j → BeginsDerivations (take j ls) → BeginsDerivations (take i ls)
begins_less i j ls le (items, fit, follows, rest, e) =
    let p = prefix i j ls le in
    (items, fit, follows, p.0 ++ rest, e ∙ ap (λ ms. ms ++ rest) p.1 ∙ append_assoc (take i ls) p.0 rest)

later : (all : List (List ℕ)) (m n : ℕ) (a : IsFirstBad all m) (b : IsFirstBad all n) → a.place < b.place → ⊥
later all m n a b lt = a.bad (begins_less (suc a.place) b.place all (omega arith) b.good)

same_place : (all : List (List ℕ)) (m n : ℕ) → IsFirstBad all m → IsFirstBad all n → m ≡ n
same_place all m n a b =
    elim (cases_order a.place b.place) [
      | inl e ↦ a.counted ∙ ap suc e ∙ sym b.counted
      | inr o ↦ elim o [
        | inl lt ↦ absurd (later all m n a b lt)
        | inr lt ↦ absurd (later all n m b a lt)
      ]
    ]

-- no line of a file of derivations is bad
none_bad : (all : List (List ℕ)) (claims n : ℕ) → LinesSay all (Yes claims) → IsFirstBad all n → ⊥
none_bad all claims n (items, fit, follows, is, counted) bad =
    bad.bad (items, fit, follows, drop (suc bad.place) all, sym is ∙ sym (take-append-drop (suc bad.place) all))

items_long : (p : List Item) → length (lines_of p) ≡ length p + 3
items_long p =
    let a = length-append (item_lines p) (end_line ∷ [] ∷ []) in
    let b = length-map p item_line in
    omega (arith, a, b)

known_claims : List Item → ℕ
known_claims items = length (state_after empty_state items).claims

same_claims : (all : List (List ℕ)) (m n : ℕ) → length all < 2 ^ 64 → LinesSay all (Yes m) → LinesSay all (Yes n) → m ≡ n
unfolding known_claims
same_claims all m n small (p, fp, gp, is, counted) (q, fq, gq, is', counted') =
    let long = items_long p in
    let same = same_items p q (omega (arith, long, ap length is, small)) fp fq (sym is' ∙ is) in
    counted ∙ ap known_claims same ∙ sym counted'

one_answer : (all : List (List ℕ)) (a b : KernelAnswer) → length all < 2 ^ 64 → LinesSay all a → LinesSay all b → a ≡ b
one_answer all (Yes m) (Yes n) small h g = ap (λ k. Yes k) (same_claims all m n small h g)
one_answer all (Yes m) (Malformed n) small h g = absurd (none_bad all m n h g.0)
one_answer all (Yes m) (BadRow n) small h g = absurd (none_bad all m n h g.0)
one_answer all (Malformed m) (Yes n) small h g = absurd (none_bad all n m g h.0)
one_answer all (BadRow m) (Yes n) small h g = absurd (none_bad all n m g h.0)
one_answer all (Malformed m) (Malformed n) small h g = ap (λ k. Malformed k) (same_place all m n h.0 g.0)
one_answer all (BadRow m) (BadRow n) small h g = ap (λ k. BadRow k) (same_place all m n h.0 g.0)
one_answer all (Malformed m) (BadRow n) small h g = absurd (h.1 (subst (λ (k : ℕ). BeginsFile (take k all)) (same_place all n m g.0 h.0) g.1))
one_answer all (BadRow m) (Malformed n) small h g = absurd (g.1 (subst (λ (k : ℕ). BeginsFile (take k all)) (same_place all m n h.0 g.0) h.1))

-- ---- lines and bytes

lines_few : (bytes : List ℕ) → length (lines bytes) ≤ length bytes + 1
lines_few [] = omega arith
lines_few (b ∷ bytes) = let le = few_cond (eqb b 10) (lines_few bytes) in omega (arith, le) where
  few_onto : (ls : List (List ℕ)) → length ls ≤ length bytes + 1 → length (onto_first b ls) ≤ length bytes + 2
  few_onto [] le = omega arith
  few_onto (l ∷ ls) le = omega arith

  few_cond : (t : Bool) → length (lines bytes) ≤ length bytes + 1 → length (cond t ((b ∷ []) ∷ lines bytes) (onto_first b (lines bytes))) ≤ length bytes + 2
  few_cond true le = omega arith
  few_cond false le = few_onto (lines bytes) le

to_reads : (bytes : List ℕ) (a : KernelAnswer) → length bytes < 2 ^ 64 → KernelSays bytes a → LinesSay (lines bytes) a
to_reads bytes (Yes n) small (claims, (p, fit, follows, is, told), counted) =
    let le = spelling_long p in
    (p, fit, follows, ap lines is ∙ lines_concat p (omega (arith, le, ap length is, small)) fit, counted ∙ ap length told)
to_reads bytes (Malformed n) small h = h
to_reads bytes (BadRow n) small h = h

from_reads : (bytes : List ℕ) (a : KernelAnswer) → LinesSay (lines bytes) a → KernelSays bytes a
from_reads bytes (Yes n) (p, fit, follows, is, counted) =
    ((state_after empty_state p).claims, (p, fit, follows, sym (concat_lines bytes) ∙ ap concat is, refl), counted)
from_reads bytes (Malformed n) h = h
from_reads bytes (BadRow n) h = h

pub only_answer : (bytes : List ℕ) (a b : KernelAnswer) → length bytes + 1 < 2 ^ 64 → KernelSays bytes a → KernelSays bytes b → a ≡ b
only_answer bytes a b small h g =
    one_answer (lines bytes) a b (omega (arith, lines_few bytes)) (to_reads bytes a (omega arith) h) (to_reads bytes b (omega arith) g)

-- ---- a run

-- the first line is none of a file
pub first_says : (bytes : List ℕ) (fault : DrvFault) → IsFirstFault bytes fault → FaultSays bytes fault
first_says bytes (faults.Malformed line) (bad, one) = (
  record {
    place = bad.place;
    counted = bad.counted;
    there = bad.there;
    good = let none : 0 ≡ bad.place = omega (arith, bad.counted, one) in subst (λ (n : ℕ). BeginsDerivations (take n (lines bytes))) none ([], tt, tt, lines_of [], refl);
    bad = λ h. bad.bad (begins_file (take (suc bad.place) (lines bytes)) h);
  },
  λ h. bad.bad (subst (λ (n : ℕ). BeginsFile (take n (lines bytes))) bad.counted h),
)
first_says bytes faults.OutOfMemory bad = absurd bad

module _ (bytes : List ℕ) (reader : Reader) (known : FileState) (taken : HasTaken bytes reader known) where
  -- behind the items the file breaks off
  pub next_says : (fault : DrvFault) → IsNextFault reader fault → FaultSays bytes fault
  next_says (faults.Malformed line) bad =
      let breaks : BreaksAt (lines bytes) taken.items line = bad bytes taken.items taken.read in (
        record {
          place = breaks.place;
          counted = breaks.counted;
          there = breaks.there;
          good = (taken.items, taken.read.fit, taken.follow, breaks.rest, breaks.good);
          bad = λ h. breaks.bad (begins_file (take (suc breaks.place) (lines bytes)) h);
        },
        λ h. breaks.bad (subst (λ (n : ℕ). BeginsFile (take n (lines bytes))) breaks.counted h),
      )
  next_says faults.OutOfMemory bad = tt

  pub end_says : lines bytes ≡ lines_of taken.items → KernelSays bytes (Yes (length known.claims))
  end_says is =
      from_reads bytes (Yes (length known.claims)) (taken.items, taken.read.fit, taken.follow, is, ap (λ (k : FileState). length k.claims) taken.known_is)

  module _ (new : Reader) (x : Item) (read : HasRead bytes (taken.items ++ x ∷ []) new) where
    fits_after : Fits (state_after empty_state taken.items) x
    fits_after = last_fits empty_state taken.items x read.fit

    pub next_fits : Fits known x
    next_fits = subst (λ (k : FileState). Fits k x) (sym taken.known_is) fits_after

    -- the item is a step that doesn't follow
    pub step_says : (line : ℕ) → line ≡ length (taken.items ++ x ∷ []) + 1 → (ItemFollows known x → ⊥) → KernelSays bytes (BadRow line)
    step_says line counted none =
        let front : List (List ℕ) = header ∷ item_lines taken.items in
        let p = taken.items in
        let a = length-map p item_line in
        let b = length-append p (x ∷ []) in
        let roomy = roomy_nothing (length p) (omega (arith, read.room, read.count, b)) in
        from_reads bytes (BadRow line)
        (bad_row (lines bytes) front (item_line x) (lines new.rest.now) line
        (read.split ∙ ap (λ ls. header ∷ ls) (lines_more p x (lines new.rest.now)))
        (omega (arith, counted, a, b))
        (begins p taken.read.fit taken.follow) (begins_more p x taken.read.fit fits_after)
        (no_follow p x roomy taken.read.fit fits_after (λ h. none (subst (λ (k : FileState). ItemFollows k x) (sym taken.known_is) h))))

    -- the item is good
    pub taken_more : (after : FileState) → after ≡ extended known x → ItemFollows known x → HasTaken bytes new after
    taken_more after is follows = record {
      items = taken.items ++ x ∷ [];
      read = read;
      follow = follow_more empty_state taken.items (x ∷ []) taken.follow (subst (λ (k : FileState). ItemFollows k x) taken.known_is follows, tt);
      known_is = is ∙ ap (λ k. extended k x) taken.known_is ∙ sym (known_more empty_state taken.items (x ∷ []));
    }
