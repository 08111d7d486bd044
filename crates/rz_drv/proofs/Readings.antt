-- A reader that has read some items: what its next line is.
use Rattle.std.proofs.Common.{◌≡◌, ◌≢◌, ℕ, suc, ◌+◌, ◌<◌, ◌≤◌, ◌^◌, Bool, true, false, cond, eqb, List, [], ◌∷◌, ◌++◌, length, take, All, refl, sym, ap, subst, ◌∙◌, append_assoc, arith}
use Rattle.std.specs.Prelude.{codes}
use Rattle.std.specs.List.{join_with_byte, slice_split, onto_first}
use Rattle.std.proofs.Math.Seq.{take-append_seam}
use Rattle.std.proofs.lemmas.List.{length-append, length-map, append_cancel_right}
use Rattle.rz_rules.specs.File.{Item, NodeItem, StepItem, ClaimItem, FileState, empty_state, words_of, header, end_line, lines, lines_of, Fits, extended, state_after, BeginsFile}
use Rattle.rz_rules.specs.Judgment.{statement}
use Rattle.rz_drv.specs.declared.faults.DrvFault.TheVariants.{Malformed}
use Rattle.rz_drv.specs.declared.items.Item.{Item as ReadItem}
use Rattle.rz_drv.specs.declared.reading.Reader.{Reader}
use Rattle.rz_drv.specs.Items.{item_of}
use Rattle.rz_drv.specs.Lines.{item_line, item_lines, BreaksAt}
use Rattle.rz_drv.specs.Outline.{IsOutline}
use Rattle.rz_drv.specs.Words.{HasWords, NoneHas}
use Rattle.rz_drv.specs.Reading.{HasRead, IsFirstFault}
use Rattle.rz_drv.proofs.Grammar.{item_same}
use Rattle.rz_drv.proofs.Texts.{lines_first, lines_last, feedless}
use Rattle.rz_drv.proofs.Runs.{IsFew, IsRoomy, item_of_fits, words_line, line_words, roomy_nothing, few_after, fit_more, known_more, lines_more, no_next, no_more, no_header}

-- ---- where a file breaks off

taken_front : (front : List (List ℕ)) (line : List ℕ) (more : List (List ℕ)) → take (suc (length front)) (front ++ line ∷ more) ≡ front ++ line ∷ []
taken_front [] line more = refl
taken_front (l ∷ front) line more = ap (λ ls. l ∷ ls) (taken_front front line more)

breaks : (all front : List (List ℕ)) (line : List ℕ) (more : List (List ℕ)) (items : List Item) (rest : List (List ℕ)) (number : ℕ) → all ≡ front ++ line ∷ more → number ≡ suc (length front)
    → lines_of items ≡ front ++ rest → (BeginsFile (front ++ line ∷ []) → ⊥) → BreaksAt all items number
breaks all front line more items rest number is at good none = record {
  place = length front;
  counted = at;
  there = let long = length-append front (line ∷ more) in omega (arith, long, ap length is);
  rest = rest;
  good = good ∙ ap (λ ls. ls ++ rest) (sym (ap (take (length front)) is ∙ take-append_seam front (line ∷ more)));
  bad = λ h. none (subst BeginsFile (ap (take (suc (length front))) is ∙ taken_front front line more) h);
}

-- what is left behind has a first line, which isn't empty
lines_some : (bytes : List ℕ) → bytes ≢ [] → (line : List ℕ) × (more : List (List ℕ)) × (line ≢ []) × (lines bytes ≡ line ∷ more)
lines_some [] some = absurd (some refl)
lines_some (b ∷ bytes) some = cond_some (eqb b 10) (lines bytes) where
  onto_some : (ls : List (List ℕ)) → (line : List ℕ) × (more : List (List ℕ)) × (line ≢ []) × (onto_first b ls ≡ line ∷ more)
  onto_some [] = (b ∷ [], [], (λ e. absurd cc), refl)
  onto_some (l ∷ ls) = (b ∷ l, ls, (λ e. absurd cc), refl)

  cond_some : (t : Bool) (ls : List (List ℕ)) → (line : List ℕ) × (more : List (List ℕ)) × (line ≢ []) × (cond t ((b ∷ []) ∷ ls) (onto_first b ls) ≡ line ∷ more)
  cond_some true ls = (b ∷ [], ls, (λ e. absurd cc), refl)
  cond_some false ls = onto_some ls

-- ---- the steps of items

steps_few : (known : FileState) (p : List Item) → length (state_after known p).statements ≤ length known.statements + length p
steps_few known [] = omega arith
steps_few known (NodeItem x ∷ p) = let rest = steps_few (extended known (NodeItem x)) p in omega (arith, rest)
steps_few known (StepItem x ∷ p) =
    let rest = steps_few (extended known (StepItem x)) p in
    let long = length-append known.statements (statement known.trees x.says ∷ []) in
    omega (arith, rest, long)
steps_few known (ClaimItem m i ∷ p) = let rest = steps_few (extended known (ClaimItem m i)) p in omega (arith, rest)

-- ---- a reader that came so far

module _ (bytes : List ℕ) (items : List Item) (reader : Reader) (read : HasRead bytes items reader) where
  roomy : IsRoomy empty_state (length items)
  roomy = roomy_nothing (length items) (omega (arith, read.count, read.room))

  few : IsFew (state_after empty_state items)
  few = few_after empty_state items roomy

  pub steps_room : reader.outline.steps + 1 < 2 ^ 64
  steps_room = let le = steps_few empty_state items in omega (arith, le, read.outline.steps, read.count, read.room)

  abbrev front : List (List ℕ)
  front = header ∷ item_lines items

  all_is : (line : List ℕ) (more : List (List ℕ)) → lines reader.rest.now ≡ line ∷ more → lines bytes ≡ front ++ line ∷ more
  all_is line more is = read.split ∙ ap (λ ls. front ++ ls) is

  at : reader.line + 1 ≡ suc (length front)
  at = let long = length-map items item_line in omega (arith, long, read.count)

  pub no_line : All (λ b. b ≢ 10) reader.rest.now → BreaksAt (lines bytes) items (reader.line + 1)
  no_line none =
      let rest = reader.rest.now in
      breaks (lines bytes) front rest [] items (end_line ∷ [] ∷ []) (reader.line + 1) (all_is rest [] (lines_last rest none)) at refl
      (no_next items rest roomy read.fit (feedless rest (codes "end") none) (λ x fits e. feedless rest (join_with_byte 32 (words_of x)) none (sym e)))

  module _ (line behind : List ℕ) (is : reader.rest.now ≡ line ++ 10 ∷ behind) (plain : All (λ b. b ≢ 10) line) where
    lines_are : lines reader.rest.now ≡ (line ++ 10 ∷ []) ∷ lines behind
    lines_are = ap lines is ∙ lines_first line behind plain

    pub fewer : length reader.rest.now ≡ length line + 1 + length behind
    fewer = let long = length-append line (10 ∷ behind) in omega (arith, long, ap length is)

    pub at_end : line ≡ codes "end" → behind ≡ [] → lines bytes ≡ lines_of items
    at_end end nothing = all_is (line ++ 10 ∷ []) (lines behind) lines_are ∙ (λ i. front ++ (end i ++ 10 ∷ []) ∷ lines (nothing i))

    pub behind_end : line ≡ codes "end" → behind ≢ [] → BreaksAt (lines bytes) items (reader.line + 1 + 1)
    behind_end end some =
        let cut = lines_some behind some in
        breaks (lines bytes) (front ++ end_line ∷ []) cut.0 cut.1 items ([] ∷ []) (reader.line + 1 + 1)
        (all_is (line ++ 10 ∷ []) (lines behind) lines_are ∙ (λ i. front ++ (end i ++ 10 ∷ []) ∷ cut.3 i) ∙ sym (append_assoc front (end_line ∷ []) (cut.0 ∷ cut.1)))
        (let long = length-append front (end_line ∷ []) in omega (arith, long, at))
        (sym (append_assoc front (end_line ∷ []) ([] ∷ [])))
        (no_more items cut.0 roomy read.fit cut.2)

    no_fit : line ≢ codes "end" → ((x : Item) → Fits (state_after empty_state items) x → words_of x ≢ slice_split (λ b. eqb b 32) line) → BreaksAt (lines bytes) items (reader.line + 1)
    no_fit ne none =
        breaks (lines bytes) front (line ++ 10 ∷ []) (lines behind) items (end_line ∷ [] ∷ []) (reader.line + 1) (all_is (line ++ 10 ∷ []) (lines behind) lines_are) at refl
        (no_next items (line ++ 10 ∷ []) roomy read.fit (λ e. ne (append_cancel_right line (codes "end") (10 ∷ []) e))
        (λ x fits e. none x fits (line_words x line (item_of_fits (state_after empty_state items) x few fits) e)))

    pub no_item_line : line ≢ codes "end" → NoneHas (slice_split (λ b. eqb b 32) line) → BreaksAt (lines bytes) items (reader.line + 1)
    no_item_line ne none = no_fit ne (λ x fits e. none x (item_of_fits (state_after empty_state items) x few fits) e)

    module _ (item : ReadItem) (has : HasWords (slice_split (λ b. eqb b 32) line) item) where
      pub not_fitting : line ≢ codes "end" → (Fits (state_after empty_state items) (item_of item) → ⊥) → BreaksAt (lines bytes) items (reader.line + 1)
      not_fitting ne none =
          no_fit ne (λ x fits e. none (subst (Fits (state_after empty_state items)) (item_same x (item_of item) (item_of_fits (state_after empty_state items) x few fits) has.is (e ∙ sym has.spelled)) fits))

      pub read_more : (new : Reader) → new.rest.now ≡ behind → new.line ≡ reader.line + 1 → Fits (state_after empty_state items) (item_of item)
          → IsOutline (extended (state_after empty_state items) (item_of item)) new.outline → HasRead bytes (items ++ item_of item ∷ []) new
      read_more new left counted fits outline = record {
        fit = fit_more empty_state items (item_of item ∷ []) read.fit (fits, tt);
        outline = subst (λ (k : FileState). IsOutline k new.outline) (sym (known_more empty_state items (item_of item ∷ []))) outline;
        split = read.split ∙ ap (λ ls. front ++ ls) (lines_are ∙ ap (λ l. l ∷ lines behind) (sym (words_line line (words_of (item_of item)) has.spelled)))
            ∙ ap (λ ls. header ∷ ls) (sym (lines_more items (item_of item) (lines behind))) ∙ ap (λ (bs : List ℕ). (header ∷ item_lines (items ++ item_of item ∷ [])) ++ lines bs) (sym left);
        count = let long = length-append items (item_of item ∷ []) in omega (arith, long, read.count, counted);
        room = omega (arith, read.room, fewer, counted, ap length left);
      }

-- ---- the header

first_bad : (bytes line : List ℕ) (more : List (List ℕ)) → lines bytes ≡ line ∷ more → line ≢ header → IsFirstFault bytes (Malformed 1)
first_bad bytes line more is ne = (
  record {
    place = 0;
    counted = refl;
    there = omega (arith, ap length is);
    good = ([], tt, lines_of [], refl);
    bad = λ h. no_header line ne (subst BeginsFile (ap (take 1) is) h);
  },
  refl,
)

pub no_feed : (bytes : List ℕ) → All (λ b. b ≢ 10) bytes → IsFirstFault bytes (Malformed 1)
no_feed bytes none = first_bad bytes bytes [] (lines_last bytes none) (feedless bytes (codes "rzk-derivation 1") none)

pub other_header : (bytes line behind : List ℕ) → bytes ≡ line ++ 10 ∷ behind → All (λ b. b ≢ 10) line → line ≢ codes "rzk-derivation 1" → IsFirstFault bytes (Malformed 1)
other_header bytes line behind is plain ne =
    first_bad bytes (line ++ 10 ∷ []) (lines behind) (ap lines is ∙ lines_first line behind plain) (λ e. ne (append_cancel_right line (codes "rzk-derivation 1") (10 ∷ []) e))
