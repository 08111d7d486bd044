-- Items over lines: which lines a file goes on with behind items.
use Rattle.std.proofs.Common.{◌≡◌, ◌≢◌, ℕ, suc, ◌+◌, ◌<◌, ◌≤◌, ◌^◌, eqb, List, [], ◌∷◌, ◌++◌, length, map, All, refl, sym, ap, subst, ◌∙◌, append_assoc, arith}
use Rattle.std.specs.Prelude.{codes}
use Rattle.std.specs.List.{join_with_byte, slice_split, concat}
use Rattle.std.proofs.lemmas.List.{append-nil, length-append, length-map, append_cancel_right}
use Rattle.std.proofs.lemmas.List.Elements.{All-append}
use Rattle.std.proofs.lemmas.List.Splits.{join_with_byte-slice_split}
use Rattle.rz_rules.specs.declared.nodes.Node.{Node}
use Rattle.rz_rules.specs.Form.{form}
use Rattle.rz_rules.specs.Tree.{sort_of, tree_at, tree_over}
use Rattle.rz_rules.specs.Judgment.{ids_of, statement}
use Rattle.rz_rules.specs.File.{Item, NodeItem, StepItem, ClaimItem, FileState, empty_state, words_of, line_of, header, end_line, lines, lines_of, Fits, NodeFits, extended, AllFit, state_after, BeginsFile}
use Rattle.rz_drv.specs.Items.{AreSmall, IsItem}
use Rattle.rz_drv.specs.Lines.{item_line, item_lines}
use Rattle.rz_drv.proofs.Grammar.{item_same, words_some, words_end}
use Rattle.rz_drv.proofs.Texts.{words_solid, split_some, same_words, end_solid, header_solid, lines_line}

-- ---- what fits is an item, where the file has few lines

pub record IsFew (known : FileState) : Type 0 where
  pub trees : length known.trees < 2 ^ 64
  pub statements : length known.statements < 2 ^ 64

ids_small : (limit : ℕ) (ids : List ℕ) → limit < 2 ^ 64 → All (λ id. id < limit) ids → AreSmall ids
ids_small limit ids few h k d lt = omega (arith, h k d lt)

kids_count : (known : FileState) (node : Node) → NodeFits known node → length node.kids ≡ length (form node.kind).kids
kids_count known node fits =
    let a = length-map node.kids (tree_at known.trees) in
    let b = length-map (map (tree_at known.trees) node.kids) sort_of in
    let c = length-map (form node.kind).kids (λ slot. slot.sort) in
    omega (arith, a, b, c, ap length fits.form.sorts)

pub item_of_fits : (known : FileState) (item : Item) → IsFew known → Fits known item → IsItem item
item_of_fits known (NodeItem node) few fits = record {
  label = fits.form.label;
  count = kids_count known node fits;
  small = ids_small (length known.trees) node.kids few.trees fits.form.kids;
}
item_of_fits known (StepItem line) few fits = record {
  number = fits.number;
  small = All-append (λ n. n < 2 ^ 64) (ids_of line.says) line.from
      (ids_small (length known.trees) (ids_of line.says) few.trees fits.ids)
      (ids_small (length known.statements) line.from few.statements fits.from);
}
item_of_fits known (ClaimItem name step) few fits = record {
  named = fits.named;
  small = omega (arith, fits.there, few.statements);
}

-- ---- lines of items

same_line : (x y : Item) → IsItem x → IsItem y → item_line x ≡ item_line y → x ≡ y
same_line x y fx fy e = item_same x y fx fy (same_words (words_of x) (words_of y) (words_some x) (words_some y) (words_solid x fx) (words_solid y fy) e)

not_end : (x : Item) → IsItem x → item_line x ≢ end_line
not_end x is e = words_end x (same_words (words_of x) (codes "end" ∷ []) (words_some x) (λ n. absurd cc) (words_solid x is) end_solid e)

pub words_line : (line : List ℕ) (words : List (List ℕ)) → words ≡ slice_split (λ b. eqb b 32) line → line_of words ≡ line ++ 10 ∷ []
words_line line words is = ap line_of is ∙ ap (λ bs. bs ++ 10 ∷ []) (join_with_byte-slice_split 32 line)

pub line_words : (x : Item) (line : List ℕ) → IsItem x → item_line x ≡ line ++ 10 ∷ [] → words_of x ≡ slice_split (λ b. eqb b 32) line
line_words x line item is =
    sym (split_some (words_of x) (words_some x) (words_solid x item))
    ∙ ap (slice_split (λ b. eqb b 32)) (append_cancel_right (join_with_byte 32 (words_of x)) line (10 ∷ []) is)

-- ---- what is known after items

pub record IsRoomy (known : FileState) (more : ℕ) : Type 0 where
  pub trees : length known.trees + more < 2 ^ 64
  pub statements : length known.statements + more < 2 ^ 64

few_of : (known : FileState) (more : ℕ) → IsRoomy known more → IsFew known
few_of known more roomy = record { trees = omega (arith, roomy.trees); statements = omega (arith, roomy.statements) }

roomy_after : (known : FileState) (x : Item) (more : ℕ) → IsRoomy known (suc more) → IsRoomy (extended known x) more
roomy_after known (NodeItem x) more roomy = record {
  trees = let long = length-append known.trees (tree_over known.trees x ∷ []) in omega (arith, roomy.trees, long);
  statements = omega (arith, roomy.statements);
}
roomy_after known (StepItem x) more roomy = record {
  trees = omega (arith, roomy.trees);
  statements = let long = length-append known.statements (statement known.trees x.says ∷ []) in omega (arith, roomy.statements, long);
}
roomy_after known (ClaimItem m i) more roomy = record { trees = omega (arith, roomy.trees); statements = omega (arith, roomy.statements) }

pub roomy_nothing : (more : ℕ) → more < 2 ^ 64 → IsRoomy empty_state more
roomy_nothing more lt = record { trees = omega (arith, lt); statements = omega (arith, lt) }

pub few_after : (known : FileState) (p : List Item) → IsRoomy known (length p) → IsFew (state_after known p)
few_after known [] roomy = few_of known 0 roomy
few_after known (x ∷ p) roomy = few_after (extended known x) p (roomy_after known x (length p) roomy)

pub fit_more : (known : FileState) (p r : List Item) → AllFit known p → AllFit (state_after known p) r → AllFit known (p ++ r)
fit_more known [] r hp hr = hr
fit_more known (x ∷ p) r hp hr = (hp.0, fit_more (extended known x) p r hp.1 hr)

pub known_more : (known : FileState) (p r : List Item) → state_after known (p ++ r) ≡ state_after (state_after known p) r
known_more known [] r = refl
known_more known (x ∷ p) r = known_more (extended known x) p r

pub lines_more : (p : List Item) (x : Item) (ls : List (List ℕ)) → item_lines (p ++ x ∷ []) ++ ls ≡ item_lines p ++ item_line x ∷ ls
lines_more [] x ls = refl
lines_more (y ∷ p) x ls = ap (λ ms. item_line y ∷ ms) (lines_more p x ls)

-- ---- a file that begins with the lines of some items begins with the items

abbrev tail_lines : List Item → List (List ℕ)
tail_lines items = item_lines items ++ end_line ∷ [] ∷ []

-- the items behind the first
record GoesOn (known : FileState) (p q : List Item) (rest : List (List ℕ)) : Type 0 where
  pub items : List Item
  pub parts : q ≡ p ++ items
  pub fit : AllFit (state_after known p) items
  pub lines : tail_lines items ≡ rest

follow : (known : FileState) (p q : List Item) (rest : List (List ℕ)) → IsRoomy known (length p) → AllFit known p → AllFit known q
    → tail_lines q ≡ item_lines p ++ rest → GoesOn known p q rest
follow known [] q rest roomy fp fq e = record { items = q; parts = refl; fit = fq; lines = e }
follow known (x ∷ p) [] rest roomy fp fq e =
    let first : end_line ≡ item_line x = cc in
    absurd (not_end x (item_of_fits known x (few_of known _ roomy) fp.0) (sym first))
follow known (x ∷ p) (y ∷ q) rest roomy fp fq e =
    let few = few_of known _ roomy in
    let first : item_line y ≡ item_line x = cc in
    let others : tail_lines q ≡ item_lines p ++ rest = cc in
    let same : y ≡ x = same_line y x (item_of_fits known y few fq.0) (item_of_fits known x few fp.0) first in
    let fit : AllFit (extended known x) q = subst (λ (z : Item). AllFit (extended known z) q) same fq.1 in
    let on = follow (extended known x) p q rest (roomy_after known x (length p) roomy) fp.1 fit others in
    record { items = on.items; parts = (λ i. same i ∷ on.parts i); fit = on.fit; lines = on.lines }

-- the next line of a file that begins with these items: the end, or another item
pub data Next (p q : List Item) (line : List ℕ) (rest : List (List ℕ)) : Type 0 where
  Ends : line ≡ end_line → rest ≡ [] ∷ [] → Next p q line rest
  Goes : (x : Item) (items : List Item) → q ≡ p ++ x ∷ items → Fits (state_after empty_state p) x → item_line x ≡ line → Next p q line rest

next_of : (p q items : List Item) (line : List ℕ) (rest : List (List ℕ)) → q ≡ p ++ items → AllFit (state_after empty_state p) items → tail_lines items ≡ line ∷ rest → Next p q line rest
next_of p q [] line rest parts fit e =
    let one : line ≡ end_line = cc in
    let others : rest ≡ [] ∷ [] = cc in
    Ends one others
next_of p q (x ∷ items) line rest parts fit e =
    let one : item_line x ≡ line = cc in
    Goes x items parts fit.0 one

next : (p q : List Item) (line : List ℕ) (rest : List (List ℕ)) → IsRoomy empty_state (length p) → AllFit empty_state p → AllFit empty_state q
    → lines_of q ≡ ((header ∷ item_lines p) ++ line ∷ []) ++ rest → Next p q line rest
next p q line rest roomy fp fq e =
    let behind : tail_lines q ≡ (item_lines p ++ line ∷ []) ++ rest = cc in
    let on = follow empty_state p q (line ∷ rest) roomy fp fq (behind ∙ append_assoc (item_lines p) (line ∷ []) rest) in
    next_of p q on.items line rest on.parts on.fit on.lines

-- an item that a file has behind these is the only one with its line
pub next_item : (p q : List Item) (x : Item) (rest : List (List ℕ)) → IsRoomy empty_state (length p) → AllFit empty_state p → Fits (state_after empty_state p) x → AllFit empty_state q
    → lines_of q ≡ ((header ∷ item_lines p) ++ item_line x ∷ []) ++ rest → (items : List Item) × (q ≡ p ++ x ∷ items)
next_item p q x rest roomy fp fits fq e =
    let few = few_after empty_state p roomy in
    let is = item_of_fits (state_after empty_state p) x few fits in
    elim (next p q (item_line x) rest roomy fp fq e) [
      | Ends one others ↦ absurd (not_end x is one)
      | Goes y items parts fits' same ↦ (items, parts ∙ ap (λ (z : Item). p ++ z ∷ items) (same_line y x (item_of_fits (state_after empty_state p) y few fits') is same))
    ]

-- ---- beginnings

-- no file begins with these items and then this line, which is no end and no item that fits
pub no_next : (p : List Item) (line : List ℕ) → IsRoomy empty_state (length p) → AllFit empty_state p → line ≢ end_line
    → ((x : Item) → Fits (state_after empty_state p) x → item_line x ≢ line) → BeginsFile ((header ∷ item_lines p) ++ line ∷ []) → ⊥
no_next p line roomy fp ne none (q, fq, rest, e) =
    elim (next p q line rest roomy fp fq e) [
      | Ends one others ↦ ne one
      | Goes x items parts fits is ↦ none x fits is
    ]

-- nothing stands behind the end
pub no_more : (p : List Item) (line : List ℕ) → IsRoomy empty_state (length p) → AllFit empty_state p → line ≢ []
    → BeginsFile (((header ∷ item_lines p) ++ end_line ∷ []) ++ line ∷ []) → ⊥
no_more p line roomy fp some (q, fq, rest, e) =
    let few = few_after empty_state p roomy in
    elim (next p q end_line (line ∷ rest) roomy fp fq (e ∙ append_assoc ((header ∷ item_lines p) ++ end_line ∷ []) (line ∷ []) rest)) [
      | Ends one others ↦ let empty : line ≡ [] = cc in some empty
      | Goes x items parts fits is ↦ not_end x (item_of_fits (state_after empty_state p) x few fits) is
    ]

pub no_header : (line : List ℕ) → line ≢ header → BeginsFile (line ∷ []) → ⊥
no_header line ne (q, fq, rest, e) =
    let first : header ≡ line = cc in
    ne (sym first)

-- ---- the items of a file

append_nothing : (p q items : List Item) → q ≡ p ++ items → items ≡ [] → p ≡ q
append_nothing p q items is nothing = sym (is ∙ (λ i. p ++ nothing i) ∙ append-nil p)

nothing_left : (known : FileState) (items : List Item) → IsFew known → AllFit known items → tail_lines items ≡ end_line ∷ [] ∷ [] → items ≡ []
nothing_left known [] few fit e = refl
nothing_left known (x ∷ items) few fit e =
    let first : item_line x ≡ end_line = cc in
    absurd (not_end x (item_of_fits known x few fit.0) first)

-- the lines of a file tell its items
pub same_items : (p q : List Item) → length p < 2 ^ 64 → AllFit empty_state p → AllFit empty_state q → lines_of q ≡ lines_of p → p ≡ q
same_items p q lt fp fq both =
    let roomy = roomy_nothing (length p) lt in
    let behind : tail_lines q ≡ item_lines p ++ end_line ∷ [] ∷ [] = cc in
    let on = follow empty_state p q (end_line ∷ [] ∷ []) roomy fp fq behind in
    append_nothing p q on.items on.parts (nothing_left (state_after empty_state p) on.items (few_after empty_state p roomy) on.fit on.lines)

-- ---- lines and bytes

lines_tail : (known : FileState) (p : List Item) → IsRoomy known (length p) → AllFit known p → lines (concat (tail_lines p)) ≡ tail_lines p
lines_tail known [] roomy fit = refl
lines_tail known (x ∷ p) roomy fit =
    lines_line (words_of x) (concat (tail_lines p)) (words_solid x (item_of_fits known x (few_of known _ roomy) fit.0))
    ∙ ap (λ ls. item_line x ∷ ls) (lines_tail (extended known x) p (roomy_after known x (length p) roomy) fit.1)

pub lines_concat : (p : List Item) → length p < 2 ^ 64 → AllFit empty_state p → lines (concat (lines_of p)) ≡ lines_of p
lines_concat p lt fit =
    lines_line (codes "rzk-derivation" ∷ codes "1" ∷ []) (concat (tail_lines p)) header_solid
    ∙ ap (λ ls. header ∷ ls) (lines_tail empty_state p (roomy_nothing (length p) lt) fit)

tail_long : (p : List Item) (ls : List (List ℕ)) → length p ≤ length (concat (item_lines p ++ ls))
tail_long [] ls = omega arith
tail_long (x ∷ p) ls =
    let a = length-append (item_line x) (concat (item_lines p ++ ls)) in
    let b = length-append (join_with_byte 32 (words_of x)) (10 ∷ []) in
    let c = tail_long p ls in
    omega (arith, a, b, c)

-- a file has more bytes than items
pub spelling_long : (p : List Item) → length p ≤ length (concat (lines_of p))
spelling_long p =
    let a = tail_long p (end_line ∷ [] ∷ []) in
    let b = length-append header (concat (tail_lines p)) in
    omega (arith, a, b)
