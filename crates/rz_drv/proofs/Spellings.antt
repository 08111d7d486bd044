-- Parts and their spellings.
use Rattle.std.proofs.Common.{◌≡◌, ℕ, suc, ◌+◌, ◌<◌, ◌^◌, List, [], ◌∷◌, ◌++◌, length, drop, map, refl, sym, ap, ◌∙◌, arith}
use Rattle.std.specs.List.{concat}
use Rattle.std.proofs.lemmas.List.{length-append, take-append-drop, nil_from_length}
use Rattle.rz_rules.specs.declared.judgments.Line.{Line}
use Rattle.rz_rules.specs.declared.nodes.Node.{Node}
use Rattle.rz_rules.specs.Judgment.{statement}
use Rattle.rz_rules.specs.File.{Item, NodeItem, StepItem, FileState, Claim, empty_state, lines, lines_of, AllFit, Fits, extended, state_after, statement_at}
use Rattle.rz_drv.specs.declared.faults.DrvFault.{DrvFault}
use Rattle.rz_drv.specs.declared.faults.DrvFault.TheVariants.{Malformed, OutOfMemory}
use Rattle.rz_drv.specs.declared.items.Item.{Item as ReadItem}
use Rattle.rz_drv.specs.declared.items.Item.TheVariants.{Node as ReadNode, Step as ReadStep, Claim as ReadClaim}
use Rattle.rz_drv.specs.declared.parts.Part.{Part}
use Rattle.rz_drv.specs.declared.reading.Reader.{Reader}
use Rattle.rz_drv.specs.Items.{item_of}
use Rattle.rz_drv.specs.Lines.{IsFirstBadLine}
use Rattle.rz_drv.specs.Part.{claim_item, items_of, IsPart, spelling, HasOwnSpelling, IsFault, IsBehind}
use Rattle.rz_drv.specs.Reading.{HasRead, IsFirstFault, IsNextFault}
use Rattle.rz_drv.proofs.Texts.{concat_lines}
use Rattle.rz_drv.proofs.Runs.{lines_concat, same_items, spelling_long}

-- ---- items tell a part

claims_tell : (cs ds : List (List ℕ × ℕ)) → map claim_item cs ≡ map claim_item ds → cs ≡ ds
claims_tell [] [] e = refl
claims_tell [] (d ∷ ds) e = absurd cc
claims_tell (c ∷ cs) [] e = absurd cc
claims_tell (c ∷ cs) (d ∷ ds) e =
    let first : claim_item c ≡ claim_item d = cc in
    let others : map claim_item cs ≡ map claim_item ds = cc in
    let names : c.0 ≡ d.0 = cc in
    let steps : c.1 ≡ d.1 = cc in
    let rest = claims_tell cs ds others in
    λ i. (names i, steps i) ∷ rest i

abbrev step_item : Line → Item
step_item line = StepItem line

abbrev node_item : Node → Item
node_item node = NodeItem node

steps_tell : (ls ks : List Line) (cs ds : List (List ℕ × ℕ)) → map step_item ls ++ map claim_item cs ≡ map step_item ks ++ map claim_item ds → (ls ≡ ks) × (cs ≡ ds)
steps_tell [] [] cs ds e = (refl, claims_tell cs ds e)
steps_tell [] (k ∷ ks) [] ds e = absurd cc
steps_tell [] (k ∷ ks) (c ∷ cs) ds e = let first : claim_item c ≡ StepItem k = cc in absurd cc
steps_tell (l ∷ ls) [] cs [] e = absurd cc
steps_tell (l ∷ ls) [] cs (d ∷ ds) e = let first : StepItem l ≡ claim_item d = cc in absurd cc
steps_tell (l ∷ ls) (k ∷ ks) cs ds e =
    let first : StepItem l ≡ StepItem k = cc in
    let one : l ≡ k = cc in
    let others : map step_item ls ++ map claim_item cs ≡ map step_item ks ++ map claim_item ds = cc in
    let rest = steps_tell ls ks cs ds others in
    ((λ i. one i ∷ rest.0 i), rest.1)

abbrev behind_nodes : List Line → List (List ℕ × ℕ) → List Item
behind_nodes ls cs = map step_item ls ++ map claim_item cs

no_node_first : {A : Type 0} (m : Node) (rest : List Item) (ls : List Line) (cs : List (List ℕ × ℕ)) → behind_nodes ls cs ≡ NodeItem m ∷ rest → A
no_node_first m rest [] [] e = absurd cc
no_node_first m rest [] (c ∷ cs) e = let first : claim_item c ≡ NodeItem m = cc in absurd cc
no_node_first m rest (l ∷ ls) cs e = let first : StepItem l ≡ NodeItem m = cc in absurd cc

nodes_tell : (ns ms : List Node) (ls ks : List Line) (cs ds : List (List ℕ × ℕ)) → map node_item ns ++ behind_nodes ls cs ≡ map node_item ms ++ behind_nodes ks ds
    → (ns ≡ ms) × (behind_nodes ls cs ≡ behind_nodes ks ds)
nodes_tell [] [] ls ks cs ds e = (refl, e)
nodes_tell [] (m ∷ ms) ls ks cs ds e = no_node_first m _ ls cs e
nodes_tell (n ∷ ns) [] ls ks cs ds e = no_node_first n _ ks ds (sym e)
nodes_tell (n ∷ ns) (m ∷ ms) ls ks cs ds e =
    let first : NodeItem n ≡ NodeItem m = cc in
    let one : n ≡ m = cc in
    let others : map node_item ns ++ behind_nodes ls cs ≡ map node_item ms ++ behind_nodes ks ds = cc in
    let rest = nodes_tell ns ms ls ks cs ds others in
    ((λ i. one i ∷ rest.0 i), rest.1)

part_same : (p q : Part) → items_of p ≡ items_of q → p ≡ q
part_same p q e =
    let nodes = nodes_tell p.nodes q.nodes p.lines q.lines p.claims q.claims e in
    let steps = steps_tell p.lines q.lines p.claims q.claims nodes.1 in
    λ i. record { nodes = nodes.0 i; lines = steps.0 i; claims = steps.1 i }

-- ---- spellings

-- the lines of a spelling are those of the part's items
lines_spelling : (bytes : List ℕ) (part : Part) → length bytes < 2 ^ 64 → IsPart part → spelling part ≡ bytes → lines bytes ≡ lines_of (items_of part)
lines_spelling bytes part small fit e =
    let le = spelling_long (items_of part) in
    ap lines (sym e) ∙ lines_concat (items_of part) (omega (arith, le, ap length e, small)) fit

pub own_spelling : (bytes : List ℕ) (part : Part) → length bytes < 2 ^ 64 → IsPart part → spelling part ≡ bytes → HasOwnSpelling part
own_spelling bytes part small fit e other fits same =
    let le = spelling_long (items_of part) in
    let lines_are = lines_spelling bytes part small fit e in
    let others = lines_spelling bytes other small fits (same ∙ e) in
    sym (part_same part other (same_items (items_of part) (items_of other) (omega (arith, le, ap length e, small)) fit fits (sym others ∙ lines_are)))

pub spelled : (bytes : List ℕ) (part : Part) → lines bytes ≡ lines_of (items_of part) → spelling part ≡ bytes
spelled bytes part is = sym (ap concat is) ∙ concat_lines bytes

fault_of : (bytes : List ℕ) (line : ℕ) → length bytes < 2 ^ 64 → IsFirstBadLine (lines bytes) line → IsFault bytes (Malformed line)
fault_of bytes line small bad = (
  λ part fit e. bad.bad (
    items_of part,
    fit,
    drop (suc bad.place) (lines bytes),
    sym (lines_spelling bytes part small fit e) ∙ sym (take-append-drop (suc bad.place) (lines bytes)),
  ),
  bad,
)

pub first_fault : (bytes : List ℕ) (fault : DrvFault) → length bytes < 2 ^ 64 → IsFirstFault bytes fault → IsFault bytes fault
first_fault bytes (Malformed line) small bad = fault_of bytes line small bad.0
first_fault bytes OutOfMemory small bad = tt

pub next_fault : (bytes : List ℕ) (items : List Item) (reader : Reader) (fault : DrvFault) → length bytes < 2 ^ 64 → HasRead bytes items reader → IsNextFault reader fault → IsFault bytes fault
next_fault bytes items reader (Malformed line) small read bad =
    let breaks = bad bytes items read in
    fault_of bytes line small (record {
      place = breaks.place;
      counted = breaks.counted;
      there = breaks.there;
      good = (items, read.fit, breaks.rest, breaks.good);
      bad = breaks.bad;
    })
next_fault bytes items reader OutOfMemory small read bad = tt

-- ---- what stands in a part stands before the next item

pub last_fits : (known : FileState) (p : List Item) (x : Item) → AllFit known (p ++ x ∷ []) → Fits (state_after known p) x
last_fits known [] x fit = fit.0
last_fits known (y ∷ p) x fit = last_fits (extended known y) p x fit.1

-- a part has as many steps and as many claims as the state after it
record AreCounted (known : FileState) (ls : List Line) (cs : List (List ℕ × ℕ)) (after : FileState) : Type 0 where
  pub steps : length after.statements ≡ length known.statements + length ls
  pub claims : length after.claims ≡ length known.claims + length cs

claims_counted : (known : FileState) (cs : List (List ℕ × ℕ)) → AreCounted known [] cs (state_after known (map claim_item cs))
claims_counted known [] = record { steps = omega arith; claims = omega arith }
claims_counted known (c ∷ cs) =
    let rest = claims_counted (extended known (claim_item c)) cs in
    let one : List Claim = record { name = c.0; says = statement_at known.statements c.1 } ∷ [] in
    let long = length-append known.claims one in
    record { steps = omega (arith, rest.steps); claims = omega (arith, rest.claims, long) }

steps_counted : (known : FileState) (ls : List Line) (cs : List (List ℕ × ℕ)) → AreCounted known ls cs (state_after known (behind_nodes ls cs))
steps_counted known [] cs = claims_counted known cs
steps_counted known (l ∷ ls) cs =
    let rest = steps_counted (extended known (StepItem l)) ls cs in
    let long = length-append known.statements (statement known.trees l.says ∷ []) in
    record { steps = omega (arith, rest.steps, long); claims = omega (arith, rest.claims) }

nodes_counted : (known : FileState) (ns : List Node) (ls : List Line) (cs : List (List ℕ × ℕ)) → AreCounted known ls cs (state_after known (map node_item ns ++ behind_nodes ls cs))
nodes_counted known [] ls cs = steps_counted known ls cs
nodes_counted known (n ∷ ns) ls cs =
    let rest = nodes_counted (extended known (NodeItem n)) ns ls cs in
    record { steps = omega (arith, rest.steps); claims = omega (arith, rest.claims) }

fits_behind : (part : Part) (item : ReadItem) → Fits (state_after empty_state (items_of part)) (item_of item) → IsBehind part item
fits_behind part (ReadNode node) fits =
    let counted = nodes_counted empty_state part.nodes part.lines part.claims in (
      nil_from_length part.lines (omega (arith, counted.steps, ap length fits.steps)),
      nil_from_length part.claims (omega (arith, counted.claims, ap length fits.claims)),
    )
fits_behind part (ReadStep line) fits =
    let counted = nodes_counted empty_state part.nodes part.lines part.claims in
    nil_from_length part.claims (omega (arith, counted.claims, ap length fits.claims))
fits_behind part (ReadClaim name step) fits = tt

pub is_behind : (part : Part) (item : ReadItem) → AllFit empty_state (items_of part ++ item_of item ∷ []) → IsBehind part item
is_behind part item fit = fits_behind part item (last_fits empty_state (items_of part) (item_of item) fit)
