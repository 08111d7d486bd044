-- The words of an item tell it: no other item has them.
use Rattle.std.proofs.Common.{◌≡◌, ◌≢◌, ℕ, ◌<◌, ◌^◌, Bool, true, false, cond, List, [], ◌∷◌, ◌++◌, map, Some, refl, sym, ap, subst, ◌∙◌, arith}
use Rattle.std.specs.Prelude.{find, codes}
use Rattle.std.specs.Str.{bytes_eq}
use Rattle.std.specs.Fmt.{decimal}
use Rattle.std.proofs.lemmas.Fmt.{decimal_injective}
use Rattle.std.proofs.lemmas.List.Elements.{All-head, All-tail, All-cons, All-nil, All-append}
use Rattle.rz_rules.specs.declared.kinds.Kind.{Kind}
use Rattle.rz_rules.specs.declared.judgments.JudgmentKind.{JudgmentKind}
use Rattle.rz_rules.specs.declared.judgments.Judgment.{Judgment}
use Rattle.rz_rules.specs.declared.judgments.Judgment.TheVariants.{Formed, Holds, Has, Same}
use Rattle.rz_rules.specs.declared.rows.Row.{Row}
use Rattle.rz_rules.specs.declared.nodes.Node.{Node}
use Rattle.rz_rules.specs.declared.judgments.Line.{Line}
use Rattle.rz_rules.specs.Form.{form, is_numbered, is_named, word_of_kind, all_kinds, kind_words_are_distinct}
use Rattle.rz_rules.specs.Table.{word_of_row, all_rows, row_words_are_distinct}
use Rattle.rz_rules.specs.Judgment.{kind_of, ids_of, word_of_judgment_kind, all_judgment_kinds, judgment_words_are_distinct}
use Rattle.rz_rules.specs.File.{Item, NodeItem, StepItem, ClaimItem, words_of, numbers_of}
use Rattle.rz_drv.specs.declared.nodes.NodeParts.{NodeParts}
use Rattle.rz_drv.specs.declared.steps.StepParts.{StepParts}
use Rattle.rz_drv.specs.Items.{AreSmall, IsItem, IsLine, IsNode}
use Rattle.rz_drv.specs.Words.{own_name, own_number, node_words, step_words, SpellsNode, IsNodeOf, SpellsStep, NoStepSpells, IsLineOf, NoneHas}

-- words of a table tell its items apart
told_apart : {X : Type 0} (word_of : X → List ℕ) (all : List X) → ((item : X) → find (λ other. bytes_eq (word_of other) (word_of item)) all ≡ Some item)
    → (a b : X) → word_of a ≡ word_of b → a ≡ b
told_apart word_of all found a b e =
    let first : find (λ other. bytes_eq (word_of other) (word_of a)) all ≡ Some a = found a in
    let second : find (λ other. bytes_eq (word_of other) (word_of b)) all ≡ Some b = found b in
    let both : Some a ≡ Some b = sym first ∙ ap (λ w. find (λ other. bytes_eq (word_of other) w) all) e ∙ second in
    cc

same_kind : (a b : Kind) → word_of_kind a ≡ word_of_kind b → a ≡ b
same_kind = told_apart word_of_kind all_kinds kind_words_are_distinct

same_judgment_kind : (a b : JudgmentKind) → word_of_judgment_kind a ≡ word_of_judgment_kind b → a ≡ b
same_judgment_kind = told_apart word_of_judgment_kind all_judgment_kinds judgment_words_are_distinct

same_row : (a b : Row) → word_of_row a ≡ word_of_row b → a ≡ b
same_row = told_apart word_of_row all_rows row_words_are_distinct

-- numbers as words tell the numbers
same_numbers : (ms ns : List ℕ) → AreSmall ms → AreSmall ns → map decimal ms ≡ map decimal ns → ms ≡ ns
same_numbers [] [] hm hn e = refl
same_numbers [] (n ∷ ns) hm hn e = absurd cc
same_numbers (m ∷ ms) [] hm hn e = absurd cc
same_numbers (m ∷ ms) (n ∷ ns) hm hn e =
    let P : ℕ → Type 0 = λ n. n < 2 ^ 64 in
    let first : decimal m ≡ decimal n = cc in
    let others : map decimal ms ≡ map decimal ns = cc in
    let one : m ≡ n = decimal_injective m n (All-head P m ms hm) (All-head P n ns hn) first in
    let rest : ms ≡ ns = same_numbers ms ns (All-tail P m ms hm) (All-tail P n ns hn) others in
    cc

number_small : (numbered : Bool) (number : ℕ) → number < 2 ^ 32 → AreSmall (cond numbered (number ∷ []) [])
number_small true number h = All-cons (λ n. n < 2 ^ 64) number [] (omega arith) (All-nil (λ n. n < 2 ^ 64))
number_small false number h = All-nil (λ n. n < 2 ^ 64)

-- the numbers of a node are small
pub node_small : (node : Node) → IsNode node → AreSmall (numbers_of node)
node_small node is =
    All-append (λ n. n < 2 ^ 64) (cond (is_numbered (form node.kind).role) (node.number ∷ []) []) node.kids
    (number_small (is_numbered (form node.kind).role) node.number is.label.small) is.small

-- the first words of the kinds of items, and the last line
first_differs : {A : Type 0} (v w : List ℕ) (vs ws : List (List ℕ)) → v ≢ w → v ∷ vs ≡ w ∷ ws → A
first_differs v w vs ws ne e = let firsts : v ≡ w = cc in absurd (ne firsts)

n_s : codes "n" ≢ codes "s"
n_s e = let ne : ◌≡◌ {A = ℕ} 110 115 = cc in absurd (omega arith)

n_c : codes "n" ≢ codes "c"
n_c e = let ne : ◌≡◌ {A = ℕ} 110 99 = cc in absurd (omega arith)

s_c : codes "s" ≢ codes "c"
s_c e = let ne : ◌≡◌ {A = ℕ} 115 99 = cc in absurd (omega arith)

n_end : codes "n" ≢ codes "end"
n_end e = let ne : ◌≡◌ {A = ℕ} 110 101 = cc in absurd (omega arith)

s_end : codes "s" ≢ codes "end"
s_end e = let ne : ◌≡◌ {A = ℕ} 115 101 = cc in absurd (omega arith)

c_end : codes "c" ≢ codes "end"
c_end e = let ne : ◌≡◌ {A = ℕ} 99 101 = cc in absurd (omega arith)

tails : {A : Type 0} (x y : A) (xs ys : List A) → x ∷ xs ≡ y ∷ ys → xs ≡ ys
tails x y xs ys e = cc

-- ---- nodes

-- the name and the numbers behind a kind's word
name_part : (named : Bool) (m n : List ℕ) (vs ws : List (List ℕ)) → (named ≡ false → m ≡ []) → (named ≡ false → n ≡ [])
    → cond named (m ∷ []) [] ++ vs ≡ cond named (n ∷ []) [] ++ ws → (m ≡ n) × (vs ≡ ws)
name_part true m n vs ws hm hn e = let one : m ≡ n = cc in let rest : vs ≡ ws = cc in (one, rest)
name_part false m n vs ws hm hn e = (hm refl ∙ sym (hn refl), e)

-- the number and the kids of a node
pub number_part : (numbered : Bool) (m n : ℕ) (ks ls : List ℕ) → (numbered ≡ false → m ≡ 0) → (numbered ≡ false → n ≡ 0)
    → own_number numbered m ++ ks ≡ own_number numbered n ++ ls → (m ≡ n) × (ks ≡ ls)
number_part true m n ks ls hm hn e = let one : m ≡ n = cc in let rest : ks ≡ ls = cc in (one, rest)
number_part false m n ks ls hm hn e = (hm refl ∙ sym (hn refl), e)

-- the words of a node tell its kind, its name and its numbers
node_words_tell : (k l : Kind) (m n : List ℕ) (ms ns : List ℕ) → (is_named (form k).role ≡ false → m ≡ []) → (is_named (form l).role ≡ false → n ≡ [])
    → AreSmall ms → AreSmall ns → node_words k m ms ≡ node_words l n ns → (k ≡ l) × (m ≡ n) × (ms ≡ ns)
node_words_tell k l m n ms ns hm hn fm fn e =
    let words : word_of_kind k ≡ word_of_kind l = cc in
    let kinds : k ≡ l = same_kind k l words in
    let others : own_name k m ++ map decimal ms ≡ own_name l n ++ map decimal ns = cc in
    let parts = name_part (is_named (form k).role) m n (map decimal ms) (map decimal ns) hm (λ f. hn (ap (λ k. is_named (form k).role) (sym kinds) ∙ f))
    (others ∙ ap (λ k. own_name k n ++ map decimal ns) (sym kinds)) in
    (kinds, parts.0, same_numbers ms ns fm fn parts.1)

pub no_node : (ws : List (List ℕ)) (parts : NodeParts) → SpellsNode ws parts → ((node : Node) → IsNodeOf parts node → ⊥) → NoneHas (codes "n" ∷ ws)
no_node ws parts spells none (NodeItem node) is e =
    let told = node_words_tell node.kind parts.kind node.name parts.name (numbers_of node) parts.numbers.items is.label.unnamed spells.unnamed
    (node_small node is) spells.small (tails (codes "n") (codes "n") _ _ e ∙ sym spells.spelled) in
    none node (record { kind_is = told.0; name_is = told.1; numbers_are = told.2; is = is })
no_node ws parts spells none (StepItem line) is e = first_differs _ _ _ _ n_s (sym e)
no_node ws parts spells none (ClaimItem name step) is e = first_differs _ _ _ _ n_c (sym e)

-- ---- steps

pub no_step_parts : (ws : List (List ℕ)) → NoStepSpells ws → NoneHas (codes "s" ∷ ws)
no_step_parts ws none (NodeItem node) is e = first_differs _ _ _ _ n_s e
no_step_parts ws none (StepItem line) is e =
    none line.row line.number (kind_of line.says) (ids_of line.says ++ line.from) (omega (arith, is.number)) is.small (tails (codes "s") (codes "s") _ _ e)
no_step_parts ws none (ClaimItem name step) is e = first_differs _ _ _ _ s_c (sym e)

pub no_step : (ws : List (List ℕ)) (parts : StepParts) → SpellsStep ws parts → ((line : Line) → IsLineOf parts line → ⊥) → NoneHas (codes "s" ∷ ws)
no_step ws parts spells none (NodeItem node) is e = first_differs _ _ _ _ n_s e
no_step ws parts spells none (StepItem line) is e =
    let same : step_words line.row line.number (kind_of line.says) (ids_of line.says ++ line.from) ≡ step_words parts.row parts.number parts.kind parts.numbers.items =
    tails (codes "s") (codes "s") _ _ e ∙ sym spells.spelled in
    let rows : word_of_row line.row ≡ word_of_row parts.row = cc in
    let counts : decimal line.number ≡ decimal parts.number = cc in
    let kinds : word_of_judgment_kind (kind_of line.says) ≡ word_of_judgment_kind parts.kind = cc in
    let numerals : map decimal (ids_of line.says ++ line.from) ≡ map decimal parts.numbers.items = cc in
    none line (record {
      row_is = same_row line.row parts.row rows;
      number_is = decimal_injective line.number parts.number (omega (arith, is.number)) spells.number counts;
      kind_is = same_judgment_kind (kind_of line.says) parts.kind kinds;
      numbers_are = same_numbers (ids_of line.says ++ line.from) parts.numbers.items is.small spells.small numerals;
      is = is;
    })
no_step ws parts spells none (ClaimItem name step) is e = first_differs _ _ _ _ s_c (sym e)

-- a step of parts whose numbers are those of its judgment and of its premises
pub line_found : (parts : StepParts) (says : Judgment) (ids from own : List ℕ) → kind_of says ≡ parts.kind → ids_of says ≡ ids → own ≡ from → ids ++ from ≡ parts.numbers.items
    → parts.number < 2 ^ 32 → AreSmall parts.numbers.items → IsLineOf parts (record { row = parts.row; number = parts.number; says = says; from = own })
line_found parts says ids from own kind are same split low small =
    let all : ids_of says ++ own ≡ parts.numbers.items = (λ i. are i ++ same i) ∙ split in
    record {
      row_is = refl;
      number_is = refl;
      kind_is = kind;
      numbers_are = all;
      is = record { number = low; small = subst AreSmall (sym all) small };
    }

pub line_has_words : (ws : List (List ℕ)) (parts : StepParts) (line : Line) → SpellsStep ws parts → IsLineOf parts line → words_of (StepItem line) ≡ codes "s" ∷ ws
line_has_words ws parts line spells is =
    let words : step_words line.row line.number (kind_of line.says) (ids_of line.says ++ line.from) ≡ ws =
    (λ i. step_words (is.row_is i) (is.number_is i) (is.kind_is i) (is.numbers_are i)) ∙ spells.spelled in
    ap (λ vs. codes "s" ∷ vs) words

-- ---- one item for the words

node_same : (x y : Node) → IsNode x → IsNode y → words_of (NodeItem x) ≡ words_of (NodeItem y) → x ≡ y
node_same x y fx fy e =
    let told = node_words_tell x.kind y.kind x.name y.name (numbers_of x) (numbers_of y) fx.label.unnamed fy.label.unnamed
    (node_small x fx) (node_small y fy) (tails (codes "n") (codes "n") _ _ e) in
    let kinds : x.kind ≡ y.kind = told.0 in
    let parts = number_part (is_numbered (form x.kind).role) x.number y.number x.kids y.kids fx.label.unnumbered
    (λ f. fy.label.unnumbered (ap (λ k. is_numbered (form k).role) (sym kinds) ∙ f))
    (told.2 ∙ ap (λ k. own_number (is_numbered (form k).role) y.number ++ y.kids) (sym kinds)) in
    λ i. record { kind = kinds i; number = parts.0 i; name = told.1 i; kids = parts.1 i }

says_same : (a b : Judgment) (xs ys : List ℕ) → kind_of a ≡ kind_of b → ids_of a ++ xs ≡ ids_of b ++ ys → (a ≡ b) × (xs ≡ ys)
says_same (Formed c) (Formed d) xs ys h e =
    let e0 : c ≡ d = cc in
    let rest : xs ≡ ys = cc in
    ((λ i. Formed (e0 i)), rest)
says_same (Formed c) (Holds d psi) xs ys h e = absurd cc
says_same (Formed c) (Has d b u) xs ys h e = absurd cc
says_same (Formed c) (Same d b b1 u) xs ys h e = absurd cc
says_same (Holds c phi) (Formed d) xs ys h e = absurd cc
says_same (Holds c phi) (Holds d psi) xs ys h e =
    let e0 : c ≡ d = cc in
    let e1 : phi ≡ psi = cc in
    let rest : xs ≡ ys = cc in
    ((λ i. Holds (e0 i) (e1 i)), rest)
says_same (Holds c phi) (Has d b u) xs ys h e = absurd cc
says_same (Holds c phi) (Same d b b1 u) xs ys h e = absurd cc
says_same (Has c a t) (Formed d) xs ys h e = absurd cc
says_same (Has c a t) (Holds d psi) xs ys h e = absurd cc
says_same (Has c a t) (Has d b u) xs ys h e =
    let e0 : c ≡ d = cc in
    let e1 : a ≡ b = cc in
    let e2 : t ≡ u = cc in
    let rest : xs ≡ ys = cc in
    ((λ i. Has (e0 i) (e1 i) (e2 i)), rest)
says_same (Has c a t) (Same d b b1 u) xs ys h e = absurd cc
says_same (Same c a a1 t) (Formed d) xs ys h e = absurd cc
says_same (Same c a a1 t) (Holds d psi) xs ys h e = absurd cc
says_same (Same c a a1 t) (Has d b u) xs ys h e = absurd cc
says_same (Same c a a1 t) (Same d b b1 u) xs ys h e =
    let e0 : c ≡ d = cc in
    let e1 : a ≡ b = cc in
    let e2 : a1 ≡ b1 = cc in
    let e3 : t ≡ u = cc in
    let rest : xs ≡ ys = cc in
    ((λ i. Same (e0 i) (e1 i) (e2 i) (e3 i)), rest)

line_same : (x y : Line) → IsLine x → IsLine y → words_of (StepItem x) ≡ words_of (StepItem y) → x ≡ y
line_same x y fx fy e =
    let rows : word_of_row x.row ≡ word_of_row y.row = cc in
    let counts : decimal x.number ≡ decimal y.number = cc in
    let heads : word_of_judgment_kind (kind_of x.says) ≡ word_of_judgment_kind (kind_of y.says) = cc in
    let numerals : map decimal (ids_of x.says ++ x.from) ≡ map decimal (ids_of y.says ++ y.from) = cc in
    let ids : ids_of x.says ++ x.from ≡ ids_of y.says ++ y.from =
    same_numbers (ids_of x.says ++ x.from) (ids_of y.says ++ y.from) fx.small fy.small numerals in
    let parts = says_same x.says y.says x.from y.from (same_judgment_kind (kind_of x.says) (kind_of y.says) heads) ids in
    let row : x.row ≡ y.row = same_row x.row y.row rows in
    let number : x.number ≡ y.number = decimal_injective x.number y.number (omega (arith, fx.number)) (omega (arith, fy.number)) counts in
    λ i. record { row = row i; number = number i; says = parts.0 i; from = parts.1 i }

pub item_same : (x y : Item) → IsItem x → IsItem y → words_of x ≡ words_of y → x ≡ y
item_same (NodeItem x) (NodeItem y) fx fy e = ap (λ n. NodeItem n) (node_same x y fx fy e)
item_same (StepItem x) (StepItem y) fx fy e = ap (λ l. StepItem l) (line_same x y fx fy e)
item_same (ClaimItem m i) (ClaimItem n j) fx fy e =
    let names : m ≡ n = cc in
    let numerals : decimal i ≡ decimal j = cc in
    let steps : i ≡ j = decimal_injective i j fx.small fy.small numerals in
    λ t. ClaimItem (names t) (steps t)
item_same (NodeItem x) (StepItem y) fx fy e = first_differs _ _ _ _ n_s e
item_same (NodeItem x) (ClaimItem n j) fx fy e = first_differs _ _ _ _ n_c e
item_same (StepItem x) (NodeItem y) fx fy e = first_differs _ _ _ _ n_s (sym e)
item_same (StepItem x) (ClaimItem n j) fx fy e = first_differs _ _ _ _ s_c e
item_same (ClaimItem m i) (NodeItem y) fx fy e = first_differs _ _ _ _ n_c (sym e)
item_same (ClaimItem m i) (StepItem y) fx fy e = first_differs _ _ _ _ s_c (sym e)

pub words_some : (x : Item) → words_of x ≢ []
words_some (NodeItem x) e = absurd cc
words_some (StepItem x) e = absurd cc
words_some (ClaimItem m i) e = absurd cc

pub words_end : (x : Item) → words_of x ≢ codes "end" ∷ []
words_end (NodeItem x) e = first_differs _ _ _ _ n_end e
words_end (StepItem x) e = first_differs _ _ _ _ s_end e
words_end (ClaimItem m i) e = first_differs _ _ _ _ c_end e
