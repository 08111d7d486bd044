-- Contexts as lists of entries: each context is one in one way.
use Rattle.std.proofs.Common.{◌≡◌, ◌+◌, ◌≤◌, List, [], ◌∷◌, ◌++◌, length, refl, sym, ap, arith}
use Rattle.rz_rules.specs.declared.kinds.Sort.TheVariants.{Context}
use Rattle.rz_rules.specs.declared.kinds.Space.{Space}
use Rattle.rz_rules.specs.declared.kinds.Space.TheVariants.{Terms}
use Rattle.rz_rules.specs.Tree.{Tree, IsTree}
use Rattle.rz_rules.specs.Substitution.{Changes}
use Rattle.rz_rules.specs.Context.{Entry, HasNoEntry, OfCube, OfTope, OfType, with_entry, with_entries, bound_by, depth_of, changed_entry, changed_entries}

-- the last entry and what stands before it
pub with_entry-same : (a b : Tree) (x y : Entry) → with_entry a x ≡ with_entry b y → (a ≡ b) × (x ≡ y)
with_entry-same a b (OfCube c) (OfCube d) e =
    let outer : a ≡ b = cc in
    let tree : c ≡ d = cc in
    (outer, ap OfCube tree)
with_entry-same a b (OfTope p) (OfTope q) e =
    let outer : a ≡ b = cc in
    let tree : p ≡ q = cc in
    (outer, ap OfTope tree)
with_entry-same a b (OfType t) (OfType u) e =
    let outer : a ≡ b = cc in
    let tree : t ≡ u = cc in
    (outer, ap OfType tree)
with_entry-same a b x y e = absurd cc

-- a cut behind which so many entries stand
pub with_entries-same : (a b : Tree) (xs ys : List Entry) → length xs ≡ length ys → with_entries a xs ≡ with_entries b ys → (a ≡ b) × (xs ≡ ys)
with_entries-same a b [] [] n e = (e, refl)
with_entries-same a b [] (y ∷ ys) n e = absurd (omega arith)
with_entries-same a b (x ∷ xs) [] n e = absurd (omega arith)
with_entries-same a b (x ∷ xs) (y ∷ ys) n e =
    let last = with_entry-same (with_entries a xs) (with_entries b ys) x y e in
    let rest = with_entries-same a b xs ys (omega arith) last.0 in
    (rest.0, λ i. last.1 i ∷ rest.1 i)

-- entries further in and further out
pub with_entries-append : (a : Tree) (xs ys : List Entry) → with_entries a (xs ++ ys) ≡ with_entries (with_entries a ys) xs
with_entries-append a [] ys = refl
with_entries-append a (x ∷ xs) ys = ap (λ context. with_entry context x) (with_entries-append a xs ys)

pub depth_of-append : (xs ys : List Entry) (space : Space) → depth_of (xs ++ ys) space ≡ depth_of xs space + depth_of ys space
depth_of-append [] ys space = omega arith
depth_of-append (x ∷ xs) ys space = let rest = depth_of-append xs ys space in omega (arith, rest)

-- entries that stand further out change by themselves
pub changed_entries-append : (changes : Changes) (xs ys : List Entry) → (zs : List Entry) × (changed_entries changes (xs ++ ys) ≡ zs ++ changed_entries changes ys)
changed_entries-append changes [] ys = ([], refl)
changed_entries-append changes (x ∷ xs) ys =
    let rest = changed_entries-append changes xs ys in
    (changed_entry changes (depth_of (xs ++ ys)) x ∷ rest.0, ap (λ (zs : List Entry). changed_entry changes (depth_of (xs ++ ys)) x ∷ zs) rest.1)

pub length-changed_entries : (changes : Changes) (xs : List Entry) → length (changed_entries changes xs) ≡ length xs
length-changed_entries changes [] = refl
length-changed_entries changes (x ∷ xs) = let rest = length-changed_entries changes xs in omega (arith, rest)

-- behind a tree without an entry each cut is among its entries
pub at_most : (base outer : Tree) (xs ys : List Entry) → HasNoEntry base → with_entries base xs ≡ with_entries outer ys → length ys ≤ length xs
at_most base outer xs [] none e = omega arith
at_most base outer [] (y ∷ ys) none e = absurd (none (with_entries outer ys) y e)
at_most base outer (x ∷ xs) (y ∷ ys) none e =
    let last = with_entry-same (with_entries base xs) (with_entries outer ys) x y e in
    let rest = at_most base outer xs ys none last.0 in
    omega (arith, rest)

pub among : (base outer : Tree) (entry : Entry) (xs ys : List Entry) → HasNoEntry base → with_entries base xs ≡ with_entries (with_entry outer entry) ys
    → (zs : List Entry) × (xs ≡ ys ++ entry ∷ zs)
among base outer entry [] [] none e = absurd (none outer entry e)
among base outer entry [] (y ∷ ys) none e = absurd (none (with_entries (with_entry outer entry) ys) y e)
among base outer entry (x ∷ xs) [] none e =
    let last = with_entry-same (with_entries base xs) outer x entry e in
    (xs, λ i. last.1 i ∷ xs)
among base outer entry (x ∷ xs) (y ∷ ys) none e =
    let last = with_entry-same (with_entries base xs) (with_entries (with_entry outer entry) ys) x y e in
    let rest = among base outer entry xs ys none last.0 in
    (rest.0, λ i. last.1 i ∷ rest.1 i)

-- a cut at a term entry behind which so many term entries stand
pub with_type-same : (a b t u : Tree) (xs ys : List Entry) → depth_of xs Terms ≡ depth_of ys Terms
    → with_entries (with_entry a (OfType t)) xs ≡ with_entries (with_entry b (OfType u)) ys → (a ≡ b) × (t ≡ u) × (xs ≡ ys)
with_type-same a b t u [] [] n e =
    let last = with_entry-same a b (OfType t) (OfType u) e in
    let types : OfType t ≡ OfType u = last.1 in
    let type : t ≡ u = cc in
    (last.0, type, refl)
with_type-same a b t u [] (y ∷ ys) n e =
    let last = with_entry-same a (with_entries (with_entry b (OfType u)) ys) (OfType t) y e in
    let one : bound_by y Terms ≡ 1 = sym (ap (λ (y : Entry). bound_by y Terms) last.1) in
    absurd (omega (arith, n, one))
with_type-same a b t u (x ∷ xs) [] n e =
    let last = with_entry-same (with_entries (with_entry a (OfType t)) xs) b x (OfType u) e in
    let one : bound_by x Terms ≡ 1 = ap (λ (x : Entry). bound_by x Terms) last.1 in
    absurd (omega (arith, n, one))
with_type-same a b t u (x ∷ xs) (y ∷ ys) n e =
    let last = with_entry-same (with_entries (with_entry a (OfType t)) xs) (with_entries (with_entry b (OfType u)) ys) x y e in
    let one : bound_by x Terms ≡ bound_by y Terms = ap (λ (x : Entry). bound_by x Terms) last.1 in
    let rest = with_type-same a b t u xs ys (omega (arith, n, one)) last.0 in
    (rest.0, rest.1, λ i. last.1 i ∷ rest.2 i)

-- what stands further out is a context where the whole is
pub IsTree-outer : (outer : Tree) (xs : List Entry) → IsTree Context (with_entries outer xs) → IsTree Context outer
IsTree-outer outer [] h = h
IsTree-outer outer (OfCube cube ∷ xs) h = IsTree-outer outer xs h.2.0
IsTree-outer outer (OfTope tope ∷ xs) h = IsTree-outer outer xs h.2.0
IsTree-outer outer (OfType type ∷ xs) h = IsTree-outer outer xs h.2.0
