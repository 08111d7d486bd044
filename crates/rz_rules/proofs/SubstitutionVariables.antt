-- What becomes of one variable.
use Rattle.std.proofs.Common.{◌≡◌, ℕ, ◌+◌, ◌-◌, ◌<◌, ◌≤◌, nat_le, nat_lt, ◌==◌, if◌then◌else◌, true, false, refl, ap, ◌∙◌, arith}
use Rattle.std.proofs.lemmas.Bool.Decides.{nat_tests}
use Rattle.rz_rules.specs.declared.kinds.Space.{Space}
use Rattle.rz_rules.specs.declared.kinds.Space.TheVariants.{Points, Terms}
use Rattle.rz_rules.specs.Tree.{Tree}
use Rattle.rz_rules.specs.Substitution.{Depth, only, total, Change, Renumbered, Replaced, raising, weakened, same_space, putting}

-- a number that rises from a place on
abbrev pub raised : ℕ → ℕ → ℕ → ℕ
raised place by number = if nat_le place number then number + by else number

pub raised_by_none : (place number : ℕ) → raised place 0 number ≡ number
raised_by_none place number = grind (arith, nat_tests)

pub raised_below : (place by number : ℕ) → number < place → raised place by number ≡ number
raised_below place by number h = grind (arith, nat_tests)

-- a shift that begins within what an earlier one opened adds to it
pub raised_within : (place by start more all number : ℕ) → start ≤ place → place ≤ start + by → all ≡ by + more
    → raised place more (raised start by number) ≡ raised start all number
raised_within place by start more all number low high e = grind (arith, nat_tests)

-- a shift further out than an earlier one passes it
pub raised_past : (start by place far more number : ℕ) → start ≤ place → far ≡ place + by
    → raised far more (raised start by number) ≡ raised start by (raised place more number)
raised_past start by place far more number low e = grind (arith, nat_tests)

-- what becomes of a number where a tree takes one place
abbrev pub put_change : ℕ → Tree → ℕ → Change
put_change place value number =
    if nat_lt number place then Renumbered number else if number == place then Replaced value else Renumbered (number - 1)

pub put_below : (place : ℕ) (value : Tree) (number : ℕ) → number < place → put_change place value number ≡ Renumbered number
put_below place value number h = grind (arith, nat_tests)

-- a shift by one leaves the place free
pub put-raised : (place : ℕ) (value : Tree) (number : ℕ) → put_change place value (raised place 1 number) ≡ Renumbered number
put-raised place value number = grind (arith, nat_tests)

-- a place within what a shift opened is free too, and is lost
pub put_within : (place : ℕ) (value : Tree) (start by fewer number : ℕ) → start ≤ place → place < start + by → by ≡ fewer + 1
    → put_change place value (raised start by number) ≡ Renumbered (raised start fewer number)
put_within place value start by fewer number low high e = grind (arith, nat_tests)

-- below, `next` tells what becomes of what a put gives: here it renumbers nothing
pub put_then_same : (next : Change → Change) (place other : ℕ) (value new : Tree) (number : ℕ)
    → ((m : ℕ) → next (Renumbered m) ≡ Renumbered m) → next (Replaced value) ≡ Replaced new → place ≡ other
    → next (put_change place value number) ≡ put_change other new number
put_then_same next place other value new number renumbered replaced e = grind (arith, nat_tests)

-- here it is a shift further out than the put
pub put_then_above : (next : Change → Change) (place start far by : ℕ) (value new : Tree) (number : ℕ)
    → ((m : ℕ) → next (Renumbered m) ≡ Renumbered (raised start by m)) → next (Replaced value) ≡ Replaced new
    → place ≤ start → far ≡ start + 1
    → next (put_change place value number) ≡ put_change place new (raised far by number)
put_then_above next place start far by value new number renumbered replaced low e = grind (arith, nat_tests)

-- a shift further in than the put
pub put_then_below : (next : Change → Change) (place far start by : ℕ) (value new : Tree) (number : ℕ)
    → ((m : ℕ) → next (Renumbered m) ≡ Renumbered (raised start by m)) → next (Replaced value) ≡ Replaced new
    → start ≤ place → far ≡ place + by
    → next (put_change place value number) ≡ put_change far new (raised start by number)
put_then_below next place far start by value new number renumbered replaced low e = grind (arith, nat_tests)

-- and another put, further out
pub put_then_put : (next back : Change → Change) (place start far : ℕ) (value new other past : Tree) (number : ℕ)
    → ((m : ℕ) → next (Renumbered m) ≡ put_change start other m) → next (Replaced value) ≡ Replaced new
    → ((m : ℕ) → back (Renumbered m) ≡ put_change place new m) → back (Replaced past) ≡ Replaced other
    → place ≤ start → far ≡ start + 1
    → next (put_change place value number) ≡ back (put_change far past number)
put_then_put next back place start far value new other past number n r m q low e = grind (arith, nat_tests)

-- two spaces are one, or the test tells them apart
pub data Beside : Space → Space → Type 0 where
  same : {s : Space} → Beside s s
  apart : {s o : Space} → same_space s o ≡ false → Beside s o

pub beside : (s o : Space) → Beside s o
beside Points Points = same
beside Points Terms = apart refl
beside Terms Points = apart refl
beside Terms Terms = same

pub same_here : (s : Space) → same_space s s ≡ true
same_here Points = refl
same_here Terms = refl

pub only_here : (s : Space) (count : ℕ) → only s count s ≡ count
only_here Points count = refl
only_here Terms count = refl

pub only_apart : (s o : Space) (count : ℕ) → same_space s o ≡ false → only s count o ≡ 0
only_apart Points Points count e = cc
only_apart Points Terms count e = refl
only_apart Terms Points count e = refl
only_apart Terms Terms count e = cc

-- a depth that is one count is at most another depth where it is so there
pub only-le : (s o : Space) → Beside s o → (count : ℕ) (limit : Depth) → count ≤ limit s → only s count o ≤ limit o
only-le s o same count limit h = omega (arith, only_here s count)
only-le s o (apart e) count limit h = omega (arith, only_apart s o count e)

-- a shift of one space at a variable of that space, and of another
pub raising_here : (s : Space) (from by : ℕ) (depth : Depth) (number : ℕ)
    → raising (only s from) (only s by) s depth number ≡ Renumbered (raised (from + depth s) by number)
raising_here s from by depth number = λ i. Renumbered (raised (only_here s from i + depth s) (only_here s by i) number)

pub raising_apart : (s o : Space) (from by : ℕ) (depth : Depth) (number : ℕ) → same_space s o ≡ false
    → raising (only s from) (only s by) o depth number ≡ Renumbered number
raising_apart s o from by depth number e =
    (λ i. Renumbered (raised (only s from o + depth o) (only_apart s o by e i) number))
    ∙ ap Renumbered (raised_by_none (only s from o + depth o) number)

-- and so a put
pub putting_here : (s : Space) (at : Depth) (value : Tree) (depth : Depth) (number : ℕ)
    → putting s at value s depth number ≡ put_change (at s + depth s) (weakened (total at depth) value) number
putting_here s at value depth number =
    λ i. if same_here s i then put_change (at s + depth s) (weakened (total at depth) value) number else Renumbered number

pub putting_apart : (s o : Space) (at : Depth) (value : Tree) (depth : Depth) (number : ℕ) → same_space s o ≡ false
    → putting s at value o depth number ≡ Renumbered number
putting_apart s o at value depth number e =
    λ i. if e i then put_change (at s + depth s) (weakened (total at depth) value) number else Renumbered number
