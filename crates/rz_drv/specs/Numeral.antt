-- Decimal digits without leading zeros.
use Rattle.std.specs.Prelude.{◌≡◌, ℕ, ◌<◌, List, length, EachIndex, slice_index}
use Rattle.std.specs.Int.{IsInRange}

pub record IsNumeralWord (word : List ℕ) : Type 0 where
  pub digits : EachIndex word (λ i. IsInRange 48 57 (slice_index word i))
  pub some : 0 < length word
  pub plain : slice_index word 0 ≡ 48 → length word ≡ 1
