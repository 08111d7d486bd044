-- Kids as they are kept: how many there are, and seven places, those that aren't used at 0.
use Rattle.std.specs.Prelude.{◌≡◌, ℕ, ◌-◌, ◌≤◌, List, length, drop, replicate}

pub record AreKids (count : ℕ) (at : List ℕ) : Type 0 where
  pub few : count ≤ 7
  pub places : length at ≡ 7
  pub blank : drop count at ≡ replicate (7 - count) 0
