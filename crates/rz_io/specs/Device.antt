-- What a store tells and what a sink takes, where they tell it, and how their faults are counted.
use Rattle.std.specs.Prelude.{◌≡◌, ℕ, ◌+◌, ◌-◌, ◌^◌, ◌<◌, ◌≤◌, min, cond, Option, Some, None, Result, Ok, Err, List, [], ◌∷◌, ◌++◌, length, take, drop}
use Rattle.std.specs.Str.{bytes_eq}
use Rattle.rz_io.specs.declared.sink.WriteFault.{WriteFault}
use Rattle.rz_io.specs.declared.sink.WriteFault.TheVariants.{Failed, OutOfMemory}

-- what a store tells of a name: nothing, that it has no such name, or the bytes of that name
pub data Told : Type 0 where
  Untold : Told
  Absent : Told
  Present : (bytes : List ℕ) → Told

-- what a read may answer: the told bytes, and any bytes where nothing is told
abbrev pub MayRead : Told → List ℕ → Type 0
MayRead Untold bytes = Unit {0}
MayRead Absent bytes = ⊥
MayRead (Present told) bytes = bytes ≡ told

-- what a list of files tells of a name: the first entry of that name counts
abbrev pub told_by : List (List ℕ × List ℕ) → List ℕ → Told
told_by [] name = Absent
told_by (file ∷ files) name = cond (bytes_eq file.0 name) (Present file.1) (told_by files name)

-- what is told of a name whose bytes are known, or aren't
abbrev pub told_of : Option (List ℕ) → Told
told_of None = Untold
told_of (Some bytes) = Present bytes

-- the count after one more, which stops at the last value of 64 bits
abbrev pub count_after : ℕ → ℕ
count_after count = min (count + 1) (2 ^ 64 - 1)

-- a count rose, or stands at its last value
abbrev pub Rose : ℕ → ℕ → Type 0
Rose before now = count_after before ≤ now

-- what a sink tells grew by these items, where it tells any
abbrev pub Gains : {A : Type 0} → Option (List A) → Option (List A) → List A → Type 0
Gains None new items = Unit {0}
Gains (Some old) new items = new ≡ Some (old ++ items)

-- what a sink tells grew by some of these bytes, from their front, and not by all
abbrev pub GainsPart : Option (List ℕ) → Option (List ℕ) → List ℕ → Type 0
GainsPart old new bytes = (n : ℕ) × (n < length bytes) × Gains old new (take n bytes)

-- a piece that a sink was offered, and how many bytes it took from the front: none where it refused
abbrev pub Offer : Type 0
Offer = List ℕ × ℕ

-- the offers that a write made, by its answer: one, but none where memory ran out
abbrev pub offers_of : List ℕ → Result ℕ WriteFault → List Offer
offers_of piece (Ok count) = (piece, count) ∷ []
offers_of piece (Err Failed) = (piece, 0) ∷ []
offers_of piece (Err OutOfMemory) = []

-- each offer is all that the offers before it left of these bytes, and none follows a refusal
abbrev pub OfferAllLeft : List ℕ → List Offer → Type 0
OfferAllLeft bytes [] = Unit {0}
OfferAllLeft bytes (offer ∷ offers) =
    (offer.0 ≡ bytes) × (offer.1 ≡ 0 → offers ≡ []) × OfferAllLeft (drop offer.1 bytes) offers

-- what a sink was offered of these bytes, where it tells: at each write all that was left
abbrev pub IsOffered : Option (List Offer) → Option (List Offer) → List ℕ → Type 0
IsOffered old new bytes = (offers : List Offer) × Gains old new offers × OfferAllLeft bytes offers

-- a device that an adapter uses, and how many faults it had
pub record Adapter (D : Type 0) : Type 0 where
  pub device : D
  pub faults : ℕ
