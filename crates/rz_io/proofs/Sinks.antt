-- Pieces that a sink took and offers that it had, one after the other.
use Rattle.std.proofs.Common.{◌≡◌, ℕ, ◌+◌, ◌-◌, ◌<◌, Option, None, Some, List, [], ◌∷◌, ◌++◌, Err, length, take, drop, refl, sym, ◌∙◌, ap, subst, append_assoc, arith, length-append}
use Rattle.std.proofs.lemmas.List.{append-nil, take-append-drop, take_all, length-drop}
use Rattle.std.proofs.Math.Seq.{take-append_seam}
use Rattle.rz_io.specs.declared.sink.WriteFault.{WriteFault}
use Rattle.rz_io.specs.declared.sink.WriteFault.TheVariants.{Failed, OutOfMemory}
use Rattle.rz_io.specs.Device.{Gains, GainsPart, Offer, offers_of, OfferAllLeft, IsOffered}

-- nothing is gained at first
pub Gains-nil : {A : Type 0} → (now : Option (List A)) → Gains now now []
Gains-nil None = tt
Gains-nil (Some items) = ap Some (sym (append-nil items))

-- two gains are one
pub Gains-append : {A : Type 0} → (old middle new : Option (List A)) (xs ys : List A) → Gains old middle xs → Gains middle new ys → Gains old new (xs ++ ys)
Gains-append None middle new xs ys first second = tt
Gains-append (Some items) None new xs ys first second = absurd (cc)
Gains-append (Some items) (Some more) new xs ys first second =
    let e : more ≡ items ++ xs = cc in
    second ∙ ap Some (ap (λ zs. zs ++ ys) e ∙ append_assoc items xs ys)

-- of these bytes all that is not left was taken
abbrev pub Split : Option (List ℕ) → Option (List ℕ) → List ℕ → List ℕ → Type 0
Split old new bytes left = (front : List ℕ) × (bytes ≡ front ++ left) × Gains old new front

-- nothing was taken of bytes that are all left
pub Split-start : (now : Option (List ℕ)) (bytes : List ℕ) → Split now now bytes bytes
Split-start now bytes = ([], refl, Gains-nil now)

-- what a slice from a place to the end holds
pub slice_rest : (n : ℕ) (left : List ℕ) → take (length left - n) (drop n left) ≡ drop n left
slice_rest n left = take_all (length left - n) (drop n left) (omega (arith, length-drop n left))

-- a piece from the front of what is left is taken
pub Split-next : (old middle new : Option (List ℕ)) (bytes left : List ℕ) (n : ℕ) → Split old middle bytes left → Gains middle new (take n left) → Split old new bytes (take (length left - n) (drop n left))
Split-next old middle new bytes left n split gains =
    let seam : split.0 ++ left ≡ (split.0 ++ take n left) ++ drop n left =
    ap (λ bs. split.0 ++ bs) (sym (take-append-drop n left)) ∙ sym (append_assoc split.0 (take n left) (drop n left)) in
    rw (slice_rest n left) (split.0 ++ take n left, split.1 ∙ seam, Gains-append old middle new split.0 (take n left) split.2 gains)

-- nothing is left
pub Split-end : (old new : Option (List ℕ)) (bytes left : List ℕ) → left ≡ [] → Split old new bytes left → Gains old new bytes
Split-end old new bytes left none split =
    let whole : split.0 ≡ bytes = sym (split.1 ∙ ap (λ bs. split.0 ++ bs) none ∙ append-nil split.0) in
    subst (Gains old new) whole split.2

-- a refusal takes nothing of what is left
pub Split-refused : (old middle new : Option (List ℕ)) (bytes left : List ℕ) → 0 < length left → Split old middle bytes left → Gains middle new [] → GainsPart old new bytes
Split-refused old middle new bytes left some split refused =
    let front : take (length split.0) bytes ≡ split.0 = ap (take (length split.0)) split.1 ∙ take-append_seam split.0 left in
    let all : Gains old new (split.0 ++ []) = Gains-append old middle new split.0 [] split.2 refused in
    let fewer : length split.0 < length bytes = omega (arith, ap length split.1, length-append split.0 left) in
    (length split.0, fewer, subst (Gains old new) (append-nil split.0 ∙ sym front) all)

-- what is left is part of the bytes
pub Split-some : (old now : Option (List ℕ)) (bytes left : List ℕ) → 0 < length left → Split old now bytes left → bytes ≡ [] → ⊥
Split-some old now bytes left some split none =
    let counted : length split.0 + length left ≡ 0 = sym (length-append split.0 left) ∙ ap length (sym split.1 ∙ none) in
    omega arith

-- each offer was all that was left of the bytes, none was refused, and this is left
abbrev pub Leaves : List ℕ → List Offer → List ℕ → Type 0
Leaves bytes [] left = bytes ≡ left
Leaves bytes (offer ∷ offers) left = (offer.0 ≡ bytes) × (0 < offer.1) × Leaves (drop offer.1 bytes) offers left

-- no offer was refused
pub Leaves-all : (bytes : List ℕ) (offers : List Offer) (left : List ℕ) → Leaves bytes offers left → OfferAllLeft bytes offers
Leaves-all bytes [] left leaves = tt
Leaves-all bytes (offer ∷ offers) left leaves =
    (leaves.0, λ none. absurd (omega (arith, leaves.1, none)), Leaves-all (drop offer.1 bytes) offers left leaves.2)

-- the last offer may be refused
pub Leaves-last : (bytes : List ℕ) (offers : List Offer) (left : List ℕ) (last : Offer) → Leaves bytes offers left → last.0 ≡ left → OfferAllLeft bytes (offers ++ last ∷ [])
Leaves-last bytes [] left last leaves piece = (piece ∙ sym leaves, λ _. refl, tt)
Leaves-last bytes (offer ∷ offers) left last leaves piece =
    (leaves.0, λ none. absurd (omega (arith, leaves.1, none)), Leaves-last (drop offer.1 bytes) offers left last leaves.2 piece)

-- one offer more that isn't refused
pub Leaves-next : (bytes : List ℕ) (offers : List Offer) (left : List ℕ) (last : Offer) → Leaves bytes offers left → last.0 ≡ left → 0 < last.1 → Leaves bytes (offers ++ last ∷ []) (drop last.1 left)
Leaves-next bytes [] left last leaves piece some = (piece ∙ sym leaves, some, ap (drop last.1) leaves)
Leaves-next bytes (offer ∷ offers) left last leaves piece some =
    (leaves.0, leaves.1, Leaves-next (drop offer.1 bytes) offers left last leaves.2 piece some)

-- what a sink was offered of these bytes, none of it refused, and what is left
abbrev pub Offered : Option (List Offer) → Option (List Offer) → List ℕ → List ℕ → Type 0
Offered old new bytes left = (offers : List Offer) × Gains old new offers × Leaves bytes offers left

-- no offer yet
pub Offered-start : (now : Option (List Offer)) (bytes : List ℕ) → Offered now now bytes bytes
Offered-start now bytes = ([], Gains-nil now, refl)

-- a write took some of what was left
pub Offered-next : (old middle new : Option (List Offer)) (bytes left : List ℕ) (n : ℕ) → Offered old middle bytes left → 0 < n → Gains middle new ((left, n) ∷ []) → Offered old new bytes (take (length left - n) (drop n left))
Offered-next old middle new bytes left n offered some gains =
    let last : Offer = (left, n) in
    rw (slice_rest n left)
    (offered.0 ++ last ∷ [], Gains-append old middle new offered.0 (last ∷ []) offered.1 gains, Leaves-next bytes offered.0 left last offered.2 refl some)

-- all was offered and taken
pub Offered-end : (old new : Option (List Offer)) (bytes left : List ℕ) → Offered old new bytes left → IsOffered old new bytes
Offered-end old new bytes left offered = (offered.0, offered.1, Leaves-all bytes offered.0 left offered.2)

-- a write refused
pub Offered-refused : (old middle new : Option (List Offer)) (bytes left : List ℕ) (fault : WriteFault) → Offered old middle bytes left → Gains middle new (offers_of left (Err fault)) → IsOffered old new bytes
Offered-refused old middle new bytes left Failed offered gains =
    let last : Offer = (left, 0) in
    (offered.0 ++ last ∷ [], Gains-append old middle new offered.0 (last ∷ []) offered.1 gains, Leaves-last bytes offered.0 left last offered.2 refl)
Offered-refused old middle new bytes left OutOfMemory offered gains =
    (offered.0 ++ [], Gains-append old middle new offered.0 [] offered.1 gains, rw (append-nil offered.0) (Leaves-all bytes offered.0 left offered.2))
