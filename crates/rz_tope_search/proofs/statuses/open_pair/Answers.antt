use Rattle.std.proofs.Common.{◌≡◌, ◌<◌, Some, sym, ◌∙◌, arith}
use Rattle.std.specs.Prelude.{slice_get}
use Rattle.std.proofs.lemmas.Option.{slice_get-get_or}
use Rattle.rz_tope_proof.specs.Part.{part_at}
use Rattle.rz_tope_search.proofs.statuses.open_pair.Goals as goal
use Rattle.rz_tope_search.proofs.statuses.open_pair.Goals.{In-Kid, In-Pair}

pub loop-kid-smaller : goal.loop-kid-smaller
loop-kid-smaller c =
    let parts = c.args.parts.now in
    let at = c.loop-kid.at in
    c.in-Kid.ensures.within at (c.requires.parts at (part_at parts at) (slice_get-get_or parts at _ c.loop-kid.invariant.there))

pub loop-kid-preserved : goal.loop-kid-preserved
loop-kid-preserved c =
    let parts = c.args.parts.now in
    let at = c.loop-kid.at in
    let there : slice_get parts at ≡ Some (part_at parts at) = slice_get-get_or parts at _ c.loop-kid.invariant.there in
    let less : c.in-Kid.kid < at = c.in-Kid.ensures.within at (c.requires.parts at (part_at parts at) there) in
    record {
      there = omega (arith, less, c.loop-kid.invariant.there);
      open_part = c.in-Kid.ensures.gap c.requires.list.0 (sym (c.requires.list.1.decided at (part_at parts at) there) ∙ c.loop-kid.invariant.open_part);
    }

pub returns-in-Pair-clause-first : goal.returns-in-Pair-clause-first
returns-in-Pair-clause-first c =
    let parts = c.args.parts.now in
    let at = c.loop-kid.at in
    (c.in-Pair.ensures.within at (c.requires.parts at (part_at parts at) (slice_get-get_or parts at _ c.loop-kid.invariant.there))).0

pub returns-in-Pair-clause-second : goal.returns-in-Pair-clause-second
returns-in-Pair-clause-second c =
    let parts = c.args.parts.now in
    let at = c.loop-kid.at in
    (c.in-Pair.ensures.within at (c.requires.parts at (part_at parts at) (slice_get-get_or parts at _ c.loop-kid.invariant.there))).1

pub returns-in-Pair-clause-neither : goal.returns-in-Pair-clause-neither
returns-in-Pair-clause-neither c le list =
    let parts = c.args.parts.now in
    let at = c.loop-kid.at in
    let there : slice_get parts at ≡ Some (part_at parts at) = slice_get-get_or parts at _ c.loop-kid.invariant.there in
    c.in-Pair.ensures.gap le (sym (list.decided at (part_at parts at) there) ∙ c.loop-kid.invariant.open_part)
