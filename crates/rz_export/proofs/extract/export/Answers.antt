use Rattle.std.proofs.Common.{sym, subst, length}
use Rattle.rz_log.specs.Reachable.{IsReachable, IsRising}
use Rattle.rz_export.specs.Claims.{steps_claimed}
use Rattle.rz_export.specs.Needs.{IsNeeded, names_at}
use Rattle.rz_export.proofs.Filing.{file_of}
use Rattle.rz_export.proofs.Needing.{claims_among, claims_live, ids_closed, ids_live, name_among, rest_among, steps_within}
use Rattle.rz_export.proofs.Numbering.{trees_moved}
use Rattle.rz_export.proofs.Places.{same_contents}
use Rattle.rz_export.proofs.Vain.{no_vain_line, no_vain_node, shared_moved, supported}
use Rattle.rz_export.proofs.extract.export.Goals as goal

pub needed_ids-requires-clause-live : goal.needed_ids-requires-clause-live
needed_ids-requires-clause-live c =
    let steps = c.as_slice-steps.result.now in
    let exact = same_contents c.in_ok-support.support steps (IsReachable c.args.w.now.log (steps_claimed c.args.claims.now)) c.as_slice-steps.ensures c.in_ok-support.ensures.exact in
    let live = claims_live (length c.args.w.now.log) c.args.claims.now c.requires.steps in
    steps_within c.args.w.now c.requires.sound (steps_claimed c.args.claims.now) live steps exact

pub moved_nodes-requires-clause-live : goal.moved_nodes-requires-clause-live
moved_nodes-requires-clause-live c =
    let steps = c.as_slice-steps.result.now in
    let ids = c.as_slice-ids.result.now in
    let needed = same_contents c.in_ok-needed.needed ids (IsNeeded c.args.w.now.pool.nodes (names_at c.args.w.now.log steps)) c.as_slice-ids.ensures c.in_ok-needed.ensures.exact in
    ids_live c.args.w.now c.requires.sound steps ids needed

pub moved_nodes-requires-clause-closed : goal.moved_nodes-requires-clause-closed
moved_nodes-requires-clause-closed c =
    let steps = c.as_slice-steps.result.now in
    let ids = c.as_slice-ids.result.now in
    let needed = same_contents c.in_ok-needed.needed ids (IsNeeded c.args.w.now.pool.nodes (names_at c.args.w.now.log steps)) c.as_slice-ids.ensures c.in_ok-needed.ensures.exact in
    ids_closed c.args.w.now c.requires.sound steps ids needed

pub moved_lines-requires-clause-live : goal.moved_lines-requires-clause-live
moved_lines-requires-clause-live c =
    let steps = c.as_slice-steps.result.now in
    let exact = same_contents c.in_ok-support.support steps (IsReachable c.args.w.now.log (steps_claimed c.args.claims.now)) c.as_slice-steps.ensures c.in_ok-support.ensures.exact in
    let live = claims_live (length c.args.w.now.log) c.args.claims.now c.requires.steps in
    steps_within c.args.w.now c.requires.sound (steps_claimed c.args.claims.now) live steps exact

pub moved_lines-requires-clause-named : goal.moved_lines-requires-clause-named
moved_lines-requires-clause-named c =
    let steps = c.as_slice-steps.result.now in
    let ids = c.as_slice-ids.result.now in
    let needed = same_contents c.in_ok-needed.needed ids (IsNeeded c.args.w.now.pool.nodes (names_at c.args.w.now.log steps)) c.as_slice-ids.ensures c.in_ok-needed.ensures.exact in
    name_among c.args.w.now c.requires.sound steps ids needed

pub moved_lines-requires-clause-premises : goal.moved_lines-requires-clause-premises
moved_lines-requires-clause-premises c =
    let steps = c.as_slice-steps.result.now in
    let exact = same_contents c.in_ok-support.support steps (IsReachable c.args.w.now.log (steps_claimed c.args.claims.now)) c.as_slice-steps.ensures c.in_ok-support.ensures.exact in
    let live = claims_live (length c.args.w.now.log) c.args.claims.now c.requires.steps in
    rest_among c.args.w.now c.requires.sound (steps_claimed c.args.claims.now) live steps exact

pub moved_claims-requires-clause-there : goal.moved_claims-requires-clause-there
moved_claims-requires-clause-there c =
    let steps = c.as_slice-steps.result.now in
    let exact = same_contents c.in_ok-support.support steps (IsReachable c.args.w.now.log (steps_claimed c.args.claims.now)) c.as_slice-steps.ensures c.in_ok-support.ensures.exact in
    claims_among c.args.w.now.log c.args.claims.now steps exact

pub returns-clause-file : goal.returns-clause-file
returns-clause-file c =
    let steps = c.as_slice-steps.result.now in
    let ids = c.as_slice-ids.result.now in
    let rising_steps = subst IsRising (sym c.as_slice-steps.ensures) c.in_ok-support.ensures.rising in
    let rising_ids = subst IsRising (sym c.as_slice-ids.ensures) c.in_ok-needed.ensures.rising in
    file_of c.args.w.now ids steps c.args.claims.now (record { nodes = c.in_ok-nodes.nodes; lines = c.in_ok-lines.lines; claims = c.in_ok-claims.claims })
    c.requires.sound rising_ids rising_steps c.in_ok-nodes.ensures c.in_ok-lines.ensures c.in_ok-claims.ensures c.requires.names

pub returns-clause-part : goal.returns-clause-part
returns-clause-part c =
    let steps = c.as_slice-steps.result.now in
    let ids = c.as_slice-ids.result.now in record {
      steps = steps;
      ids = ids;
      steps_are = same_contents c.in_ok-support.support steps (IsReachable c.args.w.now.log (steps_claimed c.args.claims.now)) c.as_slice-steps.ensures c.in_ok-support.ensures.exact;
      steps_rise = subst IsRising (sym c.as_slice-steps.ensures) c.in_ok-support.ensures.rising;
      ids_are = same_contents c.in_ok-needed.needed ids (IsNeeded c.args.w.now.pool.nodes (names_at c.args.w.now.log steps)) c.as_slice-ids.ensures c.in_ok-needed.ensures.exact;
      ids_rise = subst IsRising (sym c.as_slice-ids.ensures) c.in_ok-needed.ensures.rising;
      nodes = c.in_ok-nodes.ensures;
      lines = c.in_ok-lines.ensures;
      claims_are = c.in_ok-claims.ensures;
    }

pub returns-clause-lines : goal.returns-clause-lines
returns-clause-lines c =
    let steps = c.as_slice-steps.result.now in
    let ids = c.as_slice-ids.result.now in
    let exact = same_contents c.in_ok-support.support steps (IsReachable c.args.w.now.log (steps_claimed c.args.claims.now)) c.as_slice-steps.ensures c.in_ok-support.ensures.exact in
    let rising_steps = subst IsRising (sym c.as_slice-steps.ensures) c.in_ok-support.ensures.rising in
    no_vain_line c.args.w.now.log ids steps c.in_ok-lines.lines c.in_ok-lines.ensures rising_steps c.args.claims.now c.in_ok-claims.claims c.in_ok-claims.ensures exact

pub returns-clause-nodes : goal.returns-clause-nodes
returns-clause-nodes c =
    let steps = c.as_slice-steps.result.now in
    let ids = c.as_slice-ids.result.now in
    let needed = same_contents c.in_ok-needed.needed ids (IsNeeded c.args.w.now.pool.nodes (names_at c.args.w.now.log steps)) c.as_slice-ids.ensures c.in_ok-needed.ensures.exact in
    let rising_ids = subst IsRising (sym c.as_slice-ids.ensures) c.in_ok-needed.ensures.rising in
    no_vain_node c.args.w.now.log ids steps c.in_ok-lines.lines c.in_ok-lines.ensures c.args.w.now.pool.nodes c.in_ok-nodes.nodes rising_ids c.in_ok-nodes.ensures needed

pub returns-clause-support : goal.returns-clause-support
returns-clause-support c =
    let steps = c.as_slice-steps.result.now in
    let ids = c.as_slice-ids.result.now in
    let exact = same_contents c.in_ok-support.support steps (IsReachable c.args.w.now.log (steps_claimed c.args.claims.now)) c.as_slice-steps.ensures c.in_ok-support.ensures.exact in
    let rising_steps = subst IsRising (sym c.as_slice-steps.ensures) c.in_ok-support.ensures.rising in
    let rising_ids = subst IsRising (sym c.as_slice-ids.ensures) c.in_ok-needed.ensures.rising in
    let trees = trees_moved c.args.w.now.pool.nodes ids c.requires.sound.pool rising_ids c.in_ok-nodes.nodes c.in_ok-nodes.ensures in
    supported c.args.w.now ids steps (steps_claimed c.args.claims.now) (record { nodes = c.in_ok-nodes.nodes; lines = c.in_ok-lines.lines; claims = c.in_ok-claims.claims })
    trees c.in_ok-lines.ensures rising_steps exact

pub returns-clause-shared : goal.returns-clause-shared
returns-clause-shared c =
    let steps = c.as_slice-steps.result.now in
    let ids = c.as_slice-ids.result.now in
    let needed = same_contents c.in_ok-needed.needed ids (IsNeeded c.args.w.now.pool.nodes (names_at c.args.w.now.log steps)) c.as_slice-ids.ensures c.in_ok-needed.ensures.exact in
    let rising_ids = subst IsRising (sym c.as_slice-ids.ensures) c.in_ok-needed.ensures.rising in
    let trees = trees_moved c.args.w.now.pool.nodes ids c.requires.sound.pool rising_ids c.in_ok-nodes.nodes c.in_ok-nodes.ensures in
    shared_moved c.args.w.now.pool.nodes ids c.in_ok-nodes.nodes c.requires.sound.pool.shared rising_ids
    (ids_live c.args.w.now c.requires.sound steps ids needed) trees c.in_ok-nodes.ensures
