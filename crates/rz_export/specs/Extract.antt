-- The part of a world on which claims rest.
use Rattle.std.specs.Prelude.{◌↔◌, ℕ, List, Contains}
use Rattle.rz_drv.specs.declared.parts.Part.{Part}
use Rattle.rz_log.specs.declared.world.World.{World}
use Rattle.rz_log.specs.Reachable.{IsReachable, IsRising}
use Rattle.rz_export.specs.declared.claims.Claimed.{Claimed}
use Rattle.rz_export.specs.Claims.{steps_claimed}
use Rattle.rz_export.specs.Moves.{AreMovedNodes, AreMovedLines, AreMovedClaims}
use Rattle.rz_export.specs.Needs.{IsNeeded, names_at}

-- A part has the world's lines of the steps that are claimed and of those on which they rest, and the world's nodes that these
-- lines name, with their parts; rising, and nodes, premises and claims by their places. All else of a line and of a node is
-- kept, its row and its number among it.
pub record IsPartOf (w : World) (claims : List Claimed) (part : Part) : Type 0 where
  pub steps : List ℕ
  pub ids : List ℕ
  pub steps_are : (step : ℕ) → Contains steps step ↔ IsReachable w.log (steps_claimed claims) step
  pub steps_rise : IsRising steps
  pub ids_are : (id : ℕ) → Contains ids id ↔ IsNeeded w.pool.nodes (names_at w.log steps) id
  pub ids_rise : IsRising ids
  pub nodes : AreMovedNodes w.pool.nodes ids part.nodes
  pub lines : AreMovedLines w.log ids steps part.lines
  pub claims_are : AreMovedClaims steps claims part.claims
