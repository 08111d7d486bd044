-- What a file's items so far are for those behind them.
use Rattle.std.specs.Prelude.{◌≡◌, ◌≢◌, [], true, false, length, map}
use Rattle.rz_rules.specs.Tree.{sort_of}
use Rattle.rz_rules.specs.File.{FileState}
use Rattle.rz_drv.specs.declared.outlines.Outline.{Outline}

-- the sorts of the trees, the number of the steps, and whether there is a claim
pub record IsOutline (known : FileState) (outline : Outline) : Type 0 where
  pub sorts : outline.sorts.items ≡ map sort_of known.trees
  pub steps : outline.steps ≡ length known.statements
  pub claimed : outline.claimed ≡ true → known.claims ≢ []
  pub unclaimed : outline.claimed ≡ false → known.claims ≡ []
