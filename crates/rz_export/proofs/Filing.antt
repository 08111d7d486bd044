-- The file of a part whose items are numbered anew.
use Rattle.std.proofs.Common.{◌≡◌, ℕ, ◌<◌, List, [], ◌∷◌, ◌++◌, length, map, All, refl, sym, ap, subst, append_assoc, arith}
use Rattle.std.specs.List.{AllZip}
use Rattle.std.proofs.lemmas.List.{append-nil, length-map}
use Rattle.std.proofs.lemmas.List.Elements.{All-head, All-tail}
use Rattle.std.proofs.lemmas.Option.{slice_get_within}
use Rattle.rz_rules.specs.Name.{IsName}
use Rattle.rz_rules.specs.Tree.{Tree, tree_of}
use Rattle.rz_rules.specs.Judgment.{Statement}
use Rattle.rz_rules.specs.File.{Claim, ClaimFits, FileState, IsFile, NodeItem, StepItem, empty_state, statement_at}
use Rattle.rz_drv.specs.declared.parts.Part.{Part}
use Rattle.rz_drv.specs.Part.{claim_item, items_of, spelling}
use Rattle.rz_log.specs.declared.world.World.{World}
use Rattle.rz_log.specs.Reachable.{IsRising}
use Rattle.rz_log.specs.World.{IsSound, statements_in}
use Rattle.rz_export.specs.declared.claims.Claimed.{Claimed}
use Rattle.rz_export.specs.Claims.{claims_in}
use Rattle.rz_export.specs.Moves.{AreMovedClaims, AreMovedLines, AreMovedNodes, IsMovedClaim}
use Rattle.rz_export.proofs.Places.{looked_up}
use Rattle.rz_export.proofs.Runs.{Runs, runs_append, runs_cons, runs_none}
use Rattle.rz_export.proofs.Numbering as numbering
use Rattle.rz_export.proofs.Following as following

module _ (w : World) (trees : List Tree) (steps : List ℕ) where
  abbrev said : ℕ → Statement
  said step = statement_at (statements_in w) step

  abbrev known : List Claim → FileState
  known claims = record { trees = trees; statements = map said steps; claims = claims }

  pub claims_run : (before : List Claim) (olds : List Claimed) (news : List (List ℕ × ℕ)) → AllZip (IsMovedClaim steps) olds news → All (λ claim. IsName claim.name) olds
      → Runs (known before) (map claim_item news) (known (before ++ claims_in w olds))
  claims_run before [] [] moved names = runs_none (known before) (known (before ++ [])) (ap known (sym (append-nil before)))
  claims_run before [] (new ∷ news) moved names = absurd moved
  claims_run before (old ∷ olds) [] moved names = absurd moved
  claims_run before (old ∷ olds) (new ∷ news) moved names =
      let one : IsMovedClaim steps old new = moved.0 in
      let within : new.1 < length steps = slice_get_within steps new.1 old.step one.step in
      let named : IsName new.0 = subst IsName (sym one.name) (All-head (λ (claim : Claimed). IsName claim.name) old olds names) in
      let fits : ClaimFits (known before) new.0 new.1 = record { named = named; there = omega (arith, within, length-map steps said) } in
      let says : statement_at (map said steps) new.1 ≡ said old.step = looked_up said _ steps steps [] (sym (append-nil steps)) new.1 old.step within one.step in
      let claim : Claim = record { name = old.name; says = said old.step } in
      let next : known (before ++ record { name = new.0; says = statement_at (map said steps) new.1 } ∷ []) ≡ known (before ++ claim ∷ []) =
      λ i. known (before ++ record { name = one.name i; says = says i } ∷ []) in
      runs_cons (known before) (claim_item new) (map claim_item news) (known (before ++ claim ∷ [])) (known (before ++ claim ∷ claims_in w olds)) fits tt next
      (subst (λ (claims : List Claim). Runs (known (before ++ claim ∷ [])) (map claim_item news) (known claims)) (append_assoc before (claim ∷ []) (claims_in w olds))
      (claims_run (before ++ claim ∷ []) olds news moved.1 (All-tail (λ (c : Claimed). IsName c.name) old olds names)))

pub file_of : (w : World) (ids steps : List ℕ) (claims : List Claimed) (part : Part) → IsSound w → IsRising ids → IsRising steps
    → AreMovedNodes w.pool.nodes ids part.nodes → AreMovedLines w.log ids steps part.lines → AreMovedClaims steps claims part.claims
    → All (λ claim. IsName claim.name) claims → IsFile (spelling part) (claims_in w claims)
file_of w ids steps claims part sound rising_ids rising_steps nodes lines moved names =
    let trees : List Tree = map (tree_of w.pool.nodes) ids in
    let first = numbering.moved_run w.pool.nodes ids sound.pool rising_ids part.nodes nodes in
    let second = following.moved_run w sound ids steps rising_steps part.lines lines in
    let third = claims_run w trees steps [] claims part.claims moved names in
    let all : Runs empty_state (items_of part) (known w trees steps (claims_in w claims)) =
    runs_append empty_state (map (λ node. NodeItem node) part.nodes) (map (λ line. StepItem line) part.lines ++ map claim_item part.claims)
    (known w trees [] []) (known w trees steps (claims_in w claims)) first
    (runs_append (known w trees [] []) (map (λ line. StepItem line) part.lines) (map claim_item part.claims) (known w trees steps []) (known w trees steps (claims_in w claims)) second third) in
    (items_of part, all.fit, all.follow, refl, sym (ap (λ (s : FileState). s.claims) all.state))
