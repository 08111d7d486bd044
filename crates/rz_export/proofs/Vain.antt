-- What is numbered anew rests on the claims, and is named, as it was.
use Rattle.std.proofs.Common.{◌≡◌, ℕ, zero, suc, ◌<◌, List, [], ◌∷◌, length, get_or, map, All, Contains, Some, slice_get, refl, sym, ap, subst, ◌∙◌, arith}
use Rattle.std.specs.Prelude.{◌↔◌}
use Rattle.std.specs.List.{AllZip, concat}
use Rattle.std.proofs.lemmas.Option.{slice_get-get_or, get_or_from_slice_get}
use Rattle.rz_rules.specs.declared.nodes.Node.{Node}
use Rattle.rz_rules.specs.declared.judgments.Line.{Line}
use Rattle.rz_rules.specs.Tree.{Tree, blank, tree_at, tree_of, trees_in}
use Rattle.rz_rules.specs.File.{statement_at}
use Rattle.rz_pool.specs.Pool.{ShareTrees}
use Rattle.rz_drv.specs.declared.parts.Part.{Part}
use Rattle.std.proofs.lemmas.List.{get_or-map}
use Rattle.rz_rules.specs.Judgment.{ids_of, statement}
use Rattle.rz_log.specs.declared.world.World.{World}
use Rattle.rz_log.specs.Reachable.{IsReachable, IsRising, Premise, Root}
use Rattle.rz_log.specs.Log.{judgments_of}
use Rattle.rz_log.specs.World.{statements_in}
use Rattle.rz_export.specs.declared.claims.Claimed.{Claimed}
use Rattle.rz_export.specs.Claims.{steps_claimed}
use Rattle.rz_export.specs.Moves.{AreMovedClaims, AreMovedLines, AreMovedNodes, ArePlaces, IsMovedLine, IsMovedNode}
use Rattle.rz_export.specs.Needs.{HasTheSupport, IsNeeded, Kid, Named, names_at}
use Rattle.rz_export.proofs.Following.{judgment_says, said_there}
use Rattle.rz_export.proofs.Needing.{concat_in, named_at}
use Rattle.rz_export.proofs.Places.{contained, place_among, place_of, same_place}

-- what stands across from an element
pub zip_at : {A B : Type 0} (R : A → B → Type 0) (xs : List A) (ys : List B) → AllZip R xs ys → (i : ℕ) (x : A) → slice_get xs i ≡ Some x
    → (y : B) × (slice_get ys i ≡ Some y) × R x y
zip_at R [] ys zip i x e = absurd cc
zip_at R (a ∷ xs) [] zip i x e = absurd zip
zip_at R (a ∷ xs) (b ∷ ys) zip zero x e =
    let same : a ≡ x = cc in
    (b, refl, subst (λ z. R z b) same zip.0)
zip_at R (a ∷ xs) (b ∷ ys) zip (suc i) x e = zip_at R xs ys zip.1 i x e

pub length_zip : {A B : Type 0} (R : A → B → Type 0) (xs : List A) (ys : List B) → AllZip R xs ys → length xs ≡ length ys
length_zip R [] [] zip = refl
length_zip R [] (y ∷ ys) zip = absurd zip
length_zip R (x ∷ xs) [] zip = absurd zip
length_zip R (x ∷ xs) (y ∷ ys) zip = ap suc (length_zip R xs ys zip.1)

claim_places : (steps : List ℕ) (olds : List Claimed) (news : List (List ℕ × ℕ)) → AreMovedClaims steps olds news
    → ArePlaces steps (steps_claimed olds) (map (λ claim. claim.1) news)
claim_places steps [] [] moved = refl
claim_places steps [] (new ∷ news) moved = absurd moved
claim_places steps (old ∷ olds) [] moved = absurd moved
claim_places steps (old ∷ olds) (new ∷ news) moved =
    let one = moved.0.step in
    let rest = claim_places steps olds news moved.1 in
    λ i. one i ∷ rest i

-- a place of the new lines is that of a step
module _ (lines : List Line) (ids steps : List ℕ) (new : List Line) (moved : AreMovedLines lines ids steps new) where
  abbrev MovedLine : ℕ → Line → Type 0
  MovedLine step line = (old : Line) × (slice_get lines step ≡ Some old) × IsMovedLine ids steps old line

  -- the new line of a step
  line_at : (place step : ℕ) (line : Line) → slice_get steps place ≡ Some step → slice_get lines step ≡ Some line
      → (n : Line) × (slice_get new place ≡ Some n) × IsMovedLine ids steps line n
  line_at place step line e at =
      let found = zip_at MovedLine steps new moved place step e in
      let both : Some found.2.0 ≡ Some line = sym found.2.1 ∙ at in
      let same : found.2.0 ≡ line = cc in
      (found.0, found.1, subst (λ (old : Line). IsMovedLine ids steps old found.0) same found.2.2)

  step_at : (place : ℕ) → place < length new → slice_get steps place ≡ Some (get_or steps place 0)
  step_at place within = slice_get-get_or steps place 0 (omega (arith, within, length_zip MovedLine steps new moved))

  module _ (rising : IsRising steps) (olds : List Claimed) (news : List (List ℕ × ℕ)) (claims : AreMovedClaims steps olds news)
      (exact : (step : ℕ) → Contains steps step ↔ IsReachable lines (steps_claimed olds) step) where
    abbrev Reached : ℕ → Type 0
    Reached place = IsReachable new (map (λ claim. claim.1) news) place

    reached : (step : ℕ) → IsReachable lines (steps_claimed olds) step → (place : ℕ) → slice_get steps place ≡ Some step → Reached place
    reached step (Root root) place e =
        let found = place_among steps (steps_claimed olds) (map (λ claim. claim.1) news) (claim_places steps olds news claims) step root in
        subst Reached (same_place steps rising found.0 place step found.2 e) (Root found.1)
    reached step (Premise {step = from} {line = line} before at premise) place e =
        let there = place_of steps from ((exact from).1 before) in
        let n = line_at there.0 from line there.1 at in
        let found = place_among steps line.from n.0.from n.2.from step premise in
        subst Reached (same_place steps rising found.0 place step found.2 e) (Premise (reached from before there.0 there.1) n.1 found.1)

    pub no_vain_line : (place : ℕ) → place < length new → Reached place
    no_vain_line place within =
        let e = step_at place within in
        reached (get_or steps place 0) ((exact (get_or steps place 0)).0 (contained steps place (get_or steps place 0) e)) place e

  -- the nodes
  module _ (nodes news : List Node) (rising : IsRising ids) (moved_nodes : AreMovedNodes nodes ids news)
      (exact : (id : ℕ) → Contains ids id ↔ IsNeeded nodes (names_at lines steps) id) where
    abbrev MovedNode : ℕ → Node → Type 0
    MovedNode id node = (old : Node) × (slice_get nodes id ≡ Some old) × IsMovedNode ids old node

    abbrev Needed : ℕ → Type 0
    Needed place = IsNeeded news (concat (map (λ line. ids_of line.says) new)) place

    node_at : (place id : ℕ) (node : Node) → slice_get ids place ≡ Some id → slice_get nodes id ≡ Some node
        → (n : Node) × (slice_get news place ≡ Some n) × IsMovedNode ids node n
    node_at place id node e at =
        let found = zip_at MovedNode ids news moved_nodes place id e in
        let both : Some found.2.0 ≡ Some node = sym found.2.1 ∙ at in
        let same : found.2.0 ≡ node = cc in
        (found.0, found.1, subst (λ (old : Node). IsMovedNode ids old found.0) same found.2.2)

    needed : (id : ℕ) → IsNeeded nodes (names_at lines steps) id → (place : ℕ) → slice_get ids place ≡ Some id → Needed place
    needed id (Named there) place e =
        let named = named_at lines steps id there in
        let at = place_of steps named.0 named.1 in
        let line = named.2.0 in
        let n = line_at at.0 named.0 line at.1 named.2.1 in
        let found = place_among ids (ids_of line.says) (ids_of n.0.says) n.2.says.named id named.2.2 in
        subst Needed (same_place ids rising found.0 place id found.2 e)
        (Named (concat_in (λ (l : Line). ids_of l.says) new at.0 n.0 found.0 n.1 found.1))
    needed id (Kid {id = whole} {node = node} before at kid) place e =
        let there = place_of ids whole ((exact whole).1 before) in
        let n = node_at there.0 whole node there.1 at in
        let found = place_among ids node.kids n.0.kids n.2.kids id kid in
        subst Needed (same_place ids rising found.0 place id found.2 e) (Kid (needed whole before there.0 there.1) n.1 found.1)

    pub no_vain_node : (place : ℕ) → place < length news → Needed place
    no_vain_node place within =
        let e : slice_get ids place ≡ Some (get_or ids place 0) = slice_get-get_or ids place 0 (omega (arith, within, length_zip MovedNode ids news moved_nodes)) in
        needed (get_or ids place 0) ((exact (get_or ids place 0)).0 (contained ids place (get_or ids place 0) e)) place e

-- the new lines say what the steps say
lines_say : (w : World) (ids steps rest : List ℕ) (new : List Line) → AllZip (λ step line. (old : Line) × (slice_get w.log step ≡ Some old) × IsMovedLine ids steps old line) rest new
    → map (statement (map (tree_of w.pool.nodes) ids)) (judgments_of new) ≡ map (statement_at (statements_in w)) rest
lines_say w ids steps [] [] moved = refl
lines_say w ids steps [] (line ∷ new) moved = absurd moved
lines_say w ids steps (step ∷ rest) [] moved = absurd moved
lines_say w ids steps (step ∷ rest) (line ∷ new) moved =
    let old = moved.0.0 in
    let here = said_there w.pool.nodes w.log step old moved.0.1 in
    let first : statement (map (tree_of w.pool.nodes) ids) line.says ≡ statement_at (statements_in w) step =
    judgment_says w.pool.nodes ids old.says line.says moved.0.2.says ∙ sym (get_or_from_slice_get (statements_in w) step (statement (trees_in w.pool.nodes) old.says) _ here) in
    let others = lines_say w ids steps rest new moved.1 in
    λ i. first i ∷ others i

pub supported : (w : World) (ids steps roots : List ℕ) (part : Part) → trees_in part.nodes ≡ map (tree_of w.pool.nodes) ids → AreMovedLines w.log ids steps part.lines
    → IsRising steps → ((step : ℕ) → Contains steps step ↔ IsReachable w.log roots step) → HasTheSupport w roots part
supported w ids steps roots part same moved rising exact = record {
  steps = steps;
  exact = exact;
  rising = rising;
  says = ap (λ (ts : List Tree). map (statement ts) (judgments_of part.lines)) same ∙ lines_say w ids steps steps part.lines moved;
}

-- nodes that are numbered anew stand for different trees still
pub shared : (nodes : List Node) (ids : List ℕ) (new : List Node) → ShareTrees nodes → IsRising ids → All (λ id. id < length nodes) ids
    → trees_in new ≡ map (tree_of nodes) ids → length ids ≡ length new → ShareTrees new
shared nodes ids new pool rising live same long i j li lj e =
    let mi : i < length ids = omega (arith, li, long) in
    let mj : j < length ids = omega (arith, lj, long) in
    let at : (k : ℕ) → k < length ids → tree_of new k ≡ tree_of nodes (get_or ids k 0) =
    λ k l. ap (λ (ts : List Tree). tree_at ts k) same ∙ get_or-map (tree_of nodes) ids k 0 blank l in
    let ids_same : get_or ids i 0 ≡ get_or ids j 0 =
    pool (get_or ids i 0) (get_or ids j 0) (live i 0 mi) (live j 0 mj) (sym (at i mi) ∙ (e ∙ at j mj)) in
    same_place ids rising i j (get_or ids i 0) (slice_get-get_or ids i 0 mi) (slice_get-get_or ids j 0 mj ∙ ap (λ n. Some n) (sym ids_same))

pub shared_moved : (nodes : List Node) (ids : List ℕ) (new : List Node) → ShareTrees nodes → IsRising ids → All (λ id. id < length nodes) ids
    → trees_in new ≡ map (tree_of nodes) ids → AreMovedNodes nodes ids new → ShareTrees new
shared_moved nodes ids new pool rising live same moved =
    shared nodes ids new pool rising live same
    (length_zip (λ id node. (old : Node) × (slice_get nodes id ≡ Some old) × IsMovedNode ids old node) ids new moved)
