-- Nodes that are numbered anew: each stands for the tree for which it stood.
use Rattle.std.proofs.Common.{◌≡◌, ℕ, ◌<◌, List, [], ◌∷◌, ◌++◌, length, map, All, Some, slice_get, refl, sym, ap, subst, ◌∙◌, append_assoc, arith}
use Rattle.std.proofs.lemmas.List.{append-nil, length-map, map-append}
use Rattle.rz_rules.specs.declared.kinds.Kind.{Kind}
use Rattle.rz_rules.specs.declared.nodes.Node.{Node}
use Rattle.rz_rules.specs.Form.{kid_sorts}
use Rattle.rz_rules.specs.Tree.{Tree, At, HasForm, IsLabelled, blank, sort_of, tree_at, tree_of, tree_over, trees_after, trees_in, trees_of}
use Rattle.rz_rules.specs.File.{FileState, NodeFits, NodeItem}
use Rattle.rz_pool.specs.Pool.{IsPool}
use Rattle.rz_pool.proofs.Nodes.{tree_of_place}
use Rattle.rz_log.specs.Reachable.{IsRising}
use Rattle.rz_export.specs.Moves.{AreMovedNodes, IsMovedNode}
use Rattle.rz_export.proofs.Places.{looked_up, place_before, places_agree, places_meet}
use Rattle.rz_export.proofs.Runs.{Runs, runs_cons, runs_none}
use Rattle.std.specs.List.{AllZip}

label_moved : (old new : Node) → new.kind ≡ old.kind → new.number ≡ old.number → new.name ≡ old.name
    → IsLabelled old.kind old.number old.name → IsLabelled new.kind new.number new.name
label_moved old new kind number name is =
    subst (λ (k : Kind). IsLabelled k new.number new.name) (sym kind)
    (subst (λ (n : ℕ). IsLabelled old.kind n new.name) (sym number)
    (subst (λ (bytes : List ℕ). IsLabelled old.kind old.number bytes) (sym name) is))

-- only nodes are known
abbrev pub over_trees : List Tree → FileState
over_trees trees = record { trees = trees; statements = []; claims = [] }

module _ (nodes : List Node) (ids : List ℕ) (pool : IsPool nodes) (rising : IsRising ids) where
  abbrev trees : List ℕ → List Tree
  trees front = map (tree_of nodes) front

  abbrev Moved : ℕ → Node → Type 0
  Moved id new = (old : Node) × (slice_get nodes id ≡ Some old) × IsMovedNode ids old new

  module _ (front rest : List ℕ) (id : ℕ) (new : Node) (parts : ids ≡ front ++ id ∷ rest) (moved : Moved id new) where
    old : Node
    old = moved.0

    form : HasForm (trees_in nodes) id moved.0
    form = pool.forms id moved.0 moved.1

    kids_before : All (λ kid. kid < length front) new.kids
    kids_before =
        places_meet (λ kid. kid < id) (λ place. place < length front) ids moved.0.kids new.kids
        (λ place kid e less. place_before ids front rest id parts rising place kid e less) moved.2.kids form.kids

    kid_trees : map (tree_at (trees front)) new.kids ≡ map (tree_of nodes) moved.0.kids
    kid_trees =
        places_agree (tree_at (trees front)) (tree_of nodes) (λ kid. kid < id) ids moved.0.kids new.kids
        (λ place kid e less. looked_up (tree_of nodes) blank ids front (id ∷ rest) parts place kid (place_before ids front rest id parts rising place kid e less) e)
        moved.2.kids form.kids

    pub node_fits : NodeFits (over_trees (trees front)) new
    node_fits = record {
      steps = refl;
      claims = refl;
      form = record {
        kids = λ k d l. omega (arith, kids_before k d l, length-map front (tree_of nodes));
        sorts = ap (map sort_of) kid_trees ∙ (form.sorts ∙ sym (ap kid_sorts moved.2.kind));
        label = label_moved moved.0 new moved.2.kind moved.2.number moved.2.name form.label;
      };
    }

    node_tree : tree_over (trees front) new ≡ tree_of nodes id
    node_tree =
        (λ i. At (moved.2.kind i) (moved.2.number i) (moved.2.name i) (trees_of (kid_trees i)))
        ∙ sym (tree_of_place nodes pool.forms id moved.0 moved.1)

    pub trees_more : trees front ++ tree_over (trees front) new ∷ [] ≡ trees (front ++ id ∷ [])
    trees_more = ap (λ (t : Tree). trees front ++ t ∷ []) node_tree ∙ sym (map-append (tree_of nodes) front (id ∷ []))

  nodes_run : (front rest : List ℕ) (new : List Node) → ids ≡ front ++ rest → AllZip Moved rest new
      → Runs (over_trees (trees front)) (map (λ n. NodeItem n) new) (over_trees (trees ids))
  nodes_run front [] [] parts moved = runs_none (over_trees (trees front)) (over_trees (trees ids)) (ap (λ (l : List ℕ). over_trees (trees l)) (sym (parts ∙ append-nil front)))
  nodes_run front [] (n ∷ new) parts moved = absurd moved
  nodes_run front (id ∷ rest) [] parts moved = absurd moved
  nodes_run front (id ∷ rest) (n ∷ new) parts moved =
      runs_cons (over_trees (trees front)) (NodeItem n) (map (λ m. NodeItem m) new) (over_trees (trees (front ++ id ∷ []))) (over_trees (trees ids))
      (node_fits front rest id n parts moved.0) tt
      (ap over_trees (trees_more front rest id n parts moved.0))
      (nodes_run (front ++ id ∷ []) rest new (parts ∙ sym (append_assoc front (id ∷ []) rest)) moved.1)

  pub moved_run : (new : List Node) → AreMovedNodes nodes ids new → Runs (over_trees []) (map (λ n. NodeItem n) new) (over_trees (trees ids))
  moved_run new moved = nodes_run [] ids new refl moved

  trees_after_moved : (front rest : List ℕ) (new : List Node) → ids ≡ front ++ rest → AllZip Moved rest new → trees_after (trees front) new ≡ trees ids
  trees_after_moved front [] [] parts moved = ap trees (sym (parts ∙ append-nil front))
  trees_after_moved front [] (n ∷ new) parts moved = absurd moved
  trees_after_moved front (id ∷ rest) [] parts moved = absurd moved
  trees_after_moved front (id ∷ rest) (n ∷ new) parts moved =
      ap (λ (ts : List Tree). trees_after ts new) (trees_more front rest id n parts moved.0)
      ∙ trees_after_moved (front ++ id ∷ []) rest new (parts ∙ sym (append_assoc front (id ∷ []) rest)) moved.1

  pub trees_moved : (new : List Node) → AreMovedNodes nodes ids new → trees_in new ≡ trees ids
  trees_moved new moved = trees_after_moved [] ids new refl moved
