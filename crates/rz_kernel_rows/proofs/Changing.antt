-- What becomes of trees and of judgments behind a cut.
use Rattle.std.proofs.Common.{◌≡◌, ℕ, ◌<◌, ◌^◌, List, length, Option, Some, None, refl, subst}
use Rattle.std.specs.Prelude.{◌↔◌, Result, Ok, Err, IfOk, IfSome, IfNone, IsSome}
use Rattle.rz_rules.specs.declared.nodes.Node.{Node}
use Rattle.rz_rules.specs.declared.rows.Scheme.TheVariants as scheme
use Rattle.rz_rules.specs.declared.judgments.Judgment.{Judgment}
use Rattle.rz_rules.specs.Tree.{Tree, tree_of, trees_in}
use Rattle.rz_rules.specs.Judgment.{Statement, statement}
use Rattle.rz_rules.specs.Structural.{has, holds}
use Rattle.rz_rules.specs.Tope.{equal_points}
use Rattle.rz_rules.specs.Substitution.{Changes, IndicesBelow}
use Rattle.rz_rules.specs.Context.{OfCube, OfType}
use Rattle.rz_subst.specs.Walk.{IsAnswerOf}
use Rattle.rz_pool.specs.declared.entries.Entry.{Entry}
use Rattle.rz_pool.specs.declared.entries.Entry.TheVariants as entry
use Rattle.rz_pool.specs.declared.entries.Last.{Last}
use Rattle.rz_kernel_rows.specs.Context.{entry_over}
use Rattle.rz_kernel_rows.specs.Move.{AllowsNoPoint, AllowsNoTerm, IsNotRemoved, Removes}

-- an id and what is told of it make an answer
answers : (nodes : List Node) (tree : Tree) (new : Option ℕ) → IsSome new ↔ IndicesBelow (2 ^ 32) tree → IfSome new (λ id. id < length nodes) → IfSome new (λ id. tree_of nodes id ≡ tree)
    → IsAnswerOf nodes tree new
answers nodes tree (Some id) fits within is = (within, is)
answers nodes tree None fits within is = λ below. let some = fits.1 below in cc

pub answered : {E : Type 0} (r : Result (Option ℕ) E) (nodes : List Node) (made tree : Tree) → made ≡ tree → IfOk r (λ new. IsSome new ↔ IndicesBelow (2 ^ 32) made)
    → IfOk r (λ new. IfSome new (λ id. id < length nodes)) → IfOk r (λ new. IfSome new (λ id. tree_of nodes id ≡ made)) → IfOk r (IsAnswerOf nodes tree)
answered (Ok new) nodes made tree same fits within is = subst (λ (t : Tree). IsAnswerOf nodes t new) same (answers nodes made new fits within is)
answered (Err e) nodes made tree same fits within is = tt

pub if_none : {A : Type 0} {P : Type 0} (r : Option A) → P → IfNone r P
if_none None p = p
if_none (Some a) p = tt

-- ---- entries that don't go

no_term : (e : Entry) (nodes : List Node) (outer : Tree) (allowed : Statement) → ((type value : Tree) → entry_over nodes e ≡ OfType type → allowed ≡ has outer value type → ⊥)
    → (changes : Changes) → Removes scheme.TermCut outer (entry_over nodes e) allowed changes → ⊥
no_term (entry.Term id) nodes outer allowed none changes h = none (tree_of nodes id) h.0 refl h.1
no_term (entry.Cube id) nodes outer allowed none changes h = h
no_term (entry.Tope id) nodes outer allowed none changes h = h

pub no_term_goes : (nodes : List Node) (at : Last) (allowed : Judgment) → AllowsNoTerm nodes at allowed → IsNotRemoved nodes scheme.TermCut at allowed
no_term_goes nodes at allowed none = no_term at.entry nodes (tree_of nodes at.before) (statement (trees_in nodes) allowed) none

no_point : (e : Entry) (nodes : List Node) (outer : Tree) (allowed : Statement) → ((cube point : Tree) → entry_over nodes e ≡ OfCube cube → allowed ≡ holds outer (equal_points cube point point) → ⊥)
    → (changes : Changes) → Removes scheme.CubeCut outer (entry_over nodes e) allowed changes → ⊥
no_point (entry.Cube id) nodes outer allowed none changes h = none (tree_of nodes id) h.0 refl h.1
no_point (entry.Term id) nodes outer allowed none changes h = h
no_point (entry.Tope id) nodes outer allowed none changes h = h

pub no_point_goes : (nodes : List Node) (at : Last) (allowed : Judgment) → AllowsNoPoint nodes at allowed → IsNotRemoved nodes scheme.CubeCut at allowed
no_point_goes nodes at allowed none = no_point at.entry nodes (tree_of nodes at.before) (statement (trees_in nodes) allowed) none
