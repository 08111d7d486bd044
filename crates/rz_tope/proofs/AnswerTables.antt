-- Tables of answers to a question on trees, by their ids.
use Rattle.std.proofs.Common.{◌≡◌, ℕ, ◌<◌, Bool, true, false, cond, List, length, Option, Some, nat_eq, refl, sym, ap, subst, ◌∙◌}
use Rattle.std.specs.Cmp.{unsigned_Decides}
use Rattle.rz_rules.specs.declared.nodes.Node.{Node}
use Rattle.rz_rules.specs.Tree.{Tree, tree_of}
use Rattle.rz_rules.specs.Cube.{Binders}
use Rattle.rz_pool.specs.Pool.{Grows}
use Rattle.rz_cube.specs.declared.points.Points.{Points}
use Rattle.rz_cube.specs.Point.{binders_at}
use Rattle.rz_pool.specs.Cubes.{AreCubes}
use Rattle.rz_cube.specs.Cached.{Caches, CachesKids}
use Rattle.rz_cube.proofs.CachedPoints.{at_point-Grows, old_node}
use Rattle.rz_tope.specs.Tope.{HasAnswer, KidsHaveAnswers}

module _ {X : Type 0} (answer : Binders → Tree → X) (ns ms : List Node) (grows : Grows ns ms) (entries : List ℕ) (are : AreCubes ns entries)
    (before after : Points) (kept : (q : ℕ) → Caches ns entries before q → Caches ms entries after q) where
  -- what is cached stays while the pool grows
  pub HasAnswer-Grows : (table : ℕ → Option X) (id : ℕ) → HasAnswer answer ns entries before table id → HasAnswer answer ms entries after table id
  HasAnswer-Grows table id has = record {
    point = kept id has.point;
    is = has.is ∙ ap (λ (x : X). Some x) (sym (at_point-Grows ns ms grows answer entries id are has.point.2.live));
  }

  pub KidsHaveAnswers-Grows : (table : ℕ → Option X) (id : ℕ) → id < length ns → KidsHaveAnswers answer ns entries before table id → KidsHaveAnswers answer ms entries after table id
  KidsHaveAnswers-Grows table id live kids node at k d l = HasAnswer-Grows table _ (kids node (old_node ns ms grows id node live at) k d l)

-- the kids are cached as points
pub CachesKids-answers : {X : Type 0} (answer : Binders → Tree → X) (ns : List Node) (entries : List ℕ) (points : Points) (table : ℕ → Option X) (id : ℕ)
    → KidsHaveAnswers answer ns entries points table id → CachesKids ns entries points id
CachesKids-answers answer ns entries points table id kids node at k d l = (kids node at k d l).point

-- a table with one answer more
module _ {X : Type 0} (answer : Binders → Tree → X) (ns : List Node) (entries : List ℕ) (points : Points) (id : ℕ) (caches : Caches ns entries points id)
    (x : X) (is : x ≡ answer (binders_at ns entries) (tree_of ns id)) (before after : ℕ → Option X)
    (noted : (q : ℕ) → after q ≡ cond (nat_eq id q) (Some x) (before q)) where
  pub answer_here : HasAnswer answer ns entries points after id
  answer_here = record {
    point = caches;
    is = noted id ∙ ap (λ b. cond b (Some x) (before id)) ((unsigned_Decides id id).1 refl) ∙ ap (λ (y : X). Some y) is;
  }

  pub answer_others : (q : ℕ) → HasAnswer answer ns entries points before q → HasAnswer answer ns entries points after q
  answer_others q old = by (nat_eq id q) refl where
    by : (b : Bool) → nat_eq id q ≡ b → HasAnswer answer ns entries points after q
    by true e = subst (HasAnswer answer ns entries points after) ((unsigned_Decides id q).0 e) answer_here
    by false e = record { point = old.point; is = noted q ∙ ap (λ b. cond b (Some x) (before q)) e ∙ old.is }
