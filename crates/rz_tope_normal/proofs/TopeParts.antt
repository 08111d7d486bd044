-- The parts of topes by their nodes.
use Rattle.std.proofs.Common.{◌≡◌, ℕ, ◌<◌, List, [], ◌∷◌, ◌++◌, length, map, nat_eq, All, Some, refl, sym, ap, subst, ◌∙◌, arith}
use Rattle.std.specs.Prelude.{IsSome, slice_get}
use Rattle.std.specs.HashMap.{get}
use Rattle.std.proofs.lemmas.List.Elements.{All-nil, All-cons}
use Rattle.rz_rules.specs.declared.coordinates.Coord.{Coord}
use Rattle.rz_rules.specs.declared.kinds.Sort.{Sort}
use Rattle.rz_rules.specs.declared.kinds.Sort.TheVariants as sort
use Rattle.rz_rules.specs.declared.kinds.Kind.{Kind}
use Rattle.rz_rules.specs.declared.kinds.Kind.TheVariants as kind
use Rattle.rz_rules.specs.declared.nodes.Node.{Node}
use Rattle.rz_rules.specs.Form.{kid_sorts}
use Rattle.rz_rules.specs.Tree.{Tree, At, Nil, And, HasForm, kind_at, sort_of, tree_of, tree_over, trees_in}
use Rattle.rz_rules.specs.Cube.{Binders, binders_of, cube_two}
use Rattle.rz_rules.specs.Tope.{IsPointOf, IsTopeOver, at_most, conjunction, disjunction}
use Rattle.rz_rules.specs.Coordinate.{coordinates}
use Rattle.rz_cube.proofs.CachedPoints.{all_two}
use Rattle.rz_tope_proof.specs.declared.proof.Inference.{Inference}
use Rattle.rz_tope_proof.specs.declared.proof.Claim.TheVariants as claim
use Rattle.rz_tope_proof.specs.declared.parts.Form.{Form}
use Rattle.rz_tope_proof.specs.declared.parts.Part.{Part}
use Rattle.rz_tope_proof.specs.declared.parts.Side.{Side}
use Rattle.rz_tope_proof.specs.Part.{IsMadeOf}
use Rattle.rz_tope_proof.specs.Reading as reading
use Rattle.rz_tope_proof.specs.Reading.{IsSide, tope_at}
use Rattle.rz_tope_normal.specs.declared.reader.Reader.{Reader}
use Rattle.rz_tope_normal.specs.declared.settings.Setting.{Setting}
use Rattle.rz_tope_normal.specs.Equation.{IsEquation}
use Rattle.rz_tope_normal.specs.Norm.{IsKnown, equation_of}
use Rattle.rz_tope_normal.specs.Placed.{IsAmong}
use Rattle.rz_tope_normal.specs.Read.{AreAmong, ArePartsOf, HasSides, IsFine, SaysTope}
use Rattle.rz_tope_normal.specs.Reader.{AreDone, IsDone, IsDoneAs, IsReader}
use Rattle.rz_tope_normal.proofs.Entering.{entry_tree, former_tree}
use Rattle.rz_tope_normal.proofs.Fine.{all_left, all_right}
use Rattle.rz_tope_normal.proofs.ReadParts.{parts_with}

-- a tope over binders is a node of one of these kinds
pub tope_kind : (binders : Binders) (t : Tree) → IsTopeOver binders t → (kind_at t ≡ kind.Top → ⊥) → (kind_at t ≡ kind.Bottom → ⊥) →
    (kind_at t ≡ kind.Conjunction → ⊥)
    → (kind_at t ≡ kind.Disjunction → ⊥) → (kind_at t ≡ kind.AtMost → ⊥) → (kind_at t ≡ kind.EqualPoints → ⊥) → ⊥
tope_kind binders (At kind.Top number name Nil) over a b c d e f = a refl
tope_kind binders (At kind.Bottom number name Nil) over a b c d e f = b refl
tope_kind binders (At kind.Conjunction number name (And p (And q Nil))) over a b c d e f = c refl
tope_kind binders (At kind.Disjunction number name (And p (And q Nil))) over a b c d e f = d refl
tope_kind binders (At kind.EqualPoints number name (And cube (And s (And u Nil)))) over a b c d e f = f refl
tope_kind binders (At kind.AtMost number name (And s (And u Nil))) over a b c d e f = e refl
tope_kind binders other over a b c d e f = over

module _ (ns : List Node) (context : Tree) (list : List Coord) (setting : Setting) (all : List Inference) (reader : Reader)
    (is : IsReader ns context list setting all reader)
    (id : ℕ) (live : id < length ns) (n : Node) (at : slice_get ns id ≡ Some n) (tree : tree_of ns id ≡ tree_over (trees_in ns) n)
    (node_form : HasForm (trees_in ns) id n)
    (done : AreDone ns reader id) (fine : IsFine (binders_of context) list (tree_of ns id)) where
  abbrev b : Binders
  b = binders_of context

  module _ (p q : ℕ) (kids : n.kids ≡ p ∷ q ∷ []) where
    sorts : (k : Kind) → n.kind ≡ k → sort_of (tree_of ns p) ∷ sort_of (tree_of ns q) ∷ [] ≡ kid_sorts k
    sorts k e = ap (λ (ids : List ℕ). map sort_of (map (tree_of ns) ids)) (sym kids) ∙ node_form.sorts ∙ ap kid_sorts e

    pub both_done : IsDone ns reader p × IsDone ns reader q
    both_done = all_two (IsDone ns reader) p q n.kids kids (done n at)

    pub both_topes : (k : Kind) → n.kind ≡ k → kid_sorts k ≡ sort.Tope ∷ sort.Tope ∷ [] → IsSome (get nat_eq reader.topes p) × IsSome
        (get nat_eq reader.topes q)
    both_topes k e topes =
        let all_topes : sort_of (tree_of ns p) ∷ sort_of (tree_of ns q) ∷ [] ≡ sort.Tope ∷ sort.Tope ∷ [] = sorts k e ∙ topes in
        let first : sort_of (tree_of ns p) ≡ sort.Tope = cc in
        let second : sort_of (tree_of ns q) ≡ sort.Tope = cc in
        (subst (λ (s : Sort). IsDoneAs reader p s) first both_done.0, subst (λ (s : Sort). IsDoneAs reader q s) second both_done.1)

    says : (l r : ℕ) → get nat_eq reader.topes p ≡ Some l → get nat_eq reader.topes q ≡ Some r
        → SaysTope ns reader.parts.items l (tree_of ns p) × SaysTope ns reader.parts.items r (tree_of ns q)
    says l r el er = ((is.topes p l el).says, (is.topes q r er).says)

    pub two_made : (l r : ℕ) → get nat_eq reader.topes p ≡ Some l → get nat_eq reader.topes q ≡ Some r → (l < length reader.parts.items) ×
        (r < length reader.parts.items)
    two_made l r el er = ((is.topes p l el).says.within, (is.topes q r er).says.within)

    pub and_form : n.kind ≡ kind.Conjunction → (l r : ℕ) → get nat_eq reader.topes p ≡ Some l → get nat_eq reader.topes q ≡ Some r
        → tree_of ns id ≡ conjunction (tope_at ns reader.parts.items l) (tope_at ns reader.parts.items r)
    and_form k l r el er =
        entry_tree ns id n tree node_form kind.Conjunction k refl p q kids
        ∙ (λ i. conjunction (sym (says l r el er).0.says i) (sym (says l r el er).1.says i))

    pub or_form : n.kind ≡ kind.Disjunction → (l r : ℕ) → get nat_eq reader.topes p ≡ Some l → get nat_eq reader.topes q ≡ Some r
        → tree_of ns id ≡ disjunction (tope_at ns reader.parts.items l) (tope_at ns reader.parts.items r)
    or_form k l r el er =
        entry_tree ns id n tree node_form kind.Disjunction k refl p q kids
        ∙ (λ i. disjunction (sym (says l r el er).0.says i) (sym (says l r el er).1.says i))

    module _ (k : n.kind ≡ kind.AtMost) where
      pub at_most_tree : tree_of ns id ≡ at_most (tree_of ns p) (tree_of ns q)
      at_most_tree = entry_tree ns id n tree node_form kind.AtMost k refl p q kids

      compared_fine : IsFine b list (at_most (tree_of ns p) (tree_of ns q))
      compared_fine = subst (IsFine b list) at_most_tree fine

      both_points : (sort_of (tree_of ns p) ≡ sort.Point) × (sort_of (tree_of ns q) ≡ sort.Point)
      both_points =
          let all_points : sort_of (tree_of ns p) ∷ sort_of (tree_of ns q) ∷ [] ≡ sort.Point ∷ sort.Point ∷ [] = sorts kind.AtMost k in
          let first : sort_of (tree_of ns p) ≡ sort.Point = cc in
          let second : sort_of (tree_of ns q) ≡ sort.Point = cc in
          (first, second)

      pub first_known : IsKnown reader.norms p
      first_known = subst (λ (s : Sort). IsDoneAs reader p s) both_points.0 both_done.0

      pub second_known : IsKnown reader.norms q
      second_known = subst (λ (s : Sort). IsDoneAs reader q s) both_points.1 both_done.1

      pub first_point : IsPointOf b cube_two (tree_of ns p)
      first_point = compared_fine.over.0

      pub second_point : IsPointOf b cube_two (tree_of ns q)
      second_point = compared_fine.over.1

      pub first_among : AreAmong list (coordinates b (tree_of ns p))
      first_among = all_left (IsAmong list) (coordinates b (tree_of ns p)) (coordinates b (tree_of ns q)) compared_fine.among

      pub second_among : AreAmong list (coordinates b (tree_of ns q))
      second_among = all_right (IsAmong list) (coordinates b (tree_of ns p)) (coordinates b (tree_of ns q)) compared_fine.among

      pub at_most_form : (s u : Side) → s.point ≡ p → u.point ≡ q → tree_of ns id ≡ at_most (tree_of ns s.point) (tree_of ns u.point)
      at_most_form s u es eu = at_most_tree ∙ (λ i. at_most (tree_of ns (sym es i)) (tree_of ns (sym eu i)))

  module _ (cube s u : ℕ) (kids : n.kids ≡ cube ∷ s ∷ u ∷ []) (k : n.kind ≡ kind.EqualPoints) where
    pub equation_tree : tree_of ns id ≡ equation_of ns (cube, s, u)
    equation_tree = former_tree ns id n tree node_form kind.EqualPoints k refl (cube ∷ s ∷ u ∷ []) kids

    equal_fine : IsFine b list (equation_of ns (cube, s, u))
    equal_fine = subst (IsFine b list) equation_tree fine

    kid_live : All (λ kid. kid < id) (cube ∷ s ∷ u ∷ [])
    kid_live = subst (All (λ kid. kid < id)) kids node_form.kids

    all_done : All (IsDone ns reader) (cube ∷ s ∷ u ∷ [])
    all_done = subst (All (IsDone ns reader)) kids (done n at)

    points : (sort_of (tree_of ns s) ≡ sort.Point) × (sort_of (tree_of ns u) ≡ sort.Point)
    points =
        let sorts : sort_of (tree_of ns cube) ∷ sort_of (tree_of ns s) ∷ sort_of (tree_of ns u) ∷ [] ≡ sort.Cube ∷ sort.Point ∷ sort.Point ∷ [] =
        ap (λ (ids : List ℕ). map sort_of (map (tree_of ns) ids)) (sym kids) ∙ node_form.sorts ∙ ap kid_sorts k in
        let first : sort_of (tree_of ns s) ≡ sort.Point = cc in
        let second : sort_of (tree_of ns u) ≡ sort.Point = cc in
        (first, second)

    pub tope_equation : IsEquation ns context list reader.norms (cube, s, u)
    tope_equation = record {
      points = record {
        cube_live = omega (arith, kid_live 0 0 (omega arith), live);
        first_live = omega (arith, kid_live 1 0 (omega arith), live);
        second_live = omega (arith, kid_live 2 0 (omega arith), live);
        first = equal_fine.over.0;
        second = equal_fine.over.1;
      };
      first_known = subst (λ (t : Sort). IsDoneAs reader s t) points.0 (all_done 1 0 (omega arith));
      second_known = subst (λ (t : Sort). IsDoneAs reader u t) points.1 (all_done 2 0 (omega arith));
      first_among = all_left (IsAmong list) (coordinates b (tree_of ns s)) (coordinates b (tree_of ns u)) equal_fine.among;
      second_among = all_right (IsAmong list) (coordinates b (tree_of ns s)) (coordinates b (tree_of ns u)) equal_fine.among;
    }

-- one part more, that of a tope of the pool
pub tope_part : (ns : List Node) (context : Tree) (list : List Coord) (setting : Setting) (all : List Inference) (parts : List Part) (id : ℕ)
    (how : Form) → id < length ns
    → IsFine (binders_of context) list (tree_of ns id) → ArePartsOf ns context list setting.places all parts → IsMadeOf (length parts)
    setting.places.count how
    → reading.HasForm ns context setting.places all parts how (tree_of ns id) → HasSides ns (binders_of context) list how
    → ArePartsOf ns context list setting.places all (parts ++ record { claim = claim.Tope id; form = how } ∷ [])
tope_part ns context list setting all parts id how live fine are made has sides =
    parts_with ns context list setting.places all parts (record { claim = claim.Tope id; form = how }) are
    (record {
      made = made;
      read = record {
        claim = record { live = All-cons (λ i. i < length ns) id [] live (All-nil (λ i. i < length ns)); over = fine.over };
        form = has;
      };
      sides = sides;
    })
