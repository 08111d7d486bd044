-- Sequents before and after they are read.
use Rattle.std.proofs.Common.{◌≡◌, ℕ, ◌<◌, true, List, [], length, get_or, All, Some, refl, sym, ap, subst, ◌∙◌, arith}
use Rattle.std.specs.Prelude.{slice_get}
use Rattle.std.proofs.lemmas.Option.{slice_get-get_or, slice_get_within}
use Rattle.std.proofs.lemmas.List.Elements.{Contains-get_or}
use Rattle.rz_rules.specs.declared.coordinates.Coord.{Coord}
use Rattle.rz_rules.specs.declared.kinds.Sort.{Sort}
use Rattle.rz_rules.specs.declared.kinds.Sort.TheVariants as sort
use Rattle.rz_rules.specs.declared.kinds.Kind.TheVariants as kind
use Rattle.rz_rules.specs.declared.nodes.Node.{Node}
use Rattle.rz_rules.specs.Tree.{Tree, At, Nil, And, IsTree, sort_of, tree_of}
use Rattle.rz_rules.specs.Cube.{Binders, binders_of, cubes_of}
use Rattle.rz_rules.specs.Tope.{IsTopeOver}
use Rattle.rz_rules.specs.Validity.{are_true, compared, occurring, rank_in, truth}
use Rattle.rz_metatheory.specs.SmallOrders.{HasTopesOver}
use Rattle.rz_metatheory.proofs.Values.{AreCubes-front}
use Rattle.rz_pool.specs.Pool.{Grows}
use Rattle.rz_tope_proof.specs.declared.proof.Inference.{Inference}
use Rattle.rz_tope_proof.specs.declared.places.Places.{Places}
use Rattle.rz_tope_proof.specs.declared.parts.Part.{Part}
use Rattle.rz_tope_proof.specs.Proving.{IsGiven, Proves}
use Rattle.rz_tope_normal.specs.declared.hypotheses.Hypothesis.{Hypothesis}
use Rattle.rz_tope_normal.specs.declared.reader.Reader.{Reader}
use Rattle.rz_tope_normal.specs.declared.sequents.Sequent.{Sequent}
use Rattle.rz_tope_normal.specs.Hypothesis.{AreGiven, AreTrueIn}
use Rattle.rz_tope_normal.specs.Later.{Later}
use Rattle.rz_tope_normal.specs.Norm.{AreCubeTrees}
use Rattle.rz_tope_proof.specs.Ranks.{ranks_from}
use Rattle.rz_tope_normal.specs.Read.{ArePartsOf, IsFine, SaysTope}
use Rattle.rz_tope_normal.specs.Reader.{KeepsRead}
use Rattle.rz_tope_normal.specs.Sequent.{AreAssumed, AreReadableEntries, HasValues, IsAssumed, IsGivenPart, IsReadableEntry}
use Rattle.rz_tope_normal.proofs.Given.{given_fine}
use Rattle.rz_tope_normal.proofs.Membership.{among_asked}
use Rattle.rz_tope_normal.proofs.Passing.{given_stays}
use Rattle.rz_tope_normal.proofs.Staying.{live_stays, proves_later, tree_stays}
use Rattle.rz_tope_normal.proofs.Truths.{part_true}

-- the cubes of a context's entries are cubes
pub cubes_trees : (s : Sort) (t : Tree) → IsTree s t → AreCubeTrees (cubes_of t)
cubes_trees s (At kind.CubeEntry number name (And context (And cube Nil))) h =
    AreCubes-front cube (cubes_of context) h.2.1.0 (cubes_trees sort.Context context h.2.0)
cubes_trees s (At kind.TopeEntry number name (And context (And tope Nil))) h = cubes_trees sort.Context context h.2.0
cubes_trees s (At kind.TermEntry number name (And context (And type Nil))) h = cubes_trees sort.Context context h.2.0
cubes_trees s other h = λ index cube e. absurd (nothing index cube e) where
  nothing : (index : ℕ) (cube : Tree) → slice_get [] index ≡ Some cube → ⊥
  nothing index cube e = omega (arith, slice_get_within {A = Tree} [] index cube e)

-- a tope over binders has the sort of topes
pub over_sort : (binders : Binders) (t : Tree) → IsTopeOver binders t → sort_of t ≡ sort.Tope
over_sort binders (At kind.Top number name Nil) over = refl
over_sort binders (At kind.Bottom number name Nil) over = refl
over_sort binders (At kind.Conjunction number name (And p (And q Nil))) over = refl
over_sort binders (At kind.Disjunction number name (And p (And q Nil))) over = refl
over_sort binders (At kind.EqualPoints number name (And cube (And s (And u Nil)))) over = refl
over_sort binders (At kind.AtMost number name (And s (And u Nil))) over = refl
over_sort binders other over = absurd over

-- the tope that is asked for is fine
pub asked_fine : (context tope : Tree) → IsTopeOver (binders_of context) tope → IsFine (binders_of context) (occurring context tope) tope
asked_fine context tope over = record {
  over = over;
  among = λ k d l. among_asked context tope (get_or (compared (binders_of context) tope) k d)
      (Contains-get_or (compared (binders_of context) tope) k d l);
}

-- so are those that the context gives
pub readable_entries : (old nodes : List Node) → Grows old nodes → (context asked : Tree) (list : List Coord) → list ≡ occurring context asked →
    HasTopesOver context
    → AreCubeTrees (cubes_of context) → (hypotheses : List Hypothesis) → AreGiven old context hypotheses → AreReadableEntries nodes context list
    hypotheses
readable_entries old nodes grows context asked list list_is topes trees hypotheses given k d l =
    let is = given_stays old nodes grows context hypotheses given k d l in
    record {
      given = is;
      fine = subst (λ (xs : List Coord). IsFine (binders_of context) xs (tree_of nodes (get_or hypotheses k d).tope)) (sym list_is)
          (given_fine context asked (get_or hypotheses k d).number (tree_of nodes (get_or hypotheses k d).tope) is.given topes trees);
    }

pub readable_stays : (old new : List Node) → Grows old new → (context : Tree) (list : List Coord) (h : Hypothesis) → IsReadableEntry old context list
    h → IsReadableEntry new context list h
readable_stays old new grows context list h is =
    let same = tree_stays old new grows h.tope is.given.live in
    record {
      given = record {
        live = live_stays old new grows h.tope is.given.live;
        given = subst (λ (t : Tree). IsGiven context h.number t) (sym same)
            is.given.given;
      };
      fine = subst (IsFine (binders_of context) list) (sym same) is.fine;
    }

pub assumed_later : (old : List Node) (before : List Inference) (new : List Node) (after : List Inference) → Later old before new after →
    (context : Tree)
    → (reader more : Reader) → KeepsRead old reader new more → (tope : Tree) (pair : ℕ × ℕ) → IsAssumed old context before reader.parts.items tope
    pair
    → IsAssumed new context after more.parts.items tope pair
assumed_later old before new after later context reader more kept tope pair is = record {
  says = kept.says pair.0 tope is.says;
  proves = proves_later old before new after later context is.proves;
}

-- each pair has a part and an inference
pub given_parts : (old nodes : List Node) (context : Tree) (all : List Inference) (parts : List Part) (hypotheses : List Hypothesis)
    (given : List (ℕ × ℕ))
    → AreAssumed old nodes context all parts hypotheses given → All (IsGivenPart nodes context all parts) given
given_parts old nodes context all parts hypotheses given are k d l =
    let none : Hypothesis = record { number = 0; tope = 0 } in
    let is = are.each k (get_or hypotheses k none) (get_or given k d) (slice_get-get_or hypotheses k none (omega (arith, l, are.count)))
    (slice_get-get_or given k d l) in
    record { within = is.says.within; proves = subst (λ (t : Tree). Proves nodes context all [] (get_or given k d).1 t) (sym is.says.says) is.proves }

-- the values of the parts of a sequent
pub has_values : (old mid nodes : List Node) → Grows old mid → (context tope : Tree) (list : List Coord) (places : Places) (all : List Inference)
    (hypotheses : List Hypothesis)
    → AreGiven old context hypotheses → ((rank : Coord → ℕ) → AreTrueIn old context rank hypotheses → are_true rank context ≡ true)
    → (sequent : Sequent) → ArePartsOf nodes context list places all sequent.parts.items → SaysTope nodes sequent.parts.items sequent.goal tope
    → AreAssumed mid nodes context all sequent.parts.items hypotheses sequent.given.items → HasValues context tope list sequent
has_values old mid nodes grows context tope list places all hypotheses given true_all sequent are goal assumed rank value zero_is one_is values =
    record {
      goal = part_true nodes context list places all sequent.parts.items are rank zero_is one_is value values sequent.goal tope goal;
      given = λ all_true. true_all (rank_in (ranks_from rank 2 list)) (λ k d l.
          let h = get_or hypotheses k d in
          let pair = get_or sequent.given.items k (0, 0) in
          let within : k < length sequent.given.items = omega (arith, l, assumed.count) in
          let is = assumed.each k h pair (slice_get-get_or hypotheses k d l) (slice_get-get_or sequent.given.items k (0, 0) within) in
          ap (truth (binders_of context) (rank_in (ranks_from rank 2 list))) (sym (tree_stays old mid grows h.tope (given k d l).live))
          ∙ part_true nodes context list places all sequent.parts.items are rank zero_is one_is value values pair.0 (tree_of mid h.tope) is.says
          ∙ all_true k (0, 0) within);
    }
