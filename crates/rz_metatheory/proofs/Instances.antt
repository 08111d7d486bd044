-- The laws at derivations and sequents that are worked out by computation: for each law one that it applies to, and one
-- near it where what it says is false.
use Rattle.std.proofs.Common.{◌≡◌, ℕ, ◌<◌, ◌^◌, List, [], ◌∷◌, Some, true, false, true≢false, refl, sym, ap, ◌∙◌, arith}
use Rattle.std.specs.Prelude.{slice_get, ◌==◌, if◌then◌else◌}
use Rattle.std.proofs.lemmas.List.Elements.{All-nil, All-from_recursion}
use Rattle.rz_rules.specs.declared.coordinates.Coord.{Coord}
use Rattle.rz_rules.specs.declared.coordinates.Coord.TheVariants as coordinate
use Rattle.rz_rules.specs.declared.kinds.Sort.TheVariants as sort
use Rattle.rz_rules.specs.declared.kinds.Kind.TheVariants as kind
use Rattle.rz_rules.specs.declared.rows.Row.TheVariants as row
use Rattle.rz_rules.specs.Tree.{Tree, At, Nil, And, IsLabelled, IsTree, blank}
use Rattle.rz_rules.specs.Cube.{cube_two, cubes_of, binders_of}
use Rattle.rz_rules.specs.Derivation.{Step, Follows, IsMet}
use Rattle.rz_rules.specs.Judgment.{Statement}
use Rattle.rz_rules.specs.Row.{Assignment, HasLetter, letters_in}
use Rattle.rz_rules.specs.Table.{rule_of}
use Rattle.rz_rules.specs.Structural.{formed, holds}
use Rattle.rz_rules.specs.Tope.{IsTopeOver}
use Rattle.rz_rules.specs.Validity.{RankList, rank_in, truth, occurring, is_valid}
use Rattle.rz_rules.proofs.Validity.{is_valid_iff}
use Rattle.rz_metatheory.specs.Derivation.{Derives}
use Rattle.rz_metatheory.specs.Place.{Valuation, is_true}
use Rattle.rz_metatheory.specs.Scope.{IsSmallCube, IsScopedStatement}
use Rattle.rz_metatheory.proofs.Derived.{derived_good}
use Rattle.rz_metatheory.proofs.RankLists.{entails_valid}
use Rattle.rz_metatheory.proofs.Scoping.{statement_scoped}
use Rattle.rz_metatheory.proofs.SmallOrders.{numbered, shrunk_list}
use Rattle.rz_metatheory.proofs.Values.{former_label}

abbrev point : ℕ → Tree
point index = At kind.PointVariable index [] Nil

abbrev at_most : Tree → Tree → Tree
at_most s u = At kind.AtMost 0 [] (And s (And u Nil))

abbrev either : Tree → Tree → Tree
either p q = At kind.Disjunction 0 [] (And p (And q Nil))

abbrev empty : Tree
empty = At kind.EmptyContext 0 [] Nil

abbrev with_cube : Tree → Tree → Tree
with_cube context cube = At kind.CubeEntry 0 [] (And context (And cube Nil))

abbrev with_tope : Tree → Tree → Tree
with_tope context tope = At kind.TopeEntry 0 [] (And context (And tope Nil))

-- ---- two points t, s of the directed interval: one is at most the other, by four lines

abbrev line : Tree
line = with_cube empty cube_two

abbrev square : Tree
square = with_cube line cube_two

abbrev linear : Tree
linear = either (at_most (point 1) (point 0)) (at_most (point 0) (point 1))

-- a context, a cube, and two points for the letters of rows
abbrev letters : Tree → Assignment
letters context = record {
  letters = λ n. if n == 0 then context else if n == 1 then cube_two else if n == 3 then point 1 else if n == 5 then point 0 else blank;
  name = [];
}

abbrev steps : List Step
steps =
    record { row = row.ContextNil; number = 0; says = formed empty; from = [] }
    ∷ record { row = row.ContextCube; number = 0; says = formed line; from = 0 ∷ [] }
    ∷ record { row = row.ContextCube; number = 0; says = formed square; from = 1 ∷ [] }
    ∷ record { row = row.AtMostTotal; number = 0; says = holds square linear; from = 2 ∷ [] }
    ∷ []

point_label : (index : ℕ) → index < 2 ^ 32 → IsLabelled kind.PointVariable index []
point_label index small = record {
  small = small;
  unnumbered = λ e. absurd (true≢false e);
  unnamed = λ e. refl;
  named = λ e. absurd (true≢false (sym e));
}

empty_tree : IsTree sort.Context empty
empty_tree = (refl, former_label kind.EmptyContext refl, tt)

cube_tree : IsTree sort.Cube cube_two
cube_tree = (refl, former_label kind.CubeTwo refl, tt)

with_cube_tree : (context : Tree) → IsTree sort.Context context → IsTree sort.Context (with_cube context cube_two)
with_cube_tree context tree = (refl, former_label kind.CubeEntry refl, (tree, (cube_tree, tt)))

point_tree : (index : ℕ) → index < 2 ^ 32 → IsTree sort.Point (point index)
point_tree index small = (refl, point_label index small, tt)

at_most_tree : (m n : ℕ) → m < 2 ^ 32 → n < 2 ^ 32 → IsTree sort.Tope (at_most (point m) (point n))
at_most_tree m n low high = (refl, former_label kind.AtMost refl, (point_tree m low, (point_tree n high, tt)))

line_tree : IsTree sort.Context line
line_tree = with_cube_tree empty empty_tree

square_tree : IsTree sort.Context square
square_tree = with_cube_tree line line_tree

linear_tree : IsTree sort.Tope linear
linear_tree = (refl, former_label kind.Disjunction refl, (at_most_tree 1 0 (omega arith) (omega arith), (at_most_tree 0 1 (omega arith) (omega arith), tt)))

-- a line of a context and a cube entry
cube_line : (earlier : List Statement) (context : Tree) (from : ℕ) → IsTree sort.Context context → slice_get earlier from ≡ Some (formed context)
    → Follows earlier (record { row = row.ContextCube; number = 0; says = formed (with_cube context cube_two); from = from ∷ [] })
cube_line earlier context from tree there = record {
  trees = record { context = with_cube_tree context tree; parts = tt };
  scoped = tt;
  premises = formed context ∷ [];
  from = ap (λ o. o ∷ []) there;
  applies = (
    refl,
    record {
      assignment = letters context;
      instance = record {
        letters = All-from_recursion (HasLetter (letters context)) (letters_in (rule_of row.ContextCube).text) (tree, (tree, (cube_tree, tt)));
        spells = refl;
      };
      conditions = All-from_recursion (IsMet (letters context)) (rule_of row.ContextCube).conditions (omega arith, tt);
    },
  );
}

derived : Derives (holds square linear)
derived = (
  steps,
  (
    record {
      trees = record { context = empty_tree; parts = tt };
      scoped = tt;
      premises = [];
      from = refl;
      applies = (
        refl,
        record {
          assignment = letters empty;
          instance = record { letters = All-nil (HasLetter (letters empty)); spells = refl };
          conditions = All-nil (IsMet (letters empty));
        },
      );
    },
    (
      cube_line (formed empty ∷ []) empty 0 empty_tree refl,
      (
        cube_line (formed empty ∷ formed line ∷ []) line 1 line_tree refl,
        (
          record {
            trees = record { context = square_tree; parts = (linear_tree, tt) };
            scoped = All-from_recursion (IsTopeOver (binders_of square)) (linear ∷ []) (((refl, refl), (refl, refl)), tt);
            premises = formed square ∷ [];
            from = refl;
            applies = (
              refl,
              record {
                assignment = letters square;
                instance = record {
                  letters = All-from_recursion (HasLetter (letters square)) (letters_in (rule_of row.AtMostTotal).text)
                      (square_tree, (square_tree, (point_tree 1 (omega arith), (point_tree 0 (omega arith), (point_tree 0 (omega arith), (point_tree 1 (omega arith), tt))))));
                  spells = refl;
                };
                conditions = All-nil (IsMet (letters square));
              },
            );
          },
          tt,
        ),
      ),
    ),
  ),
  3,
  refl,
)

-- ---- scoping: what is derived is well scoped, as a computation shows by itself; with one cube entry less it is not

scoped : IsScopedStatement (holds square linear)
scoped = statement_scoped (holds square linear) (derived_good (holds square linear) derived)

scoped_by_hand : IsScopedStatement (holds square linear)
scoped_by_hand =
    let cube : IsSmallCube cube_two = record { tree = cube_tree; few = omega arith } in
    (((tt, cube), cube), ((refl, refl), (refl, refl)))

unscoped : IsScopedStatement (holds line linear) → ⊥
unscoped h = absurd (let e = h.1.0.0 in cc)

-- so no derivation has a line that says that, and none has one that ends with this tope entry
no_line : Derives (holds line linear) → ⊥
no_line derives = unscoped (statement_scoped (holds line linear) (derived_good (holds line linear) derives))

no_entry : Derives (formed (with_tope line linear)) → ⊥
no_entry derives = absurd (let e = (statement_scoped (formed (with_tope line linear)) (derived_good (formed (with_tope line linear)) derives)).0.1.0.0 in cc)

-- ---- validity: the derived tope is valid, as trying all rank lists shows by itself; without its second part it is not

valid : is_valid square linear ≡ true
valid = refl

not_valid : is_valid square (at_most (point 1) (point 0)) ≡ false
not_valid = refl

no_half : Derives (holds square (at_most (point 1) (point 0))) → ⊥
no_half derives =
    let tope = at_most (point 1) (point 0) in
    absurd (true≢false (sym ((is_valid_iff square tope).1 (entails_valid square tope (derived_good (holds square tope) derives).1.1)) ∙ not_valid))

-- the tope that never holds is derived nowhere without entries
consistent : Derives (holds empty (At kind.Bottom 0 [] Nil)) → ⊥
consistent derives =
    let tope = At kind.Bottom 0 [] Nil in
    absurd (true≢false (sym ((is_valid_iff empty tope).1 (entails_valid empty tope (derived_good (holds empty tope) derives).1.1))))

-- ---- small orders: numbers up to 9 that refute t <= s, and the rank list of two coordinates that the law finds

abbrev numbers : Valuation
numbers = record { last = 9; values = λ n. if n == 0 then 4 ∷ [] else if n == 1 then 7 ∷ [] else [] }

refuted : is_true (binders_of square) numbers (at_most (point 1) (point 0)) ≡ false
refuted = refl

abbrev ranks : RankList
ranks = (coordinate.Of 1 [], 2) ∷ (coordinate.Of 0 [], 1) ∷ []

found : shrunk_list (numbered numbers (cubes_of square)) (occurring square (at_most (point 1) (point 0))) (occurring square (at_most (point 1) (point 0))) ≡ ranks
found = refl

refuted_by_ranks : truth (binders_of square) (rank_in ranks) (at_most (point 1) (point 0)) ≡ false
refuted_by_ranks = refl

-- A tope that is not over the context has numbers for its points that refute it, but no coordinates, so that each numbering
-- of coordinates makes it true, and so does the only rank list, which is empty.
refuted_unscoped : is_true (binders_of empty) numbers (at_most (point 1) (point 0)) ≡ false
refuted_unscoped = refl

true_unscoped : (number : Coord → ℕ) → truth (binders_of empty) number (at_most (point 1) (point 0)) ≡ true
true_unscoped number = refl

valid_unscoped : is_valid empty (at_most (point 1) (point 0)) ≡ true
valid_unscoped = refl

not_over : IsTopeOver (binders_of empty) (at_most (point 1) (point 0)) → ⊥
not_over over = absurd (let e = over.0 in cc)

-- The law asks for no scope: where only one of two points of a comparison is in scope, the other's number is 0, and the rank
-- list of the one coordinate refutes that it is at most that.
abbrev four : Coord → ℕ
four coordinate.Zero = 0
four coordinate.One = 9
four (coordinate.Of variable way) = 4

refuted_half : truth (binders_of line) four (at_most (point 0) (point 1)) ≡ false
refuted_half = refl

found_half : shrunk_list four (occurring line (at_most (point 0) (point 1))) (occurring line (at_most (point 0) (point 1))) ≡ (coordinate.Of 0 [], 1) ∷ []
found_half = refl

refuted_half_by_ranks : truth (binders_of line) (rank_in ((coordinate.Of 0 [], 1) ∷ [])) (at_most (point 0) (point 1)) ≡ false
refuted_half_by_ranks = refl
