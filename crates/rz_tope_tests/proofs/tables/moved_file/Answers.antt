use Rattle.std.proofs.Common.{[], ◌∷◌, refl}
use Rattle.rz_rules.specs.declared.kinds.Kind.TheVariants.{AtMost, CubeEntry, PointVariable, Top, Zero}
use Rattle.rz_rules.specs.Context.{OfCube, OfTope}
use Rattle.rz_rules.specs.Cube.{cube_one, cube_two}
use Rattle.rz_rules.specs.Structural.{has, holds, universe}
use Rattle.rz_rules.specs.Tree.{Tree, And, At, Nil, blank}
use Rattle.rz_tope_tests.proofs.Computing.{by_row, closed_trial}
use Rattle.rz_tope_tests.proofs.tables.moved_file.Goals as goal

-- the context of a variable of the directed interval, and that the first end is at most the variable
abbrev variable_context : Tree
variable_context = At CubeEntry 0 [] (And blank (And cube_two Nil))

abbrev tope : Tree
tope = At AtMost 0 [] (And (At Zero 0 [] Nil) (And (At PointVariable 0 [] Nil) Nil))

pub file_of-requires : goal.file_of-requires
file_of-requires c = closed_trial
    (refl, refl, (refl, refl, (refl, refl, (refl, refl, (refl, refl, (refl, refl, (refl, refl, (refl, refl, (refl, refl, (refl, refl, (refl, refl, (refl, refl, (refl, refl, tt))))))))))))) (
      by_row refl refl refl refl refl tt tt tt,
      (
        by_row refl refl refl refl refl (refl, tt) tt tt,
        (
          by_row refl refl refl refl refl (refl, (refl, tt)) (tt, tt) tt,
          (
            by_row refl refl refl refl refl (refl, (refl, tt)) (refl, tt) tt,
            (
              by_row refl refl refl refl refl (refl, (refl, tt)) tt ((refl, refl), tt),
              (
                by_row refl refl refl refl refl (refl, (refl, tt)) (refl, tt) tt,
                (
                  by_row refl refl refl refl refl (refl, (refl, tt)) (refl, tt) tt,
                  (
                    by_row refl refl refl refl refl (refl, (refl, tt)) (refl, tt) tt,
                    tt,
                  ),
                ),
              ),
            ),
          ),
        ),
      ),
    ) (
      record {
        premise = has blank universe universe;
        outer = blank;
        entry = OfTope (At Top 0 [] Nil);
        inner = [];
        count = refl;
        says = refl;
        context = refl;
        formed_is = refl;
      },
      (
        record {
          premise = holds variable_context tope;
          outer = variable_context;
          entry = OfCube cube_two;
          inner = [];
          count = refl;
          says = refl;
          context = refl;
          formed_is = refl;
        },
        (
          record {
            premise = holds variable_context tope;
            outer = blank;
            entry = OfCube cube_one;
            inner = OfCube cube_two ∷ [];
            count = refl;
            says = refl;
            context = refl;
            formed_is = refl;
          },
          tt,
        ),
      ),
    )
    refl
