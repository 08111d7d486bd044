use Rattle.std.proofs.Common.{refl}
use Rattle.rz_tope_tests.proofs.Computing.{by_row, closed_trial}
use Rattle.rz_tope_tests.proofs.tables.order_file.Goals as goal

pub file_of-requires : goal.file_of-requires
file_of-requires c = closed_trial
    (refl, refl, (refl, refl, (refl, refl, (refl, refl, (refl, refl, (refl, refl, (refl, refl, (refl, refl, (refl, refl, tt))))))))) (
      by_row refl refl refl refl refl tt tt tt,
      (
        by_row refl refl refl refl refl (refl, (refl, tt)) (refl, tt) tt,
        (
          by_row refl refl refl refl refl (refl, (refl, tt)) (refl, tt) tt,
          (
            by_row refl refl refl refl refl (refl, (refl, (refl, tt))) tt (((refl, refl), (refl, refl)), tt),
            tt,
          ),
        ),
      ),
    )
    tt refl
