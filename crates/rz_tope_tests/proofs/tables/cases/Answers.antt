use Rattle.std.proofs.Common.{refl}
use Rattle.rz_tope_tests.proofs.Computing.{by_row, trial}
use Rattle.rz_tope_tests.proofs.tables.cases.Goals as goal

pub file_of-requires : goal.file_of-requires
file_of-requires c = trial
    (refl, refl, (refl, refl, (refl, refl, (refl, refl, (refl, refl, (refl, refl, (refl, refl, (refl, refl, tt)))))))) (
      by_row refl refl refl refl refl tt tt tt,
      (
        by_row refl refl refl refl refl (refl, tt) tt tt,
        (
          by_row refl refl refl refl refl (refl, tt) tt (tt, tt),
          (
            by_row refl refl refl refl refl (refl, (refl, (refl, tt))) tt ((tt, tt), tt),
            (
              by_row refl refl refl refl refl (refl, (refl, tt)) (tt, tt) tt,
              (
                by_row refl refl refl refl refl (refl, tt) tt tt,
                (
                  by_row refl refl refl refl refl (refl, tt) tt tt,
                  (
                    by_row refl refl refl refl refl (refl, (refl, tt)) ((tt, tt), tt) tt,
                    (
                      by_row refl refl refl refl refl (refl, tt) tt tt,
                      (
                        by_row refl refl refl refl refl (refl, (refl, (refl, tt))) tt tt,
                        (
                          by_row refl refl refl refl refl (refl, (refl, (refl, (refl, (refl, (refl, tt)))))) tt tt,
                          tt,
                        ),
                      ),
                    ),
                  ),
                ),
              ),
            ),
          ),
        ),
      ),
    )
    tt c.requires
