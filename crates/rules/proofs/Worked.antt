-- Each worked run is computed.
use Rattle.std.proofs.Common.{refl}
use lib.Count.{ones}
use Rattle.rules.specs.Runs.{run_from}
use Rattle.rules.specs.Freeing.{cut_tail}
use Rattle.rules.specs.Cleaning.{cleaned}
use Rattle.rules.specs.Replacing.{visited}
use Rattle.rules.specs.Stabilizing.{release_all, deactivated, deactivate_all}
use Rattle.rules.specs.Starting.{free_all}
use Rattle.rules.specs.Worked.{WorkedRunsComeOut}

pub worked_runs_come_out : WorkedRunsComeOut
unfolding run_from cut_tail cleaned visited release_all deactivated deactivate_all free_all ones
worked_runs_come_out = (
  (refl, (refl, (refl, (refl, tt)))),
  (
    (refl, (refl, tt)),
    (
      (refl, (refl, (refl, (refl, tt)))),
      (
        (refl, (refl, (refl, tt))),
        (
          (refl, (refl, (refl, (refl, tt)))),
          (
            (refl, (refl, (refl, tt))),
            (
              (refl, (refl, (refl, tt))),
              (
                (refl, (refl, (refl, (refl, tt)))),
                (
                  (refl, (refl, tt)),
                  (
                    (refl, (refl, tt)),
                    ((refl, (refl, (refl, (refl, tt)))), tt),
                  ),
                ),
              ),
            ),
          ),
        ),
      ),
    ),
  ),
)
