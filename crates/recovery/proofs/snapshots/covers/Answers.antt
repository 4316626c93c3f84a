-- The fold over the entries, by one step of it: what it ends at decides, however that is compared.
use Rattle.std.proofs.Common.{◌≡◌, eqb, Some, arith, rules, tests}
use Rattle.std.specs.Option.{option_eq}
use Rattle.std.proofs.lemmas.Grind.{common_steps}
use Rattle.std.proofs.lemmas.Iterator.{YieldsList-from_slice}
use Rattle.rules.specs.Starting.{covers}
use Rattle.recovery.proofs.Folding.{covers_from_fold}
use Rattle.recovery.proofs.snapshots.covers.Goals as goal

pub returns : goal.returns
returns c =
    let e : option_eq eqb c.try_fold-end.result (Some c.args.rows) ≡ covers 0 c.args.directory.now c.args.rows = covers_from_fold _ _ _ _ c.args.rows _ c.try_fold-end.result (λ at x w q k. search (rules, tests)) _ 0 c.args.directory.now c.try_fold-end.ensures.ran (YieldsList-from_slice c.args.directory.now (cc)) in
    grind (arith, common_steps, e)
