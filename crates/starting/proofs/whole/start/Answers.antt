-- What the recovery leaves decides the start.
use Rattle.std.proofs.Common.{◌≡◌, Err, Ok, Result, ap, ◌∙◌, rules}
use Rattle.std.proofs.lemmas.Result.{err_from_is_err_and}
use Rattle.rules.specs.declared.refusal.Refusal.{Refusal}
use Rattle.rules.specs.Books.{Books}
use Rattle.rules.specs.Starting.{plan_refusal, freed_after}
use Rattle.ledger.specs.Ledgers.{books_of}
use Rattle.recovery.specs.Begun.{recovered_if}
use Rattle.recovery.specs.Plans.{plan_of}
use Rattle.starting.specs.Starts.{ended}
use Rattle.starting.proofs.Ends.{passed_recovered, start_after, start_kept}
use Rattle.starting.proofs.whole.start.Goals as goal

pub returns-in_err-recover-clause-started : goal.returns-in_err-recover-clause-started
returns-in_err-recover-clause-started g c =
    let s = plan_of c.args.plan.now in
    let m = g.H.Host.model c.args.world.now.host in
    let slot = g.H.Host.slot m in
    let extent = g.H.Host.extent m in
    let p = err_from_is_err_and c.from_residual.result c.from_residual.ensures.1 in
    let refused : ◌≡◌ {A = Result Books Refusal} (Err p.0) (recovered_if (plan_refusal s slot extent) s extent) = search rules in
    ap (λ x. ended x (books_of c.recover.new.ledger) m) p.1 ∙ (ap (λ o. freed_after g.H.Host.respond o m) refused ∙ start_after g.H.Host.respond (plan_refusal s slot extent) s extent m)

pub finish-requires : goal.finish-requires
finish-requires g c =
    let s = plan_of c.args.plan.now in
    let m = g.H.Host.model c.args.world.now.host in
    let slot = g.H.Host.slot m in
    let extent = g.H.Host.extent m in
    let recovered : ◌≡◌ {A = Result Books Refusal} (Ok (books_of c.recover.new.ledger)) (recovered_if (plan_refusal s slot extent) s extent) = search rules in
    passed_recovered s slot extent _ recovered

pub returns-clause-kept : goal.returns-clause-kept
returns-clause-kept g c =
    let s = plan_of c.args.plan.now in
    let m = g.H.Host.model c.args.world.now.host in
    let slot = g.H.Host.slot m in
    let extent = g.H.Host.extent m in
    let recovered : ◌≡◌ {A = Result Books Refusal} (Ok (books_of c.recover.new.ledger)) (recovered_if (plan_refusal s slot extent) s extent) = search rules in
    start_kept g.H.Host.respond s slot extent m (g.H.Host.model c.finish.new.world.host) _ c.finish.result (books_of c.finish.new.world.ledger) recovered c.finish.ensures
