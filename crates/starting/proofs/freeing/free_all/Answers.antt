-- One step of the walk, its early end and its end.
use Rattle.std.proofs.Common.{◌<◌, ◌≤◌, Err, refl, ap, ◌∙◌, subst}
use Rattle.std.proofs.lemmas.Result.{err_from_is_err_and}
use Rattle.ledger.specs.Ledgers.{books_of}
use Rattle.upkeep.specs.Worlds.{seen}
use Rattle.starting.proofs.Frees.{recovered_kept, freed_kept, free_more, free_stop, still_kept, free_end}
use Rattle.starting.proofs.freeing.free_all.Goals as goal

pub loop-n-init : goal.loop-n-init
loop-n-init g c = (recovered_kept g.H.Host.respond (books_of c.args.world.now.ledger) c.requires, refl)

pub free_state-requires-clause-kept : goal.free_state-requires-clause-kept
free_state-requires-clause-kept g c = freed_kept g.H.Host.respond _ c.loop-n.n (books_of c.loop-n.world.ledger) (subst (λ k. c.loop-n.n < k) c.len-n-end.ensures c.loop-n-test.true) c.loop-n.invariant.0

pub returns-in_err-free_state : goal.returns-in_err-free_state
returns-in_err-free_state g c =
    let n = c.loop-n.n in
    let low = subst (λ k. n < k) c.len-n-end.ensures c.loop-n-test.true in
    let p = err_from_is_err_and c.from_residual.result c.from_residual.ensures.1 in
    let v = seen g.H.Host.model c.free_state.new.world in
    ap (λ r. (r, v)) p.1 ∙ free_stop g.H.Host.respond (books_of c.args.world.now.ledger).segments n (seen g.H.Host.model c.loop-n.world) _ c.loop-n.invariant.1 c.loop-n.invariant.0 low p.0 v (ap (λ f. (Err f, v)) p.2 ∙ c.in_err-free_state.ensures)

pub loop-n-preserved : goal.loop-n-preserved
loop-n-preserved g c =
    let n = c.loop-n.n in
    let low = subst (λ k. n < k) c.len-n-end.ensures c.loop-n-test.true in
    let states = (books_of c.args.world.now.ledger).segments in
    let w = seen g.H.Host.model c.loop-n.world in
    let v = seen g.H.Host.model c.free_state.new.world in
    let e = c.in_ok-free_state.ensures in
    (still_kept g.H.Host.respond states n w _ c.loop-n.invariant.1 c.loop-n.invariant.0 low _ v e, free_more g.H.Host.respond states n w _ c.loop-n.invariant.1 c.loop-n.invariant.0 low v e)

pub returns : goal.returns
returns g c =
    let n = c.loop-n.n in
    let past = subst (λ k. k ≤ n) c.len-n-end.ensures c.loop-n-test.false in
    free_end g.H.Host.respond (books_of c.args.world.now.ledger).segments n (seen g.H.Host.model c.loop-n.world) _ c.loop-n.invariant.1 past
