-- A refusal is the rule's, and a replacement that passes its checks may be carried out.
use Rattle.std.proofs.Common.{◌≡◌, false, rules}
use Rattle.std.proofs.lemmas.Result.{err_from_is_err_and}
use Rattle.rules.specs.Books.{Books}
use Rattle.ledger.specs.Ledgers.{books_of}
use Rattle.entries.proofs.Walking.{ok_none, err_some}
use Rattle.replacing.proofs.Recorded.{outside, recorded_keeps, check_refused}
use Rattle.replacing.proofs.replaces.replace.Goals as goal

pub returns-in_err-check_replace : goal.returns-in_err-check_replace
returns-in_err-check_replace g c =
    let b : Books = books_of c.args.world.now.ledger in
    let r = c.args.r.now in
    let f = err_from_is_err_and c.from_residual.result c.from_residual.ensures.1 in
    let inside : outside r.lsn r.olds.now r.new.now ≡ false = search rules in
    let refused = err_some _ _ c.in_err-check_replace.ensures.answer in
    rw (f.1, f.2) (check_refused g.H.Host.respond g.H.Host.slot g.H.Host.extent b r.page r.lsn r.olds.now r.new.now (g.H.Host.model c.args.world.now.host) _ inside refused)

pub carry_out-requires-clause-kept : goal.carry_out-requires-clause-kept
carry_out-requires-clause-kept g c =
    let r = c.args.r.now in
    let ready = c.in_ok-check_replace.ensures in
    let inside : outside r.lsn r.olds.now r.new.now ≡ false = search rules in
    recorded_keeps (books_of c.args.world.now.ledger) r.page r.lsn r.olds.now r.new.now _ ready.given (ok_none _ ready.answer) inside c.requires.kept
