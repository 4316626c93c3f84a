-- What is known at the link: the row's segment is reached and open, and the checks passed.
use Rattle.std.proofs.Common.{Err, sym, ap, ◌∙◌, subst, arith}
use Rattle.std.proofs.lemmas.Result.{err_from_is_err_and}
use Rattle.rules.specs.Books.{segment_of}
use Rattle.ledger.specs.Ledgers.{books_of}
use Rattle.recovery.specs.Outcomes.{outcome}
use Rattle.recovery.specs.Recoverable.{Recoverable}
use Rattle.recovery.proofs.RowSteps.{row_refused, linked_room, linked_bytes, linked_kept}
use Rattle.recovery.proofs.recovering.recover_row.Goals as goal

pub returns-in_err-check_placed-clause-books : goal.returns-in_err-check_placed-clause-books
returns-in_err-check_placed-clause-books c =
    let b = books_of c.args.ledger.now in
    let at = c.segment_id-n.ensures ∙ ap (segment_of b) c.lid.ensures in
    let p = err_from_is_err_and c.from_residual.result c.from_residual.ensures.1 in
    ap (λ r. outcome r (books_of c.open_for.new.ledger)) p.1 ∙ row_refused c.args.header_len c.args.page c.args.row.now b _ _ at (omega arith) c.open_for.ensures p.0 (ap Err p.2 ∙ c.in_err-check_placed.ensures)

pub link_at-requires-clause-room : goal.link_at-requires-clause-room
link_at-requires-clause-room c =
    let b = books_of c.args.ledger.now in
    let at = c.segment_id-n.ensures ∙ ap (segment_of b) c.lid.ensures in
    linked_room c.args.header_len c.args.page c.args.row.now b _ _ at (omega arith) c.open_for.ensures _ c.row_size.ensures c.requires.lsn c.in_ok-check_placed.ensures c.requires.kept

pub link_at-requires-clause-bytes : goal.link_at-requires-clause-bytes
link_at-requires-clause-bytes c =
    let b = books_of c.args.ledger.now in
    let at = c.segment_id-n.ensures ∙ ap (segment_of b) c.lid.ensures in
    linked_bytes c.args.header_len c.args.page c.args.row.now b _ _ at (omega arith) c.open_for.ensures _ c.row_size.ensures c.requires.lsn c.in_ok-check_placed.ensures c.requires.kept

pub returns-clause-kept : goal.returns-clause-kept
returns-clause-kept c =
    let b = books_of c.args.ledger.now in
    let at = c.segment_id-n.ensures ∙ ap (segment_of b) c.lid.ensures in
    subst Recoverable (sym c.link_at.ensures) (linked_kept c.args.header_len c.args.page c.args.row.now b _ _ at (omega arith) c.open_for.ensures _ c.row_size.ensures c.requires.lsn c.in_ok-check_placed.ensures c.requires.kept)
