-- An accepted link has room.
use Rattle.std.proofs.Common.{◌≡◌, ◌/◌, ◌≤◌, true, length, vec_items, sym, ap, ◌∙◌, subst}
use Rattle.segment.specs.Bounds.{bounded}
use Rattle.rules.specs.Books.{Books, state_of}
use Rattle.rules.specs.Links.{linked_state}
use Rattle.rules.specs.Pages.{page_row, written}
use Rattle.ledger.specs.Ledgers.{books_of}
use Rattle.entries.proofs.Linkable.{kept_state, rows_have_room, bytes_have_room}
use Rattle.entries.proofs.recording.link.Goals as goal

pub link_at-requires-clause-room : goal.link_at-requires-clause-room
link_at-requires-clause-room c =
    let l = c.args.ledger.now in
    let b : Books = books_of l in
    let p = c.args.page in
    let n = c.segment_id-n.ensures ∙ ap (λ o. o / b.size) c.lid.ensures in
    subst (λ k. length (written k p b.pages (page_row b.pages k p)) ≤ 2048) (sym n) (rows_have_room b p c.args.info.now c.requires.accepted l.pages.few)

pub link_at-requires-clause-bytes : goal.link_at-requires-clause-bytes
link_at-requires-clause-bytes c =
    let l = c.args.ledger.now in
    let b : Books = books_of l in
    let info = c.args.info.now in
    let n = c.segment_id-n.ensures ∙ ap (λ o. o / b.size) c.lid.ensures in
    subst (λ k. bounded (linked_state info.log_size (state_of b k)) ≡ true) (sym n) (bytes_have_room b c.args.page info c.requires.accepted (kept_state (vec_items l.segments.list) _))
