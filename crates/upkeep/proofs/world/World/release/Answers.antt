-- What is held back is reached, and the books keep what they keep when it is freed.
use Rattle.std.proofs.Common.{◌≡◌, ◌<◌, length, sym, ap, ◌∙◌, subst, w64, SFits, rules}
use Rattle.std.proofs.lemmas.Int.{to_z-of_z}
use Rattle.table.specs.Rows.{remove_row}
use Rattle.segment.specs.Rows.{freeable_key, by_signed}
use Rattle.rules.specs.Books.{Books, with_freeable}
use Rattle.rules.specs.Freeing.{put_free}
use Rattle.rules.specs.Stabilizing.{number_of_lsn}
use Rattle.orders.specs.Within.{KeptWithin}
use Rattle.ledger.specs.Ledgers.{books_of}
use Rattle.upkeep.proofs.Releases.{released_reached, released_kept}
use Rattle.upkeep.proofs.world.World.release.Goals as goal

pub free-requires : goal.free-requires
free-requires g c =
    let b : Books = books_of c.args.self.now.ledger in
    let fits : SFits w64 c.args.row.lsn = search rules in
    let n : c.number_of_lsn-n.result ≡ number_of_lsn b c.args.row.lsn = c.number_of_lsn-n.ensures ∙ ap (number_of_lsn b) (to_z-of_z w64 c.args.row.lsn fits) in
    let e = c.drop_freeable.ensures in
    record {
      reached = subst (λ d. c.number_of_lsn-n.result < length d.segments) (sym e) (subst (λ k. k < length b.segments) (sym n) (released_reached c.args.row b c.requires.there c.requires.kept));
      kept = subst (λ d. KeptWithin (put_free c.number_of_lsn-n.result d)) (sym e) (subst (λ k. KeptWithin (put_free k (with_freeable (remove_row freeable_key by_signed b.freeable (c.args.row.segment, c.args.row.lsn)) b))) (sym n) (released_kept c.args.row b c.requires.there c.requires.kept));
    }
