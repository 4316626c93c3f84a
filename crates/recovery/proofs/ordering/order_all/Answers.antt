-- The ordering is empty before, and there are no more segments than it has room for.
use Rattle.std.proofs.Common.{◌≡◌, ◌*◌, ◌^◌, ◌<◌, length, sym, ap, ◌∙◌, subst, arith, rules}
use Rattle.std.proofs.lemmas.List.{length-map}
use Rattle.std.proofs.lemmas.Bool.{leb-true}
use Rattle.table.specs.Held.{held}
use Rattle.ledger.specs.Ledgers.{books_of}
use Rattle.recovery.proofs.OrderWalks.{end_fits}
use Rattle.recovery.proofs.ordering.order_all.Goals as goal

pub order_segments-requires : goal.order_segments-requires
order_segments-requires c =
    let l = c.args.ledger.now in
    let b = books_of l in
    let many : length c.as_slice.result.now ≡ length b.segments = sym (length-map c.as_slice.result.now (λ s. s.state)) ∙ ap length c.as_slice.ensures in
    let few = leb-true _ _ c.requires.within.1.reached in
    let none : length (held l.ordering) ≡ 0 = ap length c.requires.ordering in
    record {
      room = omega arith;
      fits = subst (λ n. n * l.segment_size < 2 ^ 64) (sym many) (end_fits b c.requires.within.1);
    }
