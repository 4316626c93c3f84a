-- The books after handing out keep what books keep, so there is room for one segment and one row more.
use Rattle.std.proofs.Common.{w64}
use Rattle.std.proofs.lemmas.Int.{to_z-of_z}
use Rattle.ledger.specs.Ledgers.{books_of}
use Rattle.ledger.proofs.Handing.{handed_room}
use Rattle.ledger.proofs.ledger.Ledger.next_at.Goals as goal

pub hand_out-requires-clause-reached : goal.hand_out-requires-clause-reached
hand_out-requires-clause-reached c = (handed_room c.args.lsn _ _ c.in_ok-offset.offset (books_of c.args.self.now) (books_of c.offered.new.self) _ _ _ (to_z-of_z w64 c.args.lsn c.ranges.lsn) c.unsigned_abs-at.ensures.value c.requires.lsn c.if-at-self-ne0.false c.get.ensures c.is_some.ensures c.if-is_some.false c.offered.ensures c.in_ok-offset.was c.if-at-offset.false c.requires.kept).0

pub hand_out-requires-clause-room : goal.hand_out-requires-clause-room
hand_out-requires-clause-room c = (handed_room c.args.lsn _ _ c.in_ok-offset.offset (books_of c.args.self.now) (books_of c.offered.new.self) _ _ _ (to_z-of_z w64 c.args.lsn c.ranges.lsn) c.unsigned_abs-at.ensures.value c.requires.lsn c.if-at-self-ne0.false c.get.ensures c.is_some.ensures c.if-is_some.false c.offered.ensures c.in_ok-offset.was c.if-at-offset.false c.requires.kept).1
