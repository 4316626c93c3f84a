-- The tip is the end of a segment, and the fault of its cut has room.
use Rattle.std.proofs.Common.{◌≡◌, ◌-◌, ◌≤◌, length, Err, sym, ap, subst}
use Rattle.table.specs.Held.{held}
use Rattle.rules.specs.Freeing.{remembered}
use Rattle.ledger.specs.Ledgers.{books_of}
use Rattle.upkeep.proofs.Cuts.{tip_enough, cut_tip, fault_room}
use Rattle.upkeep.proofs.world.World.cut_once.Goals as goal

pub lower_tip-offset-requires : goal.lower_tip-offset-requires
lower_tip-offset-requires g c = let b = books_of c.args.self.now.ledger in tip_enough b c.requires.kept.1 (cut_tip b c.requires.can)

pub remember-requires : goal.remember-requires
remember-requires g c =
    let b = books_of c.args.self.now.ledger in
    let same = ap (λ x. x.faults) c.lower_tip-offset.ensures.books in
    let e : length (remembered c.lower_tip-offset.result (Err c.in-Err.fault) (held c.lower_tip-offset.new.self.faults)) ≡ length (remembered (b.tip - b.size) (Err c.in-Err.fault) b.faults) = λ i. length (remembered (c.lower_tip-offset.ensures.offset i) (Err c.in-Err.fault) (same i)) in
    subst (λ n. n ≤ 256) (sym e) (fault_room b (Err c.in-Err.fault) c.requires.can c.requires.kept)
