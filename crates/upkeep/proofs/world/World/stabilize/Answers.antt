-- Storing the level keeps what the books keep.
use Rattle.std.proofs.Common.{◌≡◌, false, sym, ap, ◌∙◌, subst, w64, SFits, rules}
use Rattle.std.proofs.lemmas.Int.{to_z-of_z}
use Rattle.rules.specs.Books.{Books, with_stabilized}
use Rattle.rules.specs.Stabilizing.{is_settled, level}
use Rattle.orders.specs.Share.{Shared}
use Rattle.orders.proofs.ShareSteps.{share_steps}
use Rattle.ledger.specs.Ledgers.{books_of}
use Rattle.upkeep.proofs.world.World.stabilize.Goals as goal

pub deactivate_all-requires : goal.deactivate_all-requires
deactivate_all-requires g c =
    let b : Books = books_of c.args.self.now.ledger in
    let lsn = to_z-of_z w64 c.args.lsn c.ranges.lsn in
    let fits : SFits w64 c.level-level.result = search rules in
    let stored = c.store.ensures ∙ ap (λ l. with_stabilized l b) (to_z-of_z w64 c.level-level.result fits ∙ (c.level-level.ensures ∙ ap (level b.size) lsn)) in
    let open-yet : is_settled b c.args.lsn ≡ false = ap (is_settled b) (sym lsn) ∙ (sym c.is_settled.ensures ∙ c.if-is_settled.false) in
    subst Shared (sym stored) (share_steps.stores c.args.lsn b c.requires.lsn open-yet c.requires.kept)
