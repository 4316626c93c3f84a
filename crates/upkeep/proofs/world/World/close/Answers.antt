-- What the released segment is: reached, Active, and in books that keep what they keep, also once it is closed.
use Rattle.std.proofs.Common.{sym, ap, ◌∙◌, subst}
use Rattle.rules.specs.Books.{world}
use Rattle.rules.specs.Cleaning.{cleaned}
use Rattle.rules.specs.Stabilizing.{shut, shared}
use Rattle.orders.specs.Share.{Shared}
use Rattle.orders.proofs.Cleans.{cleaned_keeps}
use Rattle.orders.proofs.ShareSteps.{share_steps}
use Rattle.ledger.specs.Ledgers.{books_of}
use Rattle.upkeep.proofs.Closes.{opens}
use Rattle.upkeep.proofs.world.World.close.Goals as goal

pub release_all-requires : goal.release_all-requires
release_all-requires g c = subst Shared (sym c.drop_blobs.ensures) (share_steps.removes c.args.n (books_of c.args.self.now.ledger) c.requires.kept)

pub close_at-requires : goal.close_at-requires
close_at-requires g c = (opens g.H.Host.respond c.args.n (books_of c.args.self.now.ledger) _ _ _ _ c.requires.active.1 c.requires.kept c.drop_blobs.ensures c.release_all.ensures).reached

pub clean-requires : goal.clean-requires
clean-requires g c =
    let o = opens g.H.Host.respond c.args.n (books_of c.args.self.now.ledger) _ _ _ _ c.requires.active.1 c.requires.kept c.drop_blobs.ensures c.release_all.ensures in
    subst Shared (sym (c.close_at.ensures _ o.active)) o.closed

pub drain_by_share-requires : goal.drain_by_share-requires
drain_by_share-requires g c =
    let o = opens g.H.Host.respond c.args.n (books_of c.args.self.now.ledger) _ _ _ _ c.requires.active.1 c.requires.kept c.drop_blobs.ensures c.release_all.ensures in
    let closed = subst Shared (sym (c.close_at.ensures _ o.active)) o.closed in
    subst (λ x. Shared x.books) (sym c.clean.ensures) (cleaned_keeps g.H.Host.respond share_steps c.args.n (world (books_of c.close_at.new.ledger) (g.H.Host.model c.release_all.new.self.host)) closed)

pub returns : goal.returns
returns g c a e =
    let o = opens g.H.Host.respond c.args.n (books_of c.args.self.now.ledger) _ _ _ _ e c.requires.kept c.drop_blobs.ensures c.release_all.ensures in
    ap (λ d. world d (g.H.Host.model c.clean.new.self.host)) c.drain_by_share.ensures
    ∙ (ap (shared g.H.Host.respond) c.clean.ensures
    ∙ (ap (λ d. shared g.H.Host.respond (cleaned g.H.Host.respond c.args.n (world d (g.H.Host.model c.release_all.new.self.host)))) (c.close_at.ensures a o.active)
    ∙ ap (λ x. shared g.H.Host.respond (shut g.H.Host.respond c.args.n a x)) o.after))
