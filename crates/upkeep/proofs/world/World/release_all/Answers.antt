-- One row released is one step of the rule.
use Rattle.std.proofs.Common.{◌<◌, length, sym, ap, ◌∙◌, subst}
use Rattle.rules.specs.Stabilizing.{held_back_by, release_all}
use Rattle.orders.specs.Share.{Shared}
use Rattle.ledger.specs.Ledgers.{books_of}
use Rattle.upkeep.specs.Worlds.{seen}
use Rattle.upkeep.proofs.Releases.{first_has, release_keeps, release_step, release_fewer, release_end}
use Rattle.upkeep.proofs.world.World.release_all.Goals as goal

pub release-requires-clause-there : goal.release-requires-clause-there
release-requires-clause-there g c = first_has c.args.n (books_of c.loop-row.self.ledger).freeable c.in-Some.row (sym c.first_held_back.ensures ∙ c.in-Some.is)

pub loop-row-smaller : goal.loop-row-smaller
loop-row-smaller g c =
    let w = seen g.H.Host.model c.loop-row.self in
    subst (λ x. length (held_back_by c.args.n x.books.freeable) < length (held_back_by c.args.n w.books.freeable)) (sym c.release.ensures)
    (release_fewer g.H.Host.respond c.args.n w c.in-Some.row (sym c.first_held_back.ensures ∙ c.in-Some.is) c.loop-row.invariant.0)

pub loop-row-preserved : goal.loop-row-preserved
loop-row-preserved g c =
    let w = seen g.H.Host.model c.loop-row.self in
    let e = sym c.first_held_back.ensures ∙ c.in-Some.is in (
      subst (λ x. Shared x.books) (sym c.release.ensures) (release_keeps g.H.Host.respond c.args.n w c.in-Some.row (first_has c.args.n w.books.freeable c.in-Some.row e) c.loop-row.invariant.0),
      ap (λ x. release_all g.H.Host.respond (held_back_by c.args.n x.books.freeable) x) c.release.ensures ∙ (release_step g.H.Host.respond c.args.n w c.in-Some.row e c.loop-row.invariant.0 ∙ c.loop-row.invariant.1),
    )

pub returns : goal.returns
returns g c = sym (release_end g.H.Host.respond c.args.n (seen g.H.Host.model c.loop-row.self) (sym c.first_held_back.ensures ∙ c.in_default.is)) ∙ c.loop-row.invariant.1
