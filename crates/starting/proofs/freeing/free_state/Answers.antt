-- Freeing keeps the segment size, so the offset still fits.
use Rattle.std.proofs.Common.{◌≡◌, true, rules}
use Rattle.rules.specs.Books.{state_of}
use Rattle.rules.specs.Stabilizing.{is_free}
use Rattle.ledger.specs.Ledgers.{books_of}
use Rattle.upkeep.specs.Worlds.{seen}
use Rattle.starting.proofs.Frees.{freed_fits}
use Rattle.starting.proofs.freeing.free_state.Goals as goal

pub fill_at-requires : goal.fill_at-requires
fill_at-requires g c =
    let t : is_free (state_of (books_of c.args.world.now.ledger) c.args.n) ≡ true = search rules in
    freed_fits g.H.Host.respond c.args.n (seen g.H.Host.model c.args.world.now) (seen g.H.Host.model c.free.new.self) c.requires.reached (c.requires.kept t) c.free.ensures
