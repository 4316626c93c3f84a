-- One cut is one step of the rule, and the rule ends where no cut can be made.
use Rattle.std.proofs.Common.{◌<◌, length, sym, ap, ◌∙◌, subst}
use Rattle.rules.specs.Freeing.{cut_tail}
use Rattle.orders.specs.Within.{KeptWithin}
use Rattle.orders.proofs.BoundStarts.{within_steps}
use Rattle.ledger.specs.Ledgers.{books_of}
use Rattle.upkeep.specs.Worlds.{seen}
use Rattle.upkeep.proofs.Cuts.{tip_enough, tail_step, tail_end, fewer}
use Rattle.upkeep.proofs.world.World.cut_tail.Goals as goal

pub can_cut-requires : goal.can_cut-requires
can_cut-requires g c = tip_enough (books_of c.loop-self.self.ledger) c.loop-self.invariant.0.1

pub loop-self-smaller : goal.loop-self-smaller
loop-self-smaller g c =
    let w = seen g.H.Host.model c.loop-self.self in
    subst (λ x. length x.books.free < length w.books.free) (sym c.cut_once.ensures) (fewer g.H.Host.respond w (sym c.can_cut.ensures ∙ c.loop-self-test.true))

pub loop-self-preserved : goal.loop-self-preserved
loop-self-preserved g c =
    let w = seen g.H.Host.model c.loop-self.self in
    let e = c.cut_once.ensures in
    let t = sym c.can_cut.ensures ∙ c.loop-self-test.true in
    (subst (λ x. KeptWithin x.books) (sym e) (within_steps.cuts w.books _ t c.loop-self.invariant.0), ap (λ x. cut_tail g.H.Host.respond (length x.books.free) x) e ∙ (tail_step g.H.Host.respond w t ∙ c.loop-self.invariant.1))

pub returns : goal.returns
returns g c =
    let w = seen g.H.Host.model c.loop-self.self in
    sym (tail_end g.H.Host.respond (length w.books.free) w (sym c.can_cut.ensures ∙ c.loop-self-test.false)) ∙ c.loop-self.invariant.1
