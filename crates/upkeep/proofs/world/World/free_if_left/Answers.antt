-- The segment is emptied, and then held back or freed as the rule's cases say.
use Rattle.std.proofs.Common.{◌≡◌, ◌<◌, ◌≤◌, length, Some, None, sym, ap, ◌∙◌, subst, length-set, w64, SFits, rules}
use Rattle.std.proofs.lemmas.Int.{to_z-of_z}
use Rattle.segment.specs.Changes.{emptied}
use Rattle.segment.specs.declared.state.State.TheVariants as is
use Rattle.rules.specs.Books.{Books, world, state_of}
use Rattle.rules.specs.Cleaning.{holder, emptied_at, held_by}
use Rattle.rules.specs.Freeing.{put_free, freed}
use Rattle.orders.specs.Within.{KeptWithin}
use Rattle.ledger.specs.Ledgers.{books_of}
use Rattle.upkeep.specs.Worlds.{seen}
use Rattle.upkeep.proofs.Settles.{emptied_of, settled, emptied_reached, held_room, freed_kept}
use Rattle.upkeep.proofs.world.World.free_if_left.Goals as goal

pub hold-requires : goal.hold-requires
hold-requires g c =
    let b : Books = books_of c.args.self.now.ledger in
    let latest = c.in-Some.latest in
    let x = emptied_of (state_of b c.args.n) latest (sym c.all_left.ensures ∙ c.in-Some.is) in
    let fits : SFits w64 latest = search rules in
    let ends : SFits w64 c.empty-lsn.result = search rules in
    let h : holder b latest ≡ Some c.in-Some-holder.t = ap (holder b) (sym (to_z-of_z w64 latest fits)) ∙ (sym c.holder-holder.ensures ∙ c.in-Some-holder.is) in
    let e = c.empty-lsn.ensures x.draining x.is_it in
    let lsn = to_z-of_z w64 c.empty-lsn.result ends ∙ e.1 in
    subst (λ k. k ≤ 256) (sym (λ i. length (held_by c.in-Some-holder.t (lsn i) (e.0 i)).freeable)) (held_room c.args.n b latest x c.requires c.in-Some-holder.t h)

pub free-requires : goal.free-requires
free-requires g c =
    let b : Books = books_of c.args.self.now.ledger in
    let latest = c.in-Some.latest in
    let x = emptied_of (state_of b c.args.n) latest (sym c.all_left.ensures ∙ c.in-Some.is) in
    let fits : SFits w64 latest = search rules in
    let h : holder b latest ≡ None = ap (holder b) (sym (to_z-of_z w64 latest fits)) ∙ (sym c.holder-holder.ensures ∙ c.in-None.is) in
    let e = (c.empty-lsn.ensures x.draining x.is_it).0 in
    let l : c.args.n < length (emptied_at c.args.n x.draining b).segments = subst (λ k. c.args.n < k) (sym (length-set b.segments c.args.n (is.Free (emptied x.draining)))) (emptied_reached c.args.n b latest x c.requires) in
    record { reached = subst (λ d. c.args.n < length d.segments) (sym e) l; kept = subst (λ d. KeptWithin (put_free c.args.n d)) (sym e) (freed_kept c.args.n b latest x c.requires h) }

pub returns-in-Some-holder : goal.returns-in-Some-holder
returns-in-Some-holder g c =
    let b : Books = books_of c.args.self.now.ledger in
    let latest = c.in-Some.latest in
    let x = emptied_of (state_of b c.args.n) latest (sym c.all_left.ensures ∙ c.in-Some.is) in
    let fits : SFits w64 latest = search rules in
    let ends : SFits w64 c.empty-lsn.result = search rules in
    let h : holder b latest ≡ Some c.in-Some-holder.t = ap (holder b) (sym (to_z-of_z w64 latest fits)) ∙ (sym c.holder-holder.ensures ∙ c.in-Some-holder.is) in
    let e = c.empty-lsn.ensures x.draining x.is_it in
    let lsn = to_z-of_z w64 c.empty-lsn.result ends ∙ e.1 in
    let after : books_of c.hold.new.ledger ≡ held_by c.in-Some-holder.t x.draining.lsn (emptied_at c.args.n x.draining b) = c.hold.ensures ∙ (λ i. held_by c.in-Some-holder.t (lsn i) (e.0 i)) in
    ap (λ d. world d (g.H.Host.model c.args.self.now.host)) after ∙ sym (settled g.H.Host.respond c.args.n (seen g.H.Host.model c.args.self.now) latest (Some c.in-Some-holder.t) x h)

pub returns-in-None : goal.returns-in-None
returns-in-None g c =
    let b : Books = books_of c.args.self.now.ledger in
    let latest = c.in-Some.latest in
    let x = emptied_of (state_of b c.args.n) latest (sym c.all_left.ensures ∙ c.in-Some.is) in
    let fits : SFits w64 latest = search rules in
    let h : holder b latest ≡ None = ap (holder b) (sym (to_z-of_z w64 latest fits)) ∙ (sym c.holder-holder.ensures ∙ c.in-None.is) in
    let e = (c.empty-lsn.ensures x.draining x.is_it).0 in
    c.free.ensures ∙ (ap (λ d. freed g.H.Host.respond c.args.n (world d (g.H.Host.model c.args.self.now.host))) e ∙ sym (settled g.H.Host.respond c.args.n (seen g.H.Host.model c.args.self.now) latest None x h))
