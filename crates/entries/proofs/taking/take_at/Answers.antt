-- The state and the page row are those of the rule.
use Rattle.std.proofs.Common.{◌≡◌, None, sym, subst, w64}
use Rattle.std.proofs.lemmas.Int.{to_z-of_z}
use Rattle.table.specs.Held.{held}
use Rattle.rules.specs.Replacing.{from_state}
use Rattle.ledger.specs.Ledgers.{books_of}
use Rattle.ledger.specs.States.{states_of}
use Rattle.entries.proofs.Takes.{may_take_from, taken_states, taken_pages}
use Rattle.entries.proofs.taking.take_at.Goals as goal

pub remove_pid-leaves-requires : goal.remove_pid-leaves-requires
remove_pid-leaves-requires c =
    let b = books_of c.args.ledger.now in
    let s = c.take_out-segment.result in
    let e = c.take_out-segment.ensures.state in
    may_take_from b c.args.n c.args.page c.args.base c.args.size s.state c.requires.reached (sym e) s.kept (subst (λ x. from_state b c.args.n c.args.page c.args.base c.args.size x ≡ None) (sym e) c.requires.passes) c.requires.counts

pub returns : goal.returns
returns c =
    let l = c.args.ledger.now in
    let z = to_z-of_z w64 c.args.base c.ranges.base in
    let was = c.take_out-segment.ensures.state in
    let segments = taken_states (states_of l.segments) _ _ c.args.n c.args.base _ c.args.size _ _ z was c.take_out-segment.ensures.states c.remove_pid-leaves.ensures.state c.write.ensures.states in
    let pages = taken_pages (held l.pages) _ c.args.n c.args.page c.args.base _ _ _ _ z was c.remove_pid-leaves.ensures.left c.mark_if.ensures in
    cc
