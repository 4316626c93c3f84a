-- A row with a new LSN is one row more.
use Rattle.std.proofs.Common.{is_some, sym, ap, ◌∙◌, w64, SFits, rules, arith}
use Rattle.std.proofs.lemmas.Int.{to_z-of_z}
use Rattle.table.specs.Held.{held}
use Rattle.orders.proofs.Spreads.{none_of}
use Rattle.recovery.proofs.OrderWalks.{enters, room_for, one_more}
use Rattle.recovery.proofs.ordering.order_state.Goals as goal

pub put-requires : goal.put-requires
put-requires c =
    let none = none_of _ (ap is_some (sym c.get.ensures) ∙ sym c.if-is_some.ensures) in
    (omega arith, room_for c.args.offset _ (held c.args.ordering.now) _ none c.requires)

pub returns : goal.returns
returns c =
    let rows = held c.args.ordering.now in
    let fits : SFits w64 c.in-Active.active.lsn = search rules in
    let none = none_of _ (ap is_some (sym c.get.ensures) ∙ sym c.if-is_some.ensures) in
    record {
      more = one_more c.args.offset rows (held c.put.new.table) _ none c.put.ensures;
      rows = enters c.args.offset c.args.state.now c.in-Active.active rows (held c.put.new.table) _ (to_z-of_z w64 c.in-Active.active.lsn fits) c.in-Active.is none c.put.ensures;
    }
