-- Halving keeps a row below the key before `low` and one above it at `high`, so what is left at the end is the key's place.
use Rattle.std.proofs.Common.{◌≡◌, ◌+◌, ◌-◌, ◌/◌, true, false, get_or, Ok, Err, Equal, sym, ap, ◌∙◌, arith}
use Rattle.std.specs.Ordering.{is_lt, is_eq}
use Rattle.table.proofs.Between.{place_counts}
use Rattle.table.proofs.Edits.{found_by, there_of, cut_of, put_of}
use Rattle.table.proofs.Laws.{ascending_insert, ascending_remove}
use Rattle.table.proofs.Orders.{less_from, equal_from, greater_from}
use Rattle.table.proofs.Places.{under_next, over_here, place_at, place_between}
use Rattle.table.proofs.slices.search.Goals as goal

pub returns-then-is_eq : goal.returns-then-is_eq
returns-then-is_eq g c =
    let key = g.R.Row.keyed in
    let rank = g.R.Key.Key.rank in
    let laws = g.R.Key.Key.lawful in
    let rows = c.args.rows.now in
    let k = c.args.key in
    let x = c.index-rows-mid.result in
    let mid = c.loop-low.low + (c.loop-low.high - c.loop-low.low) / 2 in
    let same : is_eq (rank (key x) k) ≡ true = cc in
    let here : rank (key (get_or rows mid x)) k ≡ Equal = ap (λ y. rank (key y) k) (sym c.index-rows-mid.is) ∙ equal_from _ same in
    let p = sym (place_at key laws rows k mid x c.requires (omega arith) here) in
    record {
      place = p;
      within = omega arith;
      count = place_counts key laws rows k (Ok mid) c.requires p;
      there = there_of key rank rows k (Ok mid) p;
      found = found_by key rank rows k (Ok mid) p;
      cut = cut_of key rank rows k (Ok mid) p;
      put = put_of key rank rows k (Ok mid) p;
      cut_ascends = ascending_remove key laws rows k c.requires;
      put_ascends = λ row q. ascending_insert key laws rows row c.requires;
    }

pub loop-low-preserved-then-is_lt : goal.loop-low-preserved-then-is_lt
loop-low-preserved-then-is_lt g c =
    let x = c.index-rows-mid.result in
    let mid = c.loop-low.low + (c.loop-low.high - c.loop-low.low) / 2 in
    let lower : is_lt (g.R.Key.Key.rank (g.R.Row.keyed x) c.args.key) ≡ true = cc in
    (omega arith, omega arith, under_next g.R.Row.keyed g.R.Key.Key.lawful c.args.rows.now c.args.key mid x (omega arith) c.index-rows-mid.is (less_from _ lower), c.loop-low.invariant.3)

pub loop-low-preserved : goal.loop-low-preserved
loop-low-preserved g c =
    let rank = g.R.Key.Key.rank in
    let k = c.args.key in
    let x = c.index-rows-mid.result in
    let mid = c.loop-low.low + (c.loop-low.high - c.loop-low.low) / 2 in
    let other : is_eq (rank (g.R.Row.keyed x) k) ≡ false = cc in
    let higher : is_lt (rank (g.R.Row.keyed x) k) ≡ false = cc in
    (omega arith, omega arith, c.loop-low.invariant.2, over_here g.R.Row.keyed g.R.Key.Key.lawful c.args.rows.now k mid x (omega arith) c.index-rows-mid.is (greater_from _ other higher))

pub returns : goal.returns
returns g c =
    let key = g.R.Row.keyed in
    let rank = g.R.Key.Key.rank in
    let laws = g.R.Key.Key.lawful in
    let rows = c.args.rows.now in
    let k = c.args.key in
    let low = c.loop-low.low in
    let at_end : c.loop-low.high ≡ low = omega arith in
    let p = sym (place_between key laws rows k low c.requires (omega arith) c.loop-low.invariant.2 (λ d p. rw at_end at (c.loop-low.invariant.3 d (omega arith)))) in
    record {
      place = p;
      within = omega arith;
      count = place_counts key laws rows k (Err low) c.requires p;
      there = there_of key rank rows k (Err low) p;
      found = found_by key rank rows k (Err low) p;
      cut = cut_of key rank rows k (Err low) p;
      put = put_of key rank rows k (Err low) p;
      cut_ascends = ascending_remove key laws rows k c.requires;
      put_ascends = λ row q. ascending_insert key laws rows row c.requires;
    }
