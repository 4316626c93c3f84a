-- Each promise is a lemma over any lawful order.
use Rattle.table.proofs.Laws.{ascending_insert, ascending_remove, find_insert_same, find_insert_other, find_remove_same, find_remove_other, length_insert_new, length_insert_old, length_remove, remove_absent, find_key, find_has, has_find, same_members}
use Rattle.table.proofs.Between as ranges
use Rattle.table.proofs.Ends as ends
use Rattle.ranges.proofs.promises.promises_stand.Goals as goal

pub returns : goal.returns
returns g c =
    let key = g.R.Row.keyed in
    let law = g.R.Key.Key.lawful in
    record {
      insert_ascends = ascending_insert key law;
      remove_ascends = ascending_remove key law;
      inserted_found = find_insert_same key law;
      insert_others = find_insert_other key law;
      removed_gone = find_remove_same key law;
      remove_others = find_remove_other key law;
      insert_new = length_insert_new key law;
      insert_old = length_insert_old key law;
      remove_old = length_remove key law;
      remove_none = remove_absent key law;
      found_key = find_key key law;
      found_has = find_has key law;
      has_found = has_find key law;
      first_least = ends.first_least key law;
      last_greatest = ends.last_greatest key law;
      one_list = same_members key law;
      between_part = ranges.between_part key law;
      between_ascends = ranges.between_ascends key law;
      between_found = ranges.find_between key law;
      without_ascends = ranges.without_ascends key law;
      without_inside = ranges.find_without_inside key law;
      without_outside = ranges.find_without_outside key law;
      range_counts = ranges.range_counts key law;
    }
