-- Each promise is a lemma over any two lawful orders.
use Rattle.table.proofs.Pairs as lemmas
use Rattle.ranges.proofs.promises.pair_promises_stand.Goals as goal

pub returns : goal.returns
returns g c = record {
  pairs = λ key. record {
    first_part = lemmas.first_part key g.A.Key.lawful g.B.Key.lawful;
    first_range = lemmas.first_range key g.A.Key.lawful g.B.Key.lawful;
    first_without = lemmas.first_without key g.A.Key.lawful g.B.Key.lawful;
    insert_floored = lemmas.insert_floored key g.A.Key.lawful g.B.Key.lawful;
    remove_floored = lemmas.remove_floored key g.A.Key.lawful g.B.Key.lawful;
    without_floored = lemmas.without_floored key g.A.Key.lawful g.B.Key.lawful;
    second_range = lemmas.second_range key g.A.Key.lawful g.B.Key.lawful;
  };
  numbers = record {
    signed_floor = lemmas.above_least_signed;
    unsigned_range = λ key. lemmas.unsigned_range key;
    unsigned_without = λ key. lemmas.unsigned_without key;
    signed_range = λ key. lemmas.signed_range key;
    signed_without = λ key. lemmas.signed_without key;
  };
}
