-- The record of facts and the test say the same.
use Rattle.std.proofs.Common.{◌≡◌, true}
use Rattle.std.proofs.lemmas.Bool.{and_parts, and_from}
use Rattle.rules.specs.Books.{Books}
use Rattle.orders.specs.Ordered.{Ordered, ordered}
use Rattle.orders.specs.Within.{Within, within}

pub ordered_test : (b : Books) → Ordered b → ordered b ≡ true
unfolding ordered
ordered_test b o =
    and_from _ _ o.free (and_from _ _ o.ordering (and_from _ _ o.pages (and_from _ _ o.blobs (and_from _ _ o.freeable (and_from _ _ o.listed o.faults)))))

pub test_ordered : (b : Books) → ordered b ≡ true → Ordered b
unfolding ordered
test_ordered b h =
    let h1 = and_parts _ _ h in
    let h2 = and_parts _ _ h1.1 in
    let h3 = and_parts _ _ h2.1 in
    let h4 = and_parts _ _ h3.1 in
    let h5 = and_parts _ _ h4.1 in
    let h6 = and_parts _ _ h5.1 in
    record { free = h1.0; ordering = h2.0; pages = h3.0; blobs = h4.0; freeable = h5.0; listed = h6.0; faults = h6.1 }

pub within_test : (b : Books) → Within b → within b ≡ true
unfolding within
within_test b w =
    and_from _ _ w.size (and_from _ _ w.reached (and_from _ _ w.states (and_from _ _ w.tip (and_from _ _ w.stabilized (and_from _ _ w.free (and_from _ _ w.ordering (and_from _ _ w.pages
    (and_from _ _ w.page_room (and_from _ _ w.blobs (and_from _ _ w.blob_room (and_from _ _ w.freeable (and_from _ _ w.listed w.faults))))))))))))

pub test_within : (b : Books) → within b ≡ true → Within b
unfolding within
test_within b h =
    let h1 = and_parts _ _ h in
    let h2 = and_parts _ _ h1.1 in
    let h3 = and_parts _ _ h2.1 in
    let h4 = and_parts _ _ h3.1 in
    let h5 = and_parts _ _ h4.1 in
    let h6 = and_parts _ _ h5.1 in
    let h7 = and_parts _ _ h6.1 in
    let h8 = and_parts _ _ h7.1 in
    let h9 = and_parts _ _ h8.1 in
    let h10 = and_parts _ _ h9.1 in
    let h11 = and_parts _ _ h10.1 in
    let h12 = and_parts _ _ h11.1 in
    let h13 = and_parts _ _ h12.1 in
    record {
      size = h1.0;
      reached = h2.0;
      states = h3.0;
      tip = h4.0;
      stabilized = h5.0;
      free = h6.0;
      ordering = h7.0;
      pages = h8.0;
      page_room = h9.0;
      blobs = h10.0;
      blob_room = h11.0;
      freeable = h12.0;
      listed = h13.0;
      faults = h13.1;
    }
