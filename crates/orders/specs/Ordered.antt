-- Every table of the books ascends by the key of its rows: as a record of facts, and as one test.
use Rattle.std.specs.Prelude.{◌≡◌, Bool, true, ◌&&◌}
use Rattle.table.specs.Rows.{ascending, own_key}
use Rattle.segment.specs.Rows.{ordering_key, page_key, blob_key, freeable_key, fault_key, by_page, by_signed}
use Rattle.rules.specs.Books.{Books}
use Rattle.std.specs.Ordering.{nat_cmp, int_cmp}

pub record Ordered (b : Books) : Type 0 where
  pub free : ascending own_key nat_cmp b.free ≡ true
  pub ordering : ascending ordering_key int_cmp b.ordering ≡ true
  pub pages : ascending page_key by_page b.pages ≡ true
  pub blobs : ascending blob_key by_signed b.blobs ≡ true
  pub freeable : ascending freeable_key by_signed b.freeable ≡ true
  pub listed : ascending own_key nat_cmp b.listed ≡ true
  pub faults : ascending fault_key nat_cmp b.faults ≡ true

unfoldable pub ordered : Books → Bool
ordered b =
    ascending own_key nat_cmp b.free
    && (ascending ordering_key int_cmp b.ordering
    && (ascending page_key by_page b.pages
    && (ascending blob_key by_signed b.blobs
    && (ascending freeable_key by_signed b.freeable
    && (ascending own_key nat_cmp b.listed
    && ascending fault_key nat_cmp b.faults)))))
