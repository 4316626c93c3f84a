-- The signed parts of freeable and blob rows are not below the least `i64`: so a segment's rows are one range of the table.
use Rattle.std.proofs.Common.{◌≡◌, ℕ, Bool, true, false, cond, not, ◌&&◌, ltb, List, [], ◌∷◌, length, ℤ, pos, negsuc, Some, None, Option, sym, refl, true≢false}
use Rattle.std.specs.Ordering.{is_lt, int_cmp}
use Rattle.std.proofs.lemmas.Bool.{and_parts}
use Rattle.table.specs.Ranges.{floored, least_signed}
use Rattle.table.specs.Rows.{every, insert_row}
use Rattle.table.proofs.Filters.{every_kept}
use Rattle.segment.specs.Pointers.{blob_of}
use Rattle.segment.specs.Rows.{blob_key, freeable_key, by_signed}
use Rattle.segment.specs.declared.cache_info.CacheInfo.{CacheInfo}
use Rattle.segment.specs.declared.rows.BlobRow.{BlobRow}
use Rattle.rules.specs.Books.{Books}
use Rattle.rules.specs.Replacing.{same_blob, blob_row, with_blob, given_up}
use Rattle.rules.specs.Stabilizing.{blobs_off}
use Rattle.orders.specs.Within.{Within, is_lsn}
use Rattle.orders.proofs.Every.{every_insert, every_weaker}

lsn_above : (lsn : ℤ) → is_lsn lsn ≡ true → not (is_lt (int_cmp lsn least_signed)) ≡ true
lsn_above (pos a) h = refl
lsn_above (negsuc a) h = absurd (true≢false (sym h))

pub freeable_floored : (b : Books) → Within b → floored freeable_key int_cmp b.freeable least_signed ≡ true
freeable_floored b w =
    every_weaker (λ row. ltb row.segment (length b.segments) && is_lsn row.lsn) (λ row. not (is_lt (int_cmp row.lsn least_signed))) b.freeable (λ row h. lsn_above row.lsn (and_parts (ltb row.segment (length b.segments)) _ h).1) w.freeable

-- a pointer's blob, if it has one, is an `i64`
abbrev pub blob_above : Option ℤ → Bool
blob_above None = true
blob_above (Some blob) = not (is_lt (int_cmp blob least_signed))

pub with_blob_floored : (n : ℕ) (kept blob : Option ℤ) (rows : List BlobRow) → blob_above blob ≡ true → floored blob_key int_cmp rows least_signed ≡ true → floored blob_key int_cmp (with_blob n kept blob rows) least_signed ≡ true
with_blob_floored n kept None rows r h = h
with_blob_floored n kept (Some blob) rows r h = on (same_blob kept blob)
  where
    on : (t : Bool) → floored blob_key int_cmp (cond t rows (insert_row blob_key by_signed rows (blob_row n blob))) least_signed ≡ true
    on true = h
    on false = every_insert (λ row. not (is_lt (int_cmp row.blob least_signed))) blob_key by_signed rows (blob_row n blob) r h

pub given_up_floored : (n : ℕ) (kept : Option ℤ) (olds : List CacheInfo) (rows : List BlobRow) → every (λ old. blob_above (blob_of old.pointer)) olds ≡ true → floored blob_key int_cmp rows least_signed ≡ true → floored blob_key int_cmp (given_up n kept olds rows) least_signed ≡ true
given_up_floored n kept [] rows r h = h
given_up_floored n kept (old ∷ olds) rows r h =
    let rs = and_parts (blob_above (blob_of old.pointer)) _ r in
    given_up_floored n kept olds (with_blob n kept (blob_of old.pointer) rows) rs.1 (with_blob_floored n kept (blob_of old.pointer) rows rs.0 h)

pub blobs_off_floored : (n : ℕ) (rows : List BlobRow) → floored blob_key int_cmp rows least_signed ≡ true → floored blob_key int_cmp (blobs_off n rows) least_signed ≡ true
blobs_off_floored n rows h = every_kept _ (λ row. not (is_lt (int_cmp row.blob least_signed))) rows h
