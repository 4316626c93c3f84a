-- Every step keeps every table in order.
use Rattle.std.proofs.Common.{◌≡◌, ℕ, suc, ◌*◌, Bool, true, false, cond, List, [], ◌∷◌, ℤ, is_some, Some, None, Ok, Err, Option, Result, refl, subst, arith}
use Rattle.table.specs.Order.{unsigned_lawful, signed_lawful}
use Rattle.table.specs.Rows.{ascending, find, insert_row, remove_row, own_key}
use Rattle.table.proofs.Filters.{ascending_kept}
use Rattle.table.proofs.Laws.{ascending_insert, ascending_remove}
use Rattle.table.proofs.Places.{tail_up}
use Rattle.host.specs.Meaning.{Answer}
use Rattle.segment.specs.Pointers.{blob_of}
use Rattle.segment.specs.Rows.{ordering_key, page_key, blob_key, freeable_key, fault_key, by_page, by_signed}
use Rattle.segment.specs.Updates.{leaves}
use Rattle.segment.specs.declared.cache_info.CacheInfo.{CacheInfo}
use Rattle.segment.specs.declared.rows.BlobRow.{BlobRow}
use Rattle.segment.specs.declared.rows.FaultRow.{FaultRow}
use Rattle.segment.specs.declared.rows.FreeableRow.{FreeableRow}
use Rattle.segment.specs.declared.rows.OrderingRow.{OrderingRow}
use Rattle.segment.specs.declared.rows.PageRow.{PageRow}
use Rattle.segment.specs.declared.state.Inactive.{Inactive}
use Rattle.segment.specs.declared.state.State.{State}
use Rattle.segment.specs.declared.state.State.TheVariants as is
use Rattle.rules.specs.declared.refusal.Refusal.{Refusal}
use Rattle.rules.specs.Books.{Books, with_segments, with_pages, with_blobs, with_freeable, state_of}
use Rattle.rules.specs.Pages.{page_row, written, marked}
use Rattle.rules.specs.Freeing.{without_lsn, unordered, put_free, remembered, lowered}
use Rattle.rules.specs.Cleaning.{start_draining, emptied_at}
use Rattle.rules.specs.Links.{info_segment, linked_at}
use Rattle.rules.specs.Replacing.{same_blob, blob_row, with_blob, given_up, taken_at}
use Rattle.rules.specs.HandingOut.{rest_of, handed_out}
use Rattle.rules.specs.Starting.{Plan, blank, with_active, opened_for, order_state, order_then, order_all}
use Rattle.orders.specs.Ordered.{Ordered}
use Rattle.orders.proofs.Steps.{Steps, Beginning}
use Rattle.orders.proofs.Alone.{page_laws, ascending_map, queued_key}
use Rattle.orders.proofs.Stabilizes.{signed_laws}
use Rattle.std.specs.Ordering.{nat_cmp, int_cmp}

-- ---- the edits of one table
ordering_out : (o : Option ℤ) (rows : List OrderingRow) → ascending ordering_key int_cmp rows ≡ true → ascending ordering_key int_cmp (without_lsn o rows) ≡ true
ordering_out None rows up = up
ordering_out (Some lsn) rows up = ascending_remove ordering_key signed_lawful rows lsn up

unordered_up : (s : State) (rows : List OrderingRow) → ascending ordering_key int_cmp rows ≡ true → ascending ordering_key int_cmp (unordered s rows) ≡ true
unordered_up (is.Free f) rows up = ordering_out f.previous_lsn rows up
unordered_up (is.Active a) rows up = up
unordered_up (is.Inactive i) rows up = up
unordered_up (is.Draining d) rows up = up

remembered_up : (offset : ℕ) (a : Answer) (rows : List FaultRow) → ascending fault_key nat_cmp rows ≡ true → ascending fault_key nat_cmp (remembered offset a rows) ≡ true
remembered_up offset (Ok u) rows up = up
remembered_up offset (Err e) rows up = ascending_insert fault_key unsigned_lawful rows _ up

written_up : (n p : ℕ) (rows : List PageRow) (o : Option PageRow) → ascending page_key by_page rows ≡ true → ascending page_key by_page (written n p rows o) ≡ true
written_up n p rows None up = ascending_insert page_key page_laws rows _ up
written_up n p rows (Some row) up = up

marked_up : (rows : List PageRow) (o : Option PageRow) → ascending page_key by_page rows ≡ true → ascending page_key by_page (marked rows o) ≡ true
marked_up rows None up = up
marked_up rows (Some row) up = ascending_insert page_key page_laws rows _ up

with_blob_up : (n : ℕ) (kept blob : Option ℤ) (rows : List BlobRow) → ascending blob_key by_signed rows ≡ true → ascending blob_key by_signed (with_blob n kept blob rows) ≡ true
with_blob_up n kept None rows up = up
with_blob_up n kept (Some blob) rows up = on (same_blob kept blob)
  where
    on : (t : Bool) → ascending blob_key by_signed (cond t rows (insert_row blob_key by_signed rows (blob_row n blob))) ≡ true
    on true = up
    on false = ascending_insert blob_key signed_laws rows _ up

given_up_up : (n : ℕ) (kept : Option ℤ) (olds : List CacheInfo) (rows : List BlobRow) → ascending blob_key by_signed rows ≡ true → ascending blob_key by_signed (given_up n kept olds rows) ≡ true
given_up_up n kept [] rows up = up
given_up_up n kept (old ∷ olds) rows up = given_up_up n kept olds (with_blob n kept (blob_of old.pointer) rows) (with_blob_up n kept (blob_of old.pointer) rows up)

rest_up : (rows : List ℕ) → ascending own_key nat_cmp rows ≡ true → ascending own_key nat_cmp (rest_of rows) ≡ true
rest_up [] up = up
rest_up (x ∷ xs) up = tail_up own_key unsigned_lawful x xs up

-- ---- the ordering of a start
order_state_up : (offset : ℕ) (s : State) (rows more : List OrderingRow) → order_state offset s rows ≡ Ok more → ascending ordering_key int_cmp rows ≡ true → ascending ordering_key int_cmp more ≡ true
order_state_up offset (is.Free f) rows more e up = let q : rows ≡ more = cc in subst (λ l. ascending ordering_key int_cmp l ≡ true) q up
order_state_up offset (is.Active a) rows more e up = on (is_some (find ordering_key int_cmp rows a.lsn)) refl
  where
    on : (t : Bool) → is_some (find ordering_key int_cmp rows a.lsn) ≡ t → ascending ordering_key int_cmp more ≡ true
    on true f = let g = rw f at e in let z : ◌≡◌ {A = ℕ} 0 1 = cc in absurd (omega arith)
    on false f = let g = rw f at e in let q : insert_row ordering_key int_cmp rows (record { lsn = a.lsn; offset = offset }) ≡ more = cc in subst (λ l. ascending ordering_key int_cmp l ≡ true) q (ascending_insert ordering_key signed_lawful rows (record { lsn = a.lsn; offset = offset }) up)
order_state_up offset (is.Inactive i) rows more e up = let q : rows ≡ more = cc in subst (λ l. ascending ordering_key int_cmp l ≡ true) q up
order_state_up offset (is.Draining d) rows more e up = let q : rows ≡ more = cc in subst (λ l. ascending ordering_key int_cmp l ≡ true) q up

order_all_up : (size n : ℕ) (states : List State) (rows more : List OrderingRow) → order_all size n states rows ≡ Ok more → ascending ordering_key int_cmp rows ≡ true → ascending ordering_key int_cmp more ≡ true
order_all_up size n [] rows more e up = let q : rows ≡ more = cc in subst (λ l. ascending ordering_key int_cmp l ≡ true) q up
order_all_up size n (s ∷ states) rows more e up = on (order_state (n * size) s rows) refl e (λ mid f g. order_all_up size (suc n) states mid more f g)
  where
    on : (o : Result (List OrderingRow) Refusal) → order_state (n * size) s rows ≡ o → order_then o (order_all size (suc n) states) ≡ Ok more → ((mid : List OrderingRow) → order_all size (suc n) states mid ≡ Ok more → ascending ordering_key int_cmp mid ≡ true → ascending ordering_key int_cmp more ≡ true) → ascending ordering_key int_cmp more ≡ true
    on (Ok mid) f g ih = ih mid g (order_state_up (n * size) s rows mid f up)
    on (Err r) f g ih = let z : ◌≡◌ {A = ℕ} 0 1 = cc in absurd (omega arith)

-- ---- the steps
pub freed_up : (n : ℕ) (b : Books) → Ordered b → Ordered (put_free n b)
freed_up n b o = record {
  free = ascending_insert own_key unsigned_lawful b.free _ o.free;
  ordering = unordered_up (state_of b n) b.ordering o.ordering;
  pages = ascending_kept page_key page_laws _ b.pages o.pages;
  blobs = o.blobs;
  freeable = o.freeable;
  listed = ascending_remove own_key unsigned_lawful b.listed _ o.listed;
  faults = o.faults;
}

handed_up : (lsn : ℤ) (offset : ℕ) (b : Books) → Ordered b → Ordered (handed_out lsn offset b)
handed_up lsn offset b o = record {
  free = rest_up b.free o.free;
  ordering = ascending_insert ordering_key signed_lawful b.ordering _ o.ordering;
  pages = o.pages;
  blobs = o.blobs;
  freeable = o.freeable;
  listed = o.listed;
  faults = o.faults;
}

-- other page rows
with_pages_up : (segments : List State) (pages : List PageRow) (b : Books) → ascending page_key by_page pages ≡ true → Ordered b → Ordered (with_segments segments (with_pages pages b))
with_pages_up segments pages b up o = record { free = o.free; ordering = o.ordering; pages = up; blobs = o.blobs; freeable = o.freeable; listed = o.listed; faults = o.faults }

taken_up : (n p : ℕ) (base : ℤ) (size : ℕ) (b : Books) → Ordered b → Ordered (taken_at n p base size b)
taken_up n p base size b o = with_pages_up _ _ b (on (leaves base (state_of b n))) o
  where
    on : (t : Bool) → ascending page_key by_page (cond t (marked b.pages (page_row b.pages n p)) b.pages) ≡ true
    on true = marked_up b.pages (page_row b.pages n p) o.pages
    on false = o.pages

linked_up : (n p size : ℕ) (b : Books) → Ordered b → Ordered (linked_at n p size b)
linked_up n p size b o = with_pages_up _ _ b (written_up n p b.pages (page_row b.pages n p) o.pages) o

lowered_up : (b : Books) (a : Answer) → Ordered b → Ordered (lowered b a)
lowered_up b a o = record {
  free = ascending_remove own_key unsigned_lawful b.free _ o.free;
  ordering = o.ordering;
  pages = o.pages;
  blobs = o.blobs;
  freeable = o.freeable;
  listed = o.listed;
  faults = remembered_up _ a b.faults o.faults;
}

-- the states play no part
pub states_up : (segments : List State) (b : Books) → Ordered b → Ordered (with_segments segments b)
states_up segments b o = record { free = o.free; ordering = o.ordering; pages = o.pages; blobs = o.blobs; freeable = o.freeable; listed = o.listed; faults = o.faults }

drained_up : (n : ℕ) (i : Inactive) (b : Books) → Ordered b → Ordered (start_draining n i b)
drained_up n i b o = record {
  free = o.free;
  ordering = o.ordering;
  pages = ascending_map page_key by_page _ (queued_key n) b.pages o.pages;
  blobs = o.blobs;
  freeable = o.freeable;
  listed = ascending_insert own_key unsigned_lawful b.listed _ o.listed;
  faults = o.faults;
}

pub freeable_up : (rows : List FreeableRow) (b : Books) → ascending freeable_key by_signed rows ≡ true → Ordered b → Ordered (with_freeable rows b)
freeable_up rows b up o = record { free = o.free; ordering = o.ordering; pages = o.pages; blobs = o.blobs; freeable = up; listed = o.listed; faults = o.faults }

blobs_up : (rows : List BlobRow) (b : Books) → ascending blob_key by_signed rows ≡ true → Ordered b → Ordered (with_blobs rows b)
blobs_up rows b up o = record { free = o.free; ordering = o.ordering; pages = o.pages; blobs = up; freeable = o.freeable; listed = o.listed; faults = o.faults }

pub ordered_steps : Steps Ordered
ordered_steps = record {
  ordered = λ b o. o;
  cuts = λ b a c o. lowered_up b a o;
  drains = λ n i b e o. drained_up n i b o;
  holds = λ n d t b e f g o. freeable_up _ (emptied_at n d b) (ascending_insert freeable_key signed_laws b.freeable _ o.freeable) (states_up _ b o);
  frees = λ n d b e f g o. freed_up n (emptied_at n d b) (states_up _ b o);
  links = λ p info b r e o. linked_up _ p _ b o;
  gives = λ olds new a b e f o. blobs_up _ b (given_up_up (info_segment b new) (blob_of new.pointer) olds b.blobs o.blobs) o;
  takes = λ n p base size b r e o. taken_up n p base size b o;
  removes = λ n b o. blobs_up _ b (ascending_kept blob_key signed_laws _ b.blobs o.blobs) o;
  releases = λ row b h o. freed_up _ (with_freeable (remove_row freeable_key by_signed b.freeable (row.segment, row.lsn)) b) (freeable_up _ b (ascending_remove freeable_key signed_laws b.freeable _ o.freeable) o);
  closes = λ n a b e o. states_up _ b o;
  stores = λ lsn b r e o. record { free = o.free; ordering = o.ordering; pages = o.pages; blobs = o.blobs; freeable = o.freeable; listed = o.listed; faults = o.faults };
  hands_least = λ lsn offset rest b r u i e q o. handed_up lsn offset b o;
  hands_tip = λ lsn b r u i e f q w o. handed_up lsn b.tip b o;
  forgets = λ b o. record { free = o.free; ordering = o.ordering; pages = o.pages; blobs = o.blobs; freeable = o.freeable; listed = o.listed; faults = refl };
  unlists = λ offset b e o. record { free = o.free; ordering = o.ordering; pages = o.pages; blobs = o.blobs; freeable = o.freeable; listed = ascending_remove own_key unsigned_lawful b.listed _ o.listed; faults = o.faults };
  pops = λ offset row rows b e q o. with_pages_up b.segments _ b (ascending_insert page_key page_laws b.pages _ o.pages) o;
}

begun_up : (s : Plan) (count : ℕ) (active : Option ℕ) (lsn : ℤ) → Ordered (with_active active lsn (blank s count))
begun_up s count None lsn = record { free = refl; ordering = refl; pages = refl; blobs = refl; freeable = refl; listed = refl; faults = refl }
begun_up s count (Some offset) lsn = record { free = refl; ordering = refl; pages = refl; blobs = refl; freeable = refl; listed = refl; faults = refl }

pub ordered_beginning : Beginning Ordered (λ n b. Ordered b) Ordered
ordered_beginning = record {
  begins = λ s slot extent e. begun_up s _ s.active _;
  recovers = λ header p row b r e o. linked_up _ p _ (opened_for row b) (states_up _ b o);
  orders = λ rows b e o. record { free = o.free; ordering = order_all_up b.size 0 b.segments b.ordering rows e o.ordering; pages = o.pages; blobs = o.blobs; freeable = o.freeable; listed = o.listed; faults = o.faults };
  cuts = λ n b a c o. lowered_up b a o;
  frees = λ n b l e o. freed_up n b o;
  passes = λ n b l e o. o;
  ends = λ b e o. o;
}
