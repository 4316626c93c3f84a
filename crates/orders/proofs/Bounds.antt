-- Every step keeps the books' numbers within their bounds.
use Rattle.std.proofs.Common.{◌≡◌, ℕ, ◌-◌, ◌/◌, ◌<◌, ◌≤◌, Bool, true, not, ◌&&◌, eqb, ltb, leb, List, length, set, ℤ, Some, None, Ok, Err, Option, sym, refl, subst, arith}
use Rattle.std.proofs.lemmas.List.{length-set}
use Rattle.std.proofs.lemmas.Bool.{and_parts, and_from, ltb-true, leb-true, eq-eqb, lt-ltb, le-leb, not-true, eqb-false}
use Rattle.table.specs.Rows.{every, remove_row, own_key}
use Rattle.table.proofs.Filters.{every_kept}
use Rattle.host.specs.Meaning.{Answer}
use Rattle.segment.specs.Rows.{ordering_key, fault_key}
use Rattle.segment.specs.declared.rows.BlobRow.{BlobRow}
use Rattle.segment.specs.declared.rows.FaultRow.{FaultRow}
use Rattle.segment.specs.declared.rows.FreeableRow.{FreeableRow}
use Rattle.segment.specs.declared.rows.OrderingRow.{OrderingRow}
use Rattle.segment.specs.declared.rows.PageRow.{PageRow}
use Rattle.segment.specs.declared.state.State.{State}
use Rattle.segment.specs.declared.state.State.TheVariants as is
use Rattle.rules.specs.Books.{Books, with_segments, with_tip, with_free, with_ordering, with_pages, with_blobs, with_freeable, with_listed, with_faults, with_stabilized, unused, state_of, offset_of}
use Rattle.rules.specs.Pages.{is_in, rows_off}
use Rattle.rules.specs.Freeing.{without_lsn, unordered, put_free, can_cut, remembered, lowered}
use Rattle.orders.specs.Within.{Within, is_lsn, is_bounded, is_place, is_end, is_level}
use Rattle.orders.proofs.Every.{every_insert, every_remove, every_set, every_index, every_weaker, kept_most, place_of, end_of, end_parts, place_more, last_place}
use Rattle.std.specs.Ordering.{nat_cmp, int_cmp}

-- ---- one part changed
pub size_positive : (b : Books) → Within b → 0 < b.size
size_positive b w = let l = leb-true 256 b.size (and_parts (leb 256 b.size) _ w.size).0 in omega arith

-- other states, and perhaps more
pub grown_within : (segments : List State) (b : Books) → length b.segments ≤ length segments → length segments ≤ 256 → every is_bounded segments ≡ true → Within b → Within (with_segments segments b)
grown_within segments b l m h w = record {
  size = w.size;
  reached = le-leb _ _ m;
  states = h;
  tip = let t = end_parts b.size (length b.segments) b.tip w.tip in let u = t.1 in and_from _ _ (eq-eqb _ _ t.0) (le-leb (b.tip / b.size) (length segments) (omega arith));
  stabilized = w.stabilized;
  free = every_weaker (is_place b.size (length b.segments)) (is_place b.size (length segments)) b.free more w.free;
  ordering = every_weaker (λ row. is_lsn row.lsn && is_place b.size (length b.segments) row.offset) _ b.ordering (λ row g. let gs = and_parts (is_lsn row.lsn) _ g in and_from _ _ gs.0 (more row.offset gs.1)) w.ordering;
  pages = every_weaker (λ row. ltb row.segment (length b.segments)) _ b.pages (λ row. later row.segment) w.pages;
  page_room = w.page_room;
  blobs = every_weaker (λ row. ltb row.segment (length b.segments)) _ b.blobs (λ row. later row.segment) w.blobs;
  blob_room = w.blob_room;
  freeable = every_weaker (λ row. ltb row.segment (length b.segments) && is_lsn row.lsn) _ b.freeable (λ row g. let gs = and_parts (ltb row.segment (length b.segments)) _ g in and_from _ _ (later row.segment gs.0) gs.1) w.freeable;
  listed = every_weaker (is_place b.size (length b.segments)) (is_place b.size (length segments)) b.listed more w.listed;
  faults = every_weaker (λ row. is_place b.size (length b.segments) row.offset) _ b.faults (λ row. more row.offset) w.faults;
}
  where
    more : (o : ℕ) → is_place b.size (length b.segments) o ≡ true → is_place b.size (length segments) o ≡ true
    more o = place_more b.size (length b.segments) (length segments) o l

    later : (n : ℕ) → ltb n (length b.segments) ≡ true → ltb n (length segments) ≡ true
    later n g = let k = ltb-true n (length b.segments) g in lt-ltb n (length segments) (omega arith)

-- one state changed
pub state_within : (n : ℕ) (s : State) (b : Books) → is_bounded s ≡ true → Within b → Within (with_segments (set b.segments n s) b)
state_within n s b h w =
    let e = length-set b.segments n s in
    let r = leb-true _ _ w.reached in
    grown_within (set b.segments n s) b (omega arith) (omega arith) (every_set is_bounded b.segments n s h w.states) w

pub pages_within : (rows : List PageRow) (b : Books) → every (λ row. ltb row.segment (length b.segments)) rows ≡ true → length rows ≤ 2048 → Within b → Within (with_pages rows b)
pages_within rows b h l w = record {
  size = w.size;
  reached = w.reached;
  states = w.states;
  tip = w.tip;
  stabilized = w.stabilized;
  free = w.free;
  ordering = w.ordering;
  pages = h;
  page_room = le-leb _ _ l;
  blobs = w.blobs;
  blob_room = w.blob_room;
  freeable = w.freeable;
  listed = w.listed;
  faults = w.faults;
}

pub blobs_within : (rows : List BlobRow) (b : Books) → every (λ row. ltb row.segment (length b.segments)) rows ≡ true → length rows ≤ 256 → Within b → Within (with_blobs rows b)
blobs_within rows b h l w = record {
  size = w.size;
  reached = w.reached;
  states = w.states;
  tip = w.tip;
  stabilized = w.stabilized;
  free = w.free;
  ordering = w.ordering;
  pages = w.pages;
  page_room = w.page_room;
  blobs = h;
  blob_room = le-leb _ _ l;
  freeable = w.freeable;
  listed = w.listed;
  faults = w.faults;
}

pub free_within : (rows : List ℕ) (b : Books) → every (is_place b.size (length b.segments)) rows ≡ true → Within b → Within (with_free rows b)
free_within rows b h w = record {
  size = w.size;
  reached = w.reached;
  states = w.states;
  tip = w.tip;
  stabilized = w.stabilized;
  free = h;
  ordering = w.ordering;
  pages = w.pages;
  page_room = w.page_room;
  blobs = w.blobs;
  blob_room = w.blob_room;
  freeable = w.freeable;
  listed = w.listed;
  faults = w.faults;
}

pub listed_within : (rows : List ℕ) (b : Books) → every (is_place b.size (length b.segments)) rows ≡ true → Within b → Within (with_listed rows b)
listed_within rows b h w = record {
  size = w.size;
  reached = w.reached;
  states = w.states;
  tip = w.tip;
  stabilized = w.stabilized;
  free = w.free;
  ordering = w.ordering;
  pages = w.pages;
  page_room = w.page_room;
  blobs = w.blobs;
  blob_room = w.blob_room;
  freeable = w.freeable;
  listed = h;
  faults = w.faults;
}

pub ordering_within : (rows : List OrderingRow) (b : Books) → every (λ row. is_lsn row.lsn && is_place b.size (length b.segments) row.offset) rows ≡ true → Within b → Within (with_ordering rows b)
ordering_within rows b h w = record {
  size = w.size;
  reached = w.reached;
  states = w.states;
  tip = w.tip;
  stabilized = w.stabilized;
  free = w.free;
  ordering = h;
  pages = w.pages;
  page_room = w.page_room;
  blobs = w.blobs;
  blob_room = w.blob_room;
  freeable = w.freeable;
  listed = w.listed;
  faults = w.faults;
}

pub freeable_within : (rows : List FreeableRow) (b : Books) → every (λ row. ltb row.segment (length b.segments) && is_lsn row.lsn) rows ≡ true → Within b → Within (with_freeable rows b)
freeable_within rows b h w = record {
  size = w.size;
  reached = w.reached;
  states = w.states;
  tip = w.tip;
  stabilized = w.stabilized;
  free = w.free;
  ordering = w.ordering;
  pages = w.pages;
  page_room = w.page_room;
  blobs = w.blobs;
  blob_room = w.blob_room;
  freeable = h;
  listed = w.listed;
  faults = w.faults;
}

pub faults_within : (rows : List FaultRow) (b : Books) → every (λ row. is_place b.size (length b.segments) row.offset) rows ≡ true → Within b → Within (with_faults rows b)
faults_within rows b h w = record {
  size = w.size;
  reached = w.reached;
  states = w.states;
  tip = w.tip;
  stabilized = w.stabilized;
  free = w.free;
  ordering = w.ordering;
  pages = w.pages;
  page_room = w.page_room;
  blobs = w.blobs;
  blob_room = w.blob_room;
  freeable = w.freeable;
  listed = w.listed;
  faults = h;
}

pub tip_within : (tip : ℕ) (b : Books) → is_end b.size (length b.segments) tip ≡ true → Within b → Within (with_tip tip b)
tip_within tip b h w = record {
  size = w.size;
  reached = w.reached;
  states = w.states;
  tip = h;
  stabilized = w.stabilized;
  free = w.free;
  ordering = w.ordering;
  pages = w.pages;
  page_room = w.page_room;
  blobs = w.blobs;
  blob_room = w.blob_room;
  freeable = w.freeable;
  listed = w.listed;
  faults = w.faults;
}

pub level_within : (level : ℤ) (b : Books) → is_level level ≡ true → Within b → Within (with_stabilized level b)
level_within level b h w = record {
  size = w.size;
  reached = w.reached;
  states = w.states;
  tip = w.tip;
  stabilized = h;
  free = w.free;
  ordering = w.ordering;
  pages = w.pages;
  page_room = w.page_room;
  blobs = w.blobs;
  blob_room = w.blob_room;
  freeable = w.freeable;
  listed = w.listed;
  faults = w.faults;
}

pub state_bounded : (b : Books) (n : ℕ) (s : State) → state_of b n ≡ s → Within b → is_bounded s ≡ true
state_bounded b n s e w = subst (λ x. is_bounded x ≡ true) e (every_index is_bounded b.segments n unused refl w.states)

-- ---- freeing
unordered_within : (p : OrderingRow → Bool) (s : State) (rows : List OrderingRow) → every p rows ≡ true → every p (unordered s rows) ≡ true
unordered_within p (is.Free f) rows h = on f.previous_lsn
  where
    on : (o : Option ℤ) → every p (without_lsn o rows) ≡ true
    on None = h
    on (Some lsn) = every_remove p ordering_key int_cmp rows lsn h
unordered_within p (is.Active a) rows h = h
unordered_within p (is.Inactive i) rows h = h
unordered_within p (is.Draining d) rows h = h

pub freed_within : (n : ℕ) (b : Books) → n < length b.segments → Within b → Within (put_free n b)
freed_within n b l w =
    let room = leb-true _ _ w.page_room in
    let most = kept_most (λ row. not (is_in n row)) b.pages in
    free_within _ (with_ordering (unordered (state_of b n) b.ordering) (with_pages (rows_off n b.pages) (with_listed (remove_row own_key nat_cmp b.listed (offset_of b n)) b)))
    (every_insert (is_place b.size (length b.segments)) own_key nat_cmp b.free (offset_of b n) (place_of b.size (size_positive b w) n _ l) w.free)
    (ordering_within _ (with_pages (rows_off n b.pages) (with_listed (remove_row own_key nat_cmp b.listed (offset_of b n)) b)) (unordered_within _ (state_of b n) b.ordering w.ordering)
    (pages_within _ (with_listed (remove_row own_key nat_cmp b.listed (offset_of b n)) b) (every_kept _ _ b.pages w.pages) (omega arith)
    (listed_within _ b (every_remove (is_place b.size (length b.segments)) own_key nat_cmp b.listed (offset_of b n) w.listed) w)))

remembered_within : (p : FaultRow → Bool) (offset : ℕ) (a : Answer) (rows : List FaultRow) → ((code layer : ℕ) → p (record { offset = offset; code = code; layer = layer }) ≡ true) → every p rows ≡ true → every p (remembered offset a rows) ≡ true
remembered_within p offset (Ok u) rows at h = h
remembered_within p offset (Err e) rows at h = every_insert p fault_key nat_cmp rows _ (at _ _) h

pub lowered_within : (b : Books) (a : Answer) → can_cut b ≡ true → Within b → Within (lowered b a)
lowered_within b a c w =
    let l = size_positive b w in
    let t = end_parts b.size (length b.segments) b.tip w.tip in
    let nonzero = eqb-false b.tip 0 (not-true _ (and_parts (not (eqb b.tip 0)) _ c).0) in
    let k = last_place (b.tip / b.size) b.size b.tip t.0 nonzero in
    let k1 = k.1 in
    let bound = t.1 in
    let place : is_place b.size (length b.segments) (b.tip - b.size) ≡ true = subst (λ o. is_place b.size (length b.segments) o ≡ true) (sym k.2) (place_of b.size l k.0 _ (omega arith)) in
    let end : is_end b.size (length b.segments) (b.tip - b.size) ≡ true = subst (λ o. is_end b.size (length b.segments) o ≡ true) (sym k.2) (end_of b.size l k.0 _ (omega arith)) in
    tip_within _ (with_free (remove_row own_key nat_cmp b.free (b.tip - b.size)) (with_faults (remembered (b.tip - b.size) a b.faults) b)) end
    (free_within _ (with_faults (remembered (b.tip - b.size) a b.faults) b) (every_remove (is_place b.size (length b.segments)) own_key nat_cmp b.free _ w.free)
    (faults_within _ b (remembered_within _ (b.tip - b.size) a b.faults (λ code layer. place) w.faults) w))
