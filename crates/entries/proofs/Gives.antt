-- Giving up the blobs of old entries, one entry a turn.
use Rattle.std.proofs.Common.{◌≡◌, ℕ, ◌+◌, ◌<◌, ◌≤◌, Bool, true, false, cond, List, length, get_or, drop, ℤ, Some, None, Option, sym, refl, ap, ◌∙◌, subst, arith}
use Rattle.std.proofs.lemmas.List.{drop_more, drop_all}
use Rattle.table.specs.Rows.{insert_row}
use Rattle.segment.specs.Pointers.{blob_of}
use Rattle.segment.specs.Rows.{blob_key, by_signed}
use Rattle.segment.specs.declared.cache_info.CacheInfo.{CacheInfo}
use Rattle.segment.specs.declared.rows.BlobRow.{BlobRow}
use Rattle.rules.specs.Books.{Books, with_blobs}
use Rattle.rules.specs.Links.{info_segment, link_of}
use Rattle.rules.specs.Replacing.{same_blob, blob_row, with_blob, given_up, blobs_given_up}
use Rattle.entries.proofs.Lengths.{length_insert}

length_with : (n : ℕ) (keep blob : Option ℤ) (rows : List BlobRow) → length (with_blob n keep blob rows) ≤ length rows + 1
length_with n keep None rows = omega arith
length_with n keep (Some blob) rows = on (same_blob keep blob)
  where
    on : (t : Bool) → length (cond t rows (insert_row blob_key by_signed rows (blob_row n blob))) ≤ length rows + 1
    on true = omega arith
    on false = length_insert blob_key by_signed rows (blob_row n blob)

-- after i of the old entries: what is left gives the rows up, and there is room
abbrev pub Given : ℕ → Option ℤ → List CacheInfo → List BlobRow → ℕ → List BlobRow → Type 0
Given n keep olds start i rows = (given_up n keep (drop i olds) rows ≡ given_up n keep olds start) × (length rows ≤ length start + i)

module _ (n : ℕ) (keep : Option ℤ) (olds : List CacheInfo) (start : List BlobRow) where
  pub given_none : Given n keep olds start 0 start
  given_none = (refl, omega arith)

  pub given_more : (i : ℕ) (d : CacheInfo) (rows after : List BlobRow) → i < length olds → Given n keep olds start i rows → after ≡ with_blob n keep (blob_of (get_or olds i d).pointer) rows → Given n keep olds start (i + 1) after
  given_more i d rows after l g e =
      let m = length_with n keep (blob_of (get_or olds i d).pointer) rows in
      let k = g.1 in
      subst (Given n keep olds start (i + 1)) (sym e) (sym (ap (λ os. given_up n keep os rows) (drop_more olds i d l)) ∙ g.0, omega arith)

  pub given_end : (i : ℕ) (rows : List BlobRow) → length olds ≤ i → Given n keep olds start i rows → rows ≡ given_up n keep olds start
  given_end i rows l g = sym (ap (λ os. given_up n keep os rows) (drop_all i olds l)) ∙ g.0

-- what a replacement records before its visits
pub recorded : (b : Books) (p : ℕ) (olds : List CacheInfo) (new : CacheInfo) (rows : List BlobRow) → rows ≡ given_up (info_segment b new) (blob_of new.pointer) olds b.blobs → with_blobs rows (link_of p new b) ≡ blobs_given_up olds new (link_of p new b)
recorded b p olds new rows e = ap (λ r. with_blobs r (link_of p new b)) e
