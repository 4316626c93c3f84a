-- What a link is not refused for, a ledger can take: its segment is reached, and bytes and page rows have room.
use Rattle.std.proofs.Common.{◌≡◌, ℕ, zero, suc, ◌+◌, ◌^◌, ◌≤◌, true, false, not, ◌&&◌, leb, List, [], ◌∷◌, length, get_or, is_some, Some, None, Option, sym, refl, subst, arith}
use Rattle.std.proofs.lemmas.Bool.{and_parts, and_from, le-leb, leb-true, leb-false, ltb-false}
use Rattle.segment.specs.Bounds.{bounded}
use Rattle.segment.specs.Rows.{page_key, by_page}
use Rattle.segment.specs.declared.cache_info.CacheInfo.{CacheInfo}
use Rattle.segment.specs.declared.rows.PageRow.{PageRow}
use Rattle.segment.specs.declared.segment.Segment.{Segment}
use Rattle.segment.specs.declared.state.Active.{Active}
use Rattle.rules.specs.Books.{Books, state_of, unused}
use Rattle.rules.specs.Links.{info_segment, link_refusal, linked_state}
use Rattle.rules.specs.Pages.{page_row, new_row, written}
use Rattle.ledger.specs.States.{states}
use Rattle.entries.proofs.Accepted.{active, passes}
use Rattle.entries.proofs.Lengths.{length_insert}

-- every segment keeps its bounds
pub kept_state : (segments : List Segment) (n : ℕ) → bounded (get_or (states segments) n unused) ≡ true
kept_state [] n = refl
kept_state (s ∷ segments) zero = s.kept
kept_state (s ∷ segments) (suc n) = kept_state segments n

written_most : (n p : ℕ) (pages : List PageRow) (o : Option PageRow) → (not (is_some o) && leb 2048 (length pages)) ≡ false → length pages ≤ 2048 → length (written n p pages o) ≤ 2048
written_most n p pages None h l =
    let m = length_insert page_key by_page pages (new_row n p) in
    let k = leb-false 2048 (length pages) h in
    omega arith
written_most n p pages (Some row) h l = l

module _ (b : Books) (p : ℕ) (info : CacheInfo) (accepted : link_refusal b p info ≡ None) where
  pub rows_have_room : length b.pages ≤ 2048 → length (written (info_segment b info) p b.pages (page_row b.pages (info_segment b info) p)) ≤ 2048
  rows_have_room = written_most (info_segment b info) p b.pages (page_row b.pages (info_segment b info) p) (passes b p info accepted).2

  pub bytes_have_room : bounded (state_of b (info_segment b info)) ≡ true → bounded (linked_state info.log_size (state_of b (info_segment b info))) ≡ true
  bytes_have_room k =
      let a : Active = (active b p info accepted).0 in
      let kept = subst (λ s. bounded s ≡ true) (active b p info accepted).1 k in
      let less = leb-true _ _ (and_parts (leb a.deferred_replaced_rss a.rss) (leb a.rss (2 ^ 40)) kept).0 in
      let most = ltb-false (2 ^ 40) (a.rss + info.log_size) (passes b p info accepted).1 in
      subst (λ s. bounded (linked_state info.log_size s) ≡ true) (sym (active b p info accepted).1) (and_from _ _ (le-leb a.deferred_replaced_rss (a.rss + info.log_size) (omega arith)) (le-leb (a.rss + info.log_size) (2 ^ 40) most))
