-- An accepted link: every check that it passed, as a fact.
use Rattle.std.proofs.Common.{◌≡◌, ℕ, ◌+◌, ◌^◌, ◌<◌, ◌≤◌, false, not, ltb, length, None, subst}
use Rattle.std.proofs.lemmas.Bool.{ltb-false}
use Rattle.segment.specs.Bases.{base_of}
use Rattle.segment.specs.Signs.{same_z}
use Rattle.segment.specs.declared.cache_info.CacheInfo.{CacheInfo}
use Rattle.segment.specs.declared.state.Active.{Active}
use Rattle.segment.specs.declared.state.State.TheVariants as is
use Rattle.rules.specs.Books.{Books, state_of}
use Rattle.rules.specs.Links.{info_segment, into_state, page_rows_full, too_large, link_refusal}
use Rattle.rules.specs.Pages.{page_row, is_left}
use Rattle.orders.proofs.Replaces.{or_else_none, passed, accepted_active, active_reached}

module _ (b : Books) (p : ℕ) (info : CacheInfo) (accepted : link_refusal b p info ≡ None) where
  pub info_small : info.log_size ≤ 4294967295
  info_small = ltb-false _ _ (passed (too_large info.log_size) _ _ (or_else_none _ _ accepted).0).0

  pub active : (a : Active) × (state_of b (info_segment b info) ≡ is.Active a)
  active = accepted_active b (info_segment b info) p info.log_size (base_of b.size info.lsn) (state_of b (info_segment b info)) (or_else_none _ _ accepted).1

  pub info_reached : info_segment b info < length b.segments
  info_reached = active_reached b _ active.0 active.1

  -- the page has not left, and bytes and page rows have room
  pub passes : (is_left (page_row b.pages (info_segment b info) p) ≡ false) × (ltb (2 ^ 40) (active.0.rss + info.log_size) ≡ false) × (page_rows_full b (info_segment b info) p ≡ false)
  passes =
      let n : ℕ = info_segment b info in
      let a : Active = active.0 in
      let e = subst (λ s. into_state b n p info.log_size (base_of b.size info.lsn) s ≡ None) active.1 (or_else_none _ _ accepted).1 in
      let c1 = passed (not (same_z a.lsn (base_of b.size info.lsn))) _ _ e in
      let c2 = passed (is_left (page_row b.pages n p)) _ _ c1.1 in
      let c3 = passed (ltb (2 ^ 40) (a.rss + info.log_size)) _ _ c2.1 in
      (c2.0, c3.0, (passed (page_rows_full b n p) _ _ c3.1).0)
