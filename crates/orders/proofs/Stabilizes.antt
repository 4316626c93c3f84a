-- Stabilizing is made of steps: each released segment's row is still there, and nothing but a close changes a state on the way.
use Rattle.std.proofs.Common.{◌≡◌, ℕ, suc, ◌-◌, ◌≤◌, Bool, true, false, cond, not, ◌&&◌, List, [], ◌∷◌, get_or, ℤ, pos, Some, None, Ok, Err, Option, Ordering, Equal, sym, refl, ap, ◌∙◌, subst, true≢false, arith}
use lib.Signed.{lt_z}
use Rattle.std.specs.Ordering.{is_lt}
use Rattle.std.specs.List.{ContainsAt as Has}
use Rattle.std.proofs.lemmas.Bool.{and_parts}
use Rattle.table.specs.Order.{Lawful, unsigned_lawful, signed_lawful, lexical_lawful}
use Rattle.table.specs.Rows.{every, ascending, remove_row}
use Rattle.table.proofs.Orders.{every_has, rank_same}
use Rattle.table.proofs.Filters.{ascending_kept, has_from_kept}
use Rattle.table.proofs.Laws.{has_remove_other}
use Rattle.host.specs.Meaning.{Answer}
use Rattle.host.specs.declared.request.Request.{Request}
use Rattle.segment.specs.Rows.{freeable_key, by_signed}
use Rattle.segment.specs.declared.rows.FreeableRow.{FreeableRow}
use Rattle.segment.specs.declared.rows.OrderingRow.{OrderingRow}
use Rattle.segment.specs.declared.state.Active.{Active}
use Rattle.segment.specs.declared.state.Inactive.{Inactive}
use Rattle.segment.specs.declared.state.State.{State}
use Rattle.segment.specs.declared.state.State.TheVariants as is
use Rattle.rules.specs.Books.{Books, World, world, with_freeable, with_blobs, unused, state_of}
use Rattle.rules.specs.Links.{out_of_range}
use Rattle.rules.specs.Stabilizing.{much_is_free, free_below_tip, inactive_count, inactive_at, first_some, last_inactive, drain_found, drained_by_share, blobs_of, blobs_off, held_back_by, number_of_lsn, level, is_settled, remove_blobs, release, release_all, opened_up, shut, shared, deactivated_by, deactivate_state, deactivated, then_deactivated, deactivate_all, stabilized_to, stabilized_at}
use Rattle.orders.proofs.Steps.{Steps}
use Rattle.orders.proofs.Cleans.{freed_segments, freed_freeable, freed_keeps, cleaned_keeps}

pub signed_laws : Lawful by_signed
signed_laws = lexical_lawful unsigned_lawful signed_lawful

-- ---- the Inactive segment that is found is one
abbrev Found : ℕ → List State → Option (ℕ × Inactive) → Type 0
Found k l None = Unit {0}
Found k l (Some x) = (k ≤ x.0) × (get_or l (x.0 - k) unused ≡ is.Inactive x.1)

at_head : (k : ℕ) (s : State) (l : List State) → Found k (s ∷ l) (inactive_at k s)
at_head k (is.Free f) l = tt
at_head k (is.Active a) l = tt
at_head k (is.Inactive i) l = (omega arith, ap (λ j. get_or (is.Inactive i ∷ l) j unused) z)
  where
    z : k - k ≡ 0
    z = omega arith
at_head k (is.Draining d) l = tt

pub last_found : (k : ℕ) (l : List State) → Found k l (last_inactive k l)
last_found k [] = tt
last_found k (s ∷ l) = on (last_inactive (suc k) l) (last_found (suc k) l)
  where
    on : (o : Option (ℕ × Inactive)) → Found (suc k) l o → Found k (s ∷ l) (first_some o (inactive_at k s))
    on None h = at_head k s l
    on (Some x) h =
        let e : x.0 - k ≡ suc (x.0 - suc k) = omega (arith, h.0) in
        (omega (arith, h.0), ap (λ j. get_or (s ∷ l) j unused) e ∙ h.1)

module _ {M : Type 0} (respond : M → Request → Answer × M) where
  -- releasing changes no state
  pub released_segments : (rows : List FreeableRow) (w : World M) → (release_all respond rows w).books.segments ≡ w.books.segments
  unfolding release_all
  released_segments [] w = refl
  released_segments (row ∷ rows) w = released_segments rows (release respond row w) ∙ freed_segments respond (number_of_lsn w.books row.lsn) _

  module _ {P : Books → Type 0} (k : Steps P) where
    pub release_all_keeps : (rows : List FreeableRow) (w : World M) → ascending freeable_key by_signed rows ≡ true → ((row : FreeableRow) → Has rows row → Has w.books.freeable row) → P w.books → P (release_all respond rows w).books
    unfolding release_all
    release_all_keeps [] w up at h = h
    release_all_keeps (row ∷ rows) w up at h =
        let n : ℕ = number_of_lsn w.books row.lsn in
        let left : List FreeableRow = remove_row freeable_key by_signed w.books.freeable (row.segment, row.lsn) in
        let v : World M = world (with_freeable left w.books) w.host in
        let parts = and_parts (every (λ y. is_lt (by_signed (freeable_key row) (freeable_key y))) rows) (ascending freeable_key by_signed rows) up in
        let apart : (y : FreeableRow) → Has rows y → freeable_key row ≡ freeable_key y → ⊥ =
        λ y m e. less_is_not (every_has (λ y. is_lt (by_signed (freeable_key row) (freeable_key y))) rows y parts.0 m) (rank_same signed_laws _ _ e) in
        release_all_keeps rows (release respond row w) parts.1
        (λ y m. subst (λ l. Has l y) (sym (freed_freeable respond n v)) (has_remove_other freeable_key signed_laws w.books.freeable _ y (k.ordered _ h).freeable (apart y m) (at y (suc m.0, omega (arith, m.1), m.2))))
        (freed_keeps respond k n v (k.releases row w.books (at row (0, omega arith, λ d. refl)) h))
      where
        less_is_not : {o : Ordering} → is_lt o ≡ true → o ≡ Equal → ⊥
        less_is_not a e = true≢false (sym a ∙ ap is_lt e)

    pub share_keeps : (b : Books) → P b → P (drained_by_share b)
    share_keeps b h = on (much_is_free (free_below_tip b) (inactive_count b)) (last_inactive 0 b.segments) (last_found 0 b.segments)
      where
        on : (t : Bool) (o : Option (ℕ × Inactive)) → Found 0 b.segments o → P (cond t (drain_found o b) b)
        on true None f = h
        on true (Some x) f =
            let z : x.0 - 0 ≡ x.0 = omega arith in
            k.drains x.0 x.1 b (ap (λ j. get_or b.segments j unused) (sym z) ∙ f.1) h
        on false o f = h

    pub deactivated_keeps : (lsn : ℤ) (w : World M) → P w.books → P (deactivated respond lsn w).1.books
    unfolding deactivated
    deactivated_keeps lsn w h = on (state_of b n) refl
      where
        b : Books
        b = w.books

        n : ℕ
        n = number_of_lsn w.books lsn

        closed_keeps : (a : Active) (m : M) → state_of w.books (number_of_lsn w.books lsn) ≡ is.Active a → P (shared respond (shut respond (number_of_lsn w.books lsn) a (opened_up respond (number_of_lsn w.books lsn) w.books m))).books
        closed_keeps a m e =
            let v : World M = world (with_blobs (blobs_off n b.blobs) b) m in
            let rows : List FreeableRow = held_back_by n b.freeable in
            let g : P (release_all respond rows v).books =
            release_all_keeps rows v (ascending_kept freeable_key signed_laws _ b.freeable (k.ordered b h).freeable) (λ row m. (has_from_kept _ b.freeable row m).0) (k.removes n b h) in
            let s : state_of (release_all respond rows v).books n ≡ is.Active a = ap (λ l. get_or l n unused) (released_segments rows v) ∙ e in
            share_keeps _ (cleaned_keeps respond k n _ (k.closes n a (release_all respond rows v).books s g))

        answered : (a : Active) → state_of w.books (number_of_lsn w.books lsn) ≡ is.Active a → (o : Answer × M) → P (deactivated_by respond (number_of_lsn w.books lsn) a w.books o).1.books
        answered a e (Ok u, m) = closed_keeps a m e
        answered a e (Err f, m) = h

        on : (s : State) → state_of w.books (number_of_lsn w.books lsn) ≡ s → P (deactivate_state respond (number_of_lsn w.books lsn) s w).1.books
        on (is.Free f) e = h
        on (is.Active a) e = answered a e (remove_blobs respond (blobs_of n b.blobs) w.host)
        on (is.Inactive i) e = h
        on (is.Draining d) e = h

    pub deactivate_all_keeps : (rows : List OrderingRow) (w : World M) → P w.books → P (deactivate_all respond rows w).1.books
    unfolding deactivate_all
    deactivate_all_keeps [] w h = h
    deactivate_all_keeps (row ∷ rows) w h = on (deactivated respond row.lsn w) (deactivated_keeps row.lsn w h) (deactivate_all_keeps rows)
      where
        on : (o : Answer × World M) → P o.1.books → ((v : World M) → P v.books → P (deactivate_all respond rows v).1.books) → P (then_deactivated respond (deactivate_all respond rows) o).1.books
        on (Ok u, v) g ih = ih v g
        on (Err e, v) g ih = g

    pub stabilized_keeps : (lsn : ℤ) (w : World M) → (not (lt_z lsn (pos 0)) && out_of_range lsn) ≡ false → P w.books → P (stabilized_at respond lsn w).1.books
    stabilized_keeps lsn w r h = on (is_settled w.books lsn) refl
      where
        on : (t : Bool) → is_settled w.books lsn ≡ t → P (cond t (Ok tt, w) (stabilized_to respond (level w.books.size lsn) w)).1.books
        on true e = h
        on false e = deactivate_all_keeps _ _ (k.stores lsn w.books r e h)
