-- What cleaning segment n leaves as it is: other segments, every Active state, the blob rows, and the live bytes of what has any.
use Rattle.std.proofs.Common.{◌≡◌, ℕ, ◌-◌, ◌<◌, ◌≤◌, Bool, true, false, cond, eqb, List, length, get_or, ℤ, pos, Some, None, Option, sym, refl, ap, ◌∙◌, subst}
use Rattle.std.proofs.lemmas.Bool.{true≢false, ne_eqb}
use Rattle.std.proofs.lemmas.List.{get_or-set_same, get_or-set_other}
use Rattle.table.specs.Rows.{ascending}
use Rattle.host.specs.Meaning.{Answer}
use Rattle.host.specs.declared.request.Request.{Request}
use Rattle.segment.specs.Changes.{drained, emptied}
use Rattle.segment.specs.Rows.{page_key, by_page}
use Rattle.segment.specs.declared.state.State.{State}
use Rattle.segment.specs.declared.state.State.TheVariants as is
use Rattle.segment.specs.declared.state.Active as active-state
use Rattle.segment.specs.declared.state.Inactive.{Inactive}
use Rattle.segment.specs.declared.state.Draining.{Draining}
use Rattle.segment.specs.declared.rows.PageRow.{PageRow}
use Rattle.rules.specs.Books.{Books, World, world, unused, state_of}
use Rattle.rules.specs.Freeing.{put_free, freed}
use Rattle.rules.specs.Cleaning.{half_empty, start_draining, drain_by, drain_if_empty, holder, emptied_at, settle, free_by, cleaned}
use Rattle.rules.specs.Recount.{upd}
use Rattle.safety.proofs.Plain.{seg_is_free, is_none, active, seen}
use Rattle.safety.proofs.Looks.{row_of, row_drop, row_queue}
use Rattle.safety.proofs.Steps.{reach}
use Rattle.safety.proofs.Cleans.{Trimmed, cut_trims, queue_up}

-- so many bytes are live in a state
abbrev pub Weighs : ℤ → State → Type 0
Weighs live (is.Free f) = Unit {0}
Weighs live (is.Active a) = (a.deferred_replaced_rss ≤ a.rss) × (pos (a.rss - a.deferred_replaced_rss) ≡ live)
Weighs live (is.Inactive i) = pos i.rss ≡ live
Weighs live (is.Draining d) = Unit {0}

abbrev pub Lighter : State → State → Type 0
Lighter s z = (live : ℤ) → Weighs live s → Weighs live z

pub record Alone (n : ℕ) (b c : Books) : Type 0 where
  pub states : (m : ℕ) → (m ≡ n → ⊥) → state_of c m ≡ state_of b m
  pub rows : (m q : ℕ) → (m ≡ n → ⊥) → row_of c.pages m q ≡ row_of b.pages m q
  pub opens : (a : active-state.Active) → state_of b n ≡ is.Active a → state_of c n ≡ is.Active a
  pub light : Lighter (state_of b n) (state_of c n)
  pub blobs : c.blobs ≡ b.blobs

pub alone_same : (n : ℕ) (b : Books) → Alone n b b
alone_same n b = record { states = λ m e. refl; rows = λ m q e. refl; opens = λ a e. e; light = λ l x. x; blobs = refl }

pub alone_then : (n : ℕ) (b c d : Books) → Alone n b c → Alone n c d → Alone n b d
alone_then n b c d x y = record {
  states = λ m e. y.states m e ∙ x.states m e;
  rows = λ m q e. y.rows m q e ∙ x.rows m q e;
  opens = λ a e. y.opens a (x.opens a e);
  light = λ l z. y.light l (x.light l z);
  blobs = y.blobs ∙ x.blobs;
}

pub draining_open : (s : State) (d : Draining) (a : active-state.Active) → s ≡ is.Draining d → s ≡ is.Active a → ⊥
draining_open s d a e f = true≢false (ap (λ z. is_none (active (seen z))) (sym e ∙ f))

pub inactive_open : (s : State) (i : Inactive) (a : active-state.Active) → s ≡ is.Inactive i → s ≡ is.Active a → ⊥
inactive_open s i a e f = true≢false (ap (λ z. is_none (active (seen z))) (sym e ∙ f))

upd_other : {A : Type 0} (f : ℕ → A) (n m : ℕ) (v : A) → (m ≡ n → ⊥) → upd f n v m ≡ f m
upd_other f n m v e = rw (ne_eqb m n e)

module _ {M : Type 0} (respond : M → Request → Answer × M) where
  settle_alone : (w : World M) (n : ℕ) (d : Draining) → ascending page_key by_page w.books.pages ≡ true → state_of w.books n ≡ is.Draining d → (o : Option ℕ) → Alone n w.books (settle respond n d w o).books
  settle_alone w n d up e None =
      let b : Books = w.books in
      let low : n < length b.segments = reach b.segments n (ap (λ s. seg_is_free (seen s)) e) in
      let c : Books = emptied_at n d b in
      let t : Trimmed (put_free n c) (freed respond n (world c w.host)).books = cut_trims respond (length (put_free n c).free) (world (put_free n c) w.host) in
      let at : get_or (freed respond n (world c w.host)).books.segments n unused ≡ is.Free (emptied d) = ap (λ (s : List State). get_or s n unused) t.segments ∙ get_or-set_same b.segments n (is.Free (emptied d)) unused low in
      record {
        states = λ m ne. ap (λ (s : List State). get_or s m unused) t.segments ∙ get_or-set_other b.segments n m (is.Free (emptied d)) unused ne;
        rows = λ m q ne. ap (λ (p : List PageRow). row_of p m q) t.pages ∙ ap (λ (f : ℕ → ℕ → Option Bool). f m q) (row_drop b.pages n up) ∙ ap (λ (f : ℕ → Option Bool). f q) (upd_other (row_of b.pages) n m (λ q. None) ne);
        opens = λ a f. absurd (draining_open (state_of b n) d a e f);
        light = λ l x. subst (Weighs l) (sym at) tt;
        blobs = t.blobs;
      }
  settle_alone w n d up e (Some t) =
      let b : Books = w.books in
      let low : n < length b.segments = reach b.segments n (ap (λ s. seg_is_free (seen s)) e) in
      record {
        states = λ m ne. get_or-set_other b.segments n m (is.Free (emptied d)) unused ne;
        rows = λ m q ne. refl;
        opens = λ a f. absurd (draining_open (state_of b n) d a e f);
        light = λ l x. subst (Weighs l) (sym (get_or-set_same b.segments n (is.Free (emptied d)) unused low)) tt;
        blobs = refl;
      }

  free_alone : (w : World M) (n : ℕ) (s : State) → ascending page_key by_page w.books.pages ≡ true → state_of w.books n ≡ s → Alone n w.books (free_by respond n s w).books
  free_alone w n (is.Free f) up e = alone_same n w.books
  free_alone w n (is.Active a) up e = alone_same n w.books
  free_alone w n (is.Inactive i) up e = alone_same n w.books
  free_alone w n (is.Draining d) up e = on (eqb d.replaced_pids d.max_pids)
    where
      on : (t : Bool) → Alone n w.books (cond t (settle respond n d w (holder w.books d.latest_replacement_lsn)) w).books
      on true = settle_alone w n d up e (holder w.books d.latest_replacement_lsn)
      on false = alone_same n w.books

pub start_draining_alone : (b : Books) (n : ℕ) (i : Inactive) → state_of b n ≡ is.Inactive i → Alone n b (start_draining n i b)
start_draining_alone b n i e =
    let low : n < length b.segments = reach b.segments n (ap (λ s. seg_is_free (seen s)) e) in
    record {
      states = λ m ne. get_or-set_other b.segments n m (is.Draining (drained i)) unused ne;
      rows = λ m q ne. ap (λ (f : ℕ → ℕ → Option Bool). f m q) (row_queue b.pages n);
      opens = λ a f. absurd (inactive_open (state_of b n) i a e f);
      light = λ l x. subst (Weighs l) (sym (get_or-set_same b.segments n (is.Draining (drained i)) unused low)) tt;
      blobs = refl;
    }

drain_alone : (b : Books) (n : ℕ) (s : State) → state_of b n ≡ s → Alone n b (drain_by n s b)
drain_alone b n (is.Free f) e = alone_same n b
drain_alone b n (is.Active a) e = alone_same n b
drain_alone b n (is.Inactive i) e = on (half_empty b.size i)
  where
    on : (t : Bool) → Alone n b (cond t (start_draining n i b) b)
    on true = start_draining_alone b n i e
    on false = alone_same n b
drain_alone b n (is.Draining d) e = alone_same n b

drain_up : (b : Books) (n : ℕ) (s : State) → ascending page_key by_page b.pages ≡ true → ascending page_key by_page (drain_by n s b).pages ≡ true
drain_up b n (is.Free f) up = up
drain_up b n (is.Active a) up = up
drain_up b n (is.Inactive i) up = on (half_empty b.size i)
  where
    on : (t : Bool) → ascending page_key by_page (cond t (start_draining n i b) b).pages ≡ true
    on true = queue_up n b.pages up
    on false = up
drain_up b n (is.Draining d) up = up

module _ {M : Type 0} (respond : M → Request → Answer × M) where
  pub cleaned_alone : (w : World M) (n : ℕ) → ascending page_key by_page w.books.pages ≡ true → Alone n w.books (cleaned respond n w).books
  unfolding cleaned
  cleaned_alone w n up = alone_then n w.books (drain_if_empty n w.books) _ (drain_alone w.books n (state_of w.books n) refl) (free_alone respond (world (drain_if_empty n w.books) w.host) n _ (drain_up w.books n (state_of w.books n) up) refl)
