-- What is promised of every run (docs/RULES.md, section 13), in five parts.
use Rattle.std.specs.Prelude.{◌≡◌, ℕ, ◌-◌, ◌*◌, ◌/◌, ◌<◌, ◌≤◌, Bool, true, false, cond, ◌&&◌, ◌⊎◌, List, [], ◌∷◌, ℤ, pos, ◌≤ℤ◌, Some, None, Ok, Option}
use Rattle.std.specs.List.{ContainsAt as Has}
use Rattle.table.specs.Rows.{ascending, own_key}
use Rattle.host.specs.Meaning.{Answer, asked_cut, asked_remove}
use Rattle.host.specs.declared.request.Request.{Request}
use Rattle.segment.specs.Signs.{same_z}
use Rattle.segment.specs.declared.state.State.{State}
use Rattle.segment.specs.declared.state.State.TheVariants as is
use Rattle.rules.specs.Books.{Books, state_of, unused}
use Rattle.rules.specs.Recount.{Recount, nothing_told, told, largest}
use Rattle.rules.specs.Runs.{Call, Next, Reply, Gave, step, Log, recorded}
use Rattle.rules.specs.Stabilizing.{is_free}
use Rattle.std.specs.Ordering.{nat_cmp}

-- ---- who holds whom back
abbrev pub state_in : Option Books → ℕ → State
state_in None n = unused
state_in (Some b) n = state_of b n

-- whether a state is Active with this LSN
abbrev pub is_active_at : ℤ → State → Bool
is_active_at lsn (is.Free f) = false
is_active_at lsn (is.Active a) = same_z a.lsn lsn
is_active_at lsn (is.Inactive i) = false
is_active_at lsn (is.Draining d) = false

abbrev pub is_any_active : State → Bool
is_any_active (is.Free f) = false
is_any_active (is.Active a) = true
is_any_active (is.Inactive i) = false
is_any_active (is.Draining d) = false

-- Segment t holds n back after a call: n is Free and t Active then; and either n was Free before and t held it back already, or n became Free
-- in this call and t has the largest base noted for n as its LSN.
abbrev pub holds_after : Option Books → Option Books → (ℕ → List ℤ) → (ℕ → ℕ → Bool) → ℕ → ℕ → Bool
holds_after before after noted holds n t =
    is_free (state_in after n) && cond (is_free (state_in before n)) (holds n t && is_any_active (state_in after t)) (is_active_at (largest (noted n)) (state_in after t))

-- ---- the state of a run: the books, the host, the recount, and who holds whom back
pub record Moment (M : Type 0) : Type 0 where
  pub books : Option Books
  pub host : M
  pub count : Recount
  pub holds : ℕ → ℕ → Bool

module _ {M : Type 0} (respond : M → Request → Answer × M) (slot extent : M → ℕ) where
  -- a new accountant
  abbrev pub new : M → Moment M
  new m = record { books = None; host = m; count = nothing_told; holds = λ n t. false }

  -- what a call gives, with what it asks of the host
  abbrev pub outcome : Moment M → Call → Reply × Option Books × (M × Log)
  outcome s c = step (recorded respond) (λ m. slot m.0) (λ m. extent m.0) c s.books (s.host, [])

  abbrev pub moment_by : Moment M → Call → Reply × Option Books × (M × Log) → Moment M
  moment_by s c o = record {
    books = o.1;
    host = o.2.0;
    count = told c o.0 s.count;
    holds = holds_after s.books o.1 (told c o.0 s.count).noted s.holds;
  }

  abbrev pub after_call : Moment M → Call → Moment M
  after_call s c = moment_by s c (outcome s c)

  unfoldable pub after_calls : Moment M → List Call → Moment M
  after_calls s [] = s
  after_calls s (c ∷ cs) = after_calls (after_call s c) cs

-- ---- the five parts
-- the live bytes of a state are those of the recount
abbrev pub BytesTrue : ℤ → State → Type 0
BytesTrue live (is.Free f) = Unit {0}
BytesTrue live (is.Active a) = pos (a.rss - a.deferred_replaced_rss) ≡ live
BytesTrue live (is.Inactive i) = pos i.rss ≡ live
BytesTrue live (is.Draining d) = Unit {0}

abbrev pub LiveBytesAreTrue : Books → Recount → Type 0
LiveBytesAreTrue b r = (n : ℕ) → BytesTrue (r.live n) (state_of b n)

-- the free list ascends, and has exactly the offsets of Free segments below the tip that nothing holds back
pub record FreeListIsExact (b : Books) (holds : ℕ → ℕ → Bool) : Type 0 where
  pub ascends : ascending own_key nat_cmp b.free ≡ true
  pub whole : (offset : ℕ) → Has b.free offset → offset ≡ offset / b.size * b.size
  pub below : (offset : ℕ) → Has b.free offset → offset < b.tip
  pub unused : (offset : ℕ) → Has b.free offset → is_free (state_of b (offset / b.size)) ≡ true
  pub unheld : (offset t : ℕ) → Has b.free offset → holds (offset / b.size) t ≡ false
  pub all : (n : ℕ) → n * b.size < b.tip → is_free (state_of b n) ≡ true → ((t : ℕ) → holds n t ≡ false) → Has b.free (n * b.size)

-- the offset handed out is on the list before and the least of it, or the list is empty and it is the tip
pub record LeastIsAnswered (b : Books) (offset : ℕ) : Type 0 where
  pub least : (other : ℕ) → Has b.free other → offset ≤ other
  pub listed : Has b.free offset ⊎ ((b.free ≡ []) × (offset ≡ b.tip))

-- no page lies in segment n, and the replacements noted for it are stable
pub record Emptied (r : Recount) (n : ℕ) : Type 0 where
  pub left : (p : ℕ) → r.lies n p ≡ false
  pub stable : (base : ℤ) → Has (r.noted n) base → base ≤ℤ r.stored

-- a blob was given up by a replacement that is stable
abbrev pub GivenUp : Recount → ℤ → Type 0
GivenUp r blob = (base : ℤ) × Has r.given (blob, base) × (base ≤ℤ r.stored)

abbrev pub WithBooks : Option Books → (Books → Type 0) → Type 0
WithBooks None P = Unit {0}
WithBooks (Some b) P = P b

module _ {M : Type 0} (respond : M → Request → Answer × M) (slot extent : M → ℕ) (held : M → ℤ → Bool) where
  pub record Safe (s : Moment M) (c : Call) : Type 0 where
    pub live_bytes_are_true : WithBooks (after_call respond slot extent s c).books (λ b. LiveBytesAreTrue b (after_call respond slot extent s c).count)
    pub free_list_is_exact : WithBooks (after_call respond slot extent s c).books (λ b. FreeListIsExact b (after_call respond slot extent s c).holds)
    pub next_answers_the_least : (lsn : ℤ) (offset : ℕ) → c ≡ Next lsn → (outcome respond slot extent s c).0 ≡ Gave offset → WithBooks s.books (λ b. LeastIsAnswered b offset)
    -- judged by the recount before the call
    pub nothing_is_handed_out_early : (lsn : ℤ) (offset : ℕ) → c ≡ Next lsn → (outcome respond slot extent s c).0 ≡ Gave offset → Emptied s.count (offset / s.count.size)
    -- judged by the recount after the call
    pub nothing_is_cut_off_early : (offset n : ℕ) → Has (outcome respond slot extent s c).2.1 (asked_cut offset, Ok tt) → offset ≤ n * (after_call respond slot extent s c).count.size → Emptied (after_call respond slot extent s c).count n
    -- a blob whose removal was granted, and so any blob that the host holds no longer
    pub no_blob_is_removed_early : (blob : ℤ) → Has (outcome respond slot extent s c).2.1 (asked_remove blob, Ok tt) → GivenUp (after_call respond slot extent s c).count blob
    pub no_blob_leaves_early : (blob : ℤ) → held s.host blob ≡ true → held (after_call respond slot extent s c).host blob ≡ false → GivenUp (after_call respond slot extent s c).count blob

  -- after any calls to a new accountant over this host, in any state, the next call is safe
  abbrev pub AlwaysSafe : Type 0
  AlwaysSafe = (m : M) (cs : List Call) (c : Call) → Safe (after_calls respond slot extent (new respond slot extent m) cs) c
