-- What a host means, in full. For every state and request a host has one answer and one state after; this file says what an answer does
-- to what those above see of the host: the length of its file, the blobs that it holds and the segment size that it was made for.
use Rattle.std.specs.Prelude.{◌≡◌, ℕ, ◌+◌, ◌-◌, ◌^◌, ◌≤◌, min, max, Bool, false, ℤ, Ok, Err, Option, Result, ◌≢◌}
use Rattle.host.specs.declared.request.Request.{Request}
use Rattle.host.specs.declared.request.Request.TheVariants as asked
use Rattle.host.specs.declared.request.HostFault.{HostFault}
use Rattle.host.specs.declared.request.HostFault.TheVariants as fault

-- granted, or a fault
abbrev pub Answer : Type 0
Answer = Result (Unit {0}) HostFault

abbrev pub asked_cut : ℕ → Request
asked_cut o = asked.Cut o

abbrev pub asked_fill : ℕ → Request
asked_fill o = asked.Fill o

abbrev pub asked_remove : ℤ → Request
asked_remove b = asked.Remove b

-- the parts of a fault: what was asked with its place, the code, the number of layers above the one that refused
abbrev pub request_of : HostFault → Request
request_of (fault.Cut o c l) = asked.Cut o
request_of (fault.Fill o c l) = asked.Fill o
request_of (fault.Remove b c l) = asked.Remove b

abbrev pub code_of : HostFault → ℕ
code_of (fault.Cut o c l) = c
code_of (fault.Fill o c l) = c
code_of (fault.Remove b c l) = c

abbrev pub layer_of : HostFault → ℕ
layer_of (fault.Cut o c l) = l
layer_of (fault.Fill o c l) = l
layer_of (fault.Remove b c l) = l

-- the fault that names the request q
abbrev pub refusal : Request → ℕ → ℕ → HostFault
refusal (asked.Cut o) c l = fault.Cut o c l
refusal (asked.Fill o) c l = fault.Fill o c l
refusal (asked.Remove b) c l = fault.Remove b c l

-- what those above see of a state
pub record Sight : Type 0 where
  pub extent : ℕ
  pub holds : ℤ → Bool
  pub slot : ℕ

abbrev pub sight : {M : Type 0} → (M → ℕ) → (M → ℤ → Bool) → (M → ℕ) → M → Sight
sight extent holds slot m = record { extent = extent m; holds = holds m; slot = slot m }

-- nothing that is seen changes
pub record Unchanged (before after : Sight) : Type 0 where
  pub extent_stays : after.extent ≡ before.extent
  pub blobs_stay : (b : ℤ) → after.holds b ≡ before.holds b
  pub slot_stays : after.slot ≡ before.slot

-- the length after a granted request: a cut lowers it to the offset, a fill raises it to the end of the segment there
abbrev pub extent_after : Sight → Request → ℕ
extent_after s (asked.Cut o) = min s.extent o
extent_after s (asked.Fill o) = max s.extent (min (o + s.slot) (2 ^ 64 - 1))
extent_after s (asked.Remove b) = s.extent

-- the blobs after a granted request: a remove takes its own out, and all others stay
abbrev pub BlobsAfter : (ℤ → Bool) → Request → (ℤ → Bool) → Type 0
BlobsAfter before (asked.Cut o) after = (b : ℤ) → after b ≡ before b
BlobsAfter before (asked.Fill o) after = (b : ℤ) → after b ≡ before b
BlobsAfter before (asked.Remove b) after = (after b ≡ false) × ((d : ℤ) → (d ≢ b) → after d ≡ before d)

pub record Granted (before : Sight) (q : Request) (after : Sight) : Type 0 where
  pub extent_is : after.extent ≡ extent_after before q
  pub blobs_are : BlobsAfter before.holds q after.holds
  pub slot_stays : after.slot ≡ before.slot

-- a refusal changes nothing, and its fault names the request
pub record Refused (before : Sight) (q : Request) (e : HostFault) (after : Sight) : Type 0 where
  pub unchanged : Unchanged before after
  pub request_is : request_of e ≡ q
  pub code_least : 1 ≤ code_of e
  pub code_most : code_of e ≤ 65535
  pub layer_most : layer_of e ≤ 255

abbrev pub Outcome : Sight → Request → Answer → Sight → Type 0
Outcome before q (Ok u) after = Granted before q after
Outcome before q (Err e) after = Refused before q e after

-- the law of a host: what comes of a request, in a state m
abbrev pub Obeys : {M : Type 0} → (M → Sight) → M → Request → Answer × M → Type 0
Obeys seen m q a = Outcome (seen m) q a.0 (seen a.1)

-- the law of taking a request that was written down: nothing that is seen changes
abbrev pub Taken : {M : Type 0} → (M → Sight) → M → Option Request × M → Type 0
Taken seen m a = Unchanged (seen m) (seen a.1)
