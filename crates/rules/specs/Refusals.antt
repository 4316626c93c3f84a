-- The refusals with their numbers; refusal 25 carries the host's fault whole.
use Rattle.std.specs.Prelude.{ℕ, Some, None, Option}
use Rattle.host.specs.declared.request.HostFault.{HostFault}
use Rattle.rules.specs.declared.refusal.Refusal.{Refusal}
use Rattle.rules.specs.declared.refusal.Refusal.TheVariants as no

abbrev pub by_host : HostFault → Refusal
by_host fault = no.Host fault

abbrev pub number_of : Refusal → ℕ
number_of no.Setup = 1
number_of no.TooManySegments = 2
number_of no.Directory = 3
number_of no.PageRows = 4
number_of no.PastSegments = 5
number_of no.RowBase = 6
number_of no.SameLsn = 7
number_of no.Unaligned = 8
number_of no.BelowOffset = 9
number_of no.LsnInUse = 10
number_of no.FileFull = 11
number_of no.LsnRange = 12
number_of no.NoSegment = 13
number_of no.OtherBase = 14
number_of no.NotActive = 15
number_of no.PageLeft = 16
number_of no.TooLarge = 17
number_of no.PageRowsFull = 18
number_of no.LsnsDiffer = 19
number_of no.TooManyOld = 20
number_of no.BaseTooLow = 21
number_of no.PageAbsent = 22
number_of no.MoreThanLive = 23
number_of no.BlobRowsFull = 24
number_of (no.Host fault) = 25
number_of no.OutOfTurn = 28

-- what a refusal carries
abbrev pub fault_in : Refusal → Option HostFault
fault_in no.Setup = None
fault_in no.TooManySegments = None
fault_in no.Directory = None
fault_in no.PageRows = None
fault_in no.PastSegments = None
fault_in no.RowBase = None
fault_in no.SameLsn = None
fault_in no.Unaligned = None
fault_in no.BelowOffset = None
fault_in no.LsnInUse = None
fault_in no.FileFull = None
fault_in no.LsnRange = None
fault_in no.NoSegment = None
fault_in no.OtherBase = None
fault_in no.NotActive = None
fault_in no.PageLeft = None
fault_in no.TooLarge = None
fault_in no.PageRowsFull = None
fault_in no.LsnsDiffer = None
fault_in no.TooManyOld = None
fault_in no.BaseTooLow = None
fault_in no.PageAbsent = None
fault_in no.MoreThanLive = None
fault_in no.BlobRowsFull = None
fault_in (no.Host fault) = Some fault
fault_in no.OutOfTurn = None
