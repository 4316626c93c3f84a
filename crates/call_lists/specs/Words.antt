-- The words that statements begin with: how each is written, and how many fields follow it.
use Rattle.std.specs.Prelude.{ℕ, Bool, true, false, cond, List, Ok, Err, codes, Result, ◌==◌, nat_le, nat_lt}
use Rattle.call_lists.specs.declared.reason.Reason.{Reason}
use Rattle.call_lists.specs.declared.reason.Reason.TheVariants.{MissingField, SurplusField}
use Rattle.call_lists.specs.declared.word.Word.{Word}
use Rattle.call_lists.specs.declared.word.Word.TheVariants.{Memory, Queue, Fail, Page, Row, Start, Link, Old, Replace, Next, Stabilize, Pop, Take, Books}

abbrev pub name_of : Word → List ℕ
name_of Memory = codes "memory"
name_of Queue = codes "queue"
name_of Fail = codes "fail"
name_of Page = codes "page"
name_of Row = codes "row"
name_of Start = codes "start"
name_of Link = codes "link"
name_of Old = codes "old"
name_of Replace = codes "replace"
name_of Next = codes "next"
name_of Stabilize = codes "stabilize"
name_of Pop = codes "pop"
name_of Take = codes "take"
name_of Books = codes "books"

-- the fewest fields
abbrev pub least_of : Word → ℕ
least_of Memory = 2
least_of Queue = 2
least_of Fail = 1
least_of Page = 2
least_of Row = 5
least_of Start = 4
least_of Link = 6
least_of Old = 5
least_of Replace = 7
least_of Next = 1
least_of Stabilize = 1
least_of Pop = 0
least_of Take = 0
least_of Books = 0

-- whether more fields than the fewest may follow: the blobs of a bottom host
abbrev pub open_ended : Word → Bool
open_ended Memory = true
open_ended Queue = true
open_ended Fail = false
open_ended Page = false
open_ended Row = false
open_ended Start = false
open_ended Link = false
open_ended Old = false
open_ended Replace = false
open_ended Next = false
open_ended Stabilize = false
open_ended Pop = false
open_ended Take = false
open_ended Books = false

-- what is answered to a number of fields
abbrev pub counted : Word → ℕ → Result (Unit {0}) Reason
counted w n = cond (nat_lt n (least_of w)) (Err MissingField) (cond (open_ended w) (Ok tt) (cond (n == least_of w) (Ok tt) (Err SurplusField)))

-- a number of fields that is taken
abbrev pub taken : Word → ℕ → Bool
taken w n = cond (open_ended w) (nat_le (least_of w) n) (n == least_of w)
