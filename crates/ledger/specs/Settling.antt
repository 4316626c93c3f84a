-- The remembered faults, when the tip is wanted: they are forgotten, and the lowest is told.
use Rattle.std.specs.Prelude.{List, [], ◌∷◌, Some, None, Ok, Err, Option}
use Rattle.host.specs.Meaning.{Answer}
use Rattle.host.specs.declared.request.HostFault.{HostFault}
use Rattle.segment.specs.declared.rows.FaultRow.{FaultRow}
use Rattle.rules.specs.Books.{Books, with_faults}
use Rattle.rules.specs.HandingOut.{cut_fault}

-- the lowest cut that the host refused
abbrev pub lowest_fault : List FaultRow → Option HostFault
lowest_fault [] = None
lowest_fault (row ∷ rows) = Some (cut_fault row)

abbrev pub settled : List FaultRow → Books → Answer × Books
settled [] b = (Ok tt, b)
settled (row ∷ rows) b = (Err (cut_fault row), with_faults [] b)
