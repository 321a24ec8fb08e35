-- How followers are told that an audit ended.
use Rattle.std.specs.Prelude.{Option, Some, None, Result, Ok, Err, codes}
use Rattle.desk_json.specs.declared.event.Audit.{Audit}
use Rattle.desk_json.specs.declared.event.Audit.TheVariants.{Whole, Failed}
use Rattle.desk_venues.specs.declared.day_fault.DayFault.{DayFault}
use Rattle.desk_venues.specs.declared.day_fault.DayFault.TheVariants.{MismatchQueue, MismatchShares, MismatchPlaced}
use Rattle.desk_words.specs.Printable.{shown}

-- how it ended, if it wasn't broken off for lack of memory
abbrev pub audit_of : {A : Type 0} → Result A DayFault → Option Audit
audit_of (Ok report) = Some Whole
audit_of (Err MismatchQueue) = Some (Failed (shown 200 (codes "A01")))
audit_of (Err MismatchShares) = Some (Failed (shown 200 (codes "A02")))
audit_of (Err MismatchPlaced) = Some (Failed (shown 200 (codes "A03")))
audit_of (Err fault) = None
