-- The names of a day's journals.
use Rattle.std.specs.Prelude.{ℕ, ◌+◌, Bool, List, codes, Option, Some, position, Result, Ok, Err}
use Rattle.std.specs.Str.{bytes_eq}
use Rattle.desk_config.specs.declared.fault.Fault.{Fault}
use Rattle.desk_config.specs.declared.fault.Fault.TheVariants.{DeskName}
use Rattle.desk_config.specs.declared.journal.JournalTerms.{JournalTerms}
use Rattle.desk_config.specs.declared.venue.Venue.{Venue}

-- whether a venue is called as the desk's journal is
abbrev pub is_called_desk : Venue → Bool
is_called_desk venue = bytes_eq venue.name (codes "desk")

-- the fault of a venue at this index that is called so, where journals are kept
abbrev pub name_taken : Option JournalTerms → Option ℕ → Result (Unit {0}) Fault
name_taken (Some journal) (Some index) = Err (DeskName (index + 1))
name_taken _ _ = Ok tt

-- where journals are kept no venue's would be the desk's
unfoldable pub apart_from_desk : Option JournalTerms → List Venue → Result (Unit {0}) Fault
apart_from_desk journal venues = name_taken journal (position is_called_desk venues)
