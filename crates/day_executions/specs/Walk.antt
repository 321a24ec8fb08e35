-- A walk through a day's history and the list of what its book didn't take.
use Rattle.std.specs.Prelude.{◌≡◌, ◌≤◌, ◌+◌, ◌-◌, ℕ, Bool, false, List, [], ◌∷◌, length, map, Option, Some, None, nat_le, slice_get, if◌then◌else◌}
use Rattle.share_ledger.specs.declared.book_entry.BookEntry.{BookEntry}
use Rattle.share_ledger.specs.declared.book_entry.BookEntry.TheVariants.{Opened, Withdrawn, Moved}
use Rattle.exec_collector.specs.declared.unbooked.Unbooked.{Unbooked}
use Rattle.day_executions.specs.declared.heard.Heard.{Heard}
use Rattle.day_executions.specs.declared.place.Place.{Place}
use Rattle.day_executions.specs.declared.place.Place.TheVariants as place
use Rattle.day_executions.specs.Executions.{found, heard, not_taken}

-- the place of an entry, if it is a note
abbrev pub place_of : ℕ → BookEntry → List Place
place_of at (Opened sweep) = []
place_of at (Withdrawn id) = []
place_of at (Moved venue note) = place.Booked at ∷ []

-- whether a note that wasn't taken, if there is one, stands behind no more than so many entries
abbrev pub is_behind : ℕ → Option Unbooked → Bool
is_behind entries None = false
is_behind entries (Some item) = nat_le item.entries entries

-- whether the note at this place of a list comes next, after so many entries
abbrev pub is_next : List Unbooked → ℕ → ℕ → Bool
is_next unbooked items entries = is_behind entries (slice_get unbooked items)

-- so many entries are all, and none of the notes that come next stands behind no more
pub record IsEnd (entries items : ℕ) (history : List BookEntry) (unbooked : List Unbooked) : Type 0 where
  pub all : length history ≤ entries
  pub none : is_next unbooked items entries ≡ false

-- how many entries and notes come behind so many of both
abbrev pub unseen : ℕ → ℕ → List BookEntry → List Unbooked → ℕ
unseen entries items history unbooked = (length history - entries) + (length unbooked - items)

-- at these places stands all that was heard
abbrev pub AllFound : List Place → List BookEntry → List Unbooked → Type 0
AllFound places history unbooked =
    map (found history unbooked) places ≡ map (λ said. Some said) (heard history unbooked)

-- what was heard, if the book didn't take it
abbrev pub if_untaken : Option Heard → Option Heard
if_untaken None = None
if_untaken (Some said) = if not_taken said.answer then Some said else None
