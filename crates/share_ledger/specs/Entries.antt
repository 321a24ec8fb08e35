-- What is written in the book: the sweeps that were opened, the legs that were withdrawn, and the notes of each venue.
use Rattle.std.specs.Prelude.{ℕ, Bool, false, ◌&&◌, ◌||◌, List, [], ◌∷◌, Option, Some, None, option_and_then, sum_by, ◌==◌, bytes_eq, if◌then◌else◌}
use Rattle.leg.specs.LegId.{LegIdParts}
use Rattle.leg.specs.Numbered.{numbered}
use Rattle.leg.specs.declared.sweep.Routed.{Routed}
use Rattle.dialect.specs.declared.note.Note.{Note}
use Rattle.dialect.specs.declared.note.Note.TheVariants as note
use Rattle.share_ledger.specs.declared.book_entry.BookEntry.{BookEntry}
use Rattle.share_ledger.specs.declared.book_entry.BookEntry.TheVariants.{Opened, Withdrawn, Moved}

-- the shares of a sweep: the sum over its legs (17 CFR 242.600(b), the orders routed together)
abbrev pub sweep_shares : List Routed → ℕ
sweep_shares legs = sum_by (λ routed. routed.terms.shares) legs

-- the sweeps that were opened, in the order of their numbers, which begin at 1
abbrev pub opened : List BookEntry → List (List Routed)
opened [] = []
opened (Opened sweep ∷ entries) = sweep.legs ∷ opened entries
opened (Withdrawn id ∷ entries) = opened entries
opened (Moved venue note ∷ entries) = opened entries

-- the order of a leg, if its sweep was opened and has such a place
abbrev pub order_of : LegIdParts → List BookEntry → Option Routed
order_of id entries = option_and_then (numbered id.place) (numbered id.sweep (opened entries))

-- whether two numbers of legs are the same
abbrev pub is_same_leg : LegIdParts → LegIdParts → Bool
is_same_leg a b = a.sweep == b.sweep && a.place == b.place

-- whether a leg was withdrawn
abbrev pub is_withdrawn : LegIdParts → List BookEntry → Bool
is_withdrawn id [] = false
is_withdrawn id (Opened sweep ∷ entries) = is_withdrawn id entries
is_withdrawn id (Withdrawn leg ∷ entries) = is_same_leg leg id || is_withdrawn id entries
is_withdrawn id (Moved venue note ∷ entries) = is_withdrawn id entries

-- the leg that a note is about; one that can't be read is about none
abbrev pub leg_of_note : Note → Option LegIdParts
leg_of_note (note.Report report) = Some report.id
leg_of_note (note.Refused id) = Some id
leg_of_note (note.Unread fault) = None

-- whether a note is about this leg
abbrev pub is_about : LegIdParts → Note → Bool
is_about id (note.Report report) = is_same_leg report.id id
is_about id (note.Refused leg) = is_same_leg leg id
is_about id (note.Unread fault) = false

-- the notes booked on a leg, in order
abbrev pub notes_on : LegIdParts → List BookEntry → List Note
notes_on id [] = []
notes_on id (Opened sweep ∷ entries) = notes_on id entries
notes_on id (Withdrawn leg ∷ entries) = notes_on id entries
notes_on id (Moved venue note ∷ entries) =
    if is_about id note then note ∷ notes_on id entries else notes_on id entries

-- whether a note is a report of this id (FIX 4.4 Volume 4, ExecID)
abbrev pub has_exec : List ℕ → Note → Bool
has_exec exec (note.Report report) = bytes_eq report.exec exec
has_exec exec (note.Refused id) = false
has_exec exec (note.Unread fault) = false

-- whether a report of this id was booked for a venue
abbrev pub is_booked : ℕ → List ℕ → List BookEntry → Bool
is_booked venue exec [] = false
is_booked venue exec (Opened sweep ∷ entries) = is_booked venue exec entries
is_booked venue exec (Withdrawn id ∷ entries) = is_booked venue exec entries
is_booked venue exec (Moved from note ∷ entries) =
    (from == venue && has_exec exec note) || is_booked venue exec entries
