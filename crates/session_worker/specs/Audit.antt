-- What is compared once a day's threads have ended.
use Rattle.std.specs.Prelude.{◌≡◌, ◌⊎◌, ℕ, List, length, sum_by, Result, Ok, Err}
use Rattle.std.specs.List.{All}
use Rattle.share_ledger.specs.Book.{BookParts, all_booked_from}
use Rattle.share_ledger.specs.Entries.{opened}
use Rattle.sweep_release.specs.Desk.{placed_shares}
use Rattle.sweep_release.specs.History.{KeptDesk}
use Rattle.exec_collector.specs.Booked.{IsKept}
use Rattle.exec_collector.specs.Resolved.{resolved, Replays as BookReplays}
use Rattle.exec_collector.specs.Seats.{Seat, parts_of, shares_of}
use Rattle.exec_collector.specs.Unbooked.{CountedParts, KeptCounted, IsListOf, WereUnbooked}
use Rattle.exec_collector.specs.declared.unbooked.Unbooked.{Unbooked}
use Rattle.release_lock.specs.Locked.{Replays as DeskReplays}
use Rattle.release_lock.specs.Queues.{Took, AllTookFirst, IsFirstWrong}
use Rattle.release_lock.specs.Seats.{shares_placed, AreAllPlaced}
use Rattle.session_worker.specs.declared.audit_fault.AuditFault.{AuditFault}
use Rattle.session_worker.specs.declared.audit_fault.AuditFault.TheVariants.{MismatchQueue, MismatchShares, MismatchPlaced, OutOfMemory}
use Rattle.session_worker.specs.declared.day_report.DayReport.{DayReport}

-- the shares that are open, over all sweeps of a book
abbrev pub still_open : BookParts → ℕ
still_open book = sum_by (λ leg. leg.parts.still_open) (all_booked_from book 1 (opened book.entries))

-- what a day left behind: the desk and the book, the seats of the callers, and what each worker took and its seat
pub record DayParts : Type 0 where
  pub desk : KeptDesk
  pub book : BookParts
  pub callers : List Seat
  pub queues : List Took
  pub seats : List Seat

abbrev pub day_of : KeptDesk → BookParts → List Seat → List Took → List Seat → DayParts
day_of desk book callers queues seats =
    record { desk = desk; book = book; callers = callers; queues = queues; seats = seats }

-- each worker took the first legs released to the venue at its place; the workers' seats add up to what is resolved;
-- the callers' add up to what was placed
abbrev pub AreQueues : DayParts → Type 0
AreQueues day = AllTookFirst day.desk.desk day.queues (length day.queues)

abbrev pub AreResolved : DayParts → Type 0
AreResolved day = shares_of day.seats ≡ resolved day.book

abbrev pub ArePlaced : DayParts → Type 0
ArePlaced day = shares_of day.callers ≡ placed_shares day.desk.desk

-- what is told of a day
abbrev pub report_of : DayParts → DayReport
report_of day = record {
  placed = placed_shares day.desk.desk;
  resolved = resolved day.book;
  still_open = still_open day.book;
}

-- what the audit answers: Ok where all three hold, and else the first that doesn't. It wants no memory
abbrev pub Audits : DayParts → Result DayReport AuditFault → Type 0
Audits day (Ok report) = AreQueues day × AreResolved day × ArePlaced day × (report ≡ report_of day)
Audits day (Err (MismatchQueue place)) = IsFirstWrong day.desk.desk day.queues place
Audits day (Err MismatchShares) = AreQueues day × (AreResolved day → ⊥)
Audits day (Err MismatchPlaced) = AreQueues day × AreResolved day × (ArePlaced day → ⊥)
Audits day (Err OutOfMemory) = ⊥

-- what it answers of a desk and a book that their own histories lead to, where on each worker's seat stands what the
-- book took of its venue, and the list has just the notes that it didn't take; or there was no memory to take the ends
-- apart
pub record AuditedDay (callers : List Seat) (queues : List Took) (seats : List Seat)
    (answer : Result DayReport AuditFault) : Type 0 where
  pub desk : KeptDesk
  pub book : BookParts
  pub desk_replays : DeskReplays desk
  pub book_replays : BookReplays book
  pub kept : All (IsKept book) seats
  -- the notes that the book didn't take, in the order in which they were given
  pub unbooked : List Unbooked
  pub list : IsListOf book unbooked
  pub left : All (WereUnbooked unbooked) seats
  -- the sweeps opened in the book are those that the desk released, in order
  pub sweeps : opened book.entries ≡ desk.desk.sweeps
  -- the shares that the callers count are those of the sweeps on their seats
  pub placed : shares_placed callers ≡ shares_of callers
  -- those of all callers are the sweeps released, each once and under its number
  pub all_placed : parts_of callers ≡ 1024 → AreAllPlaced callers desk.desk.sweeps
  pub audits : Audits (day_of desk book callers queues seats) answer

-- its book and list
abbrev pub counted_of : {callers : List Seat} {queues : List Took} {seats : List Seat}
    {answer : Result DayReport AuditFault} → AuditedDay callers queues seats answer → CountedParts
counted_of day = record { book = day.book; unbooked = day.unbooked }

abbrev pub AuditsOf : List Seat → List Took → List Seat → Result DayReport AuditFault → Type 0
AuditsOf callers queues seats answer = AuditedDay callers queues seats answer ⊎ (answer ≡ Err OutOfMemory)

-- the same of this desk, this book and its list
abbrev pub AuditsOpened : KeptDesk → KeptCounted → List Seat → List Took → List Seat → Result DayReport AuditFault
    → Type 0
AuditsOpened desk counted callers queues seats answer =
    ((day : AuditedDay callers queues seats answer) × (day.desk ≡ desk) × (day.book ≡ counted.book)
    × (day.unbooked ≡ counted.unbooked))
    ⊎ (answer ≡ Err OutOfMemory)
