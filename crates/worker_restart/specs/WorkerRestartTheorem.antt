-- What holds of a worker that is killed and started again, and on an audited day of the shares of its venue's legs.
use Rattle.std.specs.Prelude.{◌≡◌, ◌≤◌, ℕ, List, [], ◌∷◌, ◌++◌, length, slice_get, Some, None, Ok}
use Rattle.std.specs.List.{All, AllPairs, IsDistinct}
use mathlib.Core.List.{IsPrefix}
use Rattle.fix_tags.specs.Config.{ConfigParts}
use Rattle.leg.specs.LegId.{LegIdParts}
use Rattle.leg.specs.declared.leg.Leg.{Leg}
use Rattle.dialect.specs.Wording.{Decoding}
use Rattle.session_core.specs.Session.{leg_state}
use Rattle.share_ledger.specs.Entries.{is_same_leg}
use Rattle.sweep_release.specs.Released.{released}
use Rattle.release_lock.specs.Queues.{Took, TookFirst, placed_from}
use Rattle.exec_collector.specs.Seats.{Seat, worker_seat}
use Rattle.exec_collector.specs.Unbooked.{CountedParts, AreToldOnce}
use Rattle.venue_line.specs.Line.{Line}
use Rattle.venue_line.specs.LineTheorem.{IsWithdrawnLeg, LineHolds}
use Rattle.line_notes.specs.NotesTheorem.{NotesAreOnAccepted}
use Rattle.line_restart.specs.OverRestarts.{StaysAccepted, NeverAccepted, StaysWithdrawn}
use Rattle.line_restart.specs.Reports.{GivesTheSame}
use Rattle.session_worker.specs.declared.day_report.DayReport.{DayReport}
use Rattle.session_worker.specs.Events.{WorkerParts, withdrawn_by}
use Rattle.session_worker.specs.Audit.{AuditedDay, counted_of}
use Rattle.worker_line.specs.Happening.{works_of}
use Rattle.worker_line.specs.Gone.{HaveOwnIds, AreGone}
use Rattle.worker_line.specs.Shares.{AreSpared, AreShares}
use Rattle.worker_restart.specs.WorkerLives.{WorkerLife, durable_at, killed_at, AreInTurn, AreWorkerLives, last_life, lives_moments, AllButLast, IsRunOn, IsNewWorker}

-- a worker stands as its line does, where this was its seat when it was new: it has the line's session, and the legs
-- that left are those that it took, the first ones released. The notes that the book took on its seat are those given
-- on the line. The legs that the book was asked to withdraw are those that are withdrawn on it, none of them twice, and
-- no note given is on one of them, where the legs that left have ids of their own
pub record IsWorkerOf (base : Seat) (a : Line) (worker : WorkerParts) : Type 0 where
  pub session : worker.session ≡ a.session
  pub left : a.left ≡ length worker.took.taken
  pub first : IsPrefix worker.took.taken (placed_from 1 a.released)
  pub venue : worker.seat.venue ≡ base.venue
  pub booked : worker.seat.booked ≡ base.booked ++ a.given
  pub asked : List LegIdParts
  pub asks : worker.seat.asked ≡ base.asked ++ asked
  pub gone : AreGone a asked
  pub once : HaveOwnIds a → IsDistinct is_same_leg asked
  pub spared : HaveOwnIds a → AreSpared a.given asked

-- at the start of a life, when the journal ended, and when it was killed
pub record StandsThrough (read : Decoding) (base : Seat) (life : WorkerLife) : Type 0 where
  pub start : IsWorkerOf base life.start life.worker
  pub durable : IsWorkerOf base (durable_at read life) life.kept
  pub killed : IsWorkerOf base (killed_at read life) life.ended

abbrev pub AllStandThrough : Decoding → Seat → WorkerLife → List WorkerLife → Type 0
AllStandThrough read base life [] = StandsThrough read base life
AllStandThrough read base life (next ∷ lives) =
    StandsThrough read base life × AllStandThrough read base next lives

-- no drop is lost: a leg that had left the desk unsent when the worker was killed had left it when the journal ended
abbrev pub KeepsDrops : Decoding → WorkerLife → Type 0
KeepsDrops read life = (ordinal : ℕ) → IsWithdrawnLeg (killed_at read life) ordinal
    → leg_state (killed_at read life).session ordinal ≡ None → ordinal ≤ (durable_at read life).left

-- no withdrawal is lost: what the worker did after the journal's end withdraws no leg, so the book was asked for none
abbrev pub KeepsWithdrawn : Decoding → WorkerLife → Type 0
KeepsWithdrawn read life = withdrawn_by read (durable_at read life).session (works_of life.lost) ≡ []

-- at every moment the line is safe, and the notes given are on accepted legs; what was accepted stays so. What was
-- withdrawn is never accepted if no drop is lost, and stays withdrawn if no withdrawal is. Of any two moments the notes
-- are the same, as far as both go; and each worker stands as its line does
pub record AreSafeLives (read : Decoding) (base : Seat) (first : WorkerLife) (lives : List WorkerLife) : Type 0 where
  pub holds : All LineHolds (lives_moments read first lives)
  pub noted : All NotesAreOnAccepted (lives_moments read first lives)
  pub accepted : AllPairs StaysAccepted (lives_moments read first lives)
  pub never_accepted : AllButLast (KeepsDrops read) first lives
      → AllPairs NeverAccepted (lives_moments read first lives)
  pub withdrawn : AllButLast (KeepsWithdrawn read) first lives
      → AllPairs StaysWithdrawn (lives_moments read first lives)
  pub given : AllPairs GivesTheSame (lives_moments read first lives)
  pub stand : AllStandThrough read base first lives

-- whenever the worker is killed, and however often
abbrev pub TheWorkerRestartTheorem : Type 0
TheWorkerRestartTheorem = (read : Decoding) (config : ConfigParts) (legs : List Leg) (first : WorkerLife)
    (lives : List WorkerLife) → config.max_number ≤ 999999999 → IsNewWorker config legs first
    → AreWorkerLives read first lives → AreSafeLives read first.worker.seat first lives

-- so it is of a venue's worker; and the shares of the venue's legs in the book are as the notes given say, and as the
-- withdrawals asked for, over all lives. Each of the notes is an entry of the book or is listed as one that it didn't
-- take, exactly once
pub record AreSafeLivesOf (read : Decoding) (counted : CountedParts) (venue : ℕ) (first : WorkerLife)
    (lives : List WorkerLife) : Type 0 where
  pub safe : AreSafeLives read (worker_seat venue) first lives
  pub shares : AreShares counted.book venue (killed_at read (last_life first lives)).given
      (last_life first lives).ended.seat.asked
  pub told : AreToldOnce counted venue (killed_at read (last_life first lives)).given

-- of each worker of a day that was audited at the end of its last life: the first worker began with the new seat of its
-- venue, and the last one ended with the legs and the seat at the venue's place. On the line of each life are the legs
-- that the desk released to the venue, and each life that was killed took the first of them: of the last one the audit
-- says so
abbrev pub TheDayOverLives : Type 0
TheDayOverLives = (read : Decoding) (config : ConfigParts) (first : WorkerLife) (lives : List WorkerLife)
    (callers : List Seat) (queues : List Took) (seats : List Seat) (report : DayReport)
    (day : AuditedDay callers queues seats (Ok report)) (venue : ℕ)
    → slice_get queues venue ≡ Some (last_life first lives).ended.took
    → slice_get seats venue ≡ Some (last_life first lives).ended.seat → config.max_number ≤ 999999999
    → IsNewWorker config (released venue day.desk.desk.sweeps) first → first.worker.seat ≡ worker_seat venue
    → AreInTurn read (IsRunOn read (released venue day.desk.desk.sweeps)) first lives
    → AllButLast (λ life. TookFirst day.desk.desk venue life.ended.took) first lives
    → AreSafeLivesOf read (counted_of day) venue first lives
