-- A worker that goes on from the lines of its journal: what it begins with once they were done again.
use Rattle.std.specs.Prelude.{◌≡◌, ◌≢◌, ℕ, ◌+◌, min, List, [], ◌∷◌, ◌++◌, length, take, Option, Some, None, Result, Ok, Err}
use Rattle.std.specs.Option.{option_or}
use mathlib.Core.List.{IsPrefix}
use Rattle.dialect.specs.declared.note.Note.{Note}
use Rattle.dialect.specs.Wording.{Decoding}
use Rattle.leg.specs.LegId.{LegIdParts}
use Rattle.session_core.specs.declared.session_fault.SessionFault.{SessionFault}
use Rattle.session_core.specs.declared.session_fault.SessionFault.TheVariants.{OutOfMemory}
use Rattle.session_core.specs.declared.step.Step.{Step}
use Rattle.session_core.specs.Session.{SessionParts}
use Rattle.session_core.specs.Trial.{after_calls}
use Rattle.release_lock.specs.Queues.{Took}
use Rattle.exec_collector.specs.Seats.{Seat}
use Rattle.journal_words.specs.Deed.{Timed}
use Rattle.journal_words.specs.Reading.{timed_said}
use Rattle.session_worker.specs.Booking.{booked_by, waiting_after}
use Rattle.session_worker.specs.Speaking.{Wire}
use Rattle.session_worker.specs.Events.{WorkerEvent, WorkerParts, calls_of, taken_of, withdrawn_by, lasting}
use Rattle.session_worker.specs.Keeping.{Told, event_of}
use Rattle.session_worker.specs.Linking.{beside_shares, asked_too}

-- a worker before its first turn: its session, the legs that it took, its seat, how many of the legs its lines told of,
-- how many notes were booked, as far as that is counted, and the last note that came, if one did
pub record StartParts : Type 0 where
  pub session : SessionParts
  pub took : Took
  pub seat : Seat
  pub told : ℕ
  pub counted : ℕ
  pub waiting : Option Note

-- a note with its words
abbrev pub note_in : {Words : Type 0} → Option (Note × Words) → Option Note
note_in None = None
note_in (Some (note, words)) = Some note

-- a worker that has done nothing
abbrev pub new_start : SessionParts → ℕ → Seat → StartParts
new_start session venue seat = record {
  session = session;
  took = record { venue = venue; taken = [] };
  seat = seat;
  told = 0;
  counted = 0;
  waiting = None;
}

-- a worker that goes on from it
abbrev pub worker_from : StartParts → Wire → Told → WorkerParts
worker_from start wire told =
    record { session = start.session; took = start.took; seat = start.seat; wire = wire; told = told }

-- legs were taken behind the others, and nothing else changed
pub record TakesMore (before after : StartParts) : Type 0 where
  pub more : IsPrefix before.took.taken after.took.taken
  pub rest : after ≡ record before { took = after.took }
  pub venue : after.took.venue ≡ before.took.venue

-- a count with these in it, up to the greatest number of its type
abbrev pub counted_with : ℕ → List Note → ℕ
counted_with count [] = count
counted_with count (note ∷ notes) = counted_with (min (count + 1) 18446744073709551615) notes

-- the book was asked to withdraw these legs, and of the rest nothing changed
pub record AsksFor (ids : List LegIdParts) (before after : StartParts) : Type 0 where
  pub seat : beside_shares after.seat ≡ asked_too ids (beside_shares before.seat)
  pub rest : after ≡ record before { seat = after.seat }

-- it was asked to withdraw those that a call's step names, where the call gave one; and there was memory for it
abbrev pub named_by : Result Step SessionFault → List LegIdParts
named_by (Ok step) = step.withdrawn
named_by (Err fault) = []

abbrev pub CarriesOutAgain : Result Step SessionFault → StartParts → StartParts → Type 0
CarriesOutAgain given before after = (given ≢ Err OutOfMemory) × AsksFor (named_by given) before after

-- the book was asked to withdraw the legs that a step names, and its note waits, if it has one
pub record Follows (step : Step) (before after : StartParts) : Type 0 where
  pub waiting : after.waiting ≡ option_or step.note before.waiting
  pub seat : beside_shares after.seat ≡ asked_too step.withdrawn (beside_shares before.seat)
  pub rest : after ≡ record before { seat = after.seat; waiting = after.waiting }

-- these events were done again: the session is that after their calls, the legs that they took are the next ones taken,
-- and of the book was asked what they ask for
pub record Redoes (read : Decoding) (before : StartParts) (events : List WorkerEvent) (after : StartParts)
    : Type 0 where
  pub session : after.session ≡ after_calls read before.session (calls_of events)
  pub took : after.took ≡ before.took
  pub told : after.told ≡ before.told + length (taken_of events)
  pub taken : take after.told after.took.taken ≡ take before.told before.took.taken ++ taken_of events
  pub seat : lasting after.seat ≡ lasting before.seat
  pub booked : after.seat.booked
      ≡ before.seat.booked ++ booked_by read before.session before.waiting (calls_of events)
  pub counted : after.counted
      ≡ counted_with before.counted (booked_by read before.session before.waiting (calls_of events))
  pub asked : after.seat.asked ≡ before.seat.asked ++ withdrawn_by read before.session events
  pub waiting : after.waiting ≡ waiting_after read before.session before.waiting (calls_of events)

-- a line says what was done, and that was done again
abbrev pub RedoesLine : Decoding → StartParts → List ℕ → StartParts → Type 0
RedoesLine read before line after =
    (timed : Timed) × (timed_said line ≡ Ok timed) × Redoes read before (event_of timed.deed ∷ []) after
