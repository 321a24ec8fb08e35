-- What a start makes of the lines that a life before has kept.
use Rattle.std.specs.Prelude.{◌≡◌, ℕ, suc, List, [], ◌∷◌, ◌++◌, length, map, min, sum_by, option_to_list, Option, Some, None, Result, Ok, ◌==◌, if◌then◌else◌}
use Rattle.fix_tags.specs.Config.{ConfigParts}
use Rattle.fix_tags.specs.Stamp.{StampParts}
use Rattle.leg.specs.declared.sweep.Routed.{Routed}
use Rattle.dialect.specs.Wording.{Decoding}
use Rattle.session_core.specs.declared.session_call.SessionCall.TheVariants as call
use Rattle.session_core.specs.Session.{SessionParts, new_session}
use Rattle.session_core.specs.Calling.{broken}
use Rattle.session_core.specs.Trial.{after_calls}
use Rattle.share_ledger.specs.Entries.{sweep_shares}
use Rattle.sweep_release.specs.Desk.{DeskParts}
use Rattle.sweep_refs.specs.Placed.{Entry}
use Rattle.sweep_refs.specs.declared.submission.Submission.{Submission}
use Rattle.sweep_text.specs.declared.command.Command.{Command}
use Rattle.sweep_text.specs.declared.command.Command.TheVariants.{Sweep}
use Rattle.sweep_text.specs.declared.line_fault.LineFault.{LineFault}
use Rattle.sweep_text.specs.Line.{line_says}
use Rattle.journal_words.specs.Desk.{DeskSaid, desk_said}
use Rattle.journal_words.specs.Desk.DeskSaid.{Places}
use Rattle.journal_words.specs.Deed.{Timed}
use Rattle.journal_words.specs.Reading.{timed_said}
use Rattle.journal_words.specs.declared.fault.WordsFault.{WordsFault}
use Rattle.exec_collector.specs.Seats.{Seat}
use Rattle.session_worker.specs.Speaking.{Wire}
use Rattle.session_worker.specs.Events.{AreAllowed, WorkerEvent, Goes, calls_of, lasting}
use Rattle.session_worker.specs.Events.WorkerEvent.{Calls}
use Rattle.session_worker.specs.Keeping.{Told, events_of}
use Rattle.session_worker.specs.Restoring.{StartParts, new_start, worker_from}

-- The desk

-- what a line of the desk says was submitted under this number; nothing where it says anything else, or another number
abbrev pub submitted : Result Command LineFault → Option Submission
submitted (Ok (Sweep submission)) = Some submission
submitted _ = None

abbrev pub placed_as : List (List ℕ) → ℕ → Result (StampParts × DeskSaid) WordsFault → Option Submission
placed_as names number (Ok (stamp, Places given line)) =
    if given == number then submitted (line_says names line) else None
placed_as names number _ = None

abbrev pub behind : Option Submission → Option (List Submission) → Option (List Submission)
behind (Some submission) (Some rest) = Some (submission ∷ rest)
behind _ _ = None

-- the sweeps that lines say were placed, the first of them under this number; nothing where a line says anything else
abbrev pub submissions_from : List (List ℕ) → ℕ → List (List ℕ) → Option (List Submission)
submissions_from names number [] = Some []
submissions_from names number (line ∷ lines) =
    behind (placed_as names number (desk_said line)) (submissions_from names (suc number) lines)

-- a desk of these venues that goes on from lines: these sweeps were placed, in order, under the numbers from 1
abbrev pub restored_desk : List (List ℕ) → List (List ℕ) → Option (List Submission)
restored_desk names lines = submissions_from names 1 lines

abbrev pub legs_placed : List Submission → List (List Routed)
legs_placed submissions = map (λ s. s.sweep.legs) submissions

-- the sweeps among these that have references, the first of all under this number
abbrev pub entry_at : ℕ → Submission → List ℕ → Entry
entry_at number s reference =
    (reference, record { number = number; shares = sweep_shares s.sweep.legs; legs = s.sweep.legs })

abbrev pub entry_of : ℕ → Submission → List Entry
entry_of number s = map (entry_at number s) (option_to_list s.reference)

abbrev pub entries_from : ℕ → List Submission → List Entry
entries_from number [] = []
entries_from number (s ∷ submissions) = entry_of number s ++ entries_from (suc number) submissions

abbrev pub entries_of : List Submission → List Entry
entries_of submissions = entries_from 1 submissions

-- how many legs these have, and their shares
abbrev pub legs_in : List Submission → ℕ
legs_in submissions = sum_by (λ s. length s.sweep.legs) submissions

abbrev pub shares_in : List Submission → ℕ
shares_in submissions = sum_by (λ s. sweep_shares s.sweep.legs) submissions

-- a number that is counted up to the greatest of its type
abbrev pub up_to_most : ℕ → ℕ
up_to_most n = min n 18446744073709551615

-- A venue

-- the deeds that lines say, in order; nothing where one of them says none
abbrev pub deed_before : Result Timed WordsFault → Option (List Timed) → Option (List Timed)
deed_before (Ok timed) (Some rest) = Some (timed ∷ rest)
deed_before _ _ = None

abbrev pub deeds_in : List (List ℕ) → Option (List Timed)
deeds_in [] = Some []
deeds_in (line ∷ lines) = deed_before (timed_said line) (deeds_in lines)

-- the session that goes on from deeds: that after their calls, its connection gone
abbrev pub restored_session : Decoding → ConfigParts → List Timed → SessionParts
restored_session read config deeds = broken (after_calls read (new_session config) (calls_of (events_of deeds)))

-- what its worker did: these deeds, and then its connection was gone
abbrev pub past_events : List Timed → List WorkerEvent
past_events deeds = events_of deeds ++ Calls call.Broken ∷ []

-- what a worker begins with goes on from the lines of its venue: a worker that begins with it is what the deeds that
-- they say, and the end of its connection, left of one that begins with the other. Its venue and its seat are the same
pub record GoesOn (read : Decoding) (lines : List (List ℕ)) (before after : StartParts) : Type 0 where
  pub deeds : List Timed
  pub said : deeds_in lines ≡ Some deeds
  pub goes : AreAllowed read before.session (past_events deeds) → (wire : Wire) (told later : Told)
      → Goes read (worker_from before wire told) (past_events deeds) (worker_from after wire later)
  pub place : after.took.venue ≡ before.took.venue
  pub seat : lasting after.seat ≡ lasting before.seat

-- a worker that has done nothing begins with this
abbrev pub IsNew : StartParts → Type 0
IsNew start =
    (config : ConfigParts) × (venue : ℕ) × (seat : Seat) × (start ≡ new_start (new_session config) venue seat)

-- how a venue's messages are read, and the lines of its journal
abbrev pub Past : Type 0
Past = Decoding × List (List ℕ)

-- so does each of these
abbrev pub AllGoOn : List Past → List StartParts → List StartParts → Type 0
AllGoOn [] [] [] = Unit {0}
AllGoOn (past ∷ pasts) (before ∷ starts) (after ∷ ends) =
    GoesOn past.0 past.1 before after × AllGoOn pasts starts ends
AllGoOn pasts starts ends = ⊥

-- a desk at which nothing was placed goes on from lines: the sweeps of these were placed, in order
pub record PlacesAgain (names lines : List (List ℕ)) (desk : DeskParts) : Type 0 where
  pub submissions : List Submission
  pub said : restored_desk names lines ≡ Some submissions
  pub placed : desk.sweeps ≡ legs_placed submissions
