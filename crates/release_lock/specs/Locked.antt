-- What lies under the lock, and what is asked of it.
use Rattle.std.specs.Prelude.{◌≡◌, ℕ, ◌+◌, ◌*◌, ◌≤◌, Bool, true, false, List, ◌++◌, length, Option, Result, Ok, Err, IfSome}
use Rattle.std.specs.List.{list_all}
use Rattle.atomic_table.specs.Seated.{TableId}
use Rattle.leg.specs.declared.sweep.Routed.{Routed}
use Rattle.leg.specs.declared.sweep.Sweep.{Sweep}
use Rattle.exec_collector.specs.Opened.{sweeps_of}
use Rattle.exec_collector.specs.declared.placed_sweep.PlacedSweep.{PlacedSweep}
use Rattle.share_ledger.specs.Book.{BookParts}
use Rattle.order_limits.specs.declared.dollars.Dollars.{Dollars}
use Rattle.order_limits.specs.declared.over.Excess.{Excess}
use Rattle.order_limits.specs.Day.{MayComeToIf, dollars_of, judged_if, with_sweep}
use Rattle.order_limits.specs.Limits.{LimitParts}
use Rattle.order_limits.specs.Within.{IsWithin}
use Rattle.venue_queue.specs.Port.{Port}
use Rattle.sweep_release.specs.declared.desk_entry.DeskEntry.{DeskEntry}
use Rattle.sweep_release.specs.declared.desk_entry.DeskEntry.TheVariants.{Released, Up, Down, Shut, Taken, Dropped}
use Rattle.sweep_release.specs.declared.receipt.Receipt.{Receipt}
use Rattle.sweep_release.specs.declared.release_fault.ReleaseFault.{ReleaseFault}
use Rattle.sweep_release.specs.Desk.{DeskParts, new_desk, placed_shares}
use Rattle.sweep_release.specs.History.{KeptDesk, replay, history}
use Rattle.sweep_release.specs.Place.{kept, place_kept, PlaceAnswers}
use Rattle.release_lock.specs.declared.declined.Declined.{Declined}
use Rattle.release_lock.specs.declared.declined.Declined.TheVariants.{Over, Fault}
use Rattle.release_lock.specs.Queues.{AreFed, is_for, PumpsEach}
use Rattle.release_lock.specs.Seats.{placings_from}

-- a desk that its own history leads to
abbrev pub Replays : KeptDesk → Type 0
Replays kept = replay (new_desk (length kept.desk.venues)) kept.history ≡ kept.desk

-- what the seats count in all: the shares of all sweeps released, and one for each sweep
abbrev pub placed_count : DeskParts → ℕ
placed_count desk = placed_shares desk + length desk.sweeps

-- what is kept under the lock, of the run's rings, the desk, the total of the seats and the feeds
pub record IsLocked (queues : List TableId) (desk : KeptDesk) (total : ℕ) (feeds : List Port) : Type 0 where
  pub few : length queues ≤ 16
  pub venues : length desk.desk.venues ≡ length queues
  pub replays : Replays desk
  pub counted : total ≡ placed_count desk.desk
  pub many : length feeds ≡ length queues
  pub fed : AreFed queues desk.desk feeds

-- what the sweeps that were released come to
abbrev pub day_dollars : KeptDesk → Dollars
day_dollars kept = dollars_of kept.desk.sweeps

-- these are the dollars of the sweeps that were released: a number is left for each, and none has more than 32 legs
pub record IsDeskDollars (desk : KeptDesk) (dollars : Dollars) : Type 0 where
  pub sum : dollars ≡ day_dollars desk
  pub worth : dollars.ten_thousandths ≤ 320_000_000_000_000_000 * length desk.desk.sweeps
  pub numbers : length desk.desk.sweeps ≤ 999_999_999_999

-- this is the desk's side of the list of this name, and on it stand the sweeps that were released
pub record IsDeskSide (list : ℕ) (desk : KeptDesk) (name : ℕ) (items : List Sweep) : Type 0 where
  pub named : name ≡ list
  pub releases : items ≡ sweeps_of desk.desk.sweeps

-- this is the desk's book of this name, and it gave a slip for each sweep that was released, under its number
pub record IsDeskBook (book : ℕ) (desk : KeptDesk) (name : ℕ) (given : List PlacedSweep) : Type 0 where
  pub named : name ≡ book
  pub gives : given ≡ placings_from 1 desk.desk.sweeps

-- a sweep was placed at the desk and opened in a book, or in neither: the answer, and the desk after it
pub record Places (legs : List Routed) (before : KeptDesk) (answer : Result Receipt ReleaseFault) (after : KeptDesk)
    : Type 0 where
  pub book : BookParts
  pub book_after : BookParts
  pub placed : PlaceAnswers (kept before book) (place_kept (kept before book) legs) answer (kept after book_after)

-- each venue of a sweep that was placed is pumped; of one that was refused none is
abbrev pub PumpsVenues : List Routed → Result Receipt ReleaseFault → KeptDesk → KeptDesk → Type 0
PumpsVenues legs (Ok receipt) before after =
    PumpsEach (λ venue. is_for venue legs) (length before.desk.venues) before after
PumpsVenues legs (Err fault) before after = after ≡ before

-- a sweep was placed, or refused, and then its venues were pumped, or none was: the answer, and the desk after it
pub record Releases (legs : List Routed) (before : KeptDesk) (answer : Result Receipt ReleaseFault) (after : KeptDesk)
    : Type 0 where
  pub between : KeptDesk
  pub placed : Places legs before answer between
  pub replays : Replays between
  pub pumped : PumpsVenues legs answer between after

-- what becomes of a sweep that was judged: over a limit it is declined, and the desk is as it was; within them it is
-- released, and the day comes to what was judged, or it is refused
abbrev pub BecomesOf : Result Dollars Excess → List Routed → KeptDesk → Result Receipt Declined → KeptDesk → Type 0
BecomesOf (Err excess) legs before answer after = (answer ≡ Err (Over excess)) × (after ≡ before)
BecomesOf (Ok day) legs before (Ok receipt) after =
    Releases legs before (Ok receipt) after × (day_dollars after ≡ day)
BecomesOf (Ok day) legs before (Err (Fault fault)) after = Releases legs before (Err fault) after
BecomesOf (Ok day) legs before (Err (Over excess)) after = ⊥

-- a sweep is judged by limits, if there are any, as the desk is before anything is placed, and then released
abbrev pub ReleasesWithin : Option LimitParts → List Routed → KeptDesk → Result Receipt Declined → KeptDesk
    → Type 0
ReleasesWithin limits legs before answer after =
    BecomesOf (judged_if limits (day_dollars before) legs) legs before answer after

-- a sweep of these legs was placed within the limits, if there are any: within each of them, on the day as the desk was
-- before; and the day comes to the sweep's dollars more, which are within its own limit
pub record IsPlacedWithin (limits : Option LimitParts) (legs : List Routed) (before after : KeptDesk) : Type 0 where
  pub within : IfSome limits (λ parts. IsWithin parts (day_dollars before) legs)
  pub day : day_dollars after ≡ with_sweep (day_dollars before) legs
  pub limit : MayComeToIf limits (day_dollars after)

-- whether a call puts a gate up or down, or shuts one
abbrev pub is_turn : DeskEntry → Bool
is_turn (Up venue) = true
is_turn (Down venue) = true
is_turn (Shut venue) = true
is_turn (Released sweep) = false
is_turn (Taken venue) = false
is_turn (Dropped venue) = false

-- a desk after gates were put up, put down or shut, and nothing else was asked of it that changes it
pub record OnlyTurns (before after : KeptDesk) : Type 0 where
  pub calls : List DeskEntry
  pub turns : list_all is_turn calls ≡ true
  pub desk : after.desk ≡ replay before.desk calls
  pub history_is : after.history ≡ before.history ++ history before.desk calls
