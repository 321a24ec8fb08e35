-- Gates that are put up, put down or shut change neither what was released nor what left.
use Rattle.std.proofs.Common.{◌≡◌, ℕ, Bool, true, false, ◌&&◌, List, [], ◌∷◌, ◌++◌, length, Ok, Err, Result, refl, ap, sym, ◌∙◌, if◌then◌else◌}
use Rattle.std.specs.Prelude.{◌==◌}
use Rattle.std.specs.List.{list_all}
use Rattle.std.proofs.lemmas.Bool.{and_parts}
use Rattle.std.proofs.lemmas.List.{append-nil}
use Rattle.atomic_table.specs.Seated.{TableId}
use Rattle.leg.specs.Answering.{Answers}
use Rattle.venue_queue.specs.Port.{Port}
use Rattle.sweep_release.specs.declared.desk_entry.DeskEntry.{DeskEntry}
use Rattle.sweep_release.specs.declared.desk_entry.DeskEntry.TheVariants as entry
use Rattle.sweep_release.specs.declared.gate.Gate.{Gate}
use Rattle.sweep_release.specs.declared.gate.Gate.TheVariants.{Up, Down, Shut}
use Rattle.sweep_release.specs.declared.gate_fault.GateFault.{GateFault}
use Rattle.sweep_release.specs.declared.gate_fault.GateFault.TheVariants.{OutOfMemory}
use Rattle.sweep_release.specs.Desk.{DeskParts, venue_at, gate_of, placed, is_up, is_shut, with_gate, gate_up_from, gate_up, gate_down, shut}
use Rattle.sweep_release.specs.History.{again, replay, history, KeptDesk, without_room, with_entries, gate_up_entries, gate_down_entries, shut_entries}
use Rattle.sweep_release.proofs.Calls.{replayed-history}
use Rattle.sweep_release.proofs.Venues.{left-with_gate}
use Rattle.leg.specs.declared.sweep.Sweep.{Sweep}
use Rattle.exec_collector.specs.Opened.{sweeps_of}
use Rattle.exec_collector.specs.declared.placed_sweep.PlacedSweep.{PlacedSweep}
use Rattle.release_lock.specs.Seats.{placings_from}
use Rattle.release_lock.specs.Locked.{is_turn, OnlyTurns, placed_count, IsLocked, IsDeskSide, IsDeskBook}
use Rattle.release_lock.proofs.Replaying.{leads_on, same_venues}
use Rattle.release_lock.proofs.LeftLegs.{left_as, fed_as}

-- the sweeps are the same, and as many legs left
record IsTurned (before after : DeskParts) : Type 0 where
  pub sweeps : after.sweeps ≡ before.sweeps
  pub left : (venue : ℕ) → (venue_at after venue).left ≡ (venue_at before venue).left

same : (desk : DeskParts) → IsTurned desk desk
same desk = record { sweeps = refl; left = λ venue. refl }

put : (desk : DeskParts) (venue : ℕ) (gate : Gate) → IsTurned desk (with_gate venue gate desk)
put desk venue gate = record { sweeps = refl; left = λ other. left-with_gate venue other gate desk }

put_up : (desk : DeskParts) (venue : ℕ) (gate : Gate) (drained : Bool) → (placed desk venue == 0) ≡ drained
    → IsTurned desk (gate_up_from gate desk venue).1
put_up desk venue Up drained d = same desk
put_up desk venue Shut drained d = same desk
put_up desk venue Down true d = rw d (put desk venue Up)
put_up desk venue Down false d = rw d (same desk)

put_down : (desk : DeskParts) (venue : ℕ) (up : Bool)
    → IsTurned desk (if up then with_gate venue Down desk else desk)
put_down desk venue true = put desk venue Down
put_down desk venue false = same desk

put_shut : (desk : DeskParts) (venue : ℕ) (done : Bool)
    → IsTurned desk (if done then desk else with_gate venue Shut desk)
put_shut desk venue true = same desk
put_shut desk venue false = put desk venue Shut

turned : (desk : DeskParts) (call : DeskEntry) → is_turn call ≡ true → IsTurned desk (again desk call)
turned desk (entry.Up venue) e = put_up desk venue (gate_of desk venue) (placed desk venue == 0) refl
turned desk (entry.Down venue) e = put_down desk venue (is_up (gate_of desk venue))
turned desk (entry.Shut venue) e = put_shut desk venue (is_shut (gate_of desk venue))
turned desk (entry.Released sweep) e = absurd cc
turned desk (entry.Taken venue) e = absurd cc
turned desk (entry.Dropped venue) e = absurd cc

all_turned : (desk : DeskParts) (calls : List DeskEntry) → list_all is_turn calls ≡ true
    → IsTurned desk (replay desk calls)
all_turned desk [] e = same desk
all_turned desk (call ∷ calls) e =
    let parts = and_parts (is_turn call) (list_all is_turn calls) e in
    let first = turned desk call parts.0 in
    let rest = all_turned (again desk call) calls parts.1 in
    record { sweeps = rest.sweeps ∙ first.sweeps; left = λ venue. rest.left venue ∙ first.left venue }

-- what is kept under the lock is kept by turns
pub turned_locked : (queues : List TableId) (before after : KeptDesk) (total : ℕ) (feeds : List Port)
    → IsLocked queues before total feeds → OnlyTurns before after → IsLocked queues after total feeds
turned_locked queues before after total feeds locked turns =
    let all = all_turned before.desk turns.calls turns.turns in
    let sweeps : after.desk.sweeps ≡ before.desk.sweeps = ap (λ d. d.sweeps) turns.desk ∙ all.sweeps in
    let left = λ (venue : ℕ). ap (λ d. (venue_at d venue).left) turns.desk ∙ all.left venue in
    let led : after.desk ≡ replay before.desk (history before.desk turns.calls) =
    turns.desk ∙ sym (replayed-history before.desk turns.calls) in
    record {
      few = locked.few;
      venues = ap (λ d. length d.venues) turns.desk ∙ same_venues before.desk turns.calls ∙ locked.venues;
      replays = leads_on before after (history before.desk turns.calls) locked.replays led turns.history_is;
      counted = locked.counted ∙ sym (ap (λ s. placed_count (record before.desk { sweeps = s })) sweeps);
      many = locked.many;
      fed = fed_as queues before.desk after.desk feeds
          (λ venue. left_as before.desk after.desk venue sweeps (left venue)) locked.fed;
    }

-- the sweeps released are the same
pub turned_sweeps : (before after : KeptDesk) → OnlyTurns before after → after.desk.sweeps ≡ before.desk.sweeps
turned_sweeps before after turns =
    ap (λ d. d.sweeps) turns.desk ∙ (all_turned before.desk turns.calls turns.turns).sweeps

-- and so is the list of the sweeps
pub turned_side : {list name : ℕ} {items : List Sweep} (before after : KeptDesk) → OnlyTurns before after
    → IsDeskSide list before name items → IsDeskSide list after name items
turned_side before after turns side =
    record {
      named = side.named;
      releases = side.releases ∙ ap sweeps_of (sym (turned_sweeps before after turns));
    }

-- and the book of slips
pub turned_book : {book name : ℕ} {given : List PlacedSweep} (before after : KeptDesk) → OnlyTurns before after
    → IsDeskBook book before name given → IsDeskBook book after name given
turned_book before after turns slips =
    record {
      named = slips.named;
      gives = slips.gives ∙ ap (placings_from 1) (sym (turned_sweeps before after turns));
    }

-- nothing was asked that changes the desk
pub turns_none : (before after : KeptDesk) → without_room after ≡ without_room before → OnlyTurns before after
turns_none before after e = record {
  calls = [];
  turns = refl;
  desk = ap (λ d. d.desk) e;
  history_is = ap (λ d. d.history) e ∙ sym (append-nil before.history);
}

turns_one : (before after : KeptDesk) (call : DeskEntry) (entries : List DeskEntry) → is_turn call ≡ true
    → after.desk ≡ again before.desk call → after.history ≡ before.history ++ entries
    → history before.desk (call ∷ []) ≡ entries ++ [] → OnlyTurns before after
turns_one before after call entries turns desk written recorded = record {
  calls = call ∷ [];
  turns = ap (λ b. b && true) turns;
  desk = desk;
  history_is = written ∙ ap (λ l. before.history ++ l) (sym (recorded ∙ append-nil entries));
}

-- one gate was put down, or shut
pub turns_down : (before after : KeptDesk) (venue : ℕ) → after.desk ≡ gate_down before.desk venue
    → after.history ≡ before.history ++ gate_down_entries before.desk venue → OnlyTurns before after
turns_down before after venue desk written =
    turns_one before after (entry.Down venue) (gate_down_entries before.desk venue) refl desk written refl

pub turns_shut : (before after : KeptDesk) (venue : ℕ) → after.desk ≡ shut before.desk venue
    → after.history ≡ before.history ++ shut_entries before.desk venue → OnlyTurns before after
turns_shut before after venue desk written =
    turns_one before after (entry.Shut venue) (shut_entries before.desk venue) refl desk written refl

-- one gate was put up, or not
turns_answered : (before after : KeptDesk) (venue : ℕ) (step : Result (Unit {0}) GateFault × DeskParts)
    (answer : Result (Unit {0}) GateFault) → step.1 ≡ (gate_up before.desk venue).1
    → Answers OutOfMemory (without_room before)
    (with_entries (without_room before) (gate_up_entries before.desk venue) step) answer (without_room after)
    → OnlyTurns before after
turns_answered before after venue (Err fault, desk) answer is answers =
    turns_one before after (entry.Up venue) (gate_up_entries before.desk venue) refl
    (ap (λ d. d.desk) answers.1 ∙ is) (ap (λ d. d.history) answers.1) refl
turns_answered before after venue (Ok done, desk) (Ok told) is answers =
    turns_one before after (entry.Up venue) (gate_up_entries before.desk venue) refl
    (ap (λ d. d.desk) answers.1 ∙ is) (ap (λ d. d.history) answers.1) refl
turns_answered before after venue (Ok done, desk) (Err fault) is answers = turns_none before after answers.1

pub turns_up : (before after : KeptDesk) (venue : ℕ) (answer : Result (Unit {0}) GateFault)
    → Answers OutOfMemory (without_room before)
    (with_entries (without_room before) (gate_up_entries before.desk venue) (gate_up before.desk venue))
    answer (without_room after) → OnlyTurns before after
turns_up before after venue answer answers =
    turns_answered before after venue (gate_up before.desk venue) answer refl answers
