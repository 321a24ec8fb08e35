-- Legs of a venue leave the desk one after the other, each once it is in the ring.
use Rattle.std.proofs.Common.{◌≡◌, ℕ, zero, suc, ◌+◌, ◌<◌, Bool, true, false, List, [], ◌∷◌, ◌++◌, length, take, drop, replicate, set, slice_get, Option, Some, None, refl, ap, sym, ◌∙◌, subst, arith, append_assoc, if◌then◌else◌}
use Rattle.std.proofs.lemmas.List.{append-nil, length-set, replicate_more}
use Rattle.atomic_table.specs.Seated.{TableId}
use Rattle.leg.specs.declared.leg.Leg.{Leg}
use Rattle.leg.specs.declared.placed_leg.PlacedLeg.{PlacedLeg}
use Rattle.venue_queue.specs.Port.{Port, with_leg}
use Rattle.sweep_release.specs.declared.desk_entry.DeskEntry.TheVariants.{Taken, Dropped}
use Rattle.sweep_release.specs.Released.{released}
use Rattle.sweep_release.specs.Desk.{DeskParts, venue_at, gate_of, placed_legs, placed, is_up, one_left, leave_first, leave, next_leg}
use Rattle.sweep_release.specs.History.{again, replay, left_entries, KeptDesk}
use Rattle.sweep_release.specs.Laws.{ChangesOnly}
use Rattle.sweep_release.proofs.AtVenue.{only-take, only-drop_next, drop-next}
use Rattle.sweep_release.proofs.Venues.{left-one_left, gate_of-one_left}
use Rattle.release_lock.specs.Queues.{placed_from, left_to, leaving, Pumps}
use Rattle.leg.specs.declared.sweep.Sweep.{Sweep}
use Rattle.exec_collector.specs.Opened.{sweeps_of}
use Rattle.exec_collector.specs.declared.placed_sweep.PlacedSweep.{PlacedSweep}
use Rattle.release_lock.specs.Seats.{placings_from}
use Rattle.release_lock.specs.Locked.{placed_count, IsLocked, IsDeskSide, IsDeskBook}
use Rattle.release_lock.proofs.Replaying.{replay-append, same_venues, leads_on}
use Rattle.release_lock.proofs.LeftLegs.{take_next, fed_set}

-- a leg left the desk
record HasLeft (venue : ℕ) (before : DeskParts) (leg : PlacedLeg) (after : DeskParts) : Type 0 where
  pub one : after ≡ one_left venue before
  pub legs : left_to after venue ≡ left_to before venue ++ leg ∷ []
  pub few : placed before venue ≡ suc (placed after venue)

first_leaves : (desk : DeskParts) (venue : ℕ) (leg : PlacedLeg) (legs : List Leg) → venue < length desk.venues
    → placed_legs desk venue ≡ legs → (leave_first legs desk venue).0 ≡ Some leg
    → HasLeft venue desk leg (leave_first legs desk venue).1
first_leaves desk venue leg [] there e is = absurd cc
first_leaves desk venue leg (first ∷ rest) there e is =
    let left = (venue_at desk venue).left in
    let all = released venue desk.sweeps in
    let mine : PlacedLeg = record { ordinal = left + 1; leg = first } in
    let this : mine ≡ leg = cc in
    let count : (venue_at (one_left venue desk) venue).left ≡ left + 1 = left-one_left venue desk there in
    let next : left + 1 ≡ suc left = omega arith in
    let number : 1 + left ≡ left + 1 = omega arith in
    let now : placed_legs (one_left venue desk) venue ≡ rest
    = ap (λ n. drop n all) count ∙ drop-next left all first rest e in
    record {
      one = refl;
      legs = ap (λ n. take n (placed_from 1 all)) (count ∙ next)
          ∙ (take_next left 1 all first rest e
          ∙ (ap (λ n. take left (placed_from 1 all) ++ record { ordinal = n; leg = first } ∷ []) number
          ∙ ap (λ l. take left (placed_from 1 all) ++ l ∷ []) this));
      few = ap length e ∙ ap (λ l. suc (length l)) (sym now);
    }

none_placed : (legs : List Leg) (desk : DeskParts) (venue : ℕ) → (leave_first legs desk venue).0 ≡ None → length legs ≡ 0
none_placed [] desk venue e = refl
none_placed (leg ∷ legs) desk venue e = absurd cc

-- where there is no next leg none is placed
pub nothing_placed : (desk : DeskParts) (venue : ℕ) → next_leg desk venue ≡ None → placed desk venue ≡ 0
nothing_placed desk venue e = none_placed (placed_legs desk venue) desk venue e

leaves_again : (desk : DeskParts) (venue : ℕ) (up : Bool) → is_up (gate_of desk venue) ≡ up
    → again desk (if up then Taken venue else Dropped venue) ≡ (leave desk venue).1
leaves_again desk venue true e =
    ap (λ (b : Bool). (let r : Option PlacedLeg × DeskParts = if b then leave desk venue else (None, desk) in r.1)) e
leaves_again desk venue false e =
    ap (λ (b : Bool). (let r : Option PlacedLeg × DeskParts = if b then (None, desk) else leave desk venue in r.1)) e

-- how far a pump is
pub record Pumping (venue : ℕ) (before : KeptDesk) (old : Port) (desk : KeptDesk) (feed : Port) : Type 0 where
  pub pumps : Pumps venue before desk
  pub gate : gate_of desk.desk venue ≡ gate_of before.desk venue
  pub venues : length desk.desk.venues ≡ length before.desk.venues
  pub legs : feed.legs ≡ left_to desk.desk venue
  pub ring : (feed.table ≡ old.table) × (feed.room ≡ old.room)

pub pumping_begins : (venue : ℕ) (before : KeptDesk) (feed : Port) → feed.legs ≡ left_to before.desk venue
    → Pumping venue before feed before feed
pumping_begins venue before feed legs = record {
  pumps = record { moved = 0; few = omega arith; desk = refl; history = sym (append-nil before.history); room = refl };
  gate = refl;
  venues = refl;
  legs = legs;
  ring = (refl, refl);
}

-- the next leg is in the ring, and then it left the desk
pub pumps_on : (venue : ℕ) (before : KeptDesk) (old : Port) (desk : KeptDesk) (feed : Port) (leg : PlacedLeg)
    (after : KeptDesk) (now : Port) → Pumping venue before old desk feed → venue < length before.desk.venues
    → next_leg desk.desk venue ≡ Some leg → now ≡ with_leg feed leg → after.desk ≡ (leave desk.desk venue).1
    → after.history ≡ desk.history ++ left_entries (leaving desk.desk venue) (leave desk.desk venue).0
    → after.room ≡ desk.room → Pumping venue before old after now
pumps_on venue before old desk feed leg after now so_far there next pushed left written room =
    let pumps = so_far.pumps in
    let inside : venue < length desk.desk.venues = (let v = so_far.venues in omega (arith, v, there)) in
    let step = first_leaves desk.desk venue leg (placed_legs desk.desk venue) inside refl next in
    let call = leaving before.desk venue in
    let calls = replicate pumps.moved call in
    let one_more : calls ++ call ∷ [] ≡ replicate (pumps.moved + 1) call = replicate_more pumps.moved call in
    let same_call : leaving desk.desk venue ≡ call
    = ap (λ g. if is_up g then Taken venue else Dropped venue) so_far.gate in
    let again_is : again desk.desk call ≡ (leave desk.desk venue).1
    = ap (again desk.desk) (sym same_call) ∙ leaves_again desk.desk venue (is_up (gate_of desk.desk venue)) refl in
    let desk_is : after.desk ≡ replay before.desk (replicate (pumps.moved + 1) call)
    = left ∙ (sym again_is
    ∙ (ap (λ d. again d call) pumps.desk
    ∙ (sym (replay-append before.desk calls (call ∷ []))
    ∙ ap (replay before.desk) one_more))) in
    let history_is : after.history ≡ before.history ++ replicate (pumps.moved + 1) call
    = written
    ∙ (ap (λ e. desk.history ++ left_entries (leaving desk.desk venue) e) next
    ∙ (ap (λ c. desk.history ++ c ∷ []) same_call
    ∙ (ap (λ h. h ++ call ∷ []) pumps.history
    ∙ (append_assoc before.history calls (call ∷ [])
    ∙ ap (λ l. before.history ++ l) one_more)))) in
    let few : placed before.desk venue ≡ (pumps.moved + 1) + placed after.desk venue
    = (let so = pumps.few in let step_few = step.few in let is = ap (λ d. placed d venue) left in
    omega (arith, so, step_few, is)) in
    record {
      pumps = record {
        moved = pumps.moved + 1;
        few = few;
        desk = desk_is;
        history = history_is;
        room = room ∙ pumps.room;
      };
      gate = ap (λ d. gate_of d venue) (left ∙ step.one) ∙ (gate_of-one_left venue venue desk.desk ∙ so_far.gate);
      venues = ap (λ d. length d.venues) desk_is ∙ same_venues before.desk (replicate (pumps.moved + 1) call);
      legs = ap (λ p. p.legs) pushed
          ∙ (ap (λ l. l ++ leg ∷ []) so_far.legs
          ∙ (sym step.legs ∙ ap (λ d. left_to d venue) (sym left)));
      ring = (ap (λ p. p.table) pushed ∙ so_far.ring.0, ap (λ p. p.room) pushed ∙ so_far.ring.1);
    }

pub leaves_fewer : (desk after : DeskParts) (venue : ℕ) (leg : PlacedLeg) → venue < length desk.venues
    → next_leg desk venue ≡ Some leg → after ≡ (leave desk venue).1 → placed after venue < placed desk venue
leaves_fewer desk after venue leg there next left =
    let step = first_leaves desk venue leg (placed_legs desk venue) there refl next in
    let few = step.few in
    let is = ap (λ d. placed d venue) left in
    omega (arith, few, is)

-- legs that leave change nothing at another venue

only_one : (venue : ℕ) (up : Bool) (desk : DeskParts)
    → ChangesOnly venue desk (again desk (if up then Taken venue else Dropped venue))
only_one venue true desk = only-take desk venue
only_one venue false desk = only-drop_next desk venue

only_all : (venue moved : ℕ) (up : Bool) (desk : DeskParts)
    → ChangesOnly venue desk (replay desk (replicate moved (if up then Taken venue else Dropped venue)))
only_all venue zero up desk = record { sweeps = refl; others = λ other differs. refl }
only_all venue (suc moved) up desk =
    let call = if up then Taken venue else Dropped venue in
    let first = only_one venue up desk in
    let rest = only_all venue moved up (again desk call) in
    record {
      sweeps = rest.sweeps ∙ first.sweeps;
      others = λ other differs. rest.others other differs ∙ first.others other differs;
    }

only_pumped : (venue : ℕ) (before after : KeptDesk) → Pumps venue before after
    → ChangesOnly venue before.desk after.desk
only_pumped venue before after pumps =
    subst (ChangesOnly venue before.desk) (sym pumps.desk)
    (only_all venue pumps.moved (is_up (gate_of before.desk venue)) before.desk)

-- the sweeps released are the same
pub pumped_sweeps : (venue : ℕ) (before after : KeptDesk) → Pumps venue before after
    → after.desk.sweeps ≡ before.desk.sweeps
pumped_sweeps venue before after pumps = (only_pumped venue before after pumps).sweeps

-- what is kept under the lock is kept by a pump
pub pumped_locked : (queues : List TableId) (venue : ℕ) (before after : KeptDesk) (total : ℕ) (feeds : List Port)
    (old new : Port) → IsLocked queues before total feeds → Pumps venue before after → slice_get feeds venue ≡ Some old
    → (new.table ≡ old.table) × (new.room ≡ old.room) → new.legs ≡ left_to after.desk venue
    → IsLocked queues after total (set feeds venue new)
pumped_locked queues venue before after total feeds old new locked pumps at ring legs =
    let only = only_pumped venue before after pumps in
    let calls = replicate pumps.moved (leaving before.desk venue) in
    record {
      few = locked.few;
      venues = ap (λ d. length d.venues) pumps.desk ∙ (same_venues before.desk calls ∙ locked.venues);
      replays = leads_on before after calls locked.replays pumps.desk pumps.history;
      counted = locked.counted ∙ ap (λ s. placed_count (record before.desk { sweeps = s })) (sym only.sweeps);
      many = length-set feeds venue new ∙ locked.many;
      fed = fed_set queues before.desk after.desk feeds venue old new only at ring.0 ring.1 legs locked.fed;
    }

-- and so is the list of the sweeps
pub pumped_side : {list name : ℕ} {items : List Sweep} (venue : ℕ) (before after : KeptDesk) → Pumps venue before after
    → IsDeskSide list before name items → IsDeskSide list after name items
pumped_side venue before after pumps side =
    record {
      named = side.named;
      releases = side.releases ∙ ap sweeps_of (sym (only_pumped venue before after pumps).sweeps);
    }

-- and the book of slips
pub pumped_book : {book name : ℕ} {given : List PlacedSweep} (venue : ℕ) (before after : KeptDesk)
    → Pumps venue before after → IsDeskBook book before name given → IsDeskBook book after name given
pumped_book venue before after pumps slips =
    record {
      named = slips.named;
      gives = slips.gives ∙ ap (placings_from 1) (sym (only_pumped venue before after pumps).sweeps);
    }
