-- What each call makes of the desk.
use Rattle.std.proofs.Common.{◌≡◌, ℕ, Bool, true, false, List, [], ◌∷◌, ◌++◌, Option, Some, None, refl, ap, sym, ◌∙◌, if◌then◌else◌}
use Rattle.std.specs.Prelude.{◌==◌}
use Rattle.leg.specs.declared.leg.Leg.{Leg}
use Rattle.leg.specs.declared.placed_leg.PlacedLeg.{PlacedLeg}
use Rattle.leg.specs.declared.sweep.Routed.{Routed}
use Rattle.sweep_release.specs.declared.desk_entry.DeskEntry.{DeskEntry}
use Rattle.sweep_release.specs.declared.desk_entry.DeskEntry.TheVariants as entry
use Rattle.sweep_release.specs.declared.gate.Gate.{Gate}
use Rattle.sweep_release.specs.declared.gate.Gate.TheVariants.{Up, Down, Shut}
use Rattle.sweep_release.specs.declared.release_fault.ReleaseFault.{ReleaseFault}
use Rattle.sweep_release.specs.Desk.{DeskParts, gate_of, placed_legs, placed, is_up, is_shut, release_refusal, release_unless, release, with_gate, gate_up_from, gate_up, gate_down, shut, one_left, leave_first, leave, take, drop_next}
use Rattle.sweep_release.specs.History.{again, replay, release_entries, gate_up_entries_from, gate_up_entries, gate_down_entries, shut_entries, left_entries, take_entries, drop_next_entries, recorded, history}

-- the desk after a call is the one before, or it has one more sweep, another gate, or one more leg left
pub data IsStep (desk after : DeskParts) : Type 0 where
  stays : after ≡ desk → IsStep desk after
  releases : (legs : List Routed) → release_refusal desk legs ≡ None → after ≡ record desk { sweeps = desk.sweeps ++ legs ∷ [] } → IsStep desk after
  turns : (venue : ℕ) (gate : Gate) → (gate_of desk venue ≡ Shut → gate ≡ Shut) → after ≡ with_gate venue gate desk → IsStep desk after
  leaves : (venue : ℕ) (leg : Leg) (legs : List Leg) → placed_legs desk venue ≡ leg ∷ legs → after ≡ one_left venue desk → IsStep desk after

release_step : (desk : DeskParts) (legs : List Routed) (refusal : Option ReleaseFault) → release_refusal desk legs ≡ refusal → IsStep desk (release_unless refusal desk legs).1
release_step desk legs (Some fault) e = stays refl
release_step desk legs None e = releases legs e refl

gate_up_step : (desk : DeskParts) (venue : ℕ) (gate : Gate) (drained : Bool) → gate_of desk venue ≡ gate → (placed desk venue == 0) ≡ drained → IsStep desk (gate_up_from gate desk venue).1
gate_up_step desk venue Up drained e d = stays refl
gate_up_step desk venue Shut drained e d = stays refl
gate_up_step desk venue Down true e d = turns venue Up (λ h. cc) (rw d refl)
gate_up_step desk venue Down false e d = stays (rw d refl)

gate_down_step : (desk : DeskParts) (venue : ℕ) (gate : Gate) → gate_of desk venue ≡ gate → IsStep desk (if is_up gate then with_gate venue Down desk else desk)
gate_down_step desk venue Up e = turns venue Down (λ h. cc) refl
gate_down_step desk venue Down e = stays refl
gate_down_step desk venue Shut e = stays refl

shut_step : (desk : DeskParts) (venue : ℕ) (gate : Gate) → IsStep desk (if is_shut gate then desk else with_gate venue Shut desk)
shut_step desk venue Up = turns venue Shut (λ h. refl) refl
shut_step desk venue Down = turns venue Shut (λ h. refl) refl
shut_step desk venue Shut = stays refl

leave_step : (desk : DeskParts) (venue : ℕ) (legs : List Leg) → placed_legs desk venue ≡ legs → IsStep desk (leave_first legs desk venue).1
leave_step desk venue [] e = stays refl
leave_step desk venue (leg ∷ legs) e = leaves venue leg legs e refl

take_step : (desk : DeskParts) (venue : ℕ) (b : Bool) → (let r : Option PlacedLeg × DeskParts = if b then leave desk venue else (None, desk) in IsStep desk r.1)
take_step desk venue true = leave_step desk venue (placed_legs desk venue) refl
take_step desk venue false = stays refl

drop_step : (desk : DeskParts) (venue : ℕ) (b : Bool) → (let r : Option PlacedLeg × DeskParts = if b then (None, desk) else leave desk venue in IsStep desk r.1)
drop_step desk venue true = stays refl
drop_step desk venue false = leave_step desk venue (placed_legs desk venue) refl

pub step : (desk : DeskParts) (call : DeskEntry) → IsStep desk (again desk call)
step desk (entry.Released sweep) = release_step desk sweep.legs (release_refusal desk sweep.legs) refl
step desk (entry.Up venue) = gate_up_step desk venue (gate_of desk venue) (placed desk venue == 0) refl refl
step desk (entry.Down venue) = gate_down_step desk venue (gate_of desk venue) refl
step desk (entry.Shut venue) = shut_step desk venue (gate_of desk venue)
step desk (entry.Taken venue) = take_step desk venue (is_up (gate_of desk venue))
step desk (entry.Dropped venue) = drop_step desk venue (is_up (gate_of desk venue))

-- a call's entries lead to the desk after it

release_replayed : (desk : DeskParts) (legs : List Routed) (refusal : Option ReleaseFault) → release_refusal desk legs ≡ refusal → replay desk (release_entries legs (release_unless refusal desk legs).0) ≡ (release_unless refusal desk legs).1
release_replayed desk legs None e = ap (λ r. (release_unless r desk legs).1) e
release_replayed desk legs (Some fault) e = refl

pub replayed-release : (desk : DeskParts) (legs : List Routed) → replay desk (release_entries legs (release desk legs).0) ≡ (release desk legs).1
replayed-release desk legs = release_replayed desk legs (release_refusal desk legs) refl

gate_up_replayed : (desk : DeskParts) (venue : ℕ) (gate : Gate) (drained : Bool) → gate_of desk venue ≡ gate → (placed desk venue == 0) ≡ drained → replay desk (gate_up_entries_from gate desk venue) ≡ (gate_up_from gate desk venue).1
gate_up_replayed desk venue Up drained e d = refl
gate_up_replayed desk venue Shut drained e d = refl
gate_up_replayed desk venue Down true e d = rw d (ap (λ g. (gate_up_from g desk venue).1) e ∙ rw d refl)
gate_up_replayed desk venue Down false e d = rw d refl

pub replayed-gate_up : (desk : DeskParts) (venue : ℕ) → replay desk (gate_up_entries desk venue) ≡ (gate_up desk venue).1
replayed-gate_up desk venue = gate_up_replayed desk venue (gate_of desk venue) (placed desk venue == 0) refl refl

gate_down_replayed : (desk : DeskParts) (venue : ℕ) (b : Bool) → is_up (gate_of desk venue) ≡ b → replay desk (if b then entry.Down venue ∷ [] else []) ≡ (if b then with_gate venue Down desk else desk)
gate_down_replayed desk venue true e = rw e refl
gate_down_replayed desk venue false e = refl

pub replayed-gate_down : (desk : DeskParts) (venue : ℕ) → replay desk (gate_down_entries desk venue) ≡ gate_down desk venue
replayed-gate_down desk venue = gate_down_replayed desk venue (is_up (gate_of desk venue)) refl

shut_replayed : (desk : DeskParts) (venue : ℕ) (b : Bool) → is_shut (gate_of desk venue) ≡ b → replay desk (if b then [] else entry.Shut venue ∷ []) ≡ (if b then desk else with_gate venue Shut desk)
shut_replayed desk venue true e = refl
shut_replayed desk venue false e = rw e refl

pub replayed-shut : (desk : DeskParts) (venue : ℕ) → replay desk (shut_entries desk venue) ≡ shut desk venue
replayed-shut desk venue = shut_replayed desk venue (is_shut (gate_of desk venue)) refl

-- where no leg leaves, the desk stays
none_left : (desk : DeskParts) (venue : ℕ) (legs : List Leg) → (leave_first legs desk venue).0 ≡ None → (leave_first legs desk venue).1 ≡ desk
none_left desk venue [] e = refl
none_left desk venue (leg ∷ legs) e = cc

none_taken : (desk : DeskParts) (venue : ℕ) (b : Bool) → (let r : Option PlacedLeg × DeskParts = if b then leave desk venue else (None, desk) in r.0 ≡ None → r.1 ≡ desk)
none_taken desk venue true = none_left desk venue (placed_legs desk venue)
none_taken desk venue false = λ e. refl

none_dropped : (desk : DeskParts) (venue : ℕ) (b : Bool) → (let r : Option PlacedLeg × DeskParts = if b then (None, desk) else leave desk venue in r.0 ≡ None → r.1 ≡ desk)
none_dropped desk venue true = λ e. refl
none_dropped desk venue false = none_left desk venue (placed_legs desk venue)

pub unchanged-take : (desk : DeskParts) (venue : ℕ) → (take desk venue).0 ≡ None → (take desk venue).1 ≡ desk
unchanged-take desk venue = none_taken desk venue (is_up (gate_of desk venue))

pub unchanged-drop_next : (desk : DeskParts) (venue : ℕ) → (drop_next desk venue).0 ≡ None → (drop_next desk venue).1 ≡ desk
unchanged-drop_next desk venue = none_dropped desk venue (is_up (gate_of desk venue))

take_replayed : (desk : DeskParts) (venue : ℕ) (leg : Option PlacedLeg) → (take desk venue).0 ≡ leg → replay desk (left_entries (entry.Taken venue) leg) ≡ (take desk venue).1
take_replayed desk venue (Some leg) e = refl
take_replayed desk venue None e = sym (unchanged-take desk venue e)

pub replayed-take : (desk : DeskParts) (venue : ℕ) → replay desk (take_entries desk venue) ≡ (take desk venue).1
replayed-take desk venue = take_replayed desk venue (take desk venue).0 refl

drop_replayed : (desk : DeskParts) (venue : ℕ) (leg : Option PlacedLeg) → (drop_next desk venue).0 ≡ leg → replay desk (left_entries (entry.Dropped venue) leg) ≡ (drop_next desk venue).1
drop_replayed desk venue (Some leg) e = refl
drop_replayed desk venue None e = sym (unchanged-drop_next desk venue e)

pub replayed-drop_next : (desk : DeskParts) (venue : ℕ) → replay desk (drop_next_entries desk venue) ≡ (drop_next desk venue).1
replayed-drop_next desk venue = drop_replayed desk venue (drop_next desk venue).0 refl

-- the history of a list of calls leads to the desk after them

replay-append : (desk : DeskParts) (xs ys : List DeskEntry) → replay desk (xs ++ ys) ≡ replay (replay desk xs) ys
replay-append desk [] ys = refl
replay-append desk (call ∷ xs) ys = replay-append (again desk call) xs ys

replayed-recorded : (desk : DeskParts) (call : DeskEntry) → replay desk (recorded desk call) ≡ again desk call
replayed-recorded desk (entry.Released sweep) = replayed-release desk sweep.legs
replayed-recorded desk (entry.Up venue) = replayed-gate_up desk venue
replayed-recorded desk (entry.Down venue) = replayed-gate_down desk venue
replayed-recorded desk (entry.Shut venue) = replayed-shut desk venue
replayed-recorded desk (entry.Taken venue) = replayed-take desk venue
replayed-recorded desk (entry.Dropped venue) = replayed-drop_next desk venue

pub replayed-history : (desk : DeskParts) (calls : List DeskEntry) → replay desk (history desk calls) ≡ replay desk calls
replayed-history desk [] = refl
replayed-history desk (call ∷ calls) =
    replay-append desk (recorded desk call) (history (again desk call) calls)
    ∙ (ap (λ d. replay d (history (again desk call) calls)) (replayed-recorded desk call)
    ∙ replayed-history (again desk call) calls)
