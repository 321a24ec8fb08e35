-- The desk and its calls. Each call gives its answer, and the desk after it.
use Rattle.std.specs.Prelude.{ℕ, suc, ◌+◌, Bool, true, false, not, ◌||◌, List, [], ◌∷◌, ◌++◌, length, drop, replicate, sum_by, Option, Some, None, Result, Ok, Err, unwrap_or, slice_get, slice_set, ◌==◌, nat_le, nat_lt, if◌then◌else◌}
use Rattle.leg.specs.Refusing.{◌or_then◌, refused_if}
use Rattle.leg.specs.declared.leg.Leg.{Leg}
use Rattle.leg.specs.declared.placed_leg.PlacedLeg.{PlacedLeg}
use Rattle.leg.specs.declared.sweep.Routed.{Routed}
use Rattle.share_ledger.specs.Entries.{sweep_shares}
use Rattle.sweep_release.specs.declared.gate.Gate.{Gate}
use Rattle.sweep_release.specs.declared.gate.Gate.TheVariants.{Up, Down, Shut}
use Rattle.sweep_release.specs.declared.gate_fault.GateFault.{GateFault}
use Rattle.sweep_release.specs.declared.gate_fault.GateFault.TheVariants.{NotDrained, Closed}
use Rattle.sweep_release.specs.declared.receipt.Receipt.{Receipt}
use Rattle.sweep_release.specs.declared.release_fault.ReleaseFault.{ReleaseFault}
use Rattle.sweep_release.specs.declared.release_fault.ReleaseFault.TheVariants.{Empty, TooManyLegs, UnknownVenue, GateShut, BacklogFull, SweepsSpent}
use Rattle.sweep_release.specs.Released.{released}

-- a venue: its gate, and how many of its legs left the desk, taken or dropped
pub record DeskVenue : Type 0 where
  pub gate : Gate
  pub left : ℕ

-- the desk: the sweeps released, in the order of their numbers, which begin at 1, and its venues
pub record DeskParts : Type 0 where
  pub sweeps : List (List Routed)
  pub venues : List DeskVenue

-- a desk of so many venues, all gates down
abbrev pub new_desk : ℕ → DeskParts
new_desk venues = record { sweeps = []; venues = replicate venues (record { gate = Down; left = 0 }) }

-- a venue; one that the desk hasn't got is shut, and nothing ever left for it
abbrev pub venue_at : DeskParts → ℕ → DeskVenue
venue_at desk venue = unwrap_or (slice_get desk.venues venue) (record { gate = Shut; left = 0 })

-- the desk with this in the venue's place
abbrev pub with_venue : ℕ → DeskVenue → DeskParts → DeskParts
with_venue venue now desk = record desk { venues = slice_set desk.venues venue now }

-- the gate of a venue
abbrev pub gate_of : DeskParts → ℕ → Gate
gate_of desk venue = (venue_at desk venue).gate

-- the legs placed at a venue: those released to it and neither taken nor dropped, the next one first
abbrev pub placed_legs : DeskParts → ℕ → List Leg
placed_legs desk venue = drop (venue_at desk venue).left (released venue desk.sweeps)

-- how many there are
abbrev pub placed : DeskParts → ℕ → ℕ
placed desk venue = length (placed_legs desk venue)

-- the shares of all sweeps released
abbrev pub placed_shares : DeskParts → ℕ
placed_shares desk = sum_by sweep_shares desk.sweeps

-- the refusal that names the venue of the first leg that fails a test
abbrev pub refused_at : (ℕ → ReleaseFault) → (ℕ → Bool) → List Routed → Option ReleaseFault
refused_at fault fails [] = None
refused_at fault fails (routed ∷ legs) =
    if fails routed.venue
    then Some (fault routed.venue)
    else refused_at fault fails legs

-- whether legs may be released to a venue and taken to it
abbrev pub is_up : Gate → Bool
is_up Up = true
is_up _ = false

-- how many of these orders are for a venue
abbrev pub count_to : ℕ → List Routed → ℕ
count_to venue [] = 0
count_to venue (routed ∷ legs) = if routed.venue == venue then suc (count_to venue legs) else count_to venue legs

-- the refusal of the first leg for which the legs placed at its venue, with the sweep's up to it, are more than 256
abbrev pub backlog_refusal : DeskParts → List Routed → List Routed → Option ReleaseFault
backlog_refusal desk before [] = None
backlog_refusal desk before (routed ∷ legs) =
    if nat_lt 256 (placed desk routed.venue + count_to routed.venue before + 1)
    then Some (BacklogFull routed.venue)
    else backlog_refusal desk (before ++ routed ∷ []) legs

-- whether no number is left for a sweep of so many shares, or the shares released in all would pass 10^18
abbrev pub is_spent : DeskParts → ℕ → Bool
is_spent desk shares =
    nat_le 999999999999 (length desk.sweeps) || nat_lt 1000000000000000000 (placed_shares desk + shares)

-- the first refusal of a sweep, each tried over all legs before the next
abbrev pub release_refusal : DeskParts → List Routed → Option ReleaseFault
release_refusal desk legs =
    refused_if (length legs == 0) Empty
    or_then (refused_if (nat_lt 32 (length legs)) TooManyLegs
    or_then (refused_at UnknownVenue (λ venue. nat_le (length desk.venues) venue) legs
    or_then (refused_at GateShut (λ venue. not (is_up (gate_of desk venue))) legs
    or_then (backlog_refusal desk [] legs
    or_then refused_if (is_spent desk (sweep_shares legs)) SweepsSpent))))

-- the number that the next sweep has
abbrev pub next_number : DeskParts → ℕ
next_number desk = length desk.sweeps + 1

-- the desk with one more sweep
abbrev pub with_sweep : List Routed → DeskParts → DeskParts
with_sweep legs desk = record desk { sweeps = desk.sweeps ++ legs ∷ [] }

-- a sweep that isn't refused is released whole, under the next number
abbrev pub release_unless : Option ReleaseFault → DeskParts → List Routed → Result Receipt ReleaseFault × DeskParts
release_unless (Some fault) desk legs = (Err fault, desk)
release_unless None desk legs =
    (Ok (record { number = next_number desk; shares = sweep_shares legs }), with_sweep legs desk)

abbrev pub release : DeskParts → List Routed → Result Receipt ReleaseFault × DeskParts
release desk legs = release_unless (release_refusal desk legs) desk legs

-- asking whether a sweep is ready is refused as its release is, and changes nothing
abbrev pub ready_unless : Option ReleaseFault → DeskParts → Result (Unit {0}) ReleaseFault × DeskParts
ready_unless (Some fault) desk = (Err fault, desk)
ready_unless None desk = (Ok tt, desk)

abbrev pub ready : DeskParts → List Routed → Result (Unit {0}) ReleaseFault × DeskParts
ready desk legs = ready_unless (release_refusal desk legs) desk

-- the desk with a venue's gate put so
abbrev pub with_gate : ℕ → Gate → DeskParts → DeskParts
with_gate venue gate desk = with_venue venue (record { gate = gate; left = (venue_at desk venue).left }) desk

-- a gate is put up, if it is down and nothing is placed; one that is up stays so
abbrev pub gate_up_from : Gate → DeskParts → ℕ → Result (Unit {0}) GateFault × DeskParts
gate_up_from Up desk venue = (Ok tt, desk)
gate_up_from Shut desk venue = (Err Closed, desk)
gate_up_from Down desk venue =
    if placed desk venue == 0 then (Ok tt, with_gate venue Up desk) else (Err NotDrained, desk)

abbrev pub gate_up : DeskParts → ℕ → Result (Unit {0}) GateFault × DeskParts
gate_up desk venue = gate_up_from (gate_of desk venue) desk venue

-- a gate that is up is put down
abbrev pub gate_down : DeskParts → ℕ → DeskParts
gate_down desk venue = if is_up (gate_of desk venue) then with_gate venue Down desk else desk

-- whether a gate is shut for good
abbrev pub is_shut : Gate → Bool
is_shut Shut = true
is_shut _ = false

-- a gate is shut, for good
abbrev pub shut : DeskParts → ℕ → DeskParts
shut desk venue = if is_shut (gate_of desk venue) then desk else with_gate venue Shut desk

-- one more leg left for a venue
abbrev pub one_left : ℕ → DeskParts → DeskParts
one_left venue desk =
    with_venue venue (record { gate = gate_of desk venue; left = (venue_at desk venue).left + 1 }) desk

-- the next leg, of those that are placed, leaves with its ordinal: which of the venue's released legs it is, from 1
abbrev pub leave_first : List Leg → DeskParts → ℕ → Option PlacedLeg × DeskParts
leave_first [] desk venue = (None, desk)
leave_first (leg ∷ legs) desk venue =
    (Some (record { ordinal = (venue_at desk venue).left + 1; leg = leg }), one_left venue desk)

abbrev pub leave : DeskParts → ℕ → Option PlacedLeg × DeskParts
leave desk venue = leave_first (placed_legs desk venue) desk venue

-- the next leg of a venue, whatever its gate: that which leaves next
abbrev pub next_leg : DeskParts → ℕ → Option PlacedLeg
next_leg desk venue = (leave desk venue).0

-- the next leg is taken, while the gate is up
abbrev pub take : DeskParts → ℕ → Option PlacedLeg × DeskParts
take desk venue = if is_up (gate_of desk venue) then leave desk venue else (None, desk)

-- the next leg is dropped, while the gate is down or shut
abbrev pub drop_next : DeskParts → ℕ → Option PlacedLeg × DeskParts
drop_next desk venue = if is_up (gate_of desk venue) then (None, desk) else leave desk venue
