-- No gate of a venue that is held goes up.
use Rattle.std.proofs.Common.{◌≡◌, ◌≢◌, ℕ, zero, suc, ◌<◌, ◌≤◌, Bool, true, false, ◌&&◌, ◌||◌, List, [], ◌∷◌, ◌++◌, length, replicate, set, Option, None, Result, Ok, Err, refl, ap, sym, ◌∙◌, subst, inl, inr, arith, if◌then◌else◌}
use Rattle.std.specs.Prelude.{◌==◌, nat_lt, slice_get, unwrap_or}
use Rattle.std.specs.List.{list_all}
use Rattle.std.proofs.lemmas.Bool.{and_parts, cases_eq, cases_lt, or_right, true≢false}
use Rattle.std.proofs.lemmas.List.{append-nil, get_or-set_other, get_or-set_same, get_or_past, length-set, set_past}
use Rattle.std.proofs.lemmas.Option.{unwrap_or-slice_get, slice_get_past}
use Rattle.leg.specs.Answering.{Answers}
use Rattle.leg.specs.declared.leg.Leg.{Leg}
use Rattle.leg.specs.declared.placed_leg.PlacedLeg.{PlacedLeg}
use Rattle.leg.specs.declared.sweep.Routed.{Routed}
use Rattle.order_limits.specs.declared.dollars.Dollars.{Dollars}
use Rattle.order_limits.specs.declared.over.Excess.{Excess}
use Rattle.order_limits.specs.Day.{judged_if}
use Rattle.order_limits.specs.Limits.{LimitParts}
use Rattle.sweep_release.specs.declared.desk_entry.DeskEntry.{DeskEntry}
use Rattle.sweep_release.specs.declared.desk_entry.DeskEntry.TheVariants as entry
use Rattle.sweep_release.specs.declared.gate.Gate.{Gate}
use Rattle.sweep_release.specs.declared.gate.Gate.TheVariants.{Up, Down, Shut}
use Rattle.sweep_release.specs.declared.gate_fault.GateFault.{GateFault}
use Rattle.sweep_release.specs.declared.gate_fault.GateFault.TheVariants.{OutOfMemory, NotDrained}
use Rattle.sweep_release.specs.declared.receipt.Receipt.{Receipt}
use Rattle.sweep_release.specs.declared.release_fault.ReleaseFault.{ReleaseFault}
use Rattle.sweep_release.specs.Desk.{DeskVenue, DeskParts, venue_at, gate_of, placed, placed_legs, is_up, is_shut, with_gate, gate_up_from, gate_up, gate_down, shut, leave_first, leave, with_sweep}
use Rattle.sweep_release.specs.History.{again, replay, history, DeskWithHistory, KeptDesk, without_room, with_entries, gate_up_entries, gate_down_entries, shut_entries}
use Rattle.sweep_release.proofs.Venues.{venue_at-this, venue_at-other, with_venue-past, gate_of-one_left}
use Rattle.release_lock.specs.declared.declined.Declined.{Declined}
use Rattle.release_lock.specs.declared.declined.Declined.TheVariants.{Over, Fault}
use Rattle.release_lock.specs.Held.{is_held, KeepsDown, down_below, is_lowering, OnlyLowers}
use Rattle.release_lock.specs.Locked.{is_turn, OnlyTurns, PumpsVenues, Releases, BecomesOf, ReleasesWithin, day_dollars}
use Rattle.release_lock.specs.Queues.{leaving, Pumps, PumpsIf, PumpsEach, is_for, raise}
use Rattle.release_lock.proofs.Placing.{outcome}
use Rattle.release_lock.proofs.Raising.{in_ring}
use Rattle.release_lock.proofs.Replaying.{same_venues}

-- ---- gates that only go down

-- what lowers a gate turns it

lowering_turns : (call : DeskEntry) → is_lowering call ≡ true → is_turn call ≡ true
lowering_turns (entry.Down venue) e = refl
lowering_turns (entry.Shut venue) e = refl
lowering_turns (entry.Up venue) e = refl
lowering_turns (entry.Released sweep) e = absurd cc
lowering_turns (entry.Taken venue) e = absurd cc
lowering_turns (entry.Dropped venue) e = absurd cc

both_true : (a b : Bool) → a ≡ true → b ≡ true → (a && b) ≡ true
both_true a b p q = ap (λ c. c && b) p ∙ q

all_turn : (calls : List DeskEntry) → list_all is_lowering calls ≡ true → list_all is_turn calls ≡ true
all_turn [] e = refl
all_turn (call ∷ calls) e =
    let parts = and_parts (is_lowering call) (list_all is_lowering calls) e in
    both_true (is_turn call) (list_all is_turn calls) (lowering_turns call parts.0) (all_turn calls parts.1)

pub lowers_turn : (before after : KeptDesk) → OnlyLowers before after → OnlyTurns before after
lowers_turn before after it = record {
  calls = it.calls;
  turns = all_turn it.calls it.lowers;
  desk = it.desk;
  history_is = it.history_is;
}

lowers_one : (before after : KeptDesk) (call : DeskEntry) (entries : List DeskEntry) → is_lowering call ≡ true
    → after.desk ≡ again before.desk call → after.history ≡ before.history ++ entries
    → history before.desk (call ∷ []) ≡ entries ++ [] → OnlyLowers before after
lowers_one before after call entries lowers desk written recorded = record {
  calls = call ∷ [];
  lowers = ap (λ b. b && true) lowers;
  desk = desk;
  history_is = written ∙ ap (λ l. before.history ++ l) (sym (recorded ∙ append-nil entries));
}

pub lowers_down : (before after : KeptDesk) (venue : ℕ) → after.desk ≡ gate_down before.desk venue
    → after.history ≡ before.history ++ gate_down_entries before.desk venue → OnlyLowers before after
lowers_down before after venue desk written =
    lowers_one before after (entry.Down venue) (gate_down_entries before.desk venue) refl desk written refl

pub lowers_shut : (before after : KeptDesk) (venue : ℕ) → after.desk ≡ shut before.desk venue
    → after.history ≡ before.history ++ shut_entries before.desk venue → OnlyLowers before after
lowers_shut before after venue desk written =
    lowers_one before after (entry.Shut venue) (shut_entries before.desk venue) refl desk written refl

-- the gates that aren't up stay so
abbrev StaysDown : DeskParts → DeskParts → Type 0
StaysDown before after = (venue : ℕ) → is_up (gate_of before venue) ≡ false → is_up (gate_of after venue) ≡ false

put : (desk : DeskParts) (venue : ℕ) (gate : Gate) → is_up gate ≡ false → StaysDown desk (with_gate venue gate desk)
put desk venue gate down other was =
    let now : DeskVenue = record { gate = gate; left = (venue_at desk venue).left } in
    elim (cases_eq other venue) [
      | inl same ↦
          elim (cases_lt venue (length desk.venues)) [
            | inl there ↦
                (ap (λ v. is_up (gate_of (with_gate venue gate desk) v)) same
                ∙ (ap (λ v. is_up v.gate) (venue_at-this venue now desk there) ∙ down))
            | inr past ↦ (ap (λ d. is_up (gate_of d other)) (with_venue-past venue now desk past) ∙ was)
          ]
      | inr differs ↦ (ap (λ v. is_up v.gate) (venue_at-other venue other now desk differs) ∙ was)
    ]

put_down : (desk : DeskParts) (venue : ℕ) (up : Bool) → StaysDown desk (if up then with_gate venue Down desk else desk)
put_down desk venue true = put desk venue Down refl
put_down desk venue false = λ other was. was

put_shut : (desk : DeskParts) (venue : ℕ) (done : Bool) → StaysDown desk (if done then desk else with_gate venue Shut desk)
put_shut desk venue true = λ other was. was
put_shut desk venue false = put desk venue Shut refl

one_lowers : (desk : DeskParts) (call : DeskEntry) → is_lowering call ≡ true → StaysDown desk (again desk call)
one_lowers desk (entry.Down venue) e = put_down desk venue (is_up (gate_of desk venue))
one_lowers desk (entry.Shut venue) e = put_shut desk venue (is_shut (gate_of desk venue))
one_lowers desk (entry.Up venue) e = absurd cc
one_lowers desk (entry.Released sweep) e = absurd cc
one_lowers desk (entry.Taken venue) e = absurd cc
one_lowers desk (entry.Dropped venue) e = absurd cc

all_lower : (desk : DeskParts) (calls : List DeskEntry) → list_all is_lowering calls ≡ true
    → StaysDown desk (replay desk calls)
all_lower desk [] e venue was = was
all_lower desk (call ∷ calls) e venue was =
    let parts = and_parts (is_lowering call) (list_all is_lowering calls) e in
    all_lower (again desk call) calls parts.1 venue (one_lowers desk call parts.0 venue was)

pub keeps_lowered : (halted : Bool) (paused : List Bool) (before after : KeptDesk) → OnlyLowers before after
    → KeepsDown halted paused before.desk → KeepsDown halted paused after.desk
keeps_lowered halted paused before after it keeps venue held =
    ap (λ d. is_up (gate_of d venue)) it.desk ∙ all_lower before.desk it.calls it.lowers venue (keeps venue held)

-- ---- gates that stay

abbrev SameGates : DeskParts → DeskParts → Type 0
SameGates before after = (venue : ℕ) → gate_of after venue ≡ gate_of before venue

pub keeps_same : (halted : Bool) (paused : List Bool) (before after : DeskParts) → SameGates before after
    → KeepsDown halted paused before → KeepsDown halted paused after
keeps_same halted paused before after same keeps venue held = ap is_up (same venue) ∙ keeps venue held

left_first : (desk : DeskParts) (venue : ℕ) (legs : List Leg) → SameGates desk (leave_first legs desk venue).1
left_first desk venue [] other = refl
left_first desk venue (leg ∷ legs) other = gate_of-one_left venue other desk

taken : (desk : DeskParts) (venue : ℕ) (up : Bool)
    → (let r : Option PlacedLeg × DeskParts = if up then leave desk venue else (None, desk) in SameGates desk r.1)
taken desk venue true = left_first desk venue (placed_legs desk venue)
taken desk venue false = λ other. refl

dropped : (desk : DeskParts) (venue : ℕ) (up : Bool)
    → (let r : Option PlacedLeg × DeskParts = if up then (None, desk) else leave desk venue in SameGates desk r.1)
dropped desk venue true = λ other. refl
dropped desk venue false = left_first desk venue (placed_legs desk venue)

one_left : (desk : DeskParts) (venue : ℕ) (up : Bool)
    → SameGates desk (again desk (if up then entry.Taken venue else entry.Dropped venue))
one_left desk venue true = taken desk venue (is_up (gate_of desk venue))
one_left desk venue false = dropped desk venue (is_up (gate_of desk venue))

all_left : (desk : DeskParts) (venue moved : ℕ) (up : Bool)
    → SameGates desk (replay desk (replicate moved (if up then entry.Taken venue else entry.Dropped venue)))
all_left desk venue zero up other = refl
all_left desk venue (suc moved) up other =
    let call = if up then entry.Taken venue else entry.Dropped venue in
    all_left (again desk call) venue moved up other ∙ one_left desk venue up other

pub pumped_gates : (venue : ℕ) (before after : KeptDesk) → Pumps venue before after → SameGates before.desk after.desk
pumped_gates venue before after pumps other =
    ap (λ d. gate_of d other) pumps.desk
    ∙ all_left before.desk venue pumps.moved (is_up (gate_of before.desk venue)) other

pumped_if : (is_so : Bool) (venue : ℕ) (before after : KeptDesk) → PumpsIf is_so venue before after
    → SameGates before.desk after.desk
pumped_if true venue before after out = pumped_gates venue before after out.pumps
pumped_if false venue before after same = λ other. ap (λ d. gate_of d.desk other) same

pumped_each : (named : ℕ → Bool) (venues : ℕ) (before after : KeptDesk) → PumpsEach named venues before after
    → SameGates before.desk after.desk
pumped_each named zero before after same other = ap (λ d. gate_of d.desk other) same
pumped_each named (suc venue) before after each other =
    pumped_if (named venue) venue each.0 after each.2 other ∙ pumped_each named venue before each.0 each.1 other

released : (legs : List Routed) (before : KeptDesk) (answer : Result Receipt ReleaseFault) (after : KeptDesk)
    → Releases legs before answer after → SameGates before.desk after.desk
released legs before (Ok receipt) after it other =
    pumped_each (λ venue. is_for venue legs) (length it.between.desk.venues) it.between after it.pumped other
    ∙ ap (λ d. gate_of d other) (outcome legs before it.between (Ok receipt) it.placed).desk
released legs before (Err fault) after it other =
    ap (λ d. gate_of d.desk other) it.pumped
    ∙ ap (λ d. gate_of d.desk other) (outcome legs before it.between (Err fault) it.placed)

becomes : (judged : Result Dollars Excess) (legs : List Routed) (before : KeptDesk) (answer : Result Receipt Declined)
    (after : KeptDesk) → BecomesOf judged legs before answer after → SameGates before.desk after.desk
becomes (Err excess) legs before answer after it other = ap (λ d. gate_of d.desk other) it.1
becomes (Ok day) legs before (Ok receipt) after it other = released legs before (Ok receipt) after it.0 other
becomes (Ok day) legs before (Err (Fault fault)) after it other = released legs before (Err fault) after it other
becomes (Ok day) legs before (Err (Over excess)) after it other = absurd it

pub released_gates : (limits : Option LimitParts) (legs : List Routed) (before : KeptDesk)
    (answer : Result Receipt Declined) (after : KeptDesk) → ReleasesWithin limits legs before answer after
    → SameGates before.desk after.desk
released_gates limits legs before answer after it =
    becomes (judged_if limits (day_dollars before) legs) legs before answer after it

-- ---- a gate that goes up

-- the gates of the other venues stay
abbrev OtherGates : ℕ → DeskParts → DeskParts → Type 0
OtherGates venue before after = (other : ℕ) → other ≢ venue → gate_of after other ≡ gate_of before other

others : (desk : DeskParts) (venue : ℕ) (gate : Gate) → OtherGates venue desk (with_gate venue gate desk)
others desk venue gate other differs =
    let now : DeskVenue = record { gate = gate; left = (venue_at desk venue).left } in
    ap (λ v. v.gate) (venue_at-other venue other now desk differs)

put_up : (desk : DeskParts) (venue : ℕ) (gate : Gate) (drained : Bool) → (placed desk venue == 0) ≡ drained
    → OtherGates venue desk (gate_up_from gate desk venue).1
put_up desk venue Up drained d = λ other differs. refl
put_up desk venue Shut drained d = λ other differs. refl
put_up desk venue Down true d = rw d (others desk venue Up)
put_up desk venue Down false d = rw d (λ other differs. refl)

raised_by : (before after : KeptDesk) (venue : ℕ) (step : Result (Unit {0}) GateFault × DeskParts)
    (answer : Result (Unit {0}) GateFault) → step.1 ≡ (gate_up before.desk venue).1
    → Answers OutOfMemory (without_room before)
    (with_entries (without_room before) (gate_up_entries before.desk venue) step) answer (without_room after)
    → OtherGates venue before.desk after.desk
raised_by before after venue (Err fault, desk) answer is answers other differs =
    ap (λ d. gate_of d.desk other) answers.1
    ∙ (ap (λ d. gate_of d other) is
    ∙ put_up before.desk venue (gate_of before.desk venue) (placed before.desk venue == 0) refl other differs)
raised_by before after venue (Ok done, desk) (Ok told) is answers other differs =
    ap (λ d. gate_of d.desk other) answers.1
    ∙ (ap (λ d. gate_of d other) is
    ∙ put_up before.desk venue (gate_of before.desk venue) (placed before.desk venue == 0) refl other differs)
raised_by before after venue (Ok done, desk) (Err fault) is answers other differs =
    ap (λ d. gate_of d.desk other) answers.1

raised_in : (before after : KeptDesk) (venue : ℕ) (waits : Bool) (answer : Result (Unit {0}) GateFault)
    → Answers OutOfMemory (without_room before)
    (if waits then (Err NotDrained, without_room before)
    else with_entries (without_room before) (gate_up_entries before.desk venue) (gate_up before.desk venue))
    answer (without_room after) → OtherGates venue before.desk after.desk
raised_in before after venue true answer answers = λ other differs. ap (λ d. gate_of d.desk other) answers.1
raised_in before after venue false answer answers =
    raised_by before after venue (gate_up before.desk venue) answer refl answers

-- the gate of a venue that isn't held goes up
pub keeps_raised : (halted : Bool) (paused : List Bool) (before after : KeptDesk) (venue popped : ℕ)
    (answer : Result (Unit {0}) GateFault) → is_held halted paused venue ≡ false
    → Answers OutOfMemory (without_room before) (raise (without_room before) venue popped) answer (without_room after)
    → KeepsDown halted paused before.desk → KeepsDown halted paused after.desk
keeps_raised halted paused before after venue popped answer free answers keeps other held =
    elim (cases_eq other venue) [
      | inl same ↦ absurd (true≢false (sym held ∙ (ap (is_held halted paused) same ∙ free)))
      | inr differs ↦
          (ap is_up (raised_in before after venue (in_ring (without_room before) venue popped) answer answers other differs)
          ∙ keeps other held)
    ]

-- ---- what is held, and what isn't any more

-- a venue that the desk hasn't got isn't up
past : (desk : DeskParts) (venue : ℕ) → length desk.venues ≤ venue → is_up (gate_of desk venue) ≡ false
past desk venue beyond =
    ap (λ o. is_up (let v : DeskVenue = unwrap_or o (record { gate = Shut; left = 0 }) in v.gate))
    (slice_get_past desk.venues venue beyond)

down_here : (desk : DeskParts) (venue : ℕ) (up : Bool) → is_up (gate_of desk venue) ≡ up
    → is_up (gate_of (if up then with_gate venue Down desk else desk) venue) ≡ false
down_here desk venue true e =
    let now : DeskVenue = record { gate = Down; left = (venue_at desk venue).left } in
    elim (cases_lt venue (length desk.venues)) [
      | inl there ↦ ap (λ v. is_up v.gate) (venue_at-this venue now desk there)
      | inr beyond ↦ absurd (true≢false (sym e ∙ past desk venue beyond))
    ]
down_here desk venue false e = e

down_at : (desk : DeskParts) (venue : ℕ) → is_up (gate_of (gate_down desk venue) venue) ≡ false
down_at desk venue = down_here desk venue (is_up (gate_of desk venue)) refl

-- a mark at another venue says nothing of this one
marked_other : (halted : Bool) (paused : List Bool) (venue other : ℕ) (mark : Bool) → other ≢ venue
    → is_held halted (set paused venue mark) other ≡ is_held halted paused other
marked_other halted paused venue other mark differs =
    ap (λ b. halted || b)
    (unwrap_or-slice_get (set paused venue mark) other false
    ∙ (get_or-set_other paused venue other mark false differs
    ∙ sym (unwrap_or-slice_get paused other false)))

pub keeps_paused : (halted : Bool) (paused : List Bool) (before after : DeskParts) (venue : ℕ)
    → after ≡ gate_down before venue → KeepsDown halted paused before
    → KeepsDown halted (set paused venue true) after
keeps_paused halted paused before after venue is keeps other held =
    ap (λ d. is_up (gate_of d other)) is
    ∙ elim (cases_eq other venue) [
      | inl same ↦ (ap (λ v. is_up (gate_of (gate_down before venue) v)) same ∙ down_at before venue)
      | inr differs ↦
          put_down before venue (is_up (gate_of before venue)) other
          (keeps other (sym (marked_other halted paused venue other true differs) ∙ held))
    ]

unmarked : (paused : List Bool) (venue : ℕ) → unwrap_or (slice_get (set paused venue false) venue) false ≡ false
unmarked paused venue =
    unwrap_or-slice_get (set paused venue false) venue false
    ∙ elim (cases_lt venue (length paused)) [
      | inl there ↦ get_or-set_same paused venue false false there
      | inr beyond ↦ get_or_past (set paused venue false) venue false
          (let l = length-set paused venue false in omega (arith, l, beyond))
    ]

still_held : (halted : Bool) (paused : List Bool) (venue other : ℕ)
    → is_held halted (set paused venue false) other ≡ true → is_held halted paused other ≡ true
still_held true paused venue other held = refl
still_held false paused venue other held =
    elim (cases_eq other venue) [
      | inl same ↦
          absurd (true≢false (sym held
          ∙ (ap (λ v. unwrap_or (slice_get (set paused venue false) v) false) same ∙ unmarked paused venue)))
      | inr differs ↦ (sym (marked_other false paused venue other false differs) ∙ held)
    ]

pub keeps_unpaused : (halted : Bool) (paused : List Bool) (desk : DeskParts) (venue : ℕ) → KeepsDown halted paused desk
    → KeepsDown halted (set paused venue false) desk
keeps_unpaused halted paused desk venue keeps other held = keeps other (still_held halted paused venue other held)

pub keeps_resumed : (halted : Bool) (paused : List Bool) (desk : DeskParts) → KeepsDown halted paused desk
    → KeepsDown false paused desk
keeps_resumed halted paused desk keeps other held = keeps other (or_right halted _ held)

-- each gate below a number is down
below_down : (n : ℕ) (desk : DeskParts) (venue : ℕ) → venue < n → is_up (gate_of (down_below n desk) venue) ≡ false
below_down zero desk venue low = absurd (omega (arith, low))
below_down (suc n) desk venue low =
    elim (cases_eq venue n) [
      | inl same ↦
          (ap (λ v. is_up (gate_of (gate_down (down_below n desk) n) v)) same ∙ down_at (down_below n desk) n)
      | inr differs ↦
          put_down (down_below n desk) n (is_up (gate_of (down_below n desk) n)) venue
          (below_down n desk venue (omega (arith, low, differs)))
    ]

as_many : (n : ℕ) (desk : DeskParts) → length (down_below n desk).venues ≡ length desk.venues
as_many zero desk = refl
as_many (suc n) desk = same_venues (down_below n desk) (entry.Down n ∷ []) ∙ as_many n desk

pub keeps_halted : (halted : Bool) (paused : List Bool) (before after : DeskParts)
    → after ≡ down_below (length before.venues) before → KeepsDown halted paused after
keeps_halted halted paused before after is venue held =
    ap (λ d. is_up (gate_of d venue)) is
    ∙ elim (cases_lt venue (length before.venues)) [
      | inl there ↦ below_down (length before.venues) before venue there
      | inr beyond ↦ past (down_below (length before.venues) before) venue
          (let l = as_many (length before.venues) before in omega (arith, l, beyond))
    ]
