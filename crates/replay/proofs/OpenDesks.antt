-- A desk that is made again: calls lead to it from a new one, and no gate of it is shut.
use Rattle.std.proofs.Common.{◌≡◌, ◌≢◌, ◌≤◌, ◌<◌, ◌+◌, ◌-◌, ◌==◌, ℕ, zero, suc, Bool, true, false, List, [], ◌∷◌, ◌++◌, length, take, drop, get_or, replicate, Option, Some, None, Result, Ok, Err, refl, sym, ap, subst, ◌∙◌, inl, inr, if◌then◌else◌, arith}
use Rattle.std.specs.Prelude.{slice_get, slice_set, unwrap_or}
use Rattle.std.specs.Result.{is_err}
use Rattle.std.proofs.lemmas.Bool.{cases_eq, cases_lt}
use Rattle.std.proofs.lemmas.List.{length-set, length-drop, append_assoc, drop_more}
use Rattle.leg.specs.Answering.{Answers}
use Rattle.leg.specs.declared.leg.Leg.{Leg}
use Rattle.leg.specs.declared.placed_leg.PlacedLeg.{PlacedLeg}
use Rattle.leg.specs.declared.sweep.Routed.{Routed}
use Rattle.leg.specs.declared.sweep.Sweep.{Sweep}
use Rattle.sweep_release.specs.declared.desk_entry.DeskEntry.{DeskEntry}
use Rattle.sweep_release.specs.declared.desk_entry.DeskEntry.TheVariants as entry
use Rattle.sweep_release.specs.declared.gate.Gate.{Gate}
use Rattle.sweep_release.specs.declared.gate.Gate.TheVariants.{Up, Down, Shut}
use Rattle.sweep_release.specs.declared.gate_fault.GateFault.{GateFault}
use Rattle.sweep_release.specs.declared.gate_fault.GateFault.TheVariants.{NotDrained}
use Rattle.sweep_release.specs.declared.receipt.Receipt.{Receipt}
use Rattle.sweep_release.specs.declared.release_fault.ReleaseFault.{ReleaseFault}
use Rattle.sweep_release.specs.Released.{released}
use Rattle.sweep_release.specs.Laws.{IsCounted}
use Rattle.sweep_release.specs.Kept.{released_sweeps}
use Rattle.sweep_release.specs.History.{DeskWithHistory, again, replay, with_entries}
use Rattle.sweep_release.specs.Desk.{DeskParts, DeskVenue, new_desk, venue_at, with_venue, gate_of, is_up, is_shut, placed_legs, placed, with_gate, gate_up_from, gate_up, gate_down, shut, one_left, leave_first, leave, drop_next, release_refusal, release_unless, release, with_sweep}
use Rattle.sweep_release.specs.Desk as desk
use Rattle.sweep_release.proofs.Backlog.{counted-replay}
use Rattle.sweep_release.proofs.Venues.{venue_at-this, venue_at-other, gate_of-one_left}
use Rattle.venue_replay.proofs.WorldAfter.{set_same}
use Rattle.replay.specs.Ruling.{IsOpenDesk}
use Rattle.replay.proofs.DispatcherHappens.{set_again}

-- a call that answers Ok leads to the desk that it names
pub ok_desk : {X F : Type 0} (wanting : F) (before : DeskWithHistory) (entries : List DeskEntry)
    (step : Result X F × DeskParts) (y : X) (now : DeskWithHistory)
    → Answers wanting before (with_entries before entries step) (Ok y) now → now.desk ≡ step.1
ok_desk wanting before entries (Ok x, after) y now answers = ap (λ (d : DeskWithHistory). d.desk) answers.1
ok_desk wanting before entries (Err fault, after) y now answers = absurd (let e = answers.0 in cc)

pub call_desk : {X F : Type 0} (wanting : F) (before : DeskWithHistory) (entries : List DeskEntry)
    (step : Result X F × DeskParts) (result : Result X F) (now : DeskWithHistory) → is_err result ≡ false
    → Answers wanting before (with_entries before entries step) result now → now.desk ≡ step.1
call_desk wanting before entries step (Ok y) now ok answers = ok_desk wanting before entries step y now answers
call_desk wanting before entries step (Err fault) now ok answers = absurd cc

released_by : (wanting : ReleaseFault) (before : DeskWithHistory) (entries : List DeskEntry) (d : DeskParts)
    (legs : List Routed) (refusal : Option ReleaseFault) (result : Result Receipt ReleaseFault) (now : DeskWithHistory)
    → is_err result ≡ false
    → Answers wanting before (with_entries before entries (release_unless refusal d legs)) result now
    → (release_unless refusal d legs).1 ≡ with_sweep legs d
released_by wanting before entries d legs None (Ok receipt) now ok answers = refl
released_by wanting before entries d legs (Some fault) (Ok receipt) now ok answers = absurd (let e = answers.0 in cc)
released_by wanting before entries d legs refusal (Err fault) now ok answers = absurd cc

-- calls, one behind the other
replay_more : (d : DeskParts) (entries : List DeskEntry) (e : DeskEntry)
    → replay d (entries ++ e ∷ []) ≡ again (replay d entries) e
replay_more d [] e = refl
replay_more d (x ∷ entries) e = replay_more (again d x) entries e

pub made_more : (d now : DeskParts) (e : DeskEntry) → IsOpenDesk d → now ≡ again d e
    → ((v : ℕ) → v < length now.venues → is_shut (gate_of now v) ≡ false) → IsOpenDesk now
made_more d now e is so none = record {
  venues = is.venues;
  entries = is.entries ++ e ∷ [];
  made = so ∙ (ap (λ x. again x e) is.made ∙ sym (replay_more (new_desk is.venues) is.entries e));
  none_shut = none;
}

pub open_counted : (d : DeskParts) → IsOpenDesk d → (v : ℕ) → IsCounted d v
open_counted d is v =
    subst (λ x. IsCounted x v) (sym is.made) (counted-replay is.venues is.entries v)

-- a new desk
pub new_gate : (n v : ℕ) → v < n → (let d : DeskParts = record { sweeps = []; venues = replicate n (record { gate = Down; left = 0 }) } in is_shut (gate_of d v)) ≡ false
new_gate zero v low = absurd (omega arith)
new_gate (suc n) zero low = refl
new_gate (suc n) (suc v) low = new_gate n v (omega arith)

length_replicate : {A : Type 0} (n : ℕ) (x : A) → length (replicate n x) ≡ n
length_replicate zero x = refl
length_replicate (suc n) x = ap suc (length_replicate n x)

pub new_count : (n : ℕ) → length (new_desk n).venues ≡ n
new_count n = length_replicate n _

pub open_new : (d : DeskParts) (n : ℕ) → d ≡ new_desk n → IsOpenDesk d
open_new d n is = record {
  venues = n;
  entries = [];
  made = is;
  none_shut = λ v low.
      (let here : v < n = subst (λ k. v < k) (ap (λ (x : DeskParts). length x.venues) is ∙ new_count n) low in
      ap (λ x. is_shut (gate_of x v)) is ∙ new_gate n v here);
}

-- a gate goes up
gate_put : (d : DeskParts) (v : ℕ) (gate : Gate) (u : ℕ) → u < length d.venues → is_shut gate ≡ false
    → is_shut (gate_of d u) ≡ false → is_shut (gate_of (with_gate v gate d) u) ≡ false
gate_put d v gate u low unshut was =
    let now : DeskVenue = record { gate = gate; left = (venue_at d v).left } in
    elim (cases_eq u v) [
      | inl same ↦
          (let there : v < length d.venues = subst (λ k. k < length d.venues) same low in
          ap (λ k. is_shut (gate_of (with_gate v gate d) k)) same
          ∙ (ap (λ (x : DeskVenue). is_shut x.gate) (venue_at-this v now d there) ∙ unshut))
      | inr differs ↦ ap (λ (x : DeskVenue). is_shut x.gate) (venue_at-other v u now d differs) ∙ was
    ]

record StaysOpen (d after : DeskParts) : Type 0 where
  pub sweeps : after.sweeps ≡ d.sweeps
  pub count : length after.venues ≡ length d.venues
  pub none : (u : ℕ) → u < length d.venues → is_shut (gate_of d u) ≡ false → is_shut (gate_of after u) ≡ false

stays_same : (d : DeskParts) → StaysOpen d d
stays_same d = record { sweeps = refl; count = refl; none = λ u low was. was }

put_stays : (d : DeskParts) (v : ℕ) (gate : Gate) → is_shut gate ≡ false → StaysOpen d (with_gate v gate d)
put_stays d v gate unshut = record {
  sweeps = refl;
  count = length-set d.venues v _;
  none = λ u low was. gate_put d v gate u low unshut was;
}

up_stays_from : (d : DeskParts) (v : ℕ) (gate : Gate) → StaysOpen d (gate_up_from gate d v).1
up_stays_from d v Up = stays_same d
up_stays_from d v Shut = stays_same d
up_stays_from d v Down = up_if (placed d v == 0)
  where
    up_if : (b : Bool)
        → StaysOpen d
        ((let r : Result (Unit {0}) GateFault × DeskParts =
        if b then (Ok tt, with_gate v Up d) else (Err NotDrained, d) in r).1)
    up_if true = put_stays d v Up refl
    up_if false = stays_same d

-- a leg leaves
left_stays : (d : DeskParts) (v : ℕ) → StaysOpen d (one_left v d)
left_stays d v = record {
  sweeps = refl;
  count = length-set d.venues v _;
  none = λ u low was. ap is_shut (gate_of-one_left v u d) ∙ was;
}

leave_stays : (d : DeskParts) (v : ℕ) (legs : List Leg) → StaysOpen d (leave_first legs d v).1
leave_stays d v [] = stays_same d
leave_stays d v (leg ∷ legs) = left_stays d v

take_stays : (d : DeskParts) (v : ℕ) (up : Bool)
    → StaysOpen d ((let r : Option PlacedLeg × DeskParts = if up then leave d v else (None, d) in r).1)
take_stays d v true = leave_stays d v (placed_legs d v)
take_stays d v false = stays_same d

open_after : (d now : DeskParts) (e : DeskEntry) → IsOpenDesk d → now ≡ again d e → StaysOpen d (again d e)
    → IsOpenDesk now
open_after d now e is so stays =
    made_more d now e is so
    (λ u low.
    (let here : u < length d.venues =
    subst (λ k. u < k) (ap (λ (x : DeskParts). length x.venues) so ∙ stays.count) low in
    ap (λ x. is_shut (gate_of x u)) so ∙ stays.none u here (is.none_shut u here)))

-- what is kept by a call
pub record IsNextOpen (d now : DeskParts) : Type 0 where
  pub sweeps : now.sweeps ≡ d.sweeps
  pub count : length now.venues ≡ length d.venues
  pub unshut : IsOpenDesk now

next_by : (d now : DeskParts) (e : DeskEntry) → IsOpenDesk d → now ≡ again d e → StaysOpen d (again d e)
    → IsNextOpen d now
next_by d now e is so stays = record {
  sweeps = ap (λ (x : DeskParts). x.sweeps) so ∙ stays.sweeps;
  count = ap (λ (x : DeskParts). length x.venues) so ∙ stays.count;
  unshut = open_after d now e is so stays;
}

pub up_next : (d now : DeskParts) (v : ℕ) → IsOpenDesk d → now ≡ (gate_up d v).1 → IsNextOpen d now
up_next d now v is so = next_by d now (entry.Up v) is so (up_stays_from d v (gate_of d v))

pub take_next : (d now : DeskParts) (v : ℕ) → IsOpenDesk d → now ≡ (desk.take d v).1 → IsNextOpen d now
take_next d now v is so = next_by d now (entry.Taken v) is so (take_stays d v (is_up (gate_of d v)))

-- a sweep is released
pub release_next : (d now : DeskParts) (legs : List Routed) → IsOpenDesk d → now ≡ (release d legs).1
    → (release d legs).1 ≡ with_sweep legs d → IsOpenDesk now
release_next d now legs is so whole =
    made_more d now (entry.Released (record { legs = legs })) is so
    (λ u low. ap (λ x. is_shut (gate_of x u)) (so ∙ whole) ∙ is.none_shut u (subst (λ (x : DeskParts). u < length x.venues) (so ∙ whole) low))

pub release_whole : (wanting : ReleaseFault) (before : DeskWithHistory) (entries : List DeskEntry) (d : DeskParts)
    (legs : List Routed) (result : Result Receipt ReleaseFault) (now : DeskWithHistory) → is_err result ≡ false
    → Answers wanting before (with_entries before entries (release d legs)) result now
    → (release d legs).1 ≡ with_sweep legs d
release_whole wanting before entries d legs result now ok answers =
    released_by wanting before entries d legs (release_refusal d legs) result now ok answers

-- what is left of the sweeps at an entry
no_sweep : (e : DeskEntry) (entries : List DeskEntry) → ((sweep : Sweep) → e ≡ entry.Released sweep → ⊥)
    → released_sweeps (e ∷ entries) ≡ released_sweeps entries
no_sweep (entry.Released sweep) entries other = absurd (other sweep refl)
no_sweep (entry.Up v) entries other = refl
no_sweep (entry.Down v) entries other = refl
no_sweep (entry.Shut v) entries other = refl
no_sweep (entry.Taken v) entries other = refl
no_sweep (entry.Dropped v) entries other = refl

entry_first : (entries : List DeskEntry) (at : ℕ) (e : DeskEntry) → at < length entries → e ≡ get_or entries at e
    → drop at entries ≡ e ∷ drop (at + 1) entries
entry_first entries at e low is = drop_more entries at e low ∙ ap (λ x. x ∷ drop (at + 1) entries) (sym is)

pub sweep_at : (entries : List DeskEntry) (at : ℕ) (e : DeskEntry) (sweep : Sweep) → at < length entries
    → e ≡ get_or entries at e → e ≡ entry.Released sweep
    → released_sweeps (drop at entries) ≡ sweep.legs ∷ released_sweeps (drop (at + 1) entries)
sweep_at entries at e sweep low is released =
    ap released_sweeps (entry_first entries at e low is)
    ∙ ap (λ x. released_sweeps (x ∷ drop (at + 1) entries)) released

pub no_sweep_at : (entries : List DeskEntry) (at : ℕ) (e : DeskEntry) → at < length entries → e ≡ get_or entries at e
    → ((sweep : Sweep) → e ≡ entry.Released sweep → ⊥)
    → released_sweeps (drop at entries) ≡ released_sweeps (drop (at + 1) entries)
no_sweep_at entries at e low is other =
    ap released_sweeps (entry_first entries at e low is) ∙ no_sweep e (drop (at + 1) entries) other

-- one sweep more, while some are to be taken, and none more then
pub far_more : (sweeps now rest all : List (List Routed)) (legs : List Routed) (left after : ℕ) → 0 < left
    → after ≡ left - 1 → now ≡ sweeps ++ legs ∷ [] → sweeps ++ take left (legs ∷ rest) ≡ all
    → now ++ take after rest ≡ all
far_more sweeps now rest all legs zero after some one so before = absurd (omega arith)
far_more sweeps now rest all legs (suc left) after some one so before =
    let same : after ≡ left = omega arith in
    (λ i. so i ++ take (same i) rest) ∙ (append_assoc sweeps (legs ∷ []) (take left rest) ∙ before)

pub far_over : (sweeps rest all : List (List Routed)) (legs : List Routed) (left : ℕ) → left ≡ 0
    → sweeps ++ take left (legs ∷ rest) ≡ all → sweeps ++ take left rest ≡ all
far_over sweeps rest all legs left none before =
    ap (λ n. sweeps ++ take n rest) none
    ∙ (ap (λ l. sweeps ++ l) (nothing rest)
    ∙ (ap (λ n. sweeps ++ take n (legs ∷ rest)) (sym none) ∙ before))
  where
    nothing : (xs : List (List Routed)) → take 0 xs ≡ []
    nothing [] = refl
    nothing (x ∷ xs) = refl

-- the start at a venue
set_there : (d : DeskParts) (v : ℕ) (x : DeskVenue) → v < length d.venues → venue_at d v ≡ x → with_venue v x d ≡ d
set_there d v x low is =
    (λ i. record d { venues = slice_set d.venues v (sym is i) }) ∙ (λ i. record d { venues = put i })
  where
    found : (venues : List DeskVenue) (k : ℕ) → k < length venues
        → slice_get venues k ≡ Some (unwrap_or (slice_get venues k) (let n : DeskVenue = record { gate = Shut; left = 0 } in n))
    found [] k low = absurd (omega arith)
    found (y ∷ venues) zero low = refl
    found (y ∷ venues) (suc k) low = found venues k (omega arith)

    put : slice_set d.venues v (venue_at d v) ≡ d.venues
    put = set_same d.venues v (venue_at d v) (found d.venues v low)

set_twice : (d : DeskParts) (v : ℕ) (x y : DeskVenue) → with_venue v y (with_venue v x d) ≡ with_venue v y d
set_twice d v x y = λ i. record d { venues = set_again d.venues v x y i }

abbrev pub at_left : ℕ → Gate → ℕ → DeskParts → DeskParts
at_left v gate left d = with_venue v (record { gate = gate; left = left }) d

down_by : (d : DeskParts) (v : ℕ) (gate : Gate) → gate_of d v ≡ gate → v < length d.venues → is_shut gate ≡ false
    → (if is_up gate then with_gate v Down d else d) ≡ at_left v Down (venue_at d v).left d
down_by d v Up is low unshut = refl
down_by d v Down is low unshut =
    sym (set_there d v (record { gate = Down; left = (venue_at d v).left }) low
    (λ i. record { gate = is i; left = (venue_at d v).left }))
down_by d v Shut is low unshut = absurd cc

pub down_is : (d : DeskParts) (v : ℕ) → v < length d.venues → is_shut (gate_of d v) ≡ false
    → gate_down d v ≡ at_left v Down (venue_at d v).left d
down_is d v low unshut = down_by d v (gate_of d v) refl low unshut

pub at_left_is : (v : ℕ) (gate : Gate) (left : ℕ) (d : DeskParts) → v < length d.venues
    → venue_at (at_left v gate left d) v ≡ record { gate = gate; left = left }
at_left_is v gate left d low = venue_at-this v (record { gate = gate; left = left }) d low

leaves_one : (legs : List Leg) (d : DeskParts) (v : ℕ) → 0 < length legs → (leave_first legs d v).1 ≡ one_left v d
leaves_one [] d v some = absurd (omega arith)
leaves_one (leg ∷ legs) d v some = refl

pub drop_more_left : (v left : ℕ) (d now : DeskParts) → v < length d.venues → left < length (released v d.sweeps)
    → now ≡ (drop_next (at_left v Down left d) v).1 → now ≡ at_left v Down (left + 1) d
drop_more_left v left d now low some so =
    let at = at_left v Down left d in
    let is = at_left_is v Down left d low in
    let gate : gate_of at v ≡ Down = ap (λ (x : DeskVenue). x.gate) is in
    let count : (venue_at at v).left ≡ left = ap (λ (x : DeskVenue). x.left) is in
    let legs : placed_legs at v ≡ drop left (released v d.sweeps) = ap (λ n. drop n (released v d.sweeps)) count in
    let many : length (placed_legs at v) ≡ length (released v d.sweeps) - left =
    ap length legs ∙ length-drop left (released v d.sweeps) in
    let leaves : (leave at v).1 ≡ one_left v at = leaves_one (placed_legs at v) at v (omega arith) in
    let not_up : (drop_next at v).1 ≡ (leave at v).1 =
    ap (λ g. (let r : Option PlacedLeg × DeskParts = if is_up g then (None, at) else leave at v in r).1) gate in
    so ∙ (not_up ∙ (leaves
    ∙ ((λ i. with_venue v (record { gate = gate i; left = count i + 1 }) at)
    ∙ set_twice d v _ (record { gate = Down; left = left + 1 }))))

pub shut_is : (v left : ℕ) (d now : DeskParts) → v < length d.venues → now ≡ shut (at_left v Down left d) v
    → now ≡ at_left v Shut left d
shut_is v left d now low so =
    let at = at_left v Down left d in
    let is = at_left_is v Down left d low in
    let gate : gate_of at v ≡ Down = ap (λ (x : DeskVenue). x.gate) is in
    let count : (venue_at at v).left ≡ left = ap (λ (x : DeskVenue). x.left) is in
    so ∙ (ap (λ g. if is_shut g then at else with_gate v Shut at) gate
    ∙ ((λ i. with_venue v (record { gate = Shut; left = count i }) at)
    ∙ set_twice d v _ (record { gate = Shut; left = left })))

-- as many are placed as before the gate went down
pub down_placed : (d now : DeskParts) (v : ℕ) → v < length d.venues → is_shut (gate_of d v) ≡ false
    → now ≡ gate_down d v → placed now v ≡ placed d v
down_placed d now v low unshut so =
    let is = so ∙ down_is d v low unshut in
    let left : (venue_at now v).left ≡ (venue_at d v).left =
    ap (λ x. (venue_at x v).left) is
    ∙ ap (λ (x : DeskVenue). x.left) (at_left_is v Down (venue_at d v).left d low) in
    let sweeps : now.sweeps ≡ d.sweeps = ap (λ (x : DeskParts). x.sweeps) is in
    λ i. length (drop (left i) (released v (sweeps i)))
