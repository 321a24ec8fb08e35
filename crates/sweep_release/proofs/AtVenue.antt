-- A call at a venue changes nothing else, and the leg that leaves is the first one placed.
use Rattle.std.proofs.Common.{◌≡◌, ℕ, zero, suc, ◌+◌, ◌<◌, Bool, true, false, List, [], ◌∷◌, length, drop, Option, Some, None, refl, ap, sym, ◌∙◌, arith, if◌then◌else◌}
use Rattle.std.specs.Prelude.{◌==◌, slice_get, IfSome}
use Rattle.std.proofs.lemmas.List.{drop-drop}
use Rattle.leg.specs.Numbered.{numbered}
use Rattle.leg.specs.declared.leg.Leg.{Leg}
use Rattle.leg.specs.declared.placed_leg.PlacedLeg.{PlacedLeg}
use Rattle.sweep_release.specs.declared.gate.Gate.{Gate}
use Rattle.sweep_release.specs.declared.gate.Gate.TheVariants.{Up, Down, Shut}
use Rattle.sweep_release.specs.Released.{released}
use Rattle.sweep_release.specs.Desk.{DeskVenue, DeskParts, venue_at, with_venue, gate_of, placed_legs, placed, is_up, is_shut, with_gate, gate_up_from, gate_up, gate_down, shut, one_left, leave_first, leave, take, drop_next}
use Rattle.sweep_release.specs.Laws.{ChangesOnly, LeavesFirst}
use Rattle.sweep_release.proofs.Venues.{venue_at-other, left-one_left}

only-same : (venue : ℕ) (desk : DeskParts) → ChangesOnly venue desk desk
only-same venue desk = record { sweeps = refl; others = λ other differs. refl }

only-with_venue : (venue : ℕ) (now : DeskVenue) (desk : DeskParts) → ChangesOnly venue desk (with_venue venue now desk)
only-with_venue venue now desk = record { sweeps = refl; others = λ other differs. venue_at-other venue other now desk differs }

only-with_gate : (venue : ℕ) (gate : Gate) (desk : DeskParts) → ChangesOnly venue desk (with_gate venue gate desk)
only-with_gate venue gate desk = only-with_venue venue (record { gate = gate; left = (venue_at desk venue).left }) desk

gate_up_only : (desk : DeskParts) (venue : ℕ) (gate : Gate) (drained : Bool) → (placed desk venue == 0) ≡ drained → ChangesOnly venue desk (gate_up_from gate desk venue).1
gate_up_only desk venue Up drained d = only-same venue desk
gate_up_only desk venue Shut drained d = only-same venue desk
gate_up_only desk venue Down true d = rw d (only-with_gate venue Up desk)
gate_up_only desk venue Down false d = rw d (only-same venue desk)

pub only-gate_up : (desk : DeskParts) (venue : ℕ) → ChangesOnly venue desk (gate_up desk venue).1
only-gate_up desk venue = gate_up_only desk venue (gate_of desk venue) (placed desk venue == 0) refl

gate_down_only : (desk : DeskParts) (venue : ℕ) (b : Bool) → ChangesOnly venue desk (if b then with_gate venue Down desk else desk)
gate_down_only desk venue true = only-with_gate venue Down desk
gate_down_only desk venue false = only-same venue desk

pub only-gate_down : (desk : DeskParts) (venue : ℕ) → ChangesOnly venue desk (gate_down desk venue)
only-gate_down desk venue = gate_down_only desk venue (is_up (gate_of desk venue))

shut_only : (desk : DeskParts) (venue : ℕ) (b : Bool) → ChangesOnly venue desk (if b then desk else with_gate venue Shut desk)
shut_only desk venue true = only-same venue desk
shut_only desk venue false = only-with_gate venue Shut desk

pub only-shut : (desk : DeskParts) (venue : ℕ) → ChangesOnly venue desk (shut desk venue)
only-shut desk venue = shut_only desk venue (is_shut (gate_of desk venue))

leave_only : (desk : DeskParts) (venue : ℕ) (legs : List Leg) → ChangesOnly venue desk (leave_first legs desk venue).1
leave_only desk venue [] = only-same venue desk
leave_only desk venue (leg ∷ legs) = only-with_venue venue (record { gate = gate_of desk venue; left = (venue_at desk venue).left + 1 }) desk

take_only : (desk : DeskParts) (venue : ℕ) (b : Bool) → (let r : Option PlacedLeg × DeskParts = if b then leave desk venue else (None, desk) in ChangesOnly venue desk r.1)
take_only desk venue true = leave_only desk venue (placed_legs desk venue)
take_only desk venue false = only-same venue desk

pub only-take : (desk : DeskParts) (venue : ℕ) → ChangesOnly venue desk (take desk venue).1
only-take desk venue = take_only desk venue (is_up (gate_of desk venue))

drop_only : (desk : DeskParts) (venue : ℕ) (b : Bool) → (let r : Option PlacedLeg × DeskParts = if b then (None, desk) else leave desk venue in ChangesOnly venue desk r.1)
drop_only desk venue true = only-same venue desk
drop_only desk venue false = leave_only desk venue (placed_legs desk venue)

pub only-drop_next : (desk : DeskParts) (venue : ℕ) → ChangesOnly venue desk (drop_next desk venue).1
only-drop_next desk venue = drop_only desk venue (is_up (gate_of desk venue))

-- what is behind the first n, without its first, is behind the first n + 1
pub drop-next : (n : ℕ) (legs : List Leg) (leg : Leg) (rest : List Leg) → drop n legs ≡ leg ∷ rest → drop (n + 1) legs ≡ rest
drop-next n legs leg rest e = sym (drop-drop 1 n legs) ∙ ap (drop 1) e

slice_get-first : (n : ℕ) (legs : List Leg) (leg : Leg) (rest : List Leg) → drop n legs ≡ leg ∷ rest → slice_get legs n ≡ Some leg
slice_get-first zero [] leg rest e = cc
slice_get-first (suc n) [] leg rest e = cc
slice_get-first zero (x ∷ legs) leg rest e = let same : x ≡ leg = cc in ap (λ y. Some y) same
slice_get-first (suc n) (x ∷ legs) leg rest e = slice_get-first n legs leg rest e

first_leaves : (desk : DeskParts) (venue : ℕ) (legs : List Leg) → placed_legs desk venue ≡ legs → venue < length desk.venues → IfSome (leave_first legs desk venue).0 (LeavesFirst venue desk (leave_first legs desk venue).1)
first_leaves desk venue [] e there = tt
first_leaves desk venue (leg ∷ legs) e there =
    let left = (venue_at desk venue).left in
    let all = released venue desk.sweeps in
    let after : placed_legs (one_left venue desk) venue ≡ legs = ap (λ n. drop n all) (left-one_left venue desk there) ∙ drop-next left all leg legs e in
    let next : left + 1 ≡ suc left = omega arith in
    record {
      first = e ∙ ap (λ l. leg ∷ l) (sym after);
      ordinal = ap (λ n. numbered n all) next ∙ slice_get-first left all leg legs e;
    }

take_leaves : (desk : DeskParts) (venue : ℕ) (b : Bool) → venue < length desk.venues → (let r : Option PlacedLeg × DeskParts = if b then leave desk venue else (None, desk) in IfSome r.0 (LeavesFirst venue desk r.1))
take_leaves desk venue true there = first_leaves desk venue (placed_legs desk venue) refl there
take_leaves desk venue false there = tt

pub leaves-take : (desk : DeskParts) (venue : ℕ) → venue < length desk.venues → IfSome (take desk venue).0 (LeavesFirst venue desk (take desk venue).1)
leaves-take desk venue there = take_leaves desk venue (is_up (gate_of desk venue)) there

drop_leaves : (desk : DeskParts) (venue : ℕ) (b : Bool) → venue < length desk.venues → (let r : Option PlacedLeg × DeskParts = if b then (None, desk) else leave desk venue in IfSome r.0 (LeavesFirst venue desk r.1))
drop_leaves desk venue true there = tt
drop_leaves desk venue false there = first_leaves desk venue (placed_legs desk venue) refl there

pub leaves-drop_next : (desk : DeskParts) (venue : ℕ) → venue < length desk.venues → IfSome (drop_next desk venue).0 (LeavesFirst venue desk (drop_next desk venue).1)
leaves-drop_next desk venue there = drop_leaves desk venue (is_up (gate_of desk venue)) there
