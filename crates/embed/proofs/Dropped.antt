-- What is left at a venue whose gate is down, after so many of its legs were dropped.
use Rattle.std.proofs.Common.{◌≡◌, ◌≢◌, ℕ, zero, suc, ◌-◌, ◌<◌, Bool, true, false, List, [], ◌∷◌, ◌++◌, length, drop, map, Option, None, refl, ap, sym, ◌∙◌, subst, append_assoc, arith, if◌then◌else◌}
use Rattle.std.proofs.lemmas.List.{length-set, append-nil, nil_from_length}
use Rattle.leg.specs.declared.leg.Leg.{Leg}
use Rattle.leg.specs.declared.placed_leg.PlacedLeg.{PlacedLeg}
use Rattle.session_core.specs.declared.phase.Phase.{Phase}
use Rattle.session_core.specs.declared.phase.Phase.TheVariants.{Down, LoggingOn, Settling, Up, Closing, LoggedOut, Closed}
use Rattle.share_ledger.specs.Book.{BookParts}
use Rattle.sweep_release.specs.declared.gate.Gate.TheVariants as gate
use Rattle.sweep_release.specs.Released.{released}
use Rattle.sweep_release.specs.Desk.{DeskVenue, DeskParts, venue_at, placed_legs, placed, is_up, gate_of, with_gate, gate_down, one_left, leave_first, leave, drop_next}
use Rattle.sweep_release.proofs.AtVenue.{drop-next}
use Rattle.sweep_release.proofs.Venues.{venue_at-this, gate_of-one_left, left-one_left}
use Rattle.embed.specs.Keeping.{placed_ids, withdraw_each, Dropping, after_drop, drop_legs, follow_in}

-- ---- a desk has as many venues after a call as before

many-leave_first : (desk : DeskParts) (venue : ℕ) (legs : List Leg) →
    length (leave_first legs desk venue).1.venues ≡ length desk.venues
many-leave_first desk venue [] = refl
many-leave_first desk venue (leg ∷ legs) = length-set desk.venues venue _

many-dropped : (desk : DeskParts) (venue : ℕ) (b : Bool) →
    (let r : Option PlacedLeg × DeskParts = if b then (None, desk) else leave desk venue in
    length r.1.venues ≡ length desk.venues)
many-dropped desk venue true = refl
many-dropped desk venue false = many-leave_first desk venue (placed_legs desk venue)

pub many-drop_next : (desk : DeskParts) (venue : ℕ) → length (drop_next desk venue).1.venues ≡ length desk.venues
many-drop_next desk venue = many-dropped desk venue (is_up (gate_of desk venue))

-- ---- legs that are dropped and those that are still placed are together those that were placed

-- the venue is there, and its gate isn't up
record IsDown (venue : ℕ) (desk : DeskParts) : Type 0 where
  there : venue < length desk.venues
  down : is_up (gate_of desk venue) ≡ false

-- so many legs were dropped
record HasDropped (venue n : ℕ) (before after : Dropping) : Type 0 where
  ids : after.ids ++ placed_ids after.desk venue ≡ before.ids ++ placed_ids before.desk venue
  book : withdraw_each (placed_ids after.desk venue) after.book
      ≡ withdraw_each (placed_ids before.desk venue) before.book
  left : placed after.desk venue ≡ placed before.desk venue - n
  is_down : IsDown venue after.desk

-- the legs that are placed after the first one left
placed-one_left : (desk : DeskParts) (venue : ℕ) (leg : Leg) (legs : List Leg) → venue < length desk.venues →
    placed_legs desk venue ≡ leg ∷ legs → placed_legs (one_left venue desk) venue ≡ legs
placed-one_left desk venue leg legs there e =
    ap (λ n. drop n (released venue desk.sweeps)) (left-one_left venue desk there)
    ∙ drop-next (venue_at desk venue).left (released venue desk.sweeps) leg legs e

first-dropped : (venue : ℕ) (at : Dropping) (legs : List Leg) → IsDown venue at.desk → placed_legs at.desk venue ≡ legs →
    HasDropped venue 1 at (after_drop at (leave_first legs at.desk venue))
first-dropped venue at [] d e = record {
  ids = refl;
  book = refl;
  left = ap length e ∙ sym (ap (λ legs. length legs - 1) e);
  is_down = d;
}
first-dropped venue at (leg ∷ legs) d e =
    let after : DeskParts = one_left venue at.desk in
    let p = placed-one_left at.desk venue leg legs d.there e in
    record {
      ids = ap (λ (legs : List Leg). (at.ids ++ leg.id ∷ []) ++ map (λ leg. leg.id) legs) p
          ∙ (append_assoc at.ids (leg.id ∷ []) (map (λ leg. leg.id) legs)
          ∙ sym (ap (λ (legs : List Leg). at.ids ++ map (λ leg. leg.id) legs) e));
      book = ap (λ (legs : List Leg). withdraw_each (map (λ leg. leg.id) legs) (after_drop at (leave_first (leg ∷ legs) at.desk venue)).book) p
          ∙ sym (ap (λ (legs : List Leg). withdraw_each (map (λ leg. leg.id) legs) at.book) e);
      left = omega (arith, ap length p, ap length e);
      is_down = record {
        there = subst (λ n. venue < n) (sym (length-set at.desk.venues venue _)) d.there;
        down = ap is_up (gate_of-one_left venue venue at.desk) ∙ d.down;
      };
    }

one-dropped : (venue : ℕ) (at : Dropping) (b : Bool) → IsDown venue at.desk → b ≡ false →
    (let r : Option PlacedLeg × DeskParts = if b then (None, at.desk) else leave at.desk venue in
    HasDropped venue 1 at (after_drop at r))
one-dropped venue at true d e = cc
one-dropped venue at false d e = first-dropped venue at (placed_legs at.desk venue) d refl

some-dropped : (venue n : ℕ) (at : Dropping) → IsDown venue at.desk → HasDropped venue n at (drop_legs venue n at)
some-dropped venue zero at d = record { ids = refl; book = refl; left = omega arith; is_down = d }
some-dropped venue (suc n) at d =
    let now : Dropping = drop_legs venue n at in
    let some = some-dropped venue n at d in
    let one = one-dropped venue now (is_up (gate_of now.desk venue)) some.is_down some.is_down.down in
    record {
      ids = one.ids ∙ some.ids;
      book = one.book ∙ some.book;
      left = omega (arith, one.left, some.left);
      is_down = one.is_down;
    }

-- ---- all of them

-- what a venue comes to where its session isn't up
record IsFollowed (venue : ℕ) (desk : DeskParts) (book : BookParts) (after : Dropping) : Type 0 where
  ids : after.ids ≡ placed_ids desk venue
  withdrawn : after.book ≡ withdraw_each (placed_ids desk venue) book
  none : placed_legs after.desk venue ≡ []

down-there : (desk : DeskParts) (venue : ℕ) (b : Bool) → is_up (gate_of desk venue) ≡ b → venue < length desk.venues →
    IsDown venue (if b then with_gate venue gate.Down desk else desk)
down-there desk venue true e there = record {
  there = subst (λ n. venue < n) (sym (length-set desk.venues venue _)) there;
  down = ap (λ (v : DeskVenue). is_up v.gate)
      (venue_at-this venue (record { gate = gate.Down; left = (venue_at desk venue).left }) desk there);
}
down-there desk venue false e there = record { there = there; down = e }

down-placed : (desk : DeskParts) (venue : ℕ) (b : Bool) → venue < length desk.venues →
    placed_legs (if b then with_gate venue gate.Down desk else desk) venue ≡ placed_legs desk venue
down-placed desk venue true there =
    ap (λ (v : DeskVenue). drop v.left (released venue desk.sweeps))
    (venue_at-this venue (record { gate = gate.Down; left = (venue_at desk venue).left }) desk there)
down-placed desk venue false there = refl

all-dropped : (venue : ℕ) (desk : DeskParts) (book : BookParts) → IsDown venue desk →
    (let start : Dropping = record { desk = desk; book = book; ids = [] } in
    IsFollowed venue desk book (drop_legs venue (placed desk venue) start))
all-dropped venue desk book d =
    let start : Dropping = record { desk = desk; book = book; ids = [] } in
    let after : Dropping = drop_legs venue (placed desk venue) start in
    let some = some-dropped venue (placed desk venue) start d in
    let none : placed_legs after.desk venue ≡ [] =
    nil_from_length (placed_legs after.desk venue) (omega (arith, some.left)) in
    record {
      ids = sym (append-nil after.ids) ∙ (sym (ap (λ (legs : List Leg). after.ids ++ map (λ leg. leg.id) legs) none) ∙ some.ids);
      withdrawn = sym (ap (λ (legs : List Leg). withdraw_each (map (λ leg. leg.id) legs) after.book) none) ∙ some.book;
      none = none;
    }

followed : (venue : ℕ) (desk : DeskParts) (book : BookParts) → venue < length desk.venues →
    (let down : DeskParts = gate_down desk venue in
    let start : Dropping = record { desk = down; book = book; ids = [] } in
    IsFollowed venue desk book (drop_legs venue (placed down venue) start))
followed venue desk book there =
    let all = all-dropped venue (gate_down desk venue) book (down-there desk venue (is_up (gate_of desk venue)) refl there) in
    let same = ap (λ (legs : List Leg). map (λ leg. leg.id) legs) (down-placed desk venue (is_up (gate_of desk venue)) there) in
    record {
      ids = all.ids ∙ same;
      withdrawn = all.withdrawn ∙ ap (λ ids. withdraw_each ids book) same;
      none = all.none;
    }

follows : (phase : Phase) (venue : ℕ) (desk : DeskParts) (book : BookParts) → phase ≢ Up → venue < length desk.venues →
    IsFollowed venue desk book (follow_in phase venue desk book)
follows Up venue desk book differs there = absurd (differs refl)
follows Down venue desk book differs there = followed venue desk book there
follows LoggingOn venue desk book differs there = followed venue desk book there
follows Settling venue desk book differs there = followed venue desk book there
follows Closing venue desk book differs there = followed venue desk book there
follows LoggedOut venue desk book differs there = followed venue desk book there
follows Closed venue desk book differs there = followed venue desk book there

pub followed-ids : (phase : Phase) (venue : ℕ) (desk : DeskParts) (book : BookParts) → phase ≢ Up →
    venue < length desk.venues → (follow_in phase venue desk book).ids ≡ placed_ids desk venue
followed-ids phase venue desk book differs there = (follows phase venue desk book differs there).ids

pub followed-book : (phase : Phase) (venue : ℕ) (desk : DeskParts) (book : BookParts) → phase ≢ Up →
    venue < length desk.venues → (follow_in phase venue desk book).book ≡ withdraw_each (placed_ids desk venue) book
followed-book phase venue desk book differs there = (follows phase venue desk book differs there).withdrawn

pub followed-none : (phase : Phase) (venue : ℕ) (desk : DeskParts) (book : BookParts) → phase ≢ Up →
    venue < length desk.venues → placed_legs (follow_in phase venue desk book).desk venue ≡ []
followed-none phase venue desk book differs there = (follows phase venue desk book differs there).none
