-- The orders of a venue's log against the legs that were released to it.
use Rattle.std.specs.Prelude.{ℕ, zero, suc, ◌-◌, Bool, true, false, ◌&&◌, ◌||◌, not, List, map, Option, Some, None, option_and_then, slice_get, length, nat_le, nat_lt, ◌==◌, if◌then◌else◌}
use Rattle.std.specs.Str.{bytes_eq}
use Rattle.leg.specs.LegId.{LegIdParts}
use Rattle.leg.specs.declared.sweep.Routed.{Routed}
use Rattle.sweep_text.specs.Written.{terms_text}
use Rattle.log_rules.specs.Moment.{elapsed}
use Rattle.log_rules.specs.declared.moment.Moment.{Moment}
use Rattle.log_legs.specs.Close.{is_over}
use Rattle.log_legs.specs.Fate.{leg_said}
use Rattle.log_legs.specs.Legs.{WatchParts}
use Rattle.log_legs.specs.LegLine.{terms_shown}
use Rattle.log_legs.specs.Sweeps.{leg_id_in}
use Rattle.log_legs.specs.declared.fate.Fate.{Fate}
use Rattle.log_legs.specs.declared.fate.Fate.TheVariants.{Taken, Doubt}
use Rattle.log_legs.specs.declared.leg_said.LegSaid.{LegSaid}
use Rattle.day_rules.specs.DeskDay.{DeskParts}
use Rattle.day_rules.specs.VenueDay.{VenueParts}

-- the leg of an id among the sweeps that were placed
abbrev pub released_leg : List (List Routed) → LegIdParts → Option Routed
released_leg sweeps id = option_and_then (λ legs. slice_get legs (id.place - 1)) (slice_get sweeps (id.sweep - 1))

-- a text with points for slashes, as one venue spells a symbol's suffix
abbrev pub pointed : List ℕ → List ℕ
pointed text = map (λ c. if c == 47 then 46 else c) text

-- an order has a leg's terms
abbrev pub has_terms : LegSaid → Routed → Bool
has_terms said leg = bytes_eq (pointed (terms_shown said)) (terms_text leg.terms)

-- the leg was released to the venue at this place, and the order has its terms
abbrev pub is_released_as : ℕ → LegSaid → Option Routed → Bool
is_released_as venue said None = false
is_released_as venue said (Some leg) = leg.venue == venue && has_terms said leg

-- a leg was released behind another
abbrev pub is_behind : Option LegIdParts → LegIdParts → Bool
is_behind None id = true
is_behind (Some before) id = nat_lt before.sweep id.sweep || (before.sweep == id.sweep && nat_lt before.place id.place)

-- the desk's log has no line of more than a second behind a moment
abbrev pub ends_by : Option Moment → Option Moment → Bool
ends_by None moment = true
ends_by (Some last) None = false
ends_by (Some last) (Some moment) = nat_le (elapsed moment last) 1000

-- an order whose sweep the desk's log may lack, as where the program was killed: the log ends before the session logged
-- out, the sweep comes behind those that were placed, and the desk's log ends by when the order was sent
abbrev pub is_cut_off : DeskParts → VenueParts → ℕ → LegIdParts → Bool
is_cut_off d v place id =
    nat_lt (length d.intake.sweeps) id.sweep && not (is_over v.watch.close)
    && ends_by d.last (slice_get v.notes.moments place)

abbrev pub is_released : DeskParts → ℕ → VenueParts → ℕ → LegSaid → LegIdParts → Bool
is_released d venue v place said id =
    is_released_as venue said (released_leg d.intake.sweeps id) || is_cut_off d v place id

abbrev pub follows : DeskParts → ℕ → VenueParts → ℕ → LegSaid → Option LegIdParts → Option LegIdParts → Bool
follows d venue v place said before None = false
follows d venue v place said before (Some id) = is_behind before id && is_released d venue v place said id

abbrev pub id_said : Option LegSaid → Option LegIdParts
id_said None = None
id_said (Some said) = leg_id_in said.id

-- the leg of the order before this place
abbrev pub id_before : WatchParts → ℕ → Option LegIdParts
id_before w zero = None
id_before w (suc place) = id_said (leg_said w place)

abbrev pub is_in_order : DeskParts → ℕ → VenueParts → ℕ → Option LegSaid → Bool
is_in_order d venue v place None = true
is_in_order d venue v place (Some said) = follows d venue v place said (id_before v.watch place) (leg_id_in said.id)

-- Order: an order is a leg released to the venue, behind the leg of the order before it
abbrev pub in_order_at : DeskParts → ℕ → VenueParts → ℕ → Bool
in_order_at d venue v place = is_in_order d venue v place (leg_said v.watch place)

abbrev pub fails_at : Option ℕ → Bool → ℕ → Option ℕ
fails_at (Some place) passes n = Some place
fails_at None passes n = if passes then None else Some n

-- the first place of so many at which a test fails
abbrev pub first_failing : (ℕ → Bool) → ℕ → Option ℕ
first_failing test zero = None
first_failing test (suc n) = fails_at (first_failing test n) (test n) n

abbrev pub has_fate : (Fate → Bool) → Option LegSaid → Bool
has_fate test None = false
has_fate test (Some said) = test said.fate

abbrev pub is_taken : Fate → Bool
is_taken Taken = true
is_taken fate = false

abbrev pub is_doubt : Fate → Bool
is_doubt Doubt = true
is_doubt fate = false

-- how many of the first orders stand before the last one that was taken, with it
abbrev pub taken_upto : WatchParts → ℕ → ℕ
taken_upto w zero = zero
taken_upto w (suc n) = if has_fate is_taken (leg_said w n) then suc n else taken_upto w n

-- no order at this place is in doubt
abbrev pub is_settled_at : WatchParts → ℕ → Bool
is_settled_at w place = not (has_fate is_doubt (leg_said w place))
