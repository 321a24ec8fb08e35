-- The legs that stay in doubt at the end of a day, and the sessions that weren't closed.
use Rattle.std.specs.Prelude.{ℕ, Bool, true, false, List, [], ◌∷◌, ◌++◌, Option, Some, None, filter_map, option_to_list}
use Rattle.leg.specs.LegId.{LegIdParts}
use Rattle.leg.specs.declared.leg_state.LegState.{LegState}
use Rattle.leg.specs.declared.leg_state.LegState.TheVariants.{Doubt}
use Rattle.leg.specs.declared.placed_leg.PlacedLeg.{PlacedLeg}
use Rattle.session_core.specs.Session.{SessionParts, leg_state}
use Rattle.session_worker.specs.Ends.{WorkerLeft}
use Rattle.session_worker.specs.declared.end_reason.EndReason.TheVariants as reason
use Rattle.session_worker.specs.declared.end_reason.EndReason.{EndReason}
use Rattle.desk_day.specs.declared.day.VenueDoubt.{VenueDoubt}

-- a leg, if its state is doubt
abbrev pub if_doubt : Option LegState → LegIdParts → Option LegIdParts
if_doubt (Some Doubt) leg = Some leg
if_doubt _ leg = None

-- those of these legs that a session has in doubt
abbrev pub legs_in_doubt : SessionParts → List PlacedLeg → List LegIdParts
legs_in_doubt s legs = filter_map (λ placed. if_doubt (leg_state s placed.ordinal) placed.leg.id) legs

-- of the legs that a worker took, those that its session leaves in doubt
abbrev pub left_in_doubt : WorkerLeft → List LegIdParts
left_in_doubt left = legs_in_doubt left.parts.session left.parts.took.taken

-- a venue, and legs of it
pub record VenueLegs : Type 0 where
  pub venue : List ℕ
  pub legs : List LegIdParts

abbrev pub venue_legs : VenueDoubt → VenueLegs
venue_legs doubt = record { venue = doubt.venue; legs = doubt.legs.items }

-- a venue with these legs, if there are any
abbrev pub if_any : List ℕ → List LegIdParts → Option VenueLegs
if_any venue [] = None
if_any venue (leg ∷ legs) = Some (record { venue = venue; legs = leg ∷ legs })

-- the venues of these names with legs in doubt, each with all of them: each worker is that of the venue at its place
abbrev pub doubts_in : List (List ℕ) → List WorkerLeft → List VenueLegs
doubts_in [] ends = []
doubts_in (name ∷ names) [] = []
doubts_in (name ∷ names) (left ∷ ends) = option_to_list (if_any name (left_in_doubt left)) ++ doubts_in names ends

-- whether a worker gave its session up: no turn of it left the session closed
abbrev pub was_given_up : EndReason → Bool
was_given_up reason.Closed = false
was_given_up reason.TurnLimit = true
was_given_up reason.Stopped = true
