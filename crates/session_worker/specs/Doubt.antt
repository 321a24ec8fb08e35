-- The legs that a worker has in doubt, and those that it leaves so.
use Rattle.std.specs.Prelude.{ℕ, ◌-◌, List, [], ◌∷◌, Option, Some, None, filter_map}
use Rattle.leg.specs.declared.leg_state.LegState.{LegState}
use Rattle.leg.specs.declared.leg_state.LegState.TheVariants.{Doubt}
use Rattle.leg.specs.declared.placed_leg.PlacedLeg.{PlacedLeg}
use Rattle.resend.specs.declared.sent.Sent.{Sent}
use Rattle.session_core.specs.Session.{SessionParts, leg_state}

-- an ordinal, if the leg's state is doubt
abbrev pub if_doubt : Option LegState → ℕ → Option ℕ
if_doubt (Some Doubt) ordinal = Some ordinal
if_doubt _ ordinal = None

-- the ordinals of the legs among these that a session has in doubt
abbrev pub in_doubt_of : SessionParts → List PlacedLeg → List ℕ
in_doubt_of s legs = filter_map (λ leg. if_doubt (leg_state s leg.ordinal) leg.ordinal) legs

-- up to which ordinal no leg is in doubt, where so many legs were taken: those in doubt are in their order
abbrev pub settled_before : List Sent → ℕ → ℕ
settled_before [] taken = taken
settled_before (first ∷ doubts) taken = first.ordinal - 1
