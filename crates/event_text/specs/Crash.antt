-- What is told of a crash, and which legs are told as settled behind it.
use Rattle.std.specs.Prelude.{◌≡◌, ℕ, zero, suc, List, [], ◌∷◌, ◌++◌, codes, Option, Some}
use Rattle.leg.specs.LegId.{leg_id_text}
use Rattle.leg.specs.declared.leg.Leg.{Leg}
use Rattle.leg.specs.declared.leg_state.LegState.{LegState}
use Rattle.leg.specs.declared.leg_state.LegState.TheVariants.{Doubt, Taken, Withdrawn}
use Rattle.schedule.specs.World.{World}
use Rattle.event_text.specs.declared.settled.Settled.{Settled}
use Rattle.event_text.specs.Says.{also}
use Rattle.event_text.specs.Step.{settled_from}

-- the legs of each venue that are settled in the world after the start, up to the first that isn't, are told
abbrev pub settled_over : World → ℕ → ℕ → List ℕ
settled_over w v zero = []
settled_over w v (suc n) = settled_from w v 0 ∷ settled_over w (suc v) n

abbrev pub settled_again : World → Settled
settled_again w = record { told = settled_over w 0 16 }

-- a leg that the start withdrew, or that is in doubt again
abbrev pub change_phrases : Option LegState → Option LegState → Leg → List (List ℕ)
change_phrases (Some Withdrawn) now leg = []
change_phrases before (Some Withdrawn) leg = (leg_id_text leg.id ++ codes " withdrawn") ∷ []
change_phrases (Some Taken) (Some Doubt) leg = (leg_id_text leg.id ++ codes " in doubt again") ∷ []
change_phrases before now leg = []

-- what was lost is said first, and last that the dispatcher started again
abbrev pub IsCrashText : List ℕ → Type 0
IsCrashText text = (lost : List ℕ) × (text ≡ also lost (codes "started again"))
