-- The rules of the journal, as they are tried of how the dispatcher stands at a venue.
use Rattle.std.specs.Prelude.{◌≡◌, ◌<◌, ℕ, suc, Bool, false, ◌&&◌, List, [], ◌∷◌, length, Option, Some, nat_le, if◌then◌else◌}
use Rattle.std.specs.List.{list_all}
use Rattle.leg.specs.declared.leg.Leg.{Leg}
use Rattle.leg.specs.declared.leg_state.LegState.{LegState}
use Rattle.leg.specs.declared.leg_state.LegState.TheVariants.{Queued}
use Rattle.leg.specs.declared.sweep.Routed.{Routed}
use Rattle.session_core.specs.Session.{leg_state}
use Rattle.sweep_release.specs.Released.{released}
use Rattle.sweep_release.specs.Desk.{DeskParts, new_desk, gate_of, is_shut}
use Rattle.sweep_release.specs.History.{replay}
use Rattle.sweep_release.specs.declared.desk_entry.DeskEntry.{DeskEntry}
use Rattle.schedule.specs.World.{World, of_venue, released_to, state_of, state_left, is_withdrawn_leg}
use Rattle.world_restart.specs.Journal.{Standing}
use Rattle.world_restart.specs.Start.{state_in, are_withdrawn}
use Rattle.replay.specs.declared.mark.Mark.{Mark}
use Rattle.replay.specs.Redoing.{standing_by}

-- a desk that calls led to from a new one, no gate of which is shut
pub record IsOpenDesk (desk : DeskParts) : Type 0 where
  pub venues : ℕ
  pub entries : List DeskEntry
  pub made : desk ≡ replay (new_desk venues) entries
  pub none_shut : (v : ℕ) → v < length desk.venues → is_shut (gate_of desk v) ≡ false

-- the ordinals of the legs, of which the first has this one, that are withdrawn
abbrev pub gone_from : (ℕ → Option LegState) → ℕ → List Leg → List ℕ
gone_from state ordinal [] = []
gone_from state ordinal (leg ∷ legs) =
    let rest = gone_from state (suc ordinal) legs in if is_withdrawn_leg (state ordinal) then ordinal ∷ rest else rest

abbrev pub gone_ordinals : World → ℕ → List ℕ
gone_ordinals w v = gone_from (state_of w v) 1 (released_to w v)

-- whether the leg of an ordinal is withdrawn where the dispatcher stands so
abbrev pub is_gone_in : Standing → ℕ → Bool
is_gone_in s ordinal = is_withdrawn_leg (state_in s ordinal)

-- and where so many legs have left the desk, in a world
abbrev pub is_gone_at : World → ℕ → ℕ → ℕ → Bool
is_gone_at w v left ordinal =
    of_venue w v false (λ venue. is_withdrawn_leg
    (if nat_le ordinal left then Some (state_left (leg_state venue.session ordinal)) else Some Queued))

-- whether the rules are kept where it stands so, so many frames came to the exchange, these legs are withdrawn, and
-- these sweeps are kept
abbrev pub keeps_all : ℕ → ℕ → List ℕ → List (List Routed) → Standing → Bool
keeps_all v reached gone sweeps s =
    nat_le reached (length s.to_exchange)
    && nat_le s.left (length (released v sweeps))
    && list_all (is_gone_in s) gone

abbrev pub keeps_at : World → ℕ → Mark → ℕ → List ℕ → List (List Routed) → Bool
keeps_at w v mark reached gone sweeps =
    of_venue w v false (λ venue. keeps_all v reached gone sweeps (standing_by mark venue))

-- the rules as the model has them
abbrev pub keeps : World → ℕ → ℕ → List (List Routed) → Standing → Bool
keeps w v reached sweeps s =
    nat_le reached (length s.to_exchange)
    && nat_le s.left (length (released v sweeps))
    && are_withdrawn (state_of w v) (state_in s) 1 (released_to w v)
