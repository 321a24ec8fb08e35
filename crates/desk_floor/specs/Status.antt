-- How a venue is told to stand.
use Rattle.std.specs.Prelude.{◌≡◌, ◌⊎◌, ℕ, ◌≤◌, ◌-◌, Bool, List, length, slice_get, Option, Some, None}
use Rattle.sweep_release.specs.History.{KeptDesk}
use Rattle.sweep_release.specs.Released.{released}
use Rattle.release_lock.specs.Locked.{Replays}
use Rattle.link.specs.declared.dial_error.DialError.{DialError}
use Rattle.venue_board.specs.declared.progress.Progress.{Progress}
use Rattle.desk_news.specs.declared.status.VenueStatus.{VenueStatus}
use Rattle.desk_news.specs.declared.venue_state.VenueState.{VenueState}
use Rattle.desk_floor.specs.declared.standing.Held.{Held}
use Rattle.desk_floor.specs.declared.standing.Standing.{Standing}
use Rattle.desk_floor.specs.Standing.{standing_of, state_of}

-- how a venue stands follows from what its worker told, from its gate, from the dial that failed last and from whether
-- a person holds it; of these nothing is known
pub record IsSeen (standing : Standing) : Type 0 where
  pub progress : Progress
  pub is_shut : Bool
  pub error : Option DialError
  pub held : Option Held
  pub is : standing ≡ standing_of progress is_shut error held

-- a state is told of how a venue stands, of the pause before its next dial, and of what it said as it logged out
pub record IsState (state : VenueState) : Type 0 where
  pub standing : Standing
  pub seen : IsSeen standing
  pub seconds : ℕ
  pub said : Option (List ℕ)
  pub is : state ≡ state_of standing seconds said

-- the venue at a place has its name, and not sent are the legs that a desk which replays has released to it, less those
-- that its worker told as taken
pub record IsStatus (names : List (List ℕ)) (place : ℕ) (status : VenueStatus) : Type 0 where
  pub name : slice_get names place ≡ Some status.venue
  pub desk : KeptDesk
  pub replays : Replays desk
  pub taken : ℕ
  pub unsent : status.unsent ≡ length (released place desk.desk.sweeps) - taken
  pub state : IsState status.state

-- the venue at a place is told so; none is where there are no more names, or not so many venues
abbrev pub IsTold : List (List ℕ) → ℕ → ℕ → Option VenueStatus → Type 0
IsTold names venues place (Some status) = IsStatus names place status
IsTold names venues place None = (length names ≤ place) ⊎ (venues ≤ place)
