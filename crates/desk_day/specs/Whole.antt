-- What a day has come to where nothing is left of it.
use Rattle.std.specs.Prelude.{◌≡◌, ◌<◌, ℕ, false, List, []}
use Rattle.std.specs.List.{All}
use Rattle.exec_collector.specs.Unbooked.{unbooked_of}
use Rattle.exec_collector.specs.declared.unbooked.Unbooked.{Unbooked}
use Rattle.session_worker.specs.Ends.{WorkerLeft}
use Rattle.desk_day.specs.Doubts.{left_in_doubt, was_given_up}

-- of so many venues: no worker gave its session up, none left a leg in doubt, and of no venue is a report on the list
-- of what the book didn't take
pub record IsWhole (venues : ℕ) (ends : List WorkerLeft) (unbooked : List Unbooked) : Type 0 where
  pub closed : All (λ left. was_given_up left.reason ≡ false) ends
  pub settled : All (λ left. left_in_doubt left ≡ []) ends
  pub booked : (venue : ℕ) → venue < venues → unbooked_of venue unbooked ≡ []
