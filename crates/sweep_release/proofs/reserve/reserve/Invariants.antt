use Rattle.std.proofs.Common.{◌+◌, ◌<◌, ◌≤◌, ℕ, get_or}
use Rattle.std.specs.Prelude.{vec_len, vec_capacity}
use Rattle.sweep_release.specs.declared.venue.Venue.{Venue}
use Rattle.sweep_release.specs.Kept.{AreSame}
use Rattle.sweep_release.proofs.reserve.reserve.Given as goal

abbrev pub invariant-loop-at : goal.invariant-loop-at
invariant-loop-at l = record {
  same : AreSame l.initial.venues.items l.venues.items;
  room : (k : ℕ) (other : Venue) → k < l.at
      → vec_len (get_or l.venues.items k other).released + l.legs ≤ vec_capacity (get_or l.venues.items k other).released;
}
