use Rattle.std.proofs.Common.{◌≡◌, ◌<◌, ◌≤◌, ℕ, length, map, slice_get, Some}
use Rattle.std.specs.Prelude.{MatchOption}
use Rattle.day_restart.specs.Redoing.{HasNext}
use Rattle.day_restart.proofs.restored.earliest.Given as goal

abbrev pub invariant-loop-place : goal.invariant-loop-place
invariant-loop-place g l =
    MatchOption l.found
    ((k lines done : ℕ) → k < l.place → slice_get (map (λ p. length p.lines.now) l.pasts) k ≡ Some lines
    → slice_get l.at k ≡ Some done → lines ≤ done)
    (HasNext (map (λ p. length p.lines.now) l.pasts) l.at)
