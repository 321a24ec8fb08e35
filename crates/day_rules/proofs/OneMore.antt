-- One order more.
use Rattle.std.proofs.Common.{◌≡◌, ℕ, Bool, suc, ◌+◌, ap, add-one}
use Rattle.std.specs.Prelude.{List, slice_get, if◌then◌else◌}
use Rattle.log_legs.specs.Fate.{leg_said}
use Rattle.log_legs.specs.Legs.{WatchParts}
use Rattle.day_rules.specs.DeskDay.{DeskParts}
use Rattle.day_rules.specs.Judged.{first_place, found_with, line_at}
use Rattle.day_rules.specs.Orders.{fails_at, first_failing, has_fate, is_taken, taken_upto}
use Rattle.day_rules.specs.VenueDay.{VenueParts}
use Rattle.day_rules.specs.declared.sentence.Sentence.{Sentence}

pub one_test_more : (test : ℕ → Bool) (n : ℕ)
    → first_failing test (n + 1) ≡ fails_at (first_failing test n) (test n) n
one_test_more test n = ap (first_failing test) (add-one n)

pub one_fate_more : (w : WatchParts) (n : ℕ)
    → taken_upto w (n + 1) ≡ (if has_fate is_taken (leg_said w n) then suc n else taken_upto w n)
one_fate_more w n = ap (taken_upto w) (add-one n)

pub one_venue_more : (d : DeskParts) (says : Sentence) (venues : List VenueParts) (n : ℕ)
    → first_place d says venues (n + 1)
    ≡ found_with (first_place d says venues n) n (line_at d says n (slice_get venues n))
one_venue_more d says venues n = ap (first_place d says venues) (add-one n)
