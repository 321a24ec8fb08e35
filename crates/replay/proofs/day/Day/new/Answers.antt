use Rattle.std.proofs.Common.{◌≡◌, List, map, sym, subst, ◌∙◌}
use Rattle.schedule.specs.World.{World, opening}
use Rattle.replay.specs.Redoing.{JournalParts}
use Rattle.replay.specs.DaySeen.{IsDay, day_seen, new_parts}
use Rattle.replay.proofs.DayHappens.{opening_seen, is_day_opened}
use Rattle.replay.proofs.day.Day.new.Goals as goal

pub invariant_of-result : goal.invariant_of-result
invariant_of-result g c =
    let n = c.args.max_number in
    let next = c.args.next.now in
    λ _. subst (λ (x : World). IsDay n x c.in_ok-journals.journals.items) (sym c.in_ok-world.ensures)
    (subst (λ (l : List JournalParts). IsDay n (opening next n) l) (sym c.in_ok-journals.ensures)
    (is_day_opened n next (record {
      least_venues = c.requires.low;
      most_venues = c.requires.high;
      least_number = c.requires.least;
      most_number = c.requires.most;
    })))

pub returns : goal.returns
returns g c = record {
  day = (λ i. day_seen c.args.max_number (c.in_ok-world.ensures i) (c.in_ok-journals.ensures i))
      ∙ opening_seen c.args.max_number c.args.next.now;
}
