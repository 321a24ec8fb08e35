use Rattle.std.proofs.Common.{◌≡◌}
use Rattle.event_text.specs.Says.{says}
use Rattle.event_text.specs.Step.{settled_from, taken_from}
use Rattle.event_text.proofs.settled.say_taken.Given as goal

abbrev pub invariant-loop-at : goal.invariant-loop-at
invariant-loop-at g l = record {
  said : says l.text.items (taken_from l.world l.venue l.at)
      ≡ says l.initial.text.items (taken_from l.world l.venue l.place);
  place : settled_from l.world l.venue l.at ≡ settled_from l.world l.venue l.place;
}
