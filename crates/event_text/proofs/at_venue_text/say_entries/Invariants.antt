use Rattle.std.proofs.Common.{◌≡◌, drop}
use Rattle.event_text.specs.Deeds.{withdrawn_phrases}
use Rattle.event_text.specs.Says.{says}
use Rattle.event_text.proofs.at_venue_text.say_entries.Given as goal

abbrev pub invariant-loop-place : goal.invariant-loop-place
invariant-loop-place l =
    says l.text.items (withdrawn_phrases (drop l.place l.entries))
    ≡ says l.initial.text.items (withdrawn_phrases (drop l.before l.entries))
