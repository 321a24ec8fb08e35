use Rattle.std.proofs.Common.{◌≡◌, ◌+◌, drop}
use Rattle.event_text.specs.Deeds.{frame_phrases}
use Rattle.event_text.specs.Says.{says}
use Rattle.event_text.proofs.frames_text.say_frames.Given as goal

abbrev pub invariant-loop-place : goal.invariant-loop-place
invariant-loop-place l =
    says l.text.items (frame_phrases l.direction l.venue (l.place + 1) (drop l.place l.frames))
    ≡ says l.initial.text.items (frame_phrases l.direction l.venue (l.before + 1) (drop l.before l.frames))
