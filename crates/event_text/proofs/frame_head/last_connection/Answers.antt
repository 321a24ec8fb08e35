use Rattle.std.proofs.Common.{◌≡◌, ◌-◌, length, Some, None, ap, ◌∙◌}
use Rattle.std.specs.Prelude.{slice_get}
use Rattle.std.specs.Option.{option_map}
use Rattle.venue_replay.specs.declared.frame.Frame.{Frame}
use Rattle.venue_replay.proofs.ExchangeWrites.{last_is}
use Rattle.event_text.proofs.frame_head.last_connection.Goals as goal

pub returns-in-Some : goal.returns-in-Some
returns-in-Some c =
    let frames = c.args.frames.now in
    let there : Some c.in-Some.frame.now ≡ slice_get frames (length frames - 1) = rw c.in-Some.is at c.last.ensures.value in
    ap (option_map (λ (frame : Frame). frame.connection)) there ∙ last_is frames

pub returns-in-None : goal.returns-in-None
returns-in-None c =
    let frames = c.args.frames.now in
    let absent : None ≡ slice_get frames (length frames - 1) = rw c.in-None.is at c.last.ensures.value in
    ap (option_map (λ (frame : Frame). frame.connection)) absent ∙ last_is frames
