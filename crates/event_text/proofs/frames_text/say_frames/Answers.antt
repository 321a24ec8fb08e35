use Rattle.std.proofs.Common.{◌≡◌, ◌+◌, ap, get_or, ◌∙◌}
use Rattle.event_text.specs.Deeds.{frame_text}
use Rattle.event_text.specs.Says.{also}
use Rattle.event_text.proofs.SaidMore.{frames_next}
use Rattle.event_text.proofs.frames_text.say_frames.Goals as goal

pub loop-place-preserved : goal.loop-place-preserved
loop-place-preserved c =
    let direction = c.args.direction.now in
    let place = c.loop-place.place in
    let frame = c.index-frames-place.result in
    let text = c.loop-place.text.items in
    let wrote : c.say.new.text.items ≡ also text (frame_text direction c.args.venue (place + 1) (get_or c.args.frames.now place frame)) =
    c.in_ok-say.ensures
    ∙ ap (also text) (c.deref.ensures.value
    ∙ (c.in_ok-phrase.ensures ∙ ap (frame_text direction c.args.venue (place + 1)) c.index-frames-place.is)) in
    frames_next direction c.args.venue place c.args.frames.now frame text c.say.new.text.items _ c.loop-place-test.true wrote
    c.loop-place.invariant
