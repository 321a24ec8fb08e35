-- Frames as they are read: their heads, how many there are, and the last one.
use Rattle.std.proofs.Common.{◌≡◌, suc, List, [], ◌∷◌, length, refl, ap}
use Rattle.dialect.specs.Wording.{Decoding}
use Rattle.venue_replay.specs.declared.frame.Frame.{Frame}
use Rattle.venue_replay.specs.Kept.{last_connection}
use Rattle.venue_replay.specs.Network.{all_said}
use Rattle.event_text.specs.Idle.{last_of}

pub count_said : (read : Decoding) (frames : List Frame) → length (all_said read frames) ≡ length frames
count_said read [] = refl
count_said read (frame ∷ frames) = ap suc (count_said read frames)

pub last_said : (read : Decoding) (frames : List Frame) → last_of (all_said read frames) ≡ last_connection frames
last_said read [] = refl
last_said read (frame ∷ []) = refl
last_said read (frame ∷ next ∷ frames) = last_said read (next ∷ frames)
