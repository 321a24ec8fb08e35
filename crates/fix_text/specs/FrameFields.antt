-- A frame and its iterator as contracts see them.
use Rattle.std.specs.Prelude.{List}
use Rattle.fix_text.specs.declared.frame.Frame.{Frame}
use Rattle.fix_text.specs.declared.frame_fields.FrameFields.{FrameFields}
use Rattle.fix_text.specs.Tagged.{Tagged}
use Rattle.fix_text.specs.Placing.{fields_at}

-- the fields of a frame, in order
abbrev pub fields_in : Frame → List Tagged
fields_in frame = fields_at frame.text.now frame.places.now

-- the fields that are still to come
abbrev pub fields_left : FrameFields → List Tagged
fields_left iterator = fields_at iterator.text.now iterator.places.now
