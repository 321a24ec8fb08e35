-- The fields of a frame in three parts, as contracts see them.
use Rattle.std.specs.Prelude.{List, ◌++◌}
use Rattle.fix_text.specs.Tagged.{Tagged}
use Rattle.fix_text.specs.declared.frame_parts.FrameParts.{FrameParts}

-- all fields, in order
abbrev pub all_fields : FrameParts → List Tagged
all_fields parts = parts.head.now ++ parts.body.now ++ parts.rest.now
