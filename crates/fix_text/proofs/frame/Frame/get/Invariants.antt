use Rattle.std.proofs.Common.{◌≡◌, drop}
use Rattle.fix_text.specs.Tagged.{value_of}
use Rattle.fix_text.specs.FrameFields.{fields_in}
use Rattle.fix_text.proofs.frame.Frame.get.Given as goal

abbrev pub invariant-loop-place : goal.invariant-loop-place
invariant-loop-place l = value_of (drop l.place-index (fields_in l.self)) l.tag ≡ value_of (fields_in l.self) l.tag
