use Rattle.std.proofs.Common.{◌≡◌, take}
use Rattle.std.specs.List.{flat_map}
use Rattle.command_line.specs.FrameText.{shown_byte}
use Rattle.command_line.proofs.frame_text.shown.Given as goal

abbrev pub invariant-loop-byte : goal.invariant-loop-byte
invariant-loop-byte l = l.text.items ≡ flat_map shown_byte (take l.byte-index l.frame)
