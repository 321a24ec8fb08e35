use Rattle.std.proofs.Common.{◌≡◌, ◌++◌, drop, false}
use Rattle.command_line.specs.FrameText.{read_shown}
use Rattle.command_line.proofs.frame_text.read_shown.Given as goal

abbrev pub invariant-loop-byte : goal.invariant-loop-byte
invariant-loop-byte l = l.bytes.items ++ read_shown l.is_escaped (drop l.byte-index l.text) ≡ read_shown false l.text
