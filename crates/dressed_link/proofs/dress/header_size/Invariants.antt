use Rattle.std.proofs.Common.{◌≡◌, ◌+◌, drop}
use Rattle.fix_text.specs.FrameFields.{fields_in}
use Rattle.dressed_link.specs.Dressing.{header_size}
use Rattle.dressed_link.proofs.dress.header_size.Given as goal

abbrev pub invariant-loop-index : goal.invariant-loop-index
invariant-loop-index l =
    header_size (fields_in l.frame) ≡ l.index + header_size (drop l.index (fields_in l.frame))
