use Rattle.std.proofs.Common.{◌≡◌, take}
use Rattle.fix_text.specs.FrameFields.{fields_in}
use Rattle.fix_text.specs.Text.{fields_text}
use Rattle.kept_link.proofs.teller.fields_text.Given as goal

abbrev pub invariant-loop-index : goal.invariant-loop-index
invariant-loop-index l = l.text.items ≡ fields_text (take l.index (fields_in l.frame))
