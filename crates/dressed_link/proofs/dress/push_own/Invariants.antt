use Rattle.std.proofs.Common.{◌≡◌, ◌++◌, drop, take}
use Rattle.fix_text.specs.FrameFields.{fields_in}
use Rattle.dressed_link.proofs.dress.push_own.Given as goal

abbrev pub invariant-loop-index : goal.invariant-loop-index
invariant-loop-index l = l.fields.items ≡ l.fn.fields.items ++ drop l.from (take l.index (fields_in l.frame))
