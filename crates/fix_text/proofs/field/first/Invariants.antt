use Rattle.std.proofs.Common.{◌≡◌, drop}
use Rattle.fix_text.specs.Tagged.{value_of}
use Rattle.fix_text.proofs.field.first.Given as goal

abbrev pub invariant-loop-field : goal.invariant-loop-field
invariant-loop-field l = value_of (drop l.field-index l.fields) l.tag ≡ value_of l.fields l.tag
