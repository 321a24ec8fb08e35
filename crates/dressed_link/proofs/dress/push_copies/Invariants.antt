use Rattle.std.proofs.Common.{◌≡◌, ◌++◌, take}
use Rattle.dressed_link.proofs.dress.push_copies.Given as goal

abbrev pub invariant-loop-field : goal.invariant-loop-field
invariant-loop-field l = l.fields.items ≡ l.fn.fields.items ++ take l.field-index l.copied
