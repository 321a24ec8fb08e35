use Rattle.std.proofs.Common.{◌≡◌, drop}
use Rattle.fix_tags.specs.Message.{app_fault}
use Rattle.fix_tags.proofs.writable.app_fault.Given as goal

abbrev pub invariant-loop-field : goal.invariant-loop-field
invariant-loop-field l = app_fault (drop l.field-index l.fields) ≡ app_fault l.fields
