use Rattle.std.proofs.Common.{◌≡◌, map, take}
use Rattle.desk_venues.specs.Dresses.{tagged}
use Rattle.desk_venues.proofs.dresses.fields_of.Given as goal

abbrev pub invariant-loop-field : goal.invariant-loop-field
invariant-loop-field l = l.fields.items ≡ map tagged (take l.field-index l.table)
