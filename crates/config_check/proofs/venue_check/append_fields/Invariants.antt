use Rattle.std.proofs.Common.{◌≡◌, ◌++◌, take}
use Rattle.std.specs.List.{flat_map}
use Rattle.config_check.specs.VenueCheck.{field_word}
use Rattle.config_check.proofs.venue_check.append_fields.Given as goal

abbrev pub invariant-loop-field : goal.invariant-loop-field
invariant-loop-field l = l.words.items ≡ l.initial.words.items ++ flat_map field_word (take l.field-index l.fields)
