use Rattle.std.proofs.Common.{◌≡◌, ◌++◌, take}
use Rattle.std.specs.Prelude.{string_bytes}
use Rattle.std.specs.List.{flat_map}
use Rattle.world_text.proofs.SpacedLegs.{behind_space}
use Rattle.world_text.proofs.leg_list.write_spaced.Given as goal

abbrev pub invariant-loop-id : goal.invariant-loop-id
invariant-loop-id l = string_bytes l.text ≡ string_bytes l.initial.text ++ flat_map behind_space (take l.id-index l.others)
