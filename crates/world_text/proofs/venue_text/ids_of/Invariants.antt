use Rattle.std.proofs.Common.{◌≡◌, take}
use Rattle.std.specs.Prelude.{map}
use Rattle.leg.specs.declared.leg.Leg.{Leg}
use Rattle.world_text.proofs.venue_text.ids_of.Given as goal

abbrev pub invariant-loop-leg : goal.invariant-loop-leg
invariant-loop-leg l = l.ids.items ≡ map (λ (leg : Leg). leg.id) (take l.leg-index l.legs)
