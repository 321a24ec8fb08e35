-- An end of a ring.
use Rattle.std.specs.Prelude.{ℕ, List, [], ◌∷◌, ◌++◌}
use Rattle.atomic_table.specs.Seated.{TableId}
use Rattle.leg.specs.declared.placed_leg.PlacedLeg.{PlacedLeg}

-- which ring it is of, how many legs the ring has room for, and the legs that went through this end, in order
pub record Port : Type 0 where
  pub table : TableId
  pub room : ℕ
  pub legs : List PlacedLeg

-- one leg more went through
abbrev pub with_leg : Port → PlacedLeg → Port
with_leg port leg = record port { legs = port.legs ++ leg ∷ [] }
