-- Two sweeps were placed, of no legs and so of no shares: number 4 under `P7-3`, and number 9 under `A`.
use Rattle.std.specs.Prelude.{◌≡◌, List, [], ◌∷◌, codes, Some, None}
use Rattle.sweep_refs.specs.declared.placement.Placement.{Placement}
use Rattle.sweep_refs.specs.Placed.{Entry, placed_under}

abbrev pub fourth : Placement
fourth = record { number = 4; shares = 0; legs = [] }

abbrev pub ninth : Placement
ninth = record { number = 9; shares = 0; legs = [] }

abbrev pub entries : List Entry
entries = (codes "P7-3", fourth) ∷ (codes "A", ninth) ∷ []

pub record WorkedCases : Type 0 where
  pub first : placed_under entries (codes "P7-3") ≡ Some fourth
  pub second : placed_under entries (codes "A") ≡ Some ninth
  pub other_case : placed_under entries (codes "p7-3") ≡ None
  pub beginning : placed_under entries (codes "P7") ≡ None
  pub none_yet : placed_under [] (codes "P7-3") ≡ None
