-- The number of a leg: its sweep's number, and its place there.
use Rattle.std.specs.Prelude.{ℕ, ◌≤◌, List, ◌++◌, codes, decimal}

-- the parts of a leg's number
pub record LegIdParts : Type 0 where
  pub sweep : ℕ
  pub place : ℕ

-- both parts of a leg's number are in range
pub record IsLegId (id : LegIdParts) : Type 0 where
  pub sweep_low : 1 ≤ id.sweep
  pub sweep_high : id.sweep ≤ 999999999999
  pub place_low : 1 ≤ id.place
  pub place_high : id.place ≤ 32

-- a leg's number as it is printed, as `S12L3`
abbrev pub leg_id_text : LegIdParts → List ℕ
leg_id_text id = codes "S" ++ decimal id.sweep ++ codes "L" ++ decimal id.place
