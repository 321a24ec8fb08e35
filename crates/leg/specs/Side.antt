-- A side as it is printed.
use Rattle.std.specs.Prelude.{ℕ, List, codes}
use Rattle.leg.specs.declared.side.Side.{Side}
use Rattle.leg.specs.declared.side.Side.TheVariants.{Buy, Sell}

-- the side's word
abbrev pub side_text : Side → List ℕ
side_text Buy = codes "buy"
side_text Sell = codes "sell"
