-- The header of an order (FIX 4.4 Volume 2, "Standard Message Header").
use Rattle.std.specs.Prelude.{ℕ, ◌≤◌, List}
use Rattle.fix_tags.specs.Stamp.{StampParts}

-- who sends the order to whom, under which number, and when
pub record HeaderParts : Type 0 where
  pub from : List ℕ
  pub to : List ℕ
  pub number : ℕ
  pub at : StampParts

-- the number is in range
pub record IsHeader (header : HeaderParts) : Type 0 where
  pub number_from : 1 ≤ header.number
  pub number_to : header.number ≤ 999999998
