-- A trade: how many shares, and the price as the exchange spelled it (FIX 4.4 Volume 4, ExecutionReport: LastQty,
-- LastPx).
use Rattle.std.specs.Prelude.{ℕ, List, Option, Some, None, if◌then◌else◌}
use Rattle.leg.specs.Terms.{is_shares, IsShares}
use Rattle.dialect.specs.FreeText.{IsFreeText}

-- the parts of a trade
pub record FillParts : Type 0 where
  pub shares : ℕ
  pub px : List ℕ

-- both parts of a trade are in range
pub record IsFill (fill : FillParts) : Type 0 where
  pub shares : IsShares fill.shares
  pub px : IsFreeText 20 fill.px

-- the trade of these parts, where the shares are in range
abbrev pub fill_of : ℕ → List ℕ → Option FillParts
fill_of shares px = if is_shares shares then Some (record { shares = shares; px = px }) else None
