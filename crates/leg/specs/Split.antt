-- The shares of one leg, in five parts that add up to them.
use Rattle.std.specs.Prelude.{ℕ, ◌+◌, ◌-◌, ◌==◌, nat_le, Result, Ok, Err, if◌then◌else◌}
use Rattle.leg.specs.declared.fault.LegFault.{LegFault}
use Rattle.leg.specs.declared.fault.LegFault.TheVariants.{Overfill, AlreadyMoved, NotFilled}
use Rattle.leg.specs.Terms.{IsShares}

-- what became of a leg's shares
pub record SplitParts : Type 0 where
  pub filled : ℕ
  pub busted : ℕ
  pub cancelled : ℕ
  pub withdrawn : ℕ
  pub still_open : ℕ

-- the shares of the leg
abbrev pub leg_shares : SplitParts → ℕ
leg_shares split = split.filled + split.busted + split.cancelled + split.withdrawn + split.still_open

-- the parts are those of the shares of a leg
pub record IsSplit (split : SplitParts) : Type 0 where
  pub shares : IsShares (leg_shares split)

-- shares that are all still open
abbrev pub all_open : ℕ → SplitParts
all_open shares = record { filled = 0; busted = 0; cancelled = 0; withdrawn = 0; still_open = shares }

-- what a call answers, and the parts after it
abbrev pub SplitAnswer : Type 0
SplitAnswer = Result (Unit {0}) LegFault × SplitParts

-- a trade moves open shares to the filled ones, where so many are open
abbrev pub split_fill : SplitParts → ℕ → SplitAnswer
split_fill split n =
    if nat_le n split.still_open
    then (Ok tt, record split { filled = split.filled + n; still_open = split.still_open - n })
    else (Err Overfill, split)

-- the end of the order cancels what is open
abbrev pub split_cancel_rest : SplitParts → SplitParts
split_cancel_rest split = record split { cancelled = split.cancelled + split.still_open; still_open = 0 }

-- a withdrawal takes all the shares, where all are still open
abbrev pub split_withdraw : SplitParts → SplitAnswer
split_withdraw split =
    if split.still_open == leg_shares split
    then (Ok tt, record split { withdrawn = split.still_open; still_open = 0 })
    else (Err AlreadyMoved, split)

-- a bust moves filled shares to the busted ones, where so many are filled
abbrev pub split_bust : SplitParts → ℕ → SplitAnswer
split_bust split n =
    if nat_le n split.filled
    then (Ok tt, record split { filled = split.filled - n; busted = split.busted + n })
    else (Err NotFilled, split)
