-- What orders come to at their limit prices.
use Rattle.std.specs.Prelude.{ℕ, ◌*◌, List, sum_by}
use Rattle.leg.specs.declared.sweep.Routed.{Routed}
use Rattle.order_limits.specs.declared.dollars.Dollars.{Dollars}

-- a leg, in ten-thousandths of a dollar: its shares times its limit price
abbrev pub leg_amount : Routed → ℕ
leg_amount leg = leg.terms.shares * leg.terms.price

-- a sweep: the sum over its legs
abbrev pub sweep_amount : List Routed → ℕ
sweep_amount legs = sum_by leg_amount legs

abbrev pub leg_money : Routed → Dollars
leg_money leg = record { ten_thousandths = leg_amount leg }

abbrev pub sweep_money : List Routed → Dollars
sweep_money legs = record { ten_thousandths = sweep_amount legs }
