-- The options of `dispatch order`, as the command line and the program's faults name them.
use Rattle.std.specs.Prelude.{ℕ, List, codes}
use Rattle.order_command.specs.declared.option.OrderOption.{OrderOption}
use Rattle.order_command.specs.declared.option.OrderOption.TheVariants.{
  Dialect,
  Sweep,
  Leg,
  Symbol,
  Side,
  Shares,
  Price,
  Number,
  From,
  To,
  At,
}

-- the name, behind two dashes on the command line
abbrev pub option_name : OrderOption → List ℕ
option_name Dialect = codes "dialect"
option_name Sweep = codes "sweep"
option_name Leg = codes "leg"
option_name Symbol = codes "symbol"
option_name Side = codes "side"
option_name Shares = codes "shares"
option_name Price = codes "price"
option_name Number = codes "number"
option_name From = codes "from"
option_name To = codes "to"
option_name At = codes "at"
