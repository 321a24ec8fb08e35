-- The options of `dispatch exchange`, as the command line and the program's faults name them.
use Rattle.std.specs.Prelude.{ℕ, List, codes}
use Rattle.exchange_command.specs.declared.option.ExchangeOption.{ExchangeOption}
use Rattle.exchange_command.specs.declared.option.ExchangeOption.TheVariants.{Port, Sender, Target, Dialect, Fill, Cut, Lose}

-- the name, behind two dashes on the command line
abbrev pub option_name : ExchangeOption → List ℕ
option_name Port = codes "port"
option_name Sender = codes "sender"
option_name Target = codes "target"
option_name Dialect = codes "dialect"
option_name Fill = codes "fill"
option_name Cut = codes "cut"
option_name Lose = codes "lose"
