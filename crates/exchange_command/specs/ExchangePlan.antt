-- The exchange that `dispatch exchange` is asked to be: what the texts of its options make.
use Rattle.std.specs.Prelude.{ℕ, ◌&&◌, List, Option, Some, None, Result, Ok, false, nat_le, if◌then◌else◌, option_and_then}
use Rattle.std.specs.Option.{ok_or}
use Rattle.fix_text.specs.Then.{◌>>=◌}
use Rattle.fix_tags.specs.CompId.{comp_id_of}
use Rattle.fix_tags.specs.Number.{number_of}
use Rattle.dialect.specs.DialectName.{dialect_named}
use Rattle.exchange_command.specs.declared.exchange_plan.ExchangePlan.{ExchangePlan}
use Rattle.exchange_command.specs.declared.fault.CommandFault.{CommandFault}
use Rattle.exchange_command.specs.declared.fault.CommandFault.TheVariants.{BadValue}
use Rattle.exchange_command.specs.declared.option.ExchangeOption.{ExchangeOption}
use Rattle.exchange_command.specs.declared.option.ExchangeOption.TheVariants as Of
use Rattle.exchange_command.specs.declared.options.Options.{Options}

-- the value of an option's text, if it has one
abbrev pub given : {A : Type 0} → ExchangeOption → Option A → Result A CommandFault
given option value = ok_or value (BadValue option)

-- a number from the least to the most
abbrev pub within : ℕ → ℕ → ℕ → Option ℕ
within least most number = if nat_le least number && nat_le number most then Some number else None

-- the number of a text, from the least to the most
abbrev pub number_in : ℕ → ℕ → List ℕ → Option ℕ
number_in least most text = option_and_then (within least most) (number_of text)

-- the exchange, or the first bad value in the order of the options
unfoldable pub plan_of : Options → Result ExchangePlan CommandFault
plan_of options = do
  port ← given Of.Port (number_in 1 65535 options.port.now)
  me ← given Of.Sender (comp_id_of options.sender.now)
  peer ← given Of.Target (comp_id_of options.target.now)
  dialect ← given Of.Dialect (dialect_named options.dialect.now)
  fill ← given Of.Fill (number_in 0 1000000 options.fill.now)
  cut ← given Of.Cut (number_in 0 1000000 options.cut.now)
  lose ← given Of.Lose (number_in 0 1000000 options.lose.now)
  Ok (record {
    port = port;
    config = record { me = me; peer = peer; heart = 30; max_number = 999999999; has_next = false };
    dialect = dialect;
    dealing = record { fill = fill; cut_after = cut; lose = lose };
  })
