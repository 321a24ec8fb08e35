-- The values of the options of `dispatch exchange`, each as it was written.
use Rattle.std.specs.Prelude.{◌≡◌, ℕ, List, Option, Some}
use Rattle.clap.specs.Matches.{found_of, first_value}
use Rattle.clap.specs.declared.parser.matches.ArgMatches.{ArgMatches}
use Rattle.exchange_command.specs.declared.option.ExchangeOption.{ExchangeOption}
use Rattle.exchange_command.specs.declared.option.ExchangeOption.TheVariants.{Port, Sender, Target, Dialect, Fill, Cut, Lose}
use Rattle.exchange_command.specs.declared.options.Options.{Options}
use Rattle.exchange_command.specs.ExchangeOption.{option_name}

-- the value that the command line has under the option's name
abbrev pub matched : ArgMatches → ExchangeOption → Option (List ℕ)
matched matches option = first_value (found_of matches) (option_name option)

-- each option has the value that the command line has under its name
pub record AreOptions (matches : ArgMatches) (options : Options) : Type 0 where
  pub port : matched matches Port ≡ Some options.port.now
  pub sender : matched matches Sender ≡ Some options.sender.now
  pub target : matched matches Target ≡ Some options.target.now
  pub dialect : matched matches Dialect ≡ Some options.dialect.now
  pub fill : matched matches Fill ≡ Some options.fill.now
  pub cut : matched matches Cut ≡ Some options.cut.now
  pub lose : matched matches Lose ≡ Some options.lose.now
