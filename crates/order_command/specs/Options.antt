-- What the words of `dispatch order` ask for: the values of its options, each as it was written.
use Rattle.std.specs.Prelude.{◌≡◌, ℕ, List, Option, Some, codes, option_and_then, option_map}
use Rattle.clap.specs.Matches.{found_of, first_value, one_text}
use Rattle.clap.specs.declared.parser.matches.ArgMatches.{ArgMatches}
use Rattle.dialect.specs.DialectName.{dialect_named}
use Rattle.order_command.specs.declared.option.OrderOption.{OrderOption}
use Rattle.order_command.specs.declared.option.OrderOption.TheVariants.{
  Dialect,
  Sweep,
  Leg,
  Symbol,
  Side,
  Shares,
  Price,
  Number,
  From,
  To,
  At,
}
use Rattle.order_command.specs.declared.asked.Asked.{Asked}
use Rattle.order_command.specs.declared.asked.Asked.TheVariants.{Write, Read}
use Rattle.order_command.specs.declared.form.OrderForm.{OrderForm}
use Rattle.order_command.specs.declared.form.OrderForm.TheVariants.{Shown, Raw}
use Rattle.order_command.specs.declared.options.Options.{Options}
use Rattle.order_command.specs.OrderOption.{option_name}

-- the value that the command line gave under the option's name
abbrev pub matched : ArgMatches → OrderOption → Option (List ℕ)
matched matches option = first_value (found_of matches) (option_name option)

-- what the command line gave of a flag
abbrev pub flagged : ArgMatches → List ℕ → Option (List ℕ)
flagged matches name = one_text (found_of matches) name

-- each option has the value that the command line gave under its name, if it gave one, and the dialect is the one of
-- its name; and the form is that of the flag `raw`
pub record AreOptions (matches : ArgMatches) (options : Options) : Type 0 where
  pub dialect : option_and_then dialect_named (matched matches Dialect) ≡ Some options.dialect
  pub sweep : matched matches Sweep ≡ Some options.sweep.now
  pub leg : matched matches Leg ≡ Some options.leg.now
  pub symbol : matched matches Symbol ≡ Some options.symbol.now
  pub side : matched matches Side ≡ Some options.side.now
  pub shares : matched matches Shares ≡ Some options.shares.now
  pub price : matched matches Price ≡ Some options.price.now
  pub number : matched matches Number ≡ Some options.number.now
  pub from : matched matches From ≡ Some options.from.now
  pub to : matched matches To ≡ Some options.to.now
  pub at : matched matches At ≡ option_map (λ text. text.now) options.at
  pub raw : flagged matches (codes "raw") ≡ Some (codes "true") → options.form ≡ Raw
  pub shown : flagged matches (codes "raw") ≡ Some (codes "false") → options.form ≡ Shown

-- the dialect is the one of its name, and a frame is read where the flag `read` says so; else the options are written
abbrev pub IsAsked : ArgMatches → Asked → Type 0
IsAsked matches (Write options) =
    AreOptions matches options × (flagged matches (codes "read") ≡ Some (codes "true") → ⊥)
IsAsked matches (Read dialect) =
    (option_and_then dialect_named (matched matches Dialect) ≡ Some dialect)
    × (flagged matches (codes "read") ≡ Some (codes "false") → ⊥)
