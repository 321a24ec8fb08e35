-- What `dispatch order` is asked to write: the request that the texts of its options make.
use Rattle.std.specs.Prelude.{
  ℕ,
  ◌&&◌,
  List,
  length,
  codes,
  Option,
  Some,
  None,
  Result,
  Ok,
  Err,
  ◌==◌,
  nat_le,
  if◌then◌else◌,
  option_and_then,
  option_map,
}
use Rattle.std.specs.Option.{ok_or}
use Rattle.std.specs.Str.{bytes_eq}
use Rattle.fix_text.specs.Then.{◌>>=◌}
use Rattle.fix_tags.specs.CompId.{comp_id_of}
use Rattle.fix_tags.specs.Number.{number_of}
use Rattle.fix_tags.specs.Stamp.{StampParts, stamp_read}
use Rattle.leg.specs.declared.side.Side.{Side}
use Rattle.leg.specs.declared.side.Side.TheVariants.{Buy, Sell}
use Rattle.dialect.specs.JoinedSymbol.{joined_symbol_of}
use Rattle.order_command.specs.declared.fault.CommandFault.{CommandFault}
use Rattle.order_command.specs.declared.fault.CommandFault.TheVariants.{BadValue}
use Rattle.order_command.specs.declared.option.OrderOption.{OrderOption}
use Rattle.order_command.specs.declared.option.OrderOption.TheVariants as Of
use Rattle.order_command.specs.declared.options.Options.{Options}
use Rattle.order_command.specs.declared.request.Request.{Request}

-- the value of an option's text, if it has one
abbrev pub given : {A : Type 0} → OrderOption → Option A → Result A CommandFault
given option value = ok_or value (BadValue option)

-- a number from 1 to the most
abbrev pub up_to : ℕ → ℕ → Option ℕ
up_to most number = if nat_le 1 number && nat_le number most then Some number else None

-- the number of a text, from 1 to the most
abbrev pub number_up_to : ℕ → List ℕ → Option ℕ
number_up_to most text = option_and_then (up_to most) (number_of text)

-- the side of its word
abbrev pub side_named : List ℕ → Option Side
side_named word =
    if bytes_eq word (codes "buy") then Some Buy
    else (if bytes_eq word (codes "sell") then Some Sell else None)

-- the stamp of a text with its milliseconds
abbrev pub full_stamp : List ℕ → Option StampParts
full_stamp text = if length text == 21 then stamp_read text else None

-- the stamp of the text, or where there is none the one that the clock told
abbrev pub moment_of : StampParts → Option (List ℕ) → Option StampParts
moment_of told (Some text) = full_stamp text
moment_of told None = Some told

-- the leg and the header of its order, or the first bad value in the order of the options, where the clock told this
-- stamp
unfoldable pub request_of : StampParts → Options → Result Request CommandFault
request_of told options = do
  sweep ← given Of.Sweep (number_up_to 999999999999 options.sweep.now)
  place ← given Of.Leg (number_up_to 32 options.leg.now)
  symbol ← given Of.Symbol (joined_symbol_of 46 options.symbol.now)
  side ← given Of.Side (side_named options.side.now)
  shares ← given Of.Shares (number_up_to 1000000 options.shares.now)
  price ← given Of.Price (number_up_to 9999999999 options.price.now)
  number ← given Of.Number (number_up_to 999999998 options.number.now)
  from ← given Of.From (comp_id_of options.from.now)
  to ← given Of.To (comp_id_of options.to.now)
  at ← given Of.At (moment_of told (option_map (λ text. text.now) options.at))
  Ok (record {
    leg = record {
      id = record { sweep = sweep; place = place };
      terms = record { symbol = symbol; side = side; shares = shares; price = price };
    };
    header = record { from = from; to = to; number = number; at = at };
    form = options.form;
  })
