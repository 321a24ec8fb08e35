-- How `dispatch order` ends, by what its words ask for.
use Rattle.std.specs.Prelude.{◌≡◌, ◌⊎◌, ℕ, List, Option, IfSome, take, Result, Ok, Err}
use Rattle.std.specs.Io.KnownBytes.{Keeps}
use Rattle.clap.specs.declared.parser.matches.ArgMatches.{ArgMatches}
use Rattle.fix_tags.specs.Stamp.{StampParts}
use Rattle.leg.specs.declared.leg.Leg.{Leg}
use Rattle.dialect.specs.Any.{any_spelling}
use Rattle.dialect.specs.Spelled.{spelled}
use Rattle.dialect.specs.declared.any_dialect.AnyDialect.{AnyDialect}
use Rattle.command_line.specs.ExitStatus.{exit_status}
use Rattle.command_line.specs.FrameText.{bytes_of}
use Rattle.order_command.specs.declared.asked.Asked.{Asked}
use Rattle.order_command.specs.declared.asked.Asked.TheVariants.{Write, Read}
use Rattle.order_command.specs.declared.fault.CommandFault.{CommandFault}
use Rattle.order_command.specs.declared.fault.CommandFault.TheVariants.{
  CommandLine,
  NoValue,
  BadValue,
  ReadFailed,
  OutOfMemory,
}
use Rattle.order_command.specs.declared.order_fault.OrderFault.{OrderFault}
use Rattle.order_command.specs.Fault.{fault_status}
use Rattle.order_command.specs.Options.{IsAsked}
use Rattle.order_command.specs.OrderFrame.{order_read_from, stream_of}
use Rattle.order_command.specs.OrderLines.{IsOrderText, PrintsText, EndsOrder, EndsReading}
use Rattle.order_command.specs.Request.{request_of}

-- a fault of the words, or out of memory
abbrev pub IsOfWords : CommandFault → Type 0
IsOfWords (CommandLine error) = Unit {0}
IsOfWords (NoValue option) = Unit {0}
IsOfWords (BadValue option) = Unit {0}
IsOfWords OutOfMemory = Unit {0}
IsOfWords other = ⊥

-- the leg of the order that a text says in a dialect, as a frame or as a frame is shown
abbrev pub leg_in : AnyDialect → List ℕ → Result Leg OrderFault
leg_in dialect text = order_read_from (spelled (any_spelling dialect)).decoding.order (stream_of (bytes_of text))

-- how a run ends that is asked for the leg of an input, of which it looks at the first 65,536 bytes
abbrev pub EndsInput : AnyDialect → Option (List ℕ) → Option (List ℕ) → Option (List ℕ) → {A : Type 0}
    → Result A CommandFault → Type 0
EndsInput dialect input before after (Err ReadFailed) = Keeps before after
EndsInput dialect input before after done =
    IfSome input (λ bytes. EndsReading before after done (leg_in dialect (take 65536 bytes)))

-- how a run ends that is asked for this, where the clock told this stamp, by the bytes that the output held before and
-- holds after
abbrev pub EndsAsked : StampParts → Option (List ℕ) → Option (List ℕ) → Option (List ℕ) → Asked → {A : Type 0}
    → Result A CommandFault → Type 0
EndsAsked told input before after (Write options) done =
    EndsOrder
    (λ request. PrintsText (IsOrderText (spelled (any_spelling options.dialect)).encoding
    (spelled (any_spelling options.dialect)).decoding.order request) before after)
    (request_of told options)
    done
EndsAsked told input before after (Read dialect) done = EndsInput dialect input before after done

-- the words are refused, and nothing is printed
abbrev pub IsRefused : Option (List ℕ) → Option (List ℕ) → {A : Type 0} → Result A CommandFault → Type 0
IsRefused before after (Ok done) = ⊥
IsRefused before after (Err fault) = IsOfWords fault × Keeps before after

-- how a run ends: its words are refused, or it does what they ask for
abbrev pub EndsRun : StampParts → Option (List ℕ) → Option (List ℕ) → Option (List ℕ) → {A : Type 0}
    → Result A CommandFault → Type 0
EndsRun told input before after done =
    IsRefused before after done
    ⊎ ((matches : ArgMatches) × (asked : Asked) × IsAsked matches asked × EndsAsked told input before after asked done)

-- a run that ends so has this exit status
abbrev pub ExitsSo : StampParts → Option (List ℕ) → Option (List ℕ) → Option (List ℕ) → ℕ → Type 0
ExitsSo told input before after status =
    (done : Result (Unit {0}) CommandFault) × (status ≡ exit_status fault_status done)
    × EndsRun told input before after done
