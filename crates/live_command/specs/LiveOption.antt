-- The options of `dispatch live`: their names, and the values that the command line gave.
use Rattle.std.specs.Prelude.{◌≡◌, ℕ, Bool, true, false, List, Option, Some, codes}
use Rattle.clap.specs.Matches.{found_of, first_value, one_text}
use Rattle.clap.specs.declared.parser.matches.ArgMatches.{ArgMatches}
use Rattle.live_command.specs.declared.option.LiveOption.{LiveOption}
use Rattle.live_command.specs.declared.option.LiveOption.TheVariants.{Venues, Callers, Sweeps, Cut, Turns}
use Rattle.live_command.specs.declared.options.Options.{Options}

-- the name, behind two dashes on the command line
abbrev pub option_name : LiveOption → List ℕ
option_name Venues = codes "venues"
option_name Callers = codes "callers"
option_name Sweeps = codes "sweeps"
option_name Cut = codes "cut"
option_name Turns = codes "turns"

-- the value that the command line gave under the option's name
abbrev pub matched : ArgMatches → LiveOption → Option (List ℕ)
matched matches option = first_value (found_of matches) (option_name option)

-- this is whether a flag was given
abbrev pub IsFlag : ArgMatches → List ℕ → Bool → Type 0
IsFlag matches name on =
    let given = one_text (found_of matches) name in
    (given ≡ Some (codes "true") → on ≡ true) × (given ≡ Some (codes "false") → on ≡ false)

-- each option has the value that the command line gave under its name
pub record AreOptions (matches : ArgMatches) (options : Options) : Type 0 where
  pub venues : matched matches Venues ≡ Some options.venues.now
  pub callers : matched matches Callers ≡ Some options.callers.now
  pub sweeps : matched matches Sweeps ≡ Some options.sweeps.now
  pub cut : matched matches Cut ≡ Some options.cut.now
  pub turns : matched matches Turns ≡ Some options.turns.now
  pub cuts_short : IsFlag matches (codes "cut-short") options.cuts_short
  pub stops_on_input : IsFlag matches (codes "stop-on-input") options.stops_on_input
