-- What the words of `dispatch replay` ask for.
use Rattle.std.specs.Prelude.{◌≡◌, ℕ, Bool, true, false, List, Option, Some, codes, option_map}
use Rattle.clap.specs.Matches.{found_of, first_value, one_text}
use Rattle.clap.specs.declared.parser.matches.ArgMatches.{ArgMatches}
use Rattle.replay_command.specs.declared.asked.Asked.{Asked}
use Rattle.replay_command.specs.declared.asked.Task.{Task}
use Rattle.replay_command.specs.declared.asked.Task.TheVariants.{Check, Run}
use Rattle.replay_command.specs.declared.shown.Shown.{Shown}

-- what the command line gave of a flag
abbrev pub flagged : ArgMatches → List ℕ → Option (List ℕ)
flagged matches name = one_text (found_of matches) name

-- this is whether a flag was given
abbrev pub IsFlag : ArgMatches → List ℕ → Bool → Type 0
IsFlag matches name on =
    (flagged matches name ≡ Some (codes "true") → on ≡ true)
    × (flagged matches name ≡ Some (codes "false") → on ≡ false)

-- each thing is shown whose flag was given
pub record AreShown (matches : ArgMatches) (shown : Shown) : Type 0 where
  pub steps : IsFlag matches (codes "steps") shown.steps
  pub frames : IsFlag matches (codes "frames") shown.frames
  pub summary : IsFlag matches (codes "summary") shown.summary

-- the script is read where the flag `check` was given, and else run
abbrev pub IsTask : ArgMatches → Task → Type 0
IsTask matches Check = flagged matches (codes "check") ≡ Some (codes "false") → ⊥
IsTask matches (Run shown) = AreShown matches shown × (flagged matches (codes "check") ≡ Some (codes "true") → ⊥)

-- and the file is the one that was named, if one was, and so is that of the picture
abbrev pub IsAsked : ArgMatches → Asked → Type 0
IsAsked matches asked =
    IsTask matches asked.task
    × (first_value (found_of matches) (codes "FILE") ≡ option_map (λ text. text.now) asked.file)
    × (first_value (found_of matches) (codes "ladder") ≡ option_map (λ text. text.now) asked.ladder)
