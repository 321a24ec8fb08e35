-- What the words of `dispatch journal` ask for.
use Rattle.std.specs.Prelude.{◌≡◌, ℕ, Bool, true, false, List, Some, codes}
use Rattle.std.specs.Option.{option_map}
use Rattle.clap.specs.Matches.{first_value, found_of, one_text}
use Rattle.clap.specs.declared.parser.matches.ArgMatches.{ArgMatches}
use Rattle.journal_command.specs.declared.command.Request.{Request}

-- this is whether a flag was given
abbrev pub IsFlag : ArgMatches → List ℕ → Bool → Type 0
IsFlag matches name on =
    let given = one_text (found_of matches) name in
    (given ≡ Some (codes "true") → on ≡ true) × (given ≡ Some (codes "false") → on ≡ false)

-- the folder is the one that was named, lines are told where that is asked for, and the log is that of the venue that
-- was named, if one was
pub record IsRequest (matches : ArgMatches) (r : Request) : Type 0 where
  pub folder : first_value (found_of matches) (codes "DAY") ≡ Some r.folder.now
  pub tells_lines : IsFlag matches (codes "lines") r.tells_lines
  pub log : first_value (found_of matches) (codes "log") ≡ option_map (λ name. name.now) r.log
