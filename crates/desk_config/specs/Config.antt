-- The configuration that a file spells.
use Rattle.std.specs.Prelude.{◌≡◌, ℕ, List, Option, Some, None, IsSome, option_map, Result, Ok, Err}
use Rattle.leg.specs.Symbol.{SymbolParts}
use Rattle.toml.specs.Data.{Data, table}
use Rattle.toml.specs.Errors.{IsMemory, IsBlank}
use Rattle.toml.specs.Parse.{parse_document}
use Rattle.desk_config.specs.declared.address.Address.{Address}
use Rattle.desk_config.specs.declared.config.DeskConfig.{DeskConfig}
use Rattle.desk_config.specs.declared.desk_keys.DeskTable.{DeskTable}
use Rattle.desk_config.specs.declared.fault.ConfigFault.{ConfigFault}
use Rattle.desk_config.specs.declared.fault.ConfigFault.TheVariants as fault
use Rattle.desk_config.specs.declared.fault.KeyFault.{KeyFault}
use Rattle.desk_config.specs.declared.journal.JournalTerms.{JournalTerms}
use Rattle.desk_config.specs.declared.keys.Keys.TheVariants as keys
use Rattle.desk_config.specs.declared.label.Label.{Label}
use Rattle.desk_config.specs.declared.limit_keys.LimitsTable.{LimitsTable}
use Rattle.desk_config.specs.declared.place.Place.TheVariants as place
use Rattle.desk_config.specs.declared.user.User.{User}
use Rattle.desk_config.specs.declared.venue.Venue.{Venue}
use Rattle.desk_config.specs.Desk.{desk_in, has_users, is_guarded}
use Rattle.desk_config.specs.Hosts.{hosts_of}
use Rattle.desk_config.specs.JournalName.{apart_from_desk}
use Rattle.desk_config.specs.LimitKeys.{limits_in}
use Rattle.desk_config.specs.Symbols.{symbols_of}
use Rattle.desk_config.specs.Reading.{and_then, checked, in_place}
use Rattle.desk_config.specs.Users.{users_of}
use Rattle.desk_config.specs.Venues.{venues_of}

-- what a configuration says
pub record ConfigParts : Type 0 where
  pub callers : ℕ
  pub log : Option (List ℕ)
  pub journal : Option JournalTerms
  pub page : Option Address
  pub listen : Option Address
  pub socket : Option (List ℕ)
  pub token : Option (List ℕ)
  pub hosts : List (List ℕ)
  pub users : List User
  pub limits : LimitsTable
  pub symbols : List SymbolParts
  pub label : Label
  pub venues : List Venue

abbrev pub parts_of_config : DeskConfig → ConfigParts
parts_of_config config =
    record {
      callers = config.callers;
      log = config.log;
      journal = config.journal;
      page = config.page;
      listen = config.listen;
      socket = config.socket;
      token = config.token;
      hosts = config.hosts.items;
      users = config.users.items;
      limits = config.limits;
      symbols = config.symbols.items;
      label = config.label;
      venues = config.venues.items;
    }

-- what `[desk]`, the names of the page, the users, `[limits]` with its symbols and the venues say together
abbrev pub config_of : DeskTable → List (List ℕ) → List User → LimitsTable → List SymbolParts → List Venue → ConfigParts
config_of desk hosts users limits symbols venues =
    record {
      callers = desk.callers;
      log = desk.log;
      journal = desk.journal;
      page = desk.doors.page;
      listen = desk.doors.listen;
      socket = desk.doors.socket;
      token = desk.doors.token;
      hosts = hosts;
      users = users;
      limits = limits;
      symbols = symbols;
      label = desk.label;
      venues = venues;
    }

-- the configuration that a file's table has, or its first fault
unfoldable pub config_in : Data → Result ConfigParts KeyFault
config_in file =
    and_then (in_place place.File (checked keys.File file)) (λ _.
    and_then (desk_in file) (λ desk.
    and_then (hosts_of (is_guarded (has_users file) desk.doors.token) file) (λ hosts.
    and_then (limits_in file) (λ limits.
    and_then (symbols_of file) (λ symbols.
    and_then (venues_of desk.sender file) (λ venues.
    and_then (users_of file) (λ users.
    and_then (in_place place.Desk (apart_from_desk desk.journal venues)) (λ _.
    Ok (config_of desk hosts users limits symbols venues)))))))))

-- the answer is what is said, or its fault; or memory ran out
abbrev pub Answers : Result ConfigParts KeyFault → Result DeskConfig ConfigFault → Type 0
Answers said (Ok config) = said ≡ Ok (parts_of_config config)
Answers said (Err (fault.Key key_fault)) = said ≡ Err key_fault
Answers said (Err fault.OutOfMemory) = Unit {0}
Answers said (Err (fault.Toml error)) = ⊥

-- the configuration that a text spells, or the first fault of its keys; none where it is no TOML
abbrev pub text_says : List ℕ → Option (Result ConfigParts KeyFault)
text_says text = option_map (λ file. config_in (table file)) (parse_document text)

-- a text is answered with what it says; with TOML's fault only where it is no TOML, or memory ran out for one that has
-- something; and memory for the list of venues runs out only where it is TOML
abbrev pub AnswersText : List ℕ → Result DeskConfig ConfigFault → Type 0
AnswersText text (Ok config) = text_says text ≡ Some (Ok (parts_of_config config))
AnswersText text (Err (fault.Key key_fault)) = text_says text ≡ Some (Err key_fault)
AnswersText text (Err (fault.Toml error)) =
    (¬ IsMemory error → parse_document text ≡ None) × (IsMemory error → ¬ IsBlank text)
AnswersText text (Err fault.OutOfMemory) = IsSome (parse_document text)
