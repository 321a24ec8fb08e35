-- What `[desk]` says.
use Rattle.std.specs.Prelude.{ℕ, Bool, false, not, ◌&&◌, ◌||◌, List, codes, Option, Some, None, unwrap_or, Result, Ok, Err, if◌then◌else◌}
use Rattle.toml.specs.Data.{Data, get, as_str}
use Rattle.std.specs.Option.{is_some}
use Rattle.std.specs.Prelude.{option_and_then}
use Rattle.fix_tags.specs.CompId.{comp_id_of}
use Rattle.desk_words.specs.Printable.{printable_of}
use Rattle.desk_config.specs.declared.address.Address.{Address as AddressParts}
use Rattle.desk_config.specs.declared.desk_keys.DeskTable.{DeskTable}
use Rattle.desk_config.specs.declared.desk_keys.Doors.{Doors}
use Rattle.desk_config.specs.declared.fault.Fault.{Fault}
use Rattle.desk_config.specs.declared.fault.Fault.TheVariants.{NeedsToken, NoJournal, TokenBesideUsers}
use Rattle.desk_config.specs.declared.fault.KeyFault.{KeyFault}
use Rattle.desk_config.specs.declared.journal.Durable.{Durable as DurableKind}
use Rattle.desk_config.specs.declared.journal.Durable.TheVariants.{Process}
use Rattle.desk_config.specs.declared.journal.JournalTerms.{JournalTerms}
use Rattle.desk_config.specs.declared.key.Key.TheVariants.{DeskName, Environment, Sender, Callers, Log, Journal, Durable, Page, Listen, Socket, Token}
use Rattle.desk_config.specs.declared.keys.Keys.TheVariants as keys
use Rattle.desk_config.specs.declared.label.Label.{Label}
use Rattle.desk_config.specs.declared.place.Place.TheVariants as place
use Rattle.desk_config.specs.Address.{address_of, is_loopback}
use Rattle.desk_config.specs.Journal.{durable_named, pattern_of}
use Rattle.desk_config.specs.Number.{number_within}
use Rattle.desk_config.specs.Reading.{and_then, checked, in_place, value_at}
use Rattle.desk_config.specs.User.{user_name_of}

-- a comp id, an address and a text of printable bytes, as the file spells them
abbrev pub comp_id_in : Data → Option (List ℕ)
comp_id_in given = option_and_then comp_id_of (as_str given)

abbrev pub address_in : Data → Option AddressParts
address_in given = option_and_then address_of (as_str given)

abbrev pub printable_in : ℕ → Data → Option (List ℕ)
printable_in most given = option_and_then (printable_of most) (as_str given)

-- the pattern of a folder, and what a journal outlives, as the file spells them
abbrev pub pattern_in : Data → Option (List ℕ)
pattern_in given = option_and_then pattern_of (as_str given)

abbrev pub durable_in : Data → Option DurableKind
durable_in given = option_and_then durable_named (as_str given)

-- what a journal outlives is said only where there is one; the process, if it isn't said
abbrev pub terms_of : Option (List ℕ) → Option DurableKind → Result (Option JournalTerms) Fault
terms_of (Some folder) durable = Ok (Some (record { folder = folder; durable = unwrap_or durable Process }))
terms_of None (Some durable) = Err NoJournal
terms_of None None = Ok None

-- where the journal is kept
unfoldable pub journal_in : Data → Result (Option JournalTerms) Fault
journal_in desk =
    and_then (value_at pattern_in Journal desk) (λ folder.
    and_then (value_at durable_in Durable desk) (λ durable. terms_of folder durable))

-- whether an address is one that others can reach
abbrev pub is_open : Option AddressParts → Bool
is_open (Some address) = not (is_loopback address)
is_open None = false

-- whether a token or a user guards the day
abbrev pub is_guarded : Bool → Option (List ℕ) → Bool
is_guarded has_users token = has_users || is_some token

-- a page or lines that others can reach have a token or a user beside them, and the desk has not both
abbrev pub guarded : Bool → Doors → Result Doors Fault
guarded has_users doors =
    if has_users && is_some doors.token then Err TokenBesideUsers
    else (if not (is_guarded has_users doors.token) && is_open doors.page then Err (NeedsToken Page)
    else (if not (is_guarded has_users doors.token) && is_open doors.listen then Err (NeedsToken Listen)
    else Ok doors))

-- where the page is served and lines are taken, over TCP and over a Unix socket, and the token
unfoldable pub doors_in : Bool → Data → Result Doors Fault
doors_in has_users desk =
    and_then (value_at address_in Page desk) (λ page.
    and_then (value_at address_in Listen desk) (λ listen.
    and_then (value_at (printable_in 100) Socket desk) (λ socket.
    and_then (value_at (printable_in 128) Token desk) (λ token.
    guarded has_users (record { page = page; listen = listen; socket = socket; token = token })))))

-- a desk's name, and its environment, as the file spells them
abbrev pub label_name_in : Data → Option (List ℕ)
label_name_in given = option_and_then user_name_of (as_str given)

-- what the desk is called
unfoldable pub label_in : Data → Result Label Fault
label_in desk =
    and_then (value_at label_name_in DeskName desk) (λ name.
    and_then (value_at label_name_in Environment desk) (λ environment.
    Ok (record { name = name; environment = environment })))

-- what the table `[desk]` says, or its first fault
unfoldable pub desk_table : Bool → Data → Result DeskTable Fault
desk_table has_users desk =
    and_then (checked keys.Desk desk) (λ _.
    and_then (value_at comp_id_in Sender desk) (λ sender.
    and_then (value_at (number_within 1 64) Callers desk) (λ callers.
    and_then (value_at (printable_in 200) Log desk) (λ log.
    and_then (journal_in desk) (λ journal.
    and_then (doors_in has_users desk) (λ doors.
    and_then (label_in desk) (λ label.
    Ok (record {
      sender = sender;
      callers = unwrap_or callers 8;
      log = log;
      journal = journal;
      doors = doors;
      label = label;
    }))))))))

-- a file without `[desk]`
abbrev pub no_doors : Doors
no_doors = record { page = None; listen = None; socket = None; token = None }

abbrev pub no_label : Label
no_label = record { name = None; environment = None }

abbrev pub no_desk : DeskTable
no_desk = record { sender = None; callers = 8; log = None; journal = None; doors = no_doors; label = no_label }

abbrev pub desk_found : Bool → Option Data → Result DeskTable KeyFault
desk_found has_users None = Ok no_desk
desk_found has_users (Some desk) = in_place place.Desk (desk_table has_users desk)

-- whether a file has users
abbrev pub has_users : Data → Bool
has_users file = is_some (get (codes "user") file)

-- what a file's `[desk]` says, or its first fault
unfoldable pub desk_in : Data → Result DeskTable KeyFault
desk_in file = desk_found (has_users file) (get (codes "desk") file)
