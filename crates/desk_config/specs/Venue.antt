-- What a `[[venue]]` says.
use Rattle.std.specs.Prelude.{ℕ, false, List, Option, Some, None, unwrap_or, option_and_then, Result, Ok, Err}
use Rattle.toml.specs.Data.{Data, as_bool, as_str}
use Rattle.desk_words.specs.VenueName.{venue_name_of}
use Rattle.desk_config.specs.declared.endpoint.Endpoint.{Endpoint}
use Rattle.desk_config.specs.declared.endpoint.Endpoint.TheVariants as endpoint
use Rattle.desk_config.specs.declared.endpoint.Where.{Where}
use Rattle.desk_config.specs.declared.endpoint.Where.TheVariants as there_is
use Rattle.desk_config.specs.declared.fault.Fault.{Fault}
use Rattle.desk_config.specs.declared.fault.Fault.TheVariants.{Missing, OnlySimulated}
use Rattle.desk_config.specs.declared.key.Key.TheVariants as key
use Rattle.desk_config.specs.declared.keys.Keys.TheVariants as keys
use Rattle.desk_config.specs.declared.session_terms.SessionTerms.{SessionTerms}
use Rattle.desk_config.specs.declared.venue.Venue.{Venue}
use Rattle.desk_config.specs.Desk.{comp_id_in, printable_in}
use Rattle.desk_config.specs.Addresses.{dialled_in}
use Rattle.desk_config.specs.Number.{number_within}
use Rattle.desk_config.specs.Reading.{and_then, checked, needed, value_at}
use Rattle.desk_config.specs.Words.{words_in}
use Rattle.desk_config.specs.LimitKeys.{leg_limits_in}
use Rattle.desk_config.specs.Dress.{dress_in}

-- a venue's name, as the file spells it
abbrev pub name_in : Data → Option (List ℕ)
name_in given = option_and_then venue_name_of (as_str given)

-- only a simulated exchange is told what it fills
abbrev pub endpoint_of : Where → Option ℕ → Result Endpoint Fault
endpoint_of (there_is.At address) None = Ok (endpoint.At address)
endpoint_of (there_is.At address) (Some fill) = Err OnlySimulated
endpoint_of there_is.Simulated fill = Ok (endpoint.Simulated (unwrap_or fill 1_000_000))

-- the exchange of a venue
unfoldable pub endpoint_in : Where → Data → Result Endpoint Fault
endpoint_in place given =
    and_then (value_at (number_within 0 1_000_000) key.Fill given) (λ fill. endpoint_of place fill)

-- the venue's comp id, or the desk's
abbrev pub own_or_desk : Option (List ℕ) → Option (List ℕ) → Result (List ℕ) Fault
own_or_desk desk (Some own) = Ok own
own_or_desk (Some sender) None = Ok sender
own_or_desk None None = Err (Missing key.Sender)

-- the desk's comp id at a venue
unfoldable pub sender_in : Option (List ℕ) → Data → Result (List ℕ) Fault
sender_in desk given = and_then (value_at comp_id_in key.Sender given) (λ own. own_or_desk desk own)

-- the session of a venue
unfoldable pub session_in : Data → Result SessionTerms Fault
session_in given =
    and_then (value_at (number_within 1 3600) key.Heartbeat given) (λ heartbeat.
    and_then (value_at as_bool key.NextExpected given) (λ next.
    and_then (value_at as_bool key.Reopen given) (λ reopen.
    and_then (value_at (number_within 16 999_999_999) key.MaxNumber given) (λ max.
    Ok (record {
      heartbeat = unwrap_or heartbeat 30;
      next_expected = unwrap_or next false;
      reopen = unwrap_or reopen false;
      max_number = unwrap_or max 999_999_999;
    })))))

-- what a table says, where the desk has this comp id, or its first fault
unfoldable pub venue_in : Option (List ℕ) → Data → Result Venue Fault
venue_in desk given =
    and_then (checked keys.Venue given) (λ _.
    and_then (needed name_in key.Name given) (λ name.
    and_then (dialled_in given) (λ dialled.
    and_then (endpoint_in dialled.place given) (λ exchange.
    and_then (needed comp_id_in key.Target given) (λ target.
    and_then (sender_in desk given) (λ sender.
    and_then (words_in given) (λ words.
    and_then (dress_in words given) (λ dress.
    and_then (value_at (printable_in 200) key.PasswordFile given) (λ password.
    and_then (session_in given) (λ session.
    and_then (leg_limits_in given) (λ limits.
    Ok (record {
      name = name;
      endpoint = exchange;
      backups = dialled.backups;
      target = target;
      sender = sender;
      session = session;
      words = words;
      dress = dress;
      password_file = password;
      limits = limits;
    }))))))))))))
