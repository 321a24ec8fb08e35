-- A host and a port, as `127.0.0.1:9001` or `fix.example.com:9001`.
use Rattle.std.specs.Prelude.{ℕ, Bool, ◌||◌, List, ◌++◌, codes, decimal, Option, None, option_and_then, option_map, ◌==◌, if◌then◌else◌}
use Rattle.std.specs.Char.{is_ascii_alphanumeric}
use Rattle.std.specs.List.{list_all}
use Rattle.std.specs.Str.{bytes_eq}
use Rattle.fix_tags.specs.Digits.{within}
use Rattle.fix_tags.specs.Number.{number_of}
use Rattle.dialect.specs.Split.{parts_round}
use Rattle.desk_words.specs.Printable.{printable_of}
use Rattle.desk_config.specs.declared.address.Address.{Address}

-- whether a byte may stand in a host: a letter, a digit, `.` or `-`
abbrev pub is_host_byte : ℕ → Bool
is_host_byte c = is_ascii_alphanumeric c || c == 46 || c == 45

-- the host that a text is: 1 to 100 such bytes
abbrev pub host_of : List ℕ → Option (List ℕ)
host_of text = if list_all is_host_byte text then printable_of 100 text else None

-- the port that a text is: 1 to 65535
abbrev pub port_of : List ℕ → Option ℕ
port_of text = option_and_then (within 1 65535) (number_of text)

-- the address of two parts
abbrev pub address_of_parts : List ℕ × List ℕ → Option Address
address_of_parts parts =
    option_and_then (λ host.
    option_map (λ port. record { host = host; port = port }) (port_of parts.1)) (host_of parts.0)

-- the address that a text is
unfoldable pub address_of : List ℕ → Option Address
address_of text = option_and_then address_of_parts (parts_round 58 text)

-- whether only this machine can reach it
abbrev pub is_loopback : Address → Bool
is_loopback address = bytes_eq address.host (codes "127.0.0.1")

-- an address as it is written
abbrev pub address_text : Address → List ℕ
address_text address = address.host ++ codes ":" ++ decimal address.port
