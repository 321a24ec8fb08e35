-- Where a venue's exchange is.
use Rattle.std.specs.Prelude.{ℕ, List, codes, Option, Some, option_map, if◌then◌else◌}
use Rattle.std.specs.Str.{bytes_eq}
use Rattle.desk_config.specs.Address.{address_of}
use Rattle.desk_config.specs.declared.endpoint.Where.{Where}
use Rattle.desk_config.specs.declared.endpoint.Where.TheVariants.{At, Simulated}

-- what the file names as an address: an address, or `simulated`
abbrev pub where_of : List ℕ → Option Where
where_of text = if bytes_eq text (codes "simulated") then Some Simulated else option_map At (address_of text)
