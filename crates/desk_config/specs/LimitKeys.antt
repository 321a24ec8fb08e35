-- What `[limits]` says, but for the symbols, and what a `[[venue]]` says of its legs.
use Rattle.std.specs.Prelude.{ℕ, codes, Option, Some, None, Result, Ok, Err}
use Rattle.toml.specs.Data.{Data, get}
use Rattle.order_limits.specs.declared.limits.LegLimits.{LegLimits}
use Rattle.desk_config.specs.declared.fault.Fault.{Fault}
use Rattle.desk_config.specs.declared.fault.KeyFault.{KeyFault}
use Rattle.desk_config.specs.declared.key.Key.{Key}
use Rattle.desk_config.specs.declared.key.Key.TheVariants.{LegShares, LegDollars, SweepDollars, DayDollars}
use Rattle.desk_config.specs.declared.keys.Keys.TheVariants as keys
use Rattle.desk_config.specs.declared.limit_keys.LimitsTable.{LimitsTable}
use Rattle.desk_config.specs.declared.place.Place.TheVariants as place
use Rattle.desk_config.specs.Number.{number_within}
use Rattle.desk_config.specs.Reading.{and_then, checked, in_place, value_at}

-- the shares of a leg
abbrev pub shares_at : Data → Result (Option ℕ) Fault
shares_at given = value_at (number_within 1 1_000_000) LegShares given

-- the whole dollars of a key
abbrev pub dollars_at : Key → Data → Result (Option ℕ) Fault
dollars_at key given = value_at (number_within 1 1_000_000_000_000_000) key given

-- what a leg may have, by the keys of a table
unfoldable pub leg_limits_in : Data → Result LegLimits Fault
leg_limits_in given =
    and_then (shares_at given) (λ shares.
    and_then (dollars_at LegDollars given) (λ dollars.
    Ok (record { shares = shares; dollars = dollars })))

-- what the table `[limits]` says, or its first fault
unfoldable pub limits_table : Data → Result LimitsTable Fault
limits_table limits =
    and_then (checked keys.Limits limits) (λ _.
    and_then (leg_limits_in limits) (λ leg.
    and_then (dollars_at SweepDollars limits) (λ sweep.
    and_then (dollars_at DayDollars limits) (λ day.
    Ok (record { leg = leg; sweep_dollars = sweep; day_dollars = day })))))

-- a file without `[limits]`
abbrev pub no_limits : LimitsTable
no_limits = record { leg = record { shares = None; dollars = None }; sweep_dollars = None; day_dollars = None }

abbrev pub limits_found : Option Data → Result LimitsTable KeyFault
limits_found None = Ok no_limits
limits_found (Some limits) = in_place place.Limits (limits_table limits)

-- what a file's `[limits]` says, or its first fault
unfoldable pub limits_in : Data → Result LimitsTable KeyFault
limits_in file = limits_found (get (codes "limits") file)
