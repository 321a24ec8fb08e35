-- The limits of a day, by its file.
use Rattle.std.specs.Prelude.{map}
use Rattle.desk_config.specs.declared.config.DeskConfig.{DeskConfig}
use Rattle.order_limits.specs.Limits.{LimitParts, limits_of}

-- those of its `[limits]`, and those of its venues in their order
abbrev pub day_limits : DeskConfig → LimitParts
day_limits config =
    limits_of config.limits.leg config.limits.sweep_dollars config.limits.day_dollars config.symbols.items
    (map (λ venue. venue.limits) config.venues.items)
