use Rattle.std.proofs.Common.{◌≡◌, [], drop, ◌≤◌, length}
use Rattle.toml.specs.View.{items_view}
use Rattle.desk_config.specs.Venues.{venues_from}
use Rattle.desk_config.proofs.venues.each_venue.Given as goal

abbrev pub invariant-loop-table : goal.invariant-loop-table
invariant-loop-table l = record {
  said : venues_from l.desk [] (items_view l.tables.items)
      ≡ venues_from l.desk l.venues.items (items_view (drop l.table-index l.tables.items));
  count : length l.venues.items ≤ l.table-index;
}
