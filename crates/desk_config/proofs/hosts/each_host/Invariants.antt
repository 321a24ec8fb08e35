use Rattle.std.proofs.Common.{◌≡◌, [], drop, ◌≤◌, length}
use Rattle.toml.specs.View.{items_view}
use Rattle.desk_config.specs.Hosts.{hosts_from}
use Rattle.desk_config.proofs.hosts.each_host.Given as goal

abbrev pub invariant-loop-value : goal.invariant-loop-value
invariant-loop-value l = record {
  said : hosts_from [] (items_view l.values.items)
      ≡ hosts_from l.hosts.items (items_view (drop l.value-index l.values.items));
  count : length l.hosts.items ≤ l.value-index;
}
