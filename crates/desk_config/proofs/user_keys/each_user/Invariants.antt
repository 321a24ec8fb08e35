use Rattle.std.proofs.Common.{◌≡◌, [], drop, ◌≤◌, length}
use Rattle.toml.specs.View.{items_view}
use Rattle.desk_config.specs.Users.{users_from}
use Rattle.desk_config.proofs.user_keys.each_user.Given as goal

abbrev pub invariant-loop-table : goal.invariant-loop-table
invariant-loop-table l = record {
  said : users_from [] (items_view l.tables.items)
      ≡ users_from l.users.items (items_view (drop l.table-index l.tables.items));
  count : length l.users.items ≤ l.table-index;
}
