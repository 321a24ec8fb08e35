use Rattle.std.proofs.Common.{◌≡◌}
use Rattle.toml.specs.View.{members_view}
use Rattle.desk_config.specs.Keys.{first_unknown}
use Rattle.desk_config.proofs.keys.Keys.first_unknown.Given as goal

abbrev pub invariant-loop-key : goal.invariant-loop-key
invariant-loop-key l =
    first_unknown l.self (members_view l.table.entries) ≡ first_unknown l.self (members_view l.key-iterator)
