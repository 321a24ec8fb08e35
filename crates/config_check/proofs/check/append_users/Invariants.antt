use Rattle.std.proofs.Common.{◌≡◌, ◌++◌, take}
use Rattle.std.specs.List.{flat_map}
use Rattle.config_check.specs.Checked.{user_line}
use Rattle.config_check.proofs.check.append_users.Given as goal

abbrev pub invariant-loop-user : goal.invariant-loop-user
invariant-loop-user l = l.text.items ≡ l.initial.text.items ++ flat_map user_line (take l.user-index l.users)
