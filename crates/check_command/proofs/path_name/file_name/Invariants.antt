use Rattle.std.proofs.Common.{◌≡◌, drop}
use Rattle.check_command.specs.PathName.{name_from}
use Rattle.check_command.proofs.path_name.file_name.Given as goal

abbrev pub invariant-loop-place : goal.invariant-loop-place
invariant-loop-place l = name_from l.name (drop l.place l.path) ≡ name_from l.path l.path
