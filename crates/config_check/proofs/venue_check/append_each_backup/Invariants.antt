use Rattle.std.proofs.Common.{◌≡◌, ◌++◌, take}
use Rattle.std.specs.List.{flat_map}
use Rattle.config_check.specs.VenueCheck.{backup_word}
use Rattle.config_check.proofs.venue_check.append_each_backup.Given as goal

abbrev pub invariant-loop-backup : goal.invariant-loop-backup
invariant-loop-backup l = l.words.items ≡ l.initial.words.items ++ flat_map backup_word (take l.backup-index l.backups)
