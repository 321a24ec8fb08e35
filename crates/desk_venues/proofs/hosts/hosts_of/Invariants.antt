use Rattle.std.proofs.Common.{◌≡◌, ◌∷◌, take}
use Rattle.desk_venues.specs.Addresses.{host_of, backups_of}
use Rattle.desk_venues.proofs.hosts.hosts_of.Given as goal

abbrev pub invariant-loop-backup : goal.invariant-loop-backup
invariant-loop-backup l = l.hosts.items ≡ host_of l.first ∷ backups_of (take l.backup-index l.backups)
