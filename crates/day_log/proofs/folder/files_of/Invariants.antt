use Rattle.std.proofs.Common.{◌≡◌, map, take}
use Rattle.day_log.specs.declared.log_file.LogFile.TheVariants as file
use Rattle.day_log.proofs.folder.files_of.Given as goal

abbrev pub invariant-loop-venue : goal.invariant-loop-venue
invariant-loop-venue l = l.files.items ≡ map (λ venue. file.Venue venue.name) (take l.venue-index l.venues)
