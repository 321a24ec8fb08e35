use Rattle.std.proofs.Common.{◌≡◌, ◌++◌, length, map, reverse, take}
use Rattle.std.specs.List.{AllZip}
use Rattle.std.specs.Prelude.{string_bytes}
use Rattle.day_restart.specs.Files.{HasWords}
use Rattle.day_restart.proofs.day_files.read_venues.Given as goal

abbrev pub invariant-loop-place : goal.invariant-loop-place
invariant-loop-place g l = record {
  long : length l.found.items ≡ l.place;
  names : map (λ r. r.name) l.folder.reads.journals
      ≡ reverse (map (λ v. v.name) (take l.place l.venues)) ++ map (λ r. r.name) l.fn.folder.reads.journals;
  found : map (λ r. r.found) l.folder.reads.journals
      ≡ reverse l.found.items ++ map (λ r. r.found) l.fn.folder.reads.journals;
  words : AllZip HasWords (map string_bytes (take l.place l.names.venues.items)) l.found.items;
}
