use Rattle.std.proofs.Common.{◌≡◌, ◌+◌, length, map, take}
use Rattle.std.specs.List.{AllZip}
use Rattle.day_restart.specs.DayJournal.{GoesBehind}
use Rattle.day_restart.proofs.day_files.DayFiles.go_on.Given as goal

abbrev pub invariant-loop-place : goal.invariant-loop-place
invariant-loop-place g l = record {
  behind : AllZip GoesBehind (map (λ f. f.lines) (take l.place l.self.venues.items)) l.journals.items;
  flags : length l.failing.items ≡ l.place + 1;
}
