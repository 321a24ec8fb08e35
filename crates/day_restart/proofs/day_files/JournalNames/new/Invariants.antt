use Rattle.std.proofs.Common.{◌≡◌, length, map, take}
use Rattle.std.specs.Prelude.{string_bytes}
use Rattle.day_restart.specs.Words.{venue_head}
use Rattle.day_restart.proofs.day_files.JournalNames.new.Given as goal

abbrev pub invariant-loop-venue : goal.invariant-loop-venue
invariant-loop-venue l = record {
  long : length l.words.items ≡ l.venue-index;
  words : map string_bytes l.words.items ≡ map (venue_head l.day) (take l.venue-index l.venues);
}
