use Rattle.std.proofs.Common.{◌≡◌, ◌≤◌, ◌-◌, length, drop}
use Rattle.std.specs.Vec.{vec_capacity}
use Rattle.fix_text.specs.Reading.{next_read}
use Rattle.fix_text.specs.Passing.{left_of}
use Rattle.fix_text.proofs.cursor.Cursor.pass.Given as goal

abbrev pub invariant-loop-count : goal.invariant-loop-count
invariant-loop-count l = record {
  read : next_read (record { rest = drop l.at l.bytes; skipped = l.skipped; garbled = l.garbled }) ≡ next_read (left_of l.fn.bytes l.fn.self);
  within : l.at ≤ length l.bytes;
  room : vec_capacity l.fn.places ≤ vec_capacity l.places;
}

abbrev pub decreases-loop-count : goal.decreases-loop-count
decreases-loop-count l = length l.bytes - l.at
