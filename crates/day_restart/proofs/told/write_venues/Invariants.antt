use Rattle.std.proofs.Common.{◌≡◌, [], ◌++◌, drop}
use Rattle.std.specs.Prelude.{string_bytes}
use denote.Shadow.{shadow}
use denote.Text.{Utf8}
use Rattle.desk_json.specs.Parted.{parted}
use Rattle.day_restart.specs.Told.{venue_json}
use Rattle.day_restart.proofs.told.write_venues.Given as goal

abbrev pub invariant-loop-row : goal.invariant-loop-row
invariant-loop-row l = record {
  text : string_bytes l.fn.text ++ parted venue_json [] l.rows
      ≡ string_bytes l.text ++ parted venue_json l.mark (drop l.row-index l.rows);
  utf8 : shadow (Utf8 l.mark);
}
