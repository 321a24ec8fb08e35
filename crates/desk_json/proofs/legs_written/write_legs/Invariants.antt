use Rattle.std.proofs.Common.{◌≡◌, [], ◌++◌, drop}
use Rattle.std.specs.Prelude.{string_bytes}
use denote.Shadow.{shadow}
use denote.Text.{Utf8}
use Rattle.desk_json.specs.Parted.{parted}
use Rattle.desk_json.specs.Legs.{leg_json}
use Rattle.desk_json.proofs.legs_written.write_legs.Given as goal

abbrev pub invariant-loop-leg : goal.invariant-loop-leg
invariant-loop-leg l = record {
  text : string_bytes l.fn.text ++ parted leg_json [] l.legs
      ≡ string_bytes l.text ++ parted leg_json l.mark (drop l.leg-index l.legs);
  utf8 : shadow (Utf8 l.mark);
}
