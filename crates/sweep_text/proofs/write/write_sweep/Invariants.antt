use Rattle.std.proofs.Common.{◌≡◌, ◌++◌, drop}
use Rattle.std.specs.Prelude.{string_bytes}
use Rattle.std.specs.Option.{option_map}
use denote.Shadow.{shadow}
use denote.Text.{Utf8}
use Rattle.sweep_text.specs.Written.{legs_text, sweep_line}
use Rattle.sweep_text.proofs.write.write_sweep.Given as goal

abbrev pub invariant-loop-leg : goal.invariant-loop-leg
invariant-loop-leg l = record {
  line : sweep_line l.names (option_map (λ r. r.now) l.fn.reference) l.legs ≡ string_bytes l.text ++ legs_text l.mark l.names (drop l.leg-index l.legs);
  utf8 : shadow (Utf8 l.mark);
}
