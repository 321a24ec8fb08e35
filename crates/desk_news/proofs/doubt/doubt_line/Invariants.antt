use Rattle.std.proofs.Common.{◌≡◌, ◌++◌, drop}
use Rattle.std.specs.Prelude.{string_bytes}
use Rattle.desk_news.specs.Doubt.{doubt_text, ids_text}
use Rattle.desk_news.proofs.doubt.doubt_line.Given as goal

abbrev pub invariant-loop-leg : goal.invariant-loop-leg
invariant-loop-leg l = record {
  line : doubt_text l.venue l.legs ≡ string_bytes l.line ++ ids_text (drop l.leg-index l.legs);
}
