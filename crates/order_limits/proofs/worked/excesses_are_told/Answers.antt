use Rattle.std.proofs.Common.{refl}
use Rattle.std.specs.Fmt.{digits}
use Rattle.order_limits.specs.Dollars.{dollars_text}
use Rattle.order_limits.specs.Over.{symbol_word}
use Rattle.order_limits.proofs.worked.excesses_are_told.Goals as goal

pub returns : goal.returns
unfolding digits dollars_text symbol_word
returns c = record {
  shares = refl;
  leg = refl;
  sweep = refl;
  day = refl;
}
