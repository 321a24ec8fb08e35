use Rattle.std.proofs.Common.{refl}
use Rattle.fix_tags.specs.Number.{number_of}
use Rattle.fix_tags.specs.Price.{price_of}
use Rattle.fix_tags.specs.Stamp.{stamp_read}
use Rattle.dialect.specs.JoinedSymbol.{joined_symbol_of}
use Rattle.journal_words.specs.Desk.{desk_said}
use Rattle.sweep_text.specs.Legs.{leg_of, terms_in}
use Rattle.sweep_text.specs.Line.{line_says, sweep_says}
use Rattle.day_restart.proofs.laws.no_day_goes_on_behind_its_end.Goals as goal

pub returns : goal.returns
unfolding desk_said stamp_read number_of price_of joined_symbol_of line_says sweep_says leg_of terms_in
returns c = refl
