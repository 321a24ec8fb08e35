use Rattle.std.proofs.Common.{refl}
use Rattle.std.specs.Fmt.{digits}
use Rattle.fix_tags.specs.Price.{price_short}
use Rattle.fix_tags.specs.Stamp.{stamp_text}
use Rattle.message_log.specs.Line.{byte_logged}
use Rattle.desk_words.specs.Printable.{byte_shown}
use Rattle.journal_words.proofs.laws.a_message_has_a_line.Goals as goal

pub returns : goal.returns
unfolding digits price_short stamp_text byte_logged byte_shown
returns c = refl
