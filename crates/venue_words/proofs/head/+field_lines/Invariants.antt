use Rattle.std.proofs.Common.{length}
use Rattle.venue_words.proofs.head.+field_lines.Given as goal

abbrev pub decreases-field_lines : goal.decreases-field_lines
decreases-field_lines l = length l.fields.now
