use Rattle.std.proofs.Common.{length}
use Rattle.venue_words.proofs.example.+first_spelt.Given as goal

abbrev pub decreases-first_spelt : goal.decreases-first_spelt
decreases-first_spelt l = length l.shapes.now
