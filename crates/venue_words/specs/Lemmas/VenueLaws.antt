-- Lemmas: the laws of a venue's dialect.
use Rattle.dialect.specs.Spelling.{IsSpelling}
use Rattle.dialect.specs.Lemmas.PlainLaws.{plain_is_spelling}
use Rattle.dialect.specs.Lemmas.Split4Laws.{split4_is_spelling}
use Rattle.dialect.specs.Lemmas.CodedLaws.{coded_is_spelling}
use Rattle.dialect.specs.Lemmas.WordedLaws.{worded_is_spelling}
use Rattle.venue_words.specs.declared.venue_dialect.VenueDialect.{VenueDialect}
use Rattle.venue_words.specs.declared.venue_dialect.VenueDialect.TheVariants.{Plain, Split4, Coded, Worded}
use Rattle.venue_words.specs.Dialect.{venue_spelling}

pub venue_is_spelling : (dialect : VenueDialect) → IsSpelling (venue_spelling dialect)
venue_is_spelling Plain = plain_is_spelling
venue_is_spelling Split4 = split4_is_spelling
venue_is_spelling Coded = coded_is_spelling
venue_is_spelling (Worded w) = worded_is_spelling w
