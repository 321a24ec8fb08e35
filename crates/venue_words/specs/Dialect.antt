-- The dialect of a venue.
use Rattle.dialect.specs.declared.any_dialect.AnyDialect.{AnyDialect}
use Rattle.dialect.specs.declared.any_dialect.AnyDialect.TheVariants as preset
use Rattle.dialect.specs.Spelling.{SpellingParts}
use Rattle.dialect.specs.Plain.{plain}
use Rattle.dialect.specs.Split4.{split4}
use Rattle.dialect.specs.Coded.{coded}
use Rattle.dialect.specs.Words.{worded}
use Rattle.venue_words.specs.declared.venue_dialect.VenueDialect.{VenueDialect}
use Rattle.venue_words.specs.declared.venue_dialect.VenueDialect.TheVariants.{Plain, Split4, Coded, Worded}
use Rattle.venue_words.specs.declared.words.VenueWords.{VenueWords}
use Rattle.venue_words.specs.declared.words.VenueWords.TheVariants.{Preset, Table}

-- how it spells
abbrev pub venue_spelling : VenueDialect → SpellingParts
venue_spelling Plain = plain
venue_spelling Split4 = split4
venue_spelling Coded = coded
venue_spelling (Worded w) = worded w

-- a dialect that has a name
abbrev pub preset_dialect : AnyDialect → VenueDialect
preset_dialect preset.Plain = Plain
preset_dialect preset.Split4 = Split4
preset_dialect preset.Coded = Coded

-- the dialect of a venue's words
abbrev pub dialect_of : VenueWords → VenueDialect
dialect_of (Preset name) = preset_dialect name
dialect_of (Table w) = Worded w
