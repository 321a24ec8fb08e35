-- The words of a message that a session received.
use Rattle.std.specs.Prelude.{◌≡◌, List, Option, Some, None}
use Rattle.fix_text.specs.Tagged.{Tagged}
use Rattle.fix_text.specs.Reading.{Stream, next_read}
use Rattle.dialect.specs.declared.note.Note.{Note}
use Rattle.report_words.specs.Said.{words_of, no_words}
use Rattle.report_words.specs.declared.report_words.ReportWords.{ReportWords}
use Rattle.session_worker.specs.declared.reading.Heard.{Heard}
use Rattle.session_worker.specs.declared.reading.Heard.TheVariants as heard

-- the words of a frame, where its message gave a note
abbrev pub words_by : Option Note → List Tagged → ReportWords
words_by None fields = no_words
words_by (Some note) fields = words_of fields

-- these are the words of the next frame of a stream, which gave this note, if it gave one
pub record Says (stream : Stream) (note : Option Note) (words : ReportWords) : Type 0 where
  pub fields : List Tagged
  pub next : (next_read stream).frame ≡ Some fields
  pub said : words ≡ words_by note fields

-- what came of the next message says so
abbrev pub HeardSays : Stream → Heard → Type 0
HeardSays stream heard.Nothing = Unit {0}
HeardSays stream (heard.Step step words) = Says stream step.note words
HeardSays stream heard.Malformed = Unit {0}
HeardSays stream heard.Parted = Unit {0}
HeardSays stream heard.OutOfMemory = Unit {0}
