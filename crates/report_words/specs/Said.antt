-- What a message says in words beside its note.
use Rattle.std.specs.Prelude.{List, []}
use Rattle.fix_text.specs.Tagged.{Tagged}
use Rattle.report_words.specs.declared.report_words.ReportWords.{ReportWords}
use Rattle.report_words.specs.Words.{first_of, said, reason_tag}

-- the words of a message of these fields
abbrev pub words_of : List Tagged → ReportWords
words_of fields = record {
  id = first_of 64 (said fields 11);
  exec_type = first_of 8 (said fields 150);
  order = first_of 64 (said fields 37);
  shares = first_of 24 (said fields 32);
  price = first_of 32 (said fields 31);
  time = first_of 32 (said fields 60);
  text = first_of 200 (said fields 58);
  reason = first_of 16 (said fields (reason_tag (said fields 35)));
  refused = first_of 8 (said fields 372);
  message = first_of 8 (said fields 35);
}

-- those of one that says nothing
abbrev pub no_words : ReportWords
no_words = words_of []
