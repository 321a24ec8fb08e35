-- What an exchange says in words, in JSON (FIX 4.4 Volume 4, ExecutionReport).
use Rattle.std.specs.Prelude.{ℕ, List, ◌++◌, codes, decimal}
use Rattle.json.specs.Print.{quoted}
use Rattle.desk_executions.specs.Words.{where_said, words_text}
use Rattle.report_words.specs.Words.{Words, reason_tag}
use Rattle.report_words.specs.declared.report_words.ReportWords.{ReportWords}

-- words under a key, where an exchange says some, as `,"order":"O1"`
abbrev pub piece_json : List ℕ → Words → List ℕ
piece_json key words = where_said words (codes ",\"" ++ key ++ codes "\":" ++ quoted (words_text words))

-- why an order or its message was refused, as `,"reason":"1","reason_tag":103`
abbrev pub reason_json : ReportWords → List ℕ
reason_json words =
    where_said words.reason (codes ",\"reason\":" ++ quoted (words_text words.reason) ++ codes ",\"reason_tag\":"
    ++ decimal (reason_tag words.message.text))

-- what is said beside a note, as `,"order":"O1","time":"20260314-09:30:00.123","reason":"1","reason_tag":103`
unfoldable pub beside_json : ReportWords → List ℕ
beside_json words =
    piece_json (codes "order") words.order ++ piece_json (codes "time") words.time ++ reason_json words
    ++ piece_json (codes "refused") words.refused ++ piece_json (codes "text") words.text

-- what a report that can't be read says of its order, as `,"tag_11":"S1L1","tag_150":"2","tag_32":"60"`
unfoldable pub fields_json : ReportWords → List ℕ
fields_json words =
    piece_json (codes "tag_11") words.id ++ piece_json (codes "tag_150") words.exec_type
    ++ piece_json (codes "tag_32") words.shares ++ piece_json (codes "tag_31") words.price
