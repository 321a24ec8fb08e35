-- What an exchange says in words, as a desk is told (FIX 4.4 Volume 4, ExecutionReport).
use Rattle.std.specs.Prelude.{ℕ, Bool, true, false, List, [], ◌∷◌, ◌++◌, length, codes, decimal, ◌==◌, if◌then◌else◌}
use Rattle.desk_words.specs.Printable.{shown}
use Rattle.report_words.specs.Words.{Words, reason_tag}
use Rattle.report_words.specs.declared.report_words.ReportWords.{ReportWords}
use Rattle.desk_executions.specs.declared.words.WordsText.{WordsText}

-- the words that are lent
abbrev pub words_of : WordsText → Words
words_of lent = record { text = lent.bytes.now; is_cut = lent.is_cut }

-- behind words of which an exchange said more
abbrev pub cut_text : Bool → List ℕ
cut_text true = codes ".."
cut_text false = []

-- words as they are shown: a byte takes at most four, so that there is room for 200 of them
abbrev pub words_text : Words → List ℕ
words_text words = shown 800 words.text ++ cut_text words.is_cut

-- this, where an exchange says these words
abbrev pub where_said : Words → List ℕ → List ℕ
where_said words told = if length words.text == 0 then [] else told

-- behind their name, as ` order O1`
abbrev pub piece_text : List ℕ → Words → List ℕ
piece_text name words = where_said words (codes " " ++ name ++ codes " " ++ words_text words)

-- as a field, as ` 150=2`
abbrev pub field_text : ℕ → Words → List ℕ
field_text tag words = where_said words (codes " " ++ decimal tag ++ codes "=" ++ words_text words)

-- why an order or its message was refused, as ` reason 103=1`
abbrev pub reason_text : ReportWords → List ℕ
reason_text words = where_said words.reason (codes " reason" ++ field_text (reason_tag words.message.text) words.reason)

-- a free text, as ` text "no such symbol"`
abbrev pub quote_text : Words → List ℕ
quote_text words = where_said words (codes " text \"" ++ words_text words ++ codes "\"")

-- what is said beside a note, as ` order O1 time 20260314-09:30:00.123 reason 103=1 text "no such symbol"`
abbrev pub beside_text : ReportWords → List ℕ
beside_text words =
    piece_text (codes "order") words.order ++ piece_text (codes "time") words.time ++ reason_text words
    ++ quote_text words.text

-- what a report that can't be read says of its order, as ` 11=S1L1 150=2 32=60 31=10.25`
abbrev pub fields_text : ReportWords → List ℕ
fields_text words =
    field_text 11 words.id ++ field_text 150 words.exec_type ++ field_text 32 words.shares
    ++ field_text 31 words.price
