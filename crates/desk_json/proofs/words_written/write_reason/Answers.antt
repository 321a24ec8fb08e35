use Rattle.std.proofs.Common.{◌≡◌, ℕ, List, ◌++◌, false, length, ◌∙◌, append_assoc, codes}
use Rattle.std.specs.Prelude.{◌==◌, decimal, string_bytes}
use Rattle.std.proofs.lemmas.Result.{on_ok_weaker}
use Rattle.json.specs.Print.{quoted}
use Rattle.desk_executions.specs.Words.{words_text}
use Rattle.report_words.specs.Words.{reason_tag}
use Rattle.report_words.specs.declared.report_words.ReportWords.{ReportWords}
use Rattle.desk_json.specs.Words.{reason_json}
use Rattle.desk_json.proofs.words_written.write_reason.Goals as goal

-- a text in pieces
pieces : (old a b c d : List ℕ) → old ++ (a ++ (b ++ (c ++ d))) ≡ old ++ (((a ++ b) ++ c) ++ d)
pieces old a b c d = simp append_assoc

-- the text of a reason that is said
told : (old reason : List ℕ) (tag : ℕ) (words : ReportWords) → (length words.reason.text == 0) ≡ false
    → reason ≡ quoted (words_text words.reason) → tag ≡ reason_tag words.message.text
    → old ++ (codes ",\"reason\":" ++ (reason ++ (codes ",\"reason_tag\":" ++ decimal tag))) ≡ old ++ reason_json words
told old reason tag words some is same =
    rw (some, is, same)
    (pieces old (codes ",\"reason\":") (quoted (words_text words.reason)) (codes ",\"reason_tag\":")
    (decimal (reason_tag words.message.text)))

pub returns : goal.returns
returns c =
    let some : (length c.args.words.now.reason.text == 0) ≡ false = cc in
    on_ok_weaker c.write.result
    (λ said. said ∙ told (string_bytes c.args.text.now) (string_bytes c.in_ok-reason.reason) c.reason_tag-tag.result
    c.args.words.now some c.in_ok-reason.ensures c.reason_tag-tag.ensures)
    c.write.ensures.bytes
