use Rattle.std.proofs.Common.{◌++◌, ap, ◌∙◌, append_assoc}
use Rattle.std.specs.Prelude.{string_bytes}
use Rattle.std.proofs.lemmas.Result.{on_ok_weaker}
use Rattle.desk_json.specs.Executions.{note_json, said_json}
use Rattle.desk_json.specs.Words.{beside_json}
use Rattle.desk_json.proofs.executions_written.write_said.Goals as goal

pub returns : goal.returns
unfolding said_json
returns c =
    let note = note_json c.args.note.now c.args.words.now in
    let beside = beside_json c.args.words.now in
    on_ok_weaker c.write_beside.result
    (λ said. said ∙ ap (λ text. text ++ beside) c.in_ok-write_note.ensures
    ∙ append_assoc (string_bytes c.args.text.now) note beside)
    c.write_beside.ensures
