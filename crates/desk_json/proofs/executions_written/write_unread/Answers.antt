use Rattle.std.proofs.Common.{append_assoc}
use Rattle.std.proofs.lemmas.Result.{on_ok_weaker}
use Rattle.desk_json.proofs.executions_written.write_unread.Goals as goal

pub returns : goal.returns
returns c =
    on_ok_weaker c.write_fields.result
    (λ said. rw said (rw c.in_ok-write.ensures.bytes (simp append_assoc)))
    c.write_fields.ensures
