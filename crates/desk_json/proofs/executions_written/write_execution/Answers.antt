use Rattle.std.proofs.Common.{append_assoc}
use Rattle.std.proofs.lemmas.Result.{on_ok_weaker}
use Rattle.desk_json.proofs.executions_written.write_execution.Goals as goal

pub returns : goal.returns
returns c =
    on_ok_weaker c.write-3.result
    (λ said. rw said (rw (c.in_ok-write_untaken.ensures, c.untaken.ensures, c.in_ok-write_said.ensures, c.in_ok-write-2.ensures.bytes, c.in_ok-write.ensures.bytes) (simp append_assoc)))
    c.write-3.ensures.bytes
