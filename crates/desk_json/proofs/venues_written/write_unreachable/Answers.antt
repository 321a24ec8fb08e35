use Rattle.std.proofs.Common.{append_assoc}
use Rattle.std.proofs.lemmas.Result.{on_ok_weaker}
use Rattle.desk_json.proofs.venues_written.write_unreachable.Goals as goal

pub returns : goal.returns
returns c =
    on_ok_weaker c.write_failed_dial.result (λ said. rw said (rw c.in_ok-push_str.ensures.bytes (simp append_assoc)))
    c.write_failed_dial.ensures
