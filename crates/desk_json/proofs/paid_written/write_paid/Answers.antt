use Rattle.std.proofs.Common.{append_assoc}
use Rattle.std.proofs.lemmas.Result.{on_ok_weaker}
use Rattle.desk_json.specs.Paid.{paid_json}
use Rattle.desk_json.proofs.paid_written.write_paid.Goals as goal

pub returns : goal.returns
unfolding paid_json
returns c =
    on_ok_weaker c.write-2.result
    (λ said. rw said (rw (c.in_ok-write_average.ensures, c.in_ok-write.ensures.bytes) (simp append_assoc)))
    c.write-2.ensures.bytes
