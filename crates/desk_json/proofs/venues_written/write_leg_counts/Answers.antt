use Rattle.std.proofs.Common.{append_assoc}
use Rattle.std.proofs.lemmas.Result.{on_ok_weaker}
use Rattle.desk_json.specs.Venues.{leg_counts_json}
use Rattle.desk_json.proofs.venues_written.write_leg_counts.Goals as goal

pub returns : goal.returns
unfolding leg_counts_json
returns c =
    on_ok_weaker c.write-3.result
    (λ said. rw said (rw (c.in_ok-write-2.ensures.bytes, c.in_ok-write.ensures.bytes, c.accepted-accepted.ensures) (simp append_assoc)))
    c.write-3.ensures.bytes
