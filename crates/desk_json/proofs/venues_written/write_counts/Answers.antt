use Rattle.std.proofs.Common.{append_assoc}
use Rattle.std.proofs.lemmas.Result.{on_ok_weaker}
use Rattle.desk_json.specs.Venues.{counts_json}
use Rattle.desk_json.proofs.venues_written.write_counts.Goals as goal

pub returns : goal.returns
unfolding counts_json
returns c =
    on_ok_weaker c.write_traffic.result
    (λ said. rw said (rw (
      c.in_ok-write_unbooked.ensures,
      c.in_ok-push_str.ensures.bytes,
      c.in_ok-write_leg_counts.ensures,
    ) (simp append_assoc)))
    c.write_traffic.ensures
