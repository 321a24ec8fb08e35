use Rattle.std.proofs.Common.{append_assoc}
use Rattle.std.proofs.lemmas.Result.{on_ok_weaker}
use Rattle.desk_json.proofs.venues_written.write_venue.Goals as goal

pub returns : goal.returns
returns c =
    on_ok_weaker c.write_heard.result
    (λ said. rw said (rw (
      c.in_ok-write_counts.ensures,
      c.in_ok-write_state.ensures,
      c.in_ok-write.ensures.bytes,
    ) (simp append_assoc)))
    c.write_heard.ensures
