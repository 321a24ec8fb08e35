use Rattle.std.proofs.Common.{append_assoc}
use Rattle.std.proofs.lemmas.Result.{on_ok_weaker}
use Rattle.desk_http.proofs.venue_metric.write_unbooked.Goals as goal

pub returns : goal.returns
returns c =
    on_ok_weaker c.write_sample-4.result
    (λ said. rw said (rw (
      c.in_ok-write_sample-3.ensures,
      c.in_ok-write_sample-2.ensures,
      c.in_ok-write_sample.ensures,
    ) (simp append_assoc)))
    c.write_sample-4.ensures
