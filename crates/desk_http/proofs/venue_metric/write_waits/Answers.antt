use Rattle.std.proofs.Common.{append_assoc}
use Rattle.std.proofs.lemmas.Result.{on_ok_weaker}
use Rattle.desk_http.specs.VenueMetric.{waits_samples}
use Rattle.desk_http.proofs.venue_metric.write_waits.Goals as goal

pub returns : goal.returns
unfolding waits_samples
returns c =
    on_ok_weaker c.write_sample-2.result
    (λ said. rw said (rw (c.in_ok-write_sum.ensures, c.in_ok-write_sample.ensures, c.in_ok-write_within.ensures, c.as_slice.ensures.value) (simp append_assoc)))
    c.write_sample-2.ensures
