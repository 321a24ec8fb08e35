use Rattle.std.proofs.Common.{append_assoc}
use Rattle.std.proofs.lemmas.Result.{on_ok_weaker}
use Rattle.desk_http.specs.VenueMetric.{state_sample}
use Rattle.desk_http.proofs.venue_metric.write_state.Goals as goal

pub returns : goal.returns
unfolding state_sample
returns c =
    on_ok_weaker c.write.result
    (λ said. rw said (rw c.state_value-value.ensures (simp append_assoc)))
    c.write.ensures.bytes
