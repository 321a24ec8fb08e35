use Rattle.std.proofs.Common.{append_assoc}
use Rattle.std.proofs.lemmas.Result.{on_ok_weaker}
use Rattle.desk_http.specs.VenueMetric.{sum_sample}
use Rattle.desk_http.proofs.venue_metric.write_sum.Goals as goal

pub returns : goal.returns
unfolding sum_sample
returns c = on_ok_weaker c.write.result (λ said. simp append_assoc said) c.write.ensures.bytes
