use Rattle.std.proofs.Common.{◌≡◌, ◌++◌, drop}
use Rattle.std.specs.Prelude.{string_bytes}
use Rattle.desk_http.specs.VenueMetric.{wait_samples}
use Rattle.desk_http.proofs.venue_metric.write_within.Given as goal

abbrev pub invariant-loop-wait : goal.invariant-loop-wait
invariant-loop-wait l = record {
  text : string_bytes l.fn.text ++ wait_samples l.venue l.waits
      ≡ string_bytes l.text ++ wait_samples l.venue (drop l.wait-index l.waits);
}
