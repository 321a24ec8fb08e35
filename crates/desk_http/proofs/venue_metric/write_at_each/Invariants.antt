use Rattle.std.proofs.Common.{◌≡◌, ◌++◌, drop}
use Rattle.std.specs.Prelude.{string_bytes}
use Rattle.desk_http.specs.VenueMetric.{samples_at_each}
use Rattle.desk_http.proofs.venue_metric.write_at_each.Given as goal

abbrev pub invariant-loop-venue : goal.invariant-loop-venue
invariant-loop-venue l = record {
  text : string_bytes l.fn.text ++ samples_at_each l.metric l.venues
      ≡ string_bytes l.text ++ samples_at_each l.metric (drop l.venue-index l.venues);
}
