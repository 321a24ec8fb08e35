use Rattle.std.proofs.Common.{◌++◌, ap, ◌∙◌}
use Rattle.std.specs.Prelude.{string_bytes}
use Rattle.desk_http.specs.VenueMetric.{samples}
use Rattle.desk_http.proofs.VenuesWritten.{venues_more}
use Rattle.desk_http.proofs.venue_metric.write_at_each.Goals as goal

pub loop-venue-preserved : goal.loop-venue-preserved
loop-venue-preserved c =
    let before = string_bytes c.loop-venue.text in
    record {
      text = venues_more c.args.metric c.args.venues.now c.loop-venue.venue-index c.venue-item.result _ before
          (string_bytes c.write_samples.new.text) c.loop-venue-test.true c.loop-venue.invariant.text
          (c.in_ok-write_samples.ensures ∙ ap (λ row. before ++ samples c.args.metric row) c.venue-item.is);
    }
