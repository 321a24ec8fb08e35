use Rattle.std.proofs.Common.{rules, ◌++◌, ap, ◌∙◌}
use Rattle.std.specs.Prelude.{string_bytes}
use Rattle.desk_json.specs.Venues.{venue_json}
use Rattle.desk_json.proofs.PartedWritten.{parted_more}
use Rattle.desk_json.proofs.venues_written.write_venues.Goals as goal

pub loop-venue-preserved : goal.loop-venue-preserved
loop-venue-preserved c =
    let before = string_bytes c.loop-venue.text in
    let mark = c.loop-venue.mark.now in
    record {
      text = parted_more venue_json c.args.venues.now c.loop-venue.venue-index c.venue-item.result mark _ before
          (string_bytes c.write_venue.new.text) c.loop-venue-test.true c.loop-venue.invariant.text
          (c.in_ok-write_venue.ensures ∙ ap (λ item. (before ++ mark) ++ venue_json item) c.venue-item.is);
      utf8 = search rules;
    }
